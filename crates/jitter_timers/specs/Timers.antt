-- What a contract sees of a `TimerQueue`.
use Rattle.std.specs.Prelude.{◌≡◌, ℕ, ◌+◌, ◌*◌, ◌-◌, ◌%◌, ◌^◌, ◌<◌, ◌≤◌, ◌⊎◌, ◌==◌, ◌&&◌, max, List, [], ◌∷◌, IsSome, Some, refl, if◌then◌else◌}
use Rattle.std.specs.Ordering.{nat_cmp}
use Rattle.std.specs.FinMap as map
use Rattle.std.specs.Coded.{Coded, code_by, coded×, coded_list, coded_ℕ}
use Rattle.jitter_timers.specs.declared.timer.Timer.{Timer}

abbrev pub Times : Type 0
Times = map.FinMap nat_cmp ℕ

-- how many numbers there is room for, the time of each number that is there, and the numbers with their times as they lie in the heap
pub record Timers : Type 0 where
  pub room : ℕ
  pub times : Times
  pub heap : List (ℕ × ℕ)

abbrev pub queue : ℕ → Times → List (ℕ × ℕ) → Timers
queue n m entries = record { room = n; times = m; heap = entries }

-- there is room for so many numbers, and these are the times
abbrev pub IsQueue : Timers → ℕ → Times → Type 0
IsQueue q n m = q ≡ queue n m q.heap

abbrev pub timers_code : Coded Timers
timers_code =
    code_by (ℕ × (Times × List (ℕ × ℕ))) (coded× coded_ℕ (coded× (map.code coded_ℕ coded_ℕ) (coded_list (coded× coded_ℕ coded_ℕ)))) (λ q. (q.room, (q.times, q.heap))) (λ p. queue p.0 p.1.0 p.1.1) (λ _. refl)

-- no other number that is there is congruent to this one modulo the room
abbrev pub HasRoom : Timers → ℕ → Type 0
HasRoom q number = (other : ℕ) → IsSome (map.get q.times other) → other % q.room ≡ number % q.room → other ≡ number

-- the number is there with this time, and no other is due earlier, or at the same time with a lower number
abbrev pub IsFirst : Times → ℕ × ℕ → Type 0
IsFirst m first = (map.get m first.1 ≡ Some first.0)
    × ((number time : ℕ) → map.get m number ≡ Some time → (first.0 < time) ⊎ ((first.0 ≡ time) × (first.1 ≤ number)))

-- no more steps than the greater of the two lengths has binary digits
abbrev pub IsQuick : Times → Times → ℕ → ℕ → Type 0
IsQuick old new before after = 2 ^ (after - before) ≤ 2 * max (map.len old) (map.len new) + 1

-- how many places of a heap, of those that both have, hold another number or another time
abbrev pub moved : List (ℕ × ℕ) → List (ℕ × ℕ) → ℕ
moved [] us = 0
moved (t ∷ ts) [] = 0
moved (t ∷ ts) (u ∷ us) = if t.0 == u.0 && t.1 == u.1 then moved ts us else moved ts us + 1

-- the numbers and times of a list of timers
abbrev pub entries_of : List Timer → List (ℕ × ℕ)
entries_of [] = []
entries_of (t ∷ ts) = (t.number, t.time) ∷ entries_of ts

-- how many places that two lists of timers both have hold another timer
abbrev pub moved_in : List Timer → List Timer → ℕ
moved_in ts us = moved (entries_of ts) (entries_of us)

-- the second list has the timers of the first at their places: each heap is as far from it, or farther
abbrev pub Extends : List Timer → List Timer → Type 0
Extends ts us = (heap : List (ℕ × ℕ)) → moved (entries_of ts) heap ≤ moved (entries_of us) heap

-- the time of each number in a list of timers
unfoldable pub times_in : List Timer → Times
times_in ts = map.from_entries (entries_of ts)

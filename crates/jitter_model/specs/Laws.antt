-- What the laws of the list machine say.
use Rattle.std.specs.Prelude.{length, ◌%◌, ◌++◌, ◌==◌, Bool, true, false, ◌&&◌, ◌||◌, not, nat_lt, nat_le, ◌≤◌, ℕ, ◌+◌, ◌<◌, ◌≡◌, ⊤, List, [], ◌∷◌, Option, Some, None}
use Rattle.rtp_units.specs.Numbers.{ext16}
use Rattle.jitter_model.specs.declared.Settings.{Settings}
use Rattle.jitter_model.specs.declared.Packet.{Packet}
use Rattle.jitter_model.specs.declared.Arrival.{Arrival}
use Rattle.jitter_model.specs.declared.Turn.{Turn}
use Rattle.jitter_model.specs.declared.Turn.TheVariants.{Lost}
use Rattle.jitter_model.specs.declared.Entry.TheVariants.{Push, FlushStop, Turned}
use Rattle.jitter_model.specs.History.{History, now, latency, is_flushing}
use Rattle.jitter_model.specs.Accepted.{Taken, has, is_original, accepted}
use Rattle.jitter_model.specs.Covered.{opens}
use Rattle.jitter_model.specs.Times.{pts_after, marks, expected}
use Rattle.jitter_model.specs.Runs.{IsInRange}

-- there is no such time, or it is later
abbrev pub IsLater : ℕ → Option ℕ → Type 0
IsLater time None = ⊤
IsLater time (Some wake) = time < wake

-- each number is one above the one after it in the list, so none stands twice
abbrev pub IsConsecutive : List ℕ → Type 0
IsConsecutive [] = ⊤
IsConsecutive (n ∷ []) = ⊤
IsConsecutive (n ∷ m ∷ ms) = (n ≡ m + 1) × IsConsecutive (m ∷ ms)

-- whether a reply declares this number lost
abbrev pub loses : Turn → ℕ → Bool
loses (Lost n count pts duration) q = nat_le n q && nat_lt q (n + count)
loses _ q = false

-- whether a reply of the segment declared this number lost
abbrev pub was_lost : History → ℕ → Bool
was_lost [] q = false
was_lost (Push a v n d ∷ h) q = not (opens v) && was_lost h q
was_lost (FlushStop ∷ h) q = not (is_flushing h) && was_lost h q
was_lost (Turned r ∷ h) q = loses r q || was_lost h q
was_lost (_ ∷ h) q = was_lost h q

-- no accepted packet has this number, and now is not before its deadline
pub record IsMissed (s : Settings) (h : History) (n : ℕ) : Type 0 where
  pub not_accepted : has (accepted h) n ≡ false
  pub is_time : expected (marks s (accepted h)) n + latency s h ≤ now h

-- exactly one of these packets has this number, and it is this packet with this presentation time
pub record IsTheOne (s : Settings) (ps : List Taken) (n pts : ℕ) (p : Packet) : Type 0 where
  pub newer : List Taken
  pub taken : Taken
  pub older : List Taken
  pub splits : ps ≡ newer ++ taken ∷ older
  pub number_is : taken.number ≡ n
  pub packet_is : taken.arrival.packet ≡ p
  pub pts_is : pts_after s older taken ≡ pts
  pub none_newer : has newer n ≡ false
  pub none_older : has older n ≡ false

-- whether a number is among these
abbrev pub contains : List ℕ → ℕ → Bool
contains [] q = false
contains (n ∷ ns) q = q == n || contains ns q

-- each number from one accepted number to another is covered
abbrev pub IsAllCovered : List Taken → List ℕ → Type 0
IsAllCovered ps ns = (from n to : ℕ) → has ps from ≡ true → has ps to ≡ true → from ≤ n → n ≤ to → contains ns n ≡ true

-- there is no such time, or it is below the limit
abbrev pub IsBelow : ℕ → Option ℕ → Type 0
IsBelow limit None = ⊤
IsBelow limit (Some wake) = wake < limit

-- the number with these 16 bits that is nearest to the greatest: from 32768 below it to 32767 above it
pub record IsNearest (greatest seq n : ℕ) : Type 0 where
  pub value_is : n ≡ ext16 greatest seq
  pub congruent : n % 65536 ≡ seq
  pub from : greatest ≤ n + 32768
  pub to : n ≤ greatest + 32767

-- something was accepted before, and the number is the nearest to the greatest
abbrev pub IsNearestTo : Option ℕ → ℕ → ℕ → Type 0
IsNearestTo None seq n = ⊥
IsNearestTo (Some greatest) seq n = IsNearest greatest seq n

-- of the greatest accepted number, the least, and the next: the greatest is less than 8192 above the lowest that is still to be given out, the next is at most one past the greatest, and nothing is next before anything was accepted
abbrev pub IsWindow : Option ℕ → Option ℕ → Option ℕ → Type 0
IsWindow None None None = ⊤
IsWindow (Some greatest) (Some least) None = (greatest < least + 8192) × (least ≤ greatest)
IsWindow (Some greatest) (Some least) (Some next) = (greatest < next + 8192) × (next ≤ greatest + 1) × (least < next) × (least ≤ greatest)
IsWindow greatest least next = ⊥

-- accepted numbers leave room for arithmetic with 64 bits: the greatest is from 2^16 to 2^47, and the least is at least 2^15
abbrev pub HaveRoom : Option ℕ → Option ℕ → Type 0
HaveRoom None None = ⊤
HaveRoom (Some greatest) (Some least) = (65536 ≤ greatest) × (greatest ≤ 140737488355328) × (32768 ≤ least)
HaveRoom greatest least = ⊥

-- originals with numbers in range, each one above the one before it, modulo 2^16
abbrev pub IsRun : List Arrival → Type 0
IsRun [] = ⊤
IsRun (a ∷ []) = IsInRange a × (is_original a.origin ≡ true)
IsRun (a ∷ b ∷ run) = IsInRange a × (is_original a.origin ≡ true) × (a.packet.seq ≡ (b.packet.seq + 1) % 65536) × IsRun (b ∷ run)

-- at most four of these
pub record IsAsideRun (run : List Arrival) : Type 0 where
  pub fact : IsRun run
  pub few : length run ≤ 4

-- The timers of requests that are still to come.
use Rattle.std.specs.Prelude.{ℕ, zero, suc, IsSome, ◌≢◌, ◌+◌, ◌-◌, ◌≡◌, ◌≤◌, ◌<◌, ◌&&◌, ◌||◌, Bool}
use Rattle.std.specs.Prelude.{true, false, Option, Some, None, is_some, nat_lt, nat_le, unwrap_or}
use Rattle.std.specs.Prelude.{if◌then◌else◌}
use Rattle.std.specs.FinMap as map
use Rattle.jitter_timers.specs.Timers.{Times}
use Rattle.jitter_model.specs.declared.Settings.{Settings}
use Rattle.jitter_model.specs.Requests.{Wanted, due}
use Rattle.jitter_model.specs.Turns.{Sight, low, wanted, request_wake}
use Rattle.jitter_core.specs.declared.schedule.Schedule.{Schedule}
use Rattle.jitter_core.specs.declared.state.State.{State}
use Rattle.jitter_core.specs.Turning.{state_sight}

-- when the first unserved one of a number's requests is due, where that lies before the limit
abbrev pub pending_of : Settings → ℕ → Option Wanted → Option ℕ
pending_of s served None = None
pending_of s served (Some w) = if nat_le served s.rtx_max && nat_lt (due s w.first served) w.limit then Some (due s w.first served) else None

abbrev pub pending : Settings → Sight → ℕ → Option ℕ
pending s v n = pending_of s (v.served n) (wanted s v n)

-- whether the limit of a number's requests has passed
abbrev pub is_over : ℕ → Option Wanted → Bool
is_over time None = true
is_over time (Some w) = nat_le w.limit time

-- the timer of a number, or none: the time of its first unserved request. It may be gone only once the limit has passed
pub record IsTimer (s : Settings) (v : Sight) (from n : ℕ) (timer : Option ℕ) : Type 0 where
  pub some : (t : ℕ) → timer ≡ Some t → (from ≤ n) × (pending s v n ≡ Some t)
  pub none : timer ≡ None → from ≤ n → is_over v.time (wanted s v n) ≡ false → pending s v n ≡ None

-- the timers once that of a number was set anew, or taken out
abbrev pub with_timer : Times → ℕ → Option ℕ → Times
with_timer m n None = map.remove m n
with_timer m n (Some t) = map.insert m n t

-- each number from the lowest on has the timer that its requests say
abbrev pub AreTimers : State → Times → Type 0
AreTimers s m = (n : ℕ) → IsTimer s.settings (state_sight s) (low (state_sight s) s.span.next) n (map.get m n)

-- each number has the timer that its requests say, but for those that a packet with this number may change: its own, the one after it, and the one for which it is reorder later
abbrev pub AreTimersBut : State → ℕ → Times → Type 0
AreTimersBut s number m = (n : ℕ) → n ≢ number → n ≢ number + 1 → (s.settings.reorder ≢ 0 → n + s.settings.reorder ≢ number) → IsTimer s.settings (state_sight s) (low (state_sight s) s.span.next) n (map.get m n)

-- all timers are of numbers from the lowest to the one after the greatest
abbrev pub AreInRange : State → Times → Type 0
AreInRange s m = (n : ℕ) → IsSome (map.get m n) → (low (state_sight s) s.span.next ≤ n) × (n ≤ unwrap_or s.span.top 0 + 1)

-- the greatest number is this one, and all timers are right but for those that its packet may change
pub record CanFollow (s : State) (number : ℕ) (m : Times) : Type 0 where
  pub top : s.span.top ≡ Some number
  pub low : low (state_sight s) s.span.next ≤ number
  pub few : map.len m ≤ 8192
  pub within : AreInRange s m
  pub others : AreTimersBut s number m

-- whether a packet with this number that was accepted is below the greatest one, and leaves the
-- lowest one as it was
abbrev pub fills : State → ℕ → Bool
fills s n =
    nat_lt n (unwrap_or s.span.top 0) && nat_le (low (state_sight s) s.span.next) n
    && (is_some s.span.next || nat_lt (low (state_sight s) s.span.next) n)

-- the number lies between the lowest and the greatest one, and all timers are right but for its own
pub record CanFill (s : State) (number : ℕ) (m : Times) : Type 0 where
  pub from : low (state_sight s) s.span.next ≤ number
  pub to : number ≤ unwrap_or s.span.top 0
  pub few : map.len m ≤ 8192
  pub within : AreInRange s m
  pub others : (n : ℕ) → n ≢ number
      → IsTimer s.settings (state_sight s) (low (state_sight s) s.span.next) n (map.get m n)

-- the timers of the numbers below this one are right, and each timer is of a missing number from
-- the lowest to the greatest
pub record AreTimersBelow (s : State) (from : ℕ) (m : Times) : Type 0 where
  pub requests : s.settings.rtx ≡ true
  pub right : (n : ℕ) → n < from
      → IsTimer s.settings (state_sight s) (low (state_sight s) s.span.next) n (map.get m n)
  pub above : (n : ℕ) → IsSome (map.get m n) → low (state_sight s) s.span.next ≤ n
  pub below : (n : ℕ) → IsSome (map.get m n) → n < unwrap_or s.span.top 0
  pub missing : (n : ℕ) → IsSome (map.get m n) → is_some (map.get s.held n) ≡ false

-- the timers have room, and are right but for those from the number on from which they are stale
pub record IsTimed (s : State) (x : Schedule) : Type 0 where
  pub room : x.timers.room ≡ 16384
  pub right : x.stale_from ≡ None → AreTimers s x.timers.times
  pub below : (n : ℕ) → x.stale_from ≡ Some n → 0 < n → AreTimersBelow s n x.timers.times

-- all timers lie after a time
abbrev pub AreLater : ℕ → Times → Type 0
AreLater time m = (n t : ℕ) → map.get m n ≡ Some t → time < t

-- when the next request of a number is due, by the state
abbrev pub state_request : State → ℕ → Option ℕ
state_request s n = if nat_le (low (state_sight s) s.span.next) n then request_wake s.settings (state_sight s) n else None

-- how many of the count numbers from n on are missing
abbrev pub missing_from : (ℕ → Bool) → ℕ → ℕ → ℕ
missing_from among n zero = 0
missing_from among n (suc count) = (if among n then 0 else 1) + missing_from among (n + 1) count

-- how many numbers from the lowest to the greatest are missing
abbrev pub gaps_by : Sight → Option ℕ → ℕ
gaps_by v next = missing_from v.among (low v next) (v.top - low v next)

abbrev pub state_gaps : State → ℕ
state_gaps s = gaps_by (state_sight s) s.span.next

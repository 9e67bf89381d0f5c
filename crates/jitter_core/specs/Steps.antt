-- What a state leaves room for, and what it takes to accept a packet.
use Rattle.std.specs.Prelude.{⊤, ℕ, ◌+◌, ◌≡◌, ◌<◌, ◌≤◌, ◌^◌, ◌&&◌, Bool, true, false, List, [], ◌∷◌, length, max, min, Option, Some, None, IsSome, unwrap_or, is_some, if◌then◌else◌}
use Rattle.std.specs.Option.{ForSome}
use Rattle.std.specs.FinMap as map
use Rattle.rtp_units.specs.declared.Mode.{Mode}
use Rattle.skew_model.specs.Skew.{Height, estimate, estimate_after, height_time}
use Rattle.skew_estimator.specs.Estimator.{Estimator, StandsFor, IsStarted}
use Rattle.jitter_model.specs.declared.Arrival.{Arrival}
use Rattle.jitter_model.specs.declared.Mark.{Mark}
use Rattle.jitter_model.specs.Accepted.{is_original, number_from}
use Rattle.jitter_model.specs.Verdicts.{is_late, is_full}
use Rattle.jitter_model.specs.Times.{is_above, time_of}
use Rattle.jitter_core.specs.declared.state.Span.{Span}
use Rattle.jitter_core.specs.declared.state.State.{State}
use Rattle.jitter_core.specs.Asides.{newest_first}
use Rattle.jitter_core.specs.Marks.{AreMarksBounded, AreMarksFalling, with_mark, is_next_mark}
use Rattle.jitter_core.specs.Peaks.{ArePeaksBounded, ArePeaksRising, with_peak, stamp_from}

-- the lowest number that is still to be given out, or that comes
abbrev pub lowest : Option ℕ → Option ℕ → ℕ → ℕ
lowest (Some next) least n = next
lowest None least n = min (unwrap_or least n) n

-- the estimator is one for the settings
pub record IsFitted (s : State) : Type 0 where
  pub rate : s.skew.rate ≡ s.settings.rate
  pub mode : s.skew.mode ≡ s.settings.mode

-- times that leave room for sums
pub record IsTimely (s : State) : Type 0 where
  pub latency : s.progress.latency ≤ 600000000000
  pub delay : s.settings.rtx_delay ≤ 60000000000
  pub retry_from : 1 ≤ s.settings.rtx_retry
  pub retry_to : s.settings.rtx_retry ≤ 60000000000

-- a number above the next one, or any where that isn't known
abbrev pub IsPast : Option ℕ → ℕ → Type 0
IsPast None m = ⊤
IsPast (Some next) m = next < m

-- numbers that leave room for the next steps
pub record IsBounded (s : State) : Type 0 where
  pub fitted : IsFitted s
  pub timely : IsTimely s
  pub above : ForSome s.span.top (λ t. 32768 ≤ t)
  pub below : ForSome s.span.top (λ t. t ≤ 2 ^ 61)
  pub least : ForSome s.span.least (λ n. n ≤ 2 ^ 61)
  pub next : ForSome s.span.next (λ n. n ≤ 2 ^ 61)
  pub first : ForSome s.span.first_pts (λ t. t < 2 ^ 63)
  pub window : ForSome s.span.next (λ n. unwrap_or s.span.top 0 < n + 8192)
  pub next_top : ForSome s.span.next (λ n. n ≤ unwrap_or s.span.top 0 + 1)
  pub first_window : s.span.next ≡ None → unwrap_or s.span.top 0 < unwrap_or s.span.least 0 + 8192
  pub least_known : is_some s.span.least ≡ is_some s.span.top
  pub next_known : is_some s.span.next ≡ true → is_some s.span.top ≡ true
  pub count : s.span.held ≤ 2147483648
  pub least_top : unwrap_or s.span.least 0 ≤ unwrap_or s.span.top 0
  pub started : is_some s.span.top ≡ true → IsStarted s.skew
  pub few : s.skew.heights < 2 ^ 31
  pub heights : AreMarksBounded s.heights
  pub falling : AreMarksFalling s.heights
  pub room : length s.heights ≤ 8192
  pub stamps : ArePeaksBounded s.peaks
  pub rising : ArePeaksRising s.peaks
  pub peaks_room : length s.peaks ≤ 8192
  pub places : length s.served ≡ 16384
  pub reach : (m : ℕ) → IsPast s.span.next m → is_some s.span.top ≡ true → m ≤ unwrap_or s.span.top 0 → is_some (stamp_from s.peaks m) ≡ true
  pub top_held : (t : ℕ) → s.span.top ≡ Some t → is_late s.span.next t ≡ false → is_some (map.get s.held t) ≡ true
  pub held_from : (q : ℕ) → IsSome (map.get s.held q) → (is_late s.span.next q ≡ false) × (unwrap_or s.span.least 0 ≤ q)
  pub held_to : (q : ℕ) → IsSome (map.get s.held q) → (is_some s.span.top ≡ true) × (q ≤ unwrap_or s.span.top 0)

-- the packets that are put aside, the newest first
abbrev pub run_of : State → List Arrival
run_of s = newest_first s.aside

-- the number of a packet that comes
abbrev pub state_number : State → Arrival → ℕ
state_number s a = number_from s.span.top a.packet.seq

-- whether the packet is a height after this greatest number
abbrev pub is_height_by : Option ℕ → Arrival → ℕ → Bool
is_height_by top a n = is_original a.origin && is_above top n

-- what the skew's estimate goes by, after these heights
abbrev pub height_by : List Mark → Arrival → ℕ → Height
height_by ms a n = record { rtp = a.packet.rtp; stamp = a.stamp; is_next = is_next_mark ms n }

-- the heights after the packet
abbrev pub heights_after : List Height → Option ℕ → List Mark → Arrival → ℕ → List Height
heights_after hs top ms a n = if is_height_by top a n then height_by ms a n ∷ hs else hs

-- its presentation time after these heights, by whether its number is one above the latest one's
abbrev pub time_after : ℕ → Mode → List Height → Option ℕ → Bool → Arrival → ℕ → ℕ
time_after rate mode hs top is_next a n =
    if is_height_by top a n
    then height_time rate (estimate_after rate mode (estimate rate mode hs) (record { rtp = a.packet.rtp; stamp = a.stamp; is_next = is_next }))
    else time_of rate (estimate rate mode hs) a.packet.rtp

-- the estimator after the packet, and the packet's presentation time, whatever heights the estimator stands for; none where nothing was accepted
pub record Timed (old new : Estimator) (top : Option ℕ) (ms : List Mark) (a : Arrival) (n pts : ℕ) : Type 0 where
  pub rate : new.rate ≡ old.rate
  pub mode : new.mode ≡ old.mode
  pub stands : (hs : List Height) → (is_some top ≡ false → hs ≡ []) → StandsFor old hs → StandsFor new (heights_after hs top ms a n)
  pub time : (hs : List Height) → (is_some top ≡ false → hs ≡ []) → StandsFor old hs → pts ≡ time_after old.rate old.mode hs top (is_next_mark ms n) a n

-- the height that it leaves
abbrev pub mark_with : Option ℕ → Arrival → ℕ → ℕ → Option Mark
mark_with top a n pts = if is_height_by top a n then Some (record { number = n; pts = pts }) else None

-- the numbers after a packet with this number and this time was accepted
abbrev pub accepted_span : Span → ℕ → ℕ → Span
accepted_span p n pts =
    record p {
      top = Some (max n (unwrap_or p.top 0));
      least = Some (min n (unwrap_or p.least n));
      first_pts = Some (unwrap_or p.first_pts pts);
      held = p.held + 1;
    }

-- a packet that can be accepted under a number: not below the next one, not past the window, and not held; and an original if it is the first
pub record CanAccept (s : State) (a : Arrival) (n : ℕ) : Type 0 where
  pub late : is_late s.span.next n ≡ false
  pub full : is_full s.span.top s.span.least s.span.next n ≡ false
  pub fresh : map.get s.held n ≡ None
  pub original : is_some s.span.top ≡ false → is_original a.origin ≡ true

-- what the segment is after a packet with this number was accepted
pub record Accepts (old new : State) (a : Arrival) (n : ℕ) : Type 0 where
  pub pts : ℕ
  pub span : new.span ≡ accepted_span old.span n pts
  pub held : new.held ≡ map.insert old.held n (record { pts = pts; packet = a.packet })
  pub heights : new.heights ≡ with_mark old.span.next (mark_with old.span.top a n pts) old.heights
  pub peaks : new.peaks ≡ with_peak old.span.top old.span.next n a.stamp old.peaks
  pub served : new.served ≡ old.served
  pub timed : Timed old.skew new.skew old.span.top old.heights a n pts

-- nothing of the segment was changed
pub record LeavesSegment (old new : State) : Type 0 where
  pub span : new.span ≡ old.span
  pub held : new.held ≡ old.held
  pub skew : new.skew ≡ old.skew
  pub heights : new.heights ≡ old.heights
  pub peaks : new.peaks ≡ old.peaks
  pub served : new.served ≡ old.served

-- nothing was changed
pub record IsSame (old new : State) : Type 0 where
  pub settings : new.settings ≡ old.settings
  pub progress : new.progress ≡ old.progress
  pub aside : new.aside ≡ old.aside
  pub segment : LeavesSegment old new

-- What each verdict and each reply says of the state that it is given in.
use Rattle.std.specs.Prelude.{ℕ, ◌≡◌, ◌≤◌, true, false, ◌&&◌, not, length, is_some, ◌+◌, ◌<◌, Option, None, Some, ⊤}
use Rattle.jitter_model.specs.declared.Settings.{Settings}
use Rattle.jitter_model.specs.declared.Arrival.{Arrival}
use Rattle.jitter_model.specs.declared.Verdict.{Verdict}
use Rattle.jitter_model.specs.declared.Verdict.TheVariants.{Accepted, Aside, Restart, Late, Duplicate, Full, Stray, Flushing, Ended}
use Rattle.jitter_model.specs.Accepted.{is_original, joined}
use Rattle.jitter_model.specs.Verdicts.{View, is_far, is_late, is_full}
use Rattle.jitter_model.specs.declared.Turn.{Turn}
use Rattle.jitter_model.specs.declared.Turn.TheVariants.{Packet, Lost}
use Rattle.jitter_model.specs.Requests.{Asked}
use Rattle.jitter_model.specs.Turns.{Sight, may_start, deadline}

-- an accepted packet
pub record IsAccepted (s : Settings) (v : View) (a : Arrival) : Type 0 where
  pub ended : v.ended ≡ false
  pub flushing : v.flushing ≡ false
  pub stray : (not (is_original a.origin) && not (is_some v.top)) ≡ false
  pub far : (is_original a.origin && is_far s v.top v.next v.number) ≡ false
  pub late : is_late v.next v.number ≡ false
  pub among : v.among ≡ false
  pub full : is_full v.top v.least v.next v.number ≡ false

-- a packet that is put aside
pub record IsAside (s : Settings) (v : View) (a : Arrival) : Type 0 where
  pub ended : v.ended ≡ false
  pub flushing : v.flushing ≡ false
  pub original : is_original a.origin ≡ true
  pub far : is_far s v.top v.next v.number ≡ true
  pub run : length (joined v.run a) ≤ 4

-- a packet that begins a new segment
pub record IsRestart (s : Settings) (v : View) (a : Arrival) (dropped : ℕ) : Type 0 where
  pub ended : v.ended ≡ false
  pub flushing : v.flushing ≡ false
  pub original : is_original a.origin ≡ true
  pub far : is_far s v.top v.next v.number ≡ true
  pub run : 5 ≤ length (joined v.run a)
  pub dropped_is : dropped ≡ v.held

-- a packet that isn't far, of which there was one at least before
pub record IsNear (s : Settings) (v : View) (a : Arrival) : Type 0 where
  pub ended : v.ended ≡ false
  pub flushing : v.flushing ≡ false
  pub stray : (not (is_original a.origin) && not (is_some v.top)) ≡ false
  pub far : (is_original a.origin && is_far s v.top v.next v.number) ≡ false

-- the tests that gave this verdict
abbrev pub Says : Settings → View → Arrival → Verdict → Type 0
Says s v a Accepted = IsAccepted s v a
Says s v a Aside = IsAside s v a
Says s v a (Restart dropped) = IsRestart s v a dropped
Says s v a Late = IsNear s v a × (is_late v.next v.number ≡ true)
Says s v a Duplicate =
    IsNear s v a × (is_late v.next v.number ≡ false) × (v.among ≡ true)
Says s v a Full =
    IsNear s v a × (is_late v.next v.number ≡ false) × (v.among ≡ false)
    × (is_full v.top v.least v.next v.number ≡ true)
Says s v a Stray =
    (v.ended ≡ false) × (v.flushing ≡ false) × (is_original a.origin ≡ false)
    × (is_some v.top ≡ false)
Says s v a Flushing = (v.ended ≡ false) × (v.flushing ≡ true)
Says s v a Ended = v.ended ≡ true

-- what numbers a reply covers: the least one first, then the next one, or those from it on up to
-- one that isn't past the greatest
abbrev pub Covers : Sight → Option ℕ → Turn → Type 0
Covers v None (Packet m pts p) = (m ≡ v.least) × (may_start v v.start ≡ true)
Covers v (Some k) (Packet m pts p) = (m ≡ k) × (v.among k ≡ true)
Covers v None (Lost n count pts d) = ⊥
Covers v (Some k) (Lost n count pts d) = (n ≡ k) × (n + count ≤ v.top) × (0 < count)
Covers v o _ = ⊤

pub record Covering (v : Sight) (o : Option ℕ) (r : Turn) : Type 0 where
  pub fact : Covers v o r

-- a number that is not among the accepted ones, and whose deadline is over
pub record IsOver (v : Sight) (m : ℕ) : Type 0 where
  pub among : v.among m ≡ false
  pub is_time : deadline v m ≤ v.time

-- each number that a reply declares lost is such a one
abbrev pub MissesAll : Sight → Turn → Type 0
MissesAll v (Lost n count pts d) = (m : ℕ) → n ≤ m → m < n + count → IsOver v m
MissesAll v _ = ⊤

-- one of these numbers, with a request that was not served before
abbrev pub IsAskedIn : Settings → Sight → ℕ → ℕ → Option Asked → Type 0
IsAskedIn s v n count None = ⊤
IsAskedIn s v n count (Some r) =
    (n ≤ r.number) × (r.number < n + count) × (v.served r.number ≤ r.k)
    × (r.k ≤ s.rtx_max)

pub record AskedIn (s : Settings) (v : Sight) (n count : ℕ) (o : Option Asked) : Type 0 where
  pub fact : IsAskedIn s v n count o

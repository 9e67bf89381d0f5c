-- What a value keeps of the log lines that it took.
use Rattle.std.specs.Prelude.{◌≡◌, ℕ, ◌+◌, ◌==◌, if◌then◌else◌, List, [], ◌∷◌}
use Rattle.std.specs.Prelude.{Option, Some, None, slice_get}
use Rattle.depay.specs.declared.outcome.Format.{Format}
use Rattle.depay.specs.Fragments.{Call, Takes, Gaps, packet}
use Rattle.depay.specs.Joining.{Joining, StandsFor}
use Rattle.timeline.specs.declared.line.BinLine.{BinLine}
use Rattle.unit_log.specs.declared.given.LaneCall.{LaneCall}
use Rattle.unit_log.specs.declared.given.LaneCall.TheVariants as held
use Rattle.unit_log.specs.declared.given.Given.{Given as HeldGiven}
use Rattle.unit_log.specs.declared.log.UnitLog.{UnitLog}
use Rattle.unit_log.specs.Lines.{Given, given, calls_in, outcomes_by, outcomes_in}
use Rattle.unit_log.specs.Lines.{unit_count, broken_count}

-- ---- what a line gives, as the program holds it

abbrev pub call_seen : LaneCall → Call
call_seen (held.Packet number rtp pts payload) = Takes (packet number rtp pts payload.now)
call_seen held.Gap = Gaps

abbrev pub given_seen : HeldGiven → Given
given_seen g = given g.time g.lane (call_seen g.call)

-- ---- what is kept

-- the joining was given these calls, the latest first; a lane without one was given nothing
abbrev pub WasGiven : Format → List Call → Option Joining → Type 0
WasGiven format calls None = calls ≡ []
WasGiven format calls (Some d) = StandsFor d format calls

-- each lane's joining was given the lane's calls
abbrev pub WereGiven : Format → (ℕ → List Call) → List Joining → Type 0
WereGiven format calls lanes = (lane : ℕ) → WasGiven format (calls lane) (slice_get lanes lane)

-- One more call was given to this lane.
abbrev pub calls_with : ℕ → Call → (ℕ → List Call) → ℕ → List Call
calls_with lane call calls k = if lane == k then call ∷ calls k else calls k

-- the same payload format and payload type
pub record SameSettings (old new : UnitLog) : Type 0 where
  pub format_is : new.format ≡ old.format
  pub type_is : new.pt ≡ old.pt

-- The lane was given this call after these ones, and what that told is counted.
pub record Gave (old new : UnitLog) (lane : ℕ) (calls : ℕ → List Call) (call : Call) : Type 0 where
  pub lanes : WereGiven old.format (calls_with lane call calls) new.lanes.items
  pub units : new.units ≡ old.units + unit_count (outcomes_by old.format (calls lane) call)
  pub broken : new.broken ≡ old.broken + broken_count (outcomes_by old.format (calls lane) call)

-- The value has this format and payload type and took these log lines, the first one first.
pub record TookLines (log : UnitLog) (format : Format) (pt : ℕ) (lines : List BinLine)
    : Type 0 where
  pub format_is : log.format ≡ format
  pub type_is : log.pt ≡ pt
  pub lanes : WereGiven format (λ lane. calls_in pt lane lines) log.lanes.items
  pub units : log.units ≡ unit_count (outcomes_in format pt lines)
  pub broken : log.broken ≡ broken_count (outcomes_in format pt lines)

-- The unit lines of a log: what the lines of each lane give the joining of its payloads, and what
-- that tells. Lists of log lines have the first one first.
use Rattle.std.specs.Prelude.{ℕ, ◌==◌, if◌then◌else◌, Bool, true, false}
use Rattle.std.specs.Prelude.{List, [], ◌∷◌, ◌++◌, map, length, reverse, Option, Some, None}
use Rattle.std.specs.List.{filter, filter_map}
use Rattle.rtp_wire.specs.Packet.{Packet as RtpPacket, first_fault}
use Rattle.rtp_wire.specs.View.{packet_of}
use Rattle.rtp_wire.specs.declared.fault.RtpFault.{RtpFault}
use Rattle.depay.specs.declared.outcome.Format.{Format}
use Rattle.depay.specs.declared.outcome.Outcome.{Outcome}
use Rattle.depay.specs.declared.outcome.Outcome.TheVariants as outcome
use Rattle.depay.specs.Fragments.{Call, Takes, Gaps, packet}
use Rattle.depay.specs.Outcomes.{left_open, outcomes_of, gap_of}
use Rattle.timeline.specs.declared.line.BinLine.{BinLine}
use Rattle.timeline.specs.declared.line.BinLine.TheVariants.{Restart, Out, Lost, Flush, End, Done}
use Rattle.unit_log.specs.declared.line.UnitLine.{UnitLine}
use Rattle.unit_log.specs.declared.line.UnitLine.TheVariants as told

-- ---- what a log line gives a lane

-- a packet of the payload type or a gap, at this time, to the joining of this lane
pub record Given : Type 0 where
  pub time : ℕ
  pub lane : ℕ
  pub call : Call

abbrev pub given : ℕ → ℕ → Call → Given
given time lane call = record { time = time; lane = lane; call = call }

-- the packet that these bytes are; bytes that are none are a gap
abbrev pub call_from : ℕ → ℕ → Option RtpFault → RtpPacket → Call
call_from number pts None p = Takes (packet number p.timestamp pts p.payload)
call_from number pts (Some fault) p = Gaps

abbrev pub call_of : ℕ → ℕ → List ℕ → Call
call_of number pts bytes = call_from number pts (first_fault bytes) (packet_of bytes)

-- a packet that leaves is a gap where it has another type
abbrev pub call_of_out : Bool → ℕ → ℕ → List ℕ → Call
call_of_out true number pts bytes = call_of number pts bytes
call_of_out false number pts bytes = Gaps

-- what a log line gives a lane, where the payload type is this one; a loss, a flush, a new segment
-- and the end are gaps
abbrev pub given_by : ℕ → BinLine → Option Given
given_by pt (Out time lane number pts type marker len bytes) =
    Some (given time lane (call_of_out (type == pt) number pts bytes))
given_by pt (Lost time lane number count pts duration) = Some (given time lane Gaps)
given_by pt (Flush time lane count) = Some (given time lane Gaps)
given_by pt (Restart time lane seq discarded) = Some (given time lane Gaps)
given_by pt (End time lane) = Some (given time lane Gaps)
given_by pt line = None

-- ---- a lane's part of the log

abbrev pub call_for : ℕ → Option Given → Option Call
call_for lane None = None
call_for lane (Some g) = if g.lane == lane then Some g.call else None

-- what a log line gives this lane
abbrev pub call_in : ℕ → ℕ → BinLine → Option Call
call_in pt lane line = call_for lane (given_by pt line)

-- what log lines gave this lane, the latest first
abbrev pub calls_in : ℕ → ℕ → List BinLine → List Call
calls_in pt lane lines = reverse (filter_map (call_in pt lane) lines)

-- ---- what a log line tells, after those before it

-- what a packet or a gap tells after what a lane was given; a gap breaks an open unit
abbrev pub outcomes_by : Format → List Call → Call → List Outcome
outcomes_by format calls (Takes p) = outcomes_of format calls p
outcomes_by format calls Gaps = left_open (gap_of format calls)

abbrev pub outcomes_from : Format → ℕ → List BinLine → Option Given → List Outcome
outcomes_from format pt before None = []
outcomes_from format pt before (Some g) =
    outcomes_by format (calls_in pt g.lane before) g.call

abbrev pub outcomes_at : Format → ℕ → List BinLine → BinLine → List Outcome
outcomes_at format pt before line = outcomes_from format pt before (given_by pt line)

-- the line of an outcome, at the time of the log line that gave it
abbrev pub line_of : ℕ → ℕ → Outcome → UnitLine
line_of time lane (outcome.Unit first last pts bytes) =
    told.Unit time lane first last pts bytes
line_of time lane (outcome.Broken number cause) = told.Broken time lane number cause

abbrev pub lines_from : Format → ℕ → List BinLine → Option Given → List UnitLine
lines_from format pt before None = []
lines_from format pt before (Some g) =
    map (line_of g.time g.lane) (outcomes_from format pt before (Some g))

-- ---- whole lists

-- what each line of a list tells after those before it, behind these ones
abbrev pub behind : {X : Type 0} → (List BinLine → BinLine → List X) → List BinLine → List BinLine
    → List X
behind tells before [] = []
behind tells before (line ∷ lines) =
    tells before line ++ behind tells (before ++ line ∷ []) lines

-- the outcomes of all lanes
abbrev pub outcomes_in : Format → ℕ → List BinLine → List Outcome
outcomes_in format pt lines = behind (outcomes_at format pt) [] lines

abbrev pub is_unit : Outcome → Bool
is_unit (outcome.Unit first last pts bytes) = true
is_unit (outcome.Broken number cause) = false

abbrev pub is_broken : Outcome → Bool
is_broken (outcome.Unit first last pts bytes) = false
is_broken (outcome.Broken number cause) = true

abbrev pub unit_count : List Outcome → ℕ
unit_count outcomes = length (filter is_unit outcomes)

abbrev pub broken_count : List Outcome → ℕ
broken_count outcomes = length (filter is_broken outcomes)

-- the last line of a log that read so many records
abbrev pub done_line : ℕ → List Outcome → UnitLine
done_line records outcomes = told.Done records (unit_count outcomes) (broken_count outcomes)

-- the unit lines of a log line after those before it
abbrev pub lines_at : Format → ℕ → List BinLine → BinLine → List UnitLine
lines_at format pt before (Done records lanes out lost refused) =
    done_line records (outcomes_in format pt before) ∷ []
lines_at format pt before line = lines_from format pt before (given_by pt line)

-- the unit lines of log lines that follow these ones
abbrev pub lines_behind : Format → ℕ → List BinLine → List BinLine → List UnitLine
lines_behind format pt before lines = behind (lines_at format pt) before lines

-- the unit lines of a log, for a payload format and a payload type
abbrev pub unit_lines : Format → ℕ → List BinLine → List UnitLine
unit_lines format pt lines = lines_behind format pt [] lines

-- The lines that tell what happened.
use Rattle.std.specs.Prelude.{ℕ, ◌==◌, List, [], ◌∷◌, ◌++◌, sum_by, if◌then◌else◌}
use Rattle.jitter_model.specs.declared.Origin.{Origin}
use Rattle.jitter_model.specs.declared.Verdict.{Verdict}
use Rattle.jitter_model.specs.declared.Verdict.TheVariants as verdict
use Rattle.jitter_model.specs.declared.Turn.{Turn}
use Rattle.jitter_model.specs.declared.Turn.TheVariants as turn
use Rattle.jitter_model.specs.declared.Entry.{Entry}
use Rattle.jitter_model.specs.declared.Entry.TheVariants as call
use Rattle.timeline.specs.declared.line.BinLine.{BinLine}
use Rattle.timeline.specs.declared.line.BinLine.TheVariants as told
use Rattle.timeline.specs.declared.line.Word.TheVariants as word
use Rattle.replay_model.specs.Events.{Event, Acted, Fronted, Began, Told, At, Kept, Timeline}

abbrev pub turn_lines : ℕ → ℕ → Turn → List BinLine
turn_lines t l (turn.Packet n pts p) =
    told.Out t l n pts p.pt p.marker p.payload p.bytes ∷ []
turn_lines t l (turn.Lost n count pts duration) = told.Lost t l n count pts duration ∷ []
turn_lines t l (turn.Request n k) = told.Request t l n k ∷ []
turn_lines t l turn.End = told.End t l ∷ []
turn_lines t l (turn.Idle wake) = []
turn_lines t l turn.Flushing = []

abbrev pub verdict_lines : ℕ → ℕ → ℕ → Origin → Verdict → List BinLine
verdict_lines t l seq kind verdict.Accepted = []
verdict_lines t l seq kind verdict.Aside = told.Aside t l seq ∷ []
verdict_lines t l seq kind (verdict.Restart discarded) = told.Restart t l seq discarded ∷ []
verdict_lines t l seq kind verdict.Late = told.Refuse t l seq kind word.Late ∷ []
verdict_lines t l seq kind verdict.Duplicate = told.Refuse t l seq kind word.Duplicate ∷ []
verdict_lines t l seq kind verdict.Full = told.Refuse t l seq kind word.Full ∷ []
verdict_lines t l seq kind verdict.Stray = told.Refuse t l seq kind word.Stray ∷ []
verdict_lines t l seq kind verdict.Flushing = told.Refuse t l seq kind word.Flushing ∷ []
verdict_lines t l seq kind verdict.Ended = told.Refuse t l seq kind word.Ended ∷ []

-- packets that a push dropped, if it dropped any
abbrev pub dropped_lines : ℕ → ℕ → ℕ → List BinLine
dropped_lines t l count = if count == 0 then [] else told.Unaside t l count ∷ []

-- That a latency was set is told apart, where an item sets it: with the one that a lane begins with
-- no line is told. So is the time that a sender report has in a lane, where it has one.
abbrev pub entry_lines : ℕ → ℕ → Entry → List BinLine
entry_lines t l (call.Push a v n dropped) =
    dropped_lines t l dropped ++ verdict_lines t l a.packet.seq a.origin v
entry_lines t l (call.Turned r) = turn_lines t l r
entry_lines t l (call.FlushStart count) = told.Flush t l count ∷ []
entry_lines t l call.FlushStop = told.Flushed t l ∷ []
entry_lines t l e = []

abbrev pub event_lines : Event → List BinLine
event_lines (Acted i) = []
event_lines (Fronted t e) = []
event_lines (Began t o) = []
event_lines (Told t x) = x ∷ []
event_lines (At t l e) = entry_lines t l e
event_lines (Kept t call) = []

-- the lines of what happened, the first one first
abbrev pub lines : Timeline → List BinLine
lines [] = []
lines (e ∷ tl) = lines tl ++ event_lines e

-- lines are told at a time, in order
abbrev pub all_told : ℕ → List BinLine → Timeline → Timeline
all_told t [] tl = tl
all_told t (x ∷ xs) tl = all_told t xs (Told t x ∷ tl)

-- ---- counts of lines

-- packets given out
abbrev pub out_in : BinLine → ℕ
out_in (told.Out t l n pts pt marker len bytes) = 1
out_in x = 0

-- numbers lost
abbrev pub lost_in : BinLine → ℕ
lost_in (told.Lost t l n count pts duration) = count
lost_in x = 0

-- packets refused
abbrev pub refused_in : BinLine → ℕ
refused_in (told.Refuse t l seq kind why) = 1
refused_in x = 0

-- the last line: how many records and lanes there were, and what the lines before it tell, summed
-- up
abbrev pub done_line : ℕ → ℕ → List BinLine → BinLine
done_line records lanes before =
    told.Done records lanes (sum_by out_in before) (sum_by lost_in before)
    (sum_by refused_in before)

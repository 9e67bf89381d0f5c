-- What the packets of a compound make of a table, call by call.
use Rattle.std.specs.Prelude.{◌≡◌, ℕ, is_some, if◌then◌else◌, List, [], ◌∷◌, ◌++◌, map}
use Rattle.rtp_units.specs.Numbers.{ntp_time}
use Rattle.source_table.specs.Sources.{report_next, left_next}
use Rattle.source_table.specs.Table.{Table, kept, changed}
use Rattle.source_table.specs.Answers.{named, name_next}
use Rattle.front_model.specs.Given.{Ask, Hears, Names, Reports, Leaves, Closes}
use Rattle.front_model.specs.Notes.{Note, Synced, Stray, Left, name_notes}
use Rattle.rtp_session.specs.declared.answers.SessionNote.{SessionNote}
use Rattle.rtp_session.specs.Answers.{told}

-- a call that a compound makes; the others are none of its
abbrev pub call_notes : Table → Ask → List Note
call_notes t (Names ssrc text) = name_notes ssrc text (named t ssrc text)
call_notes t (Reports now ssrc seconds fraction rtp) =
    if is_some (kept t ssrc) then Synced ssrc (ntp_time seconds fraction) rtp ∷ [] else Stray ssrc ∷ []
call_notes t (Leaves ssrc) = if is_some (kept t ssrc) then Left ssrc ∷ [] else []
call_notes t (Hears now from view rate) = []
call_notes t (Closes now timeout) = []

abbrev pub call_next : Table → Ask → Table
call_next t (Names ssrc text) = name_next t ssrc text
call_next t (Reports now ssrc seconds fraction rtp) =
    changed t ssrc (λ x. report_next x now seconds fraction)
call_next t (Leaves ssrc) = changed t ssrc left_next
call_next t (Hears now from view rate) = t
call_next t (Closes now timeout) = t

-- calls one after the other, the first one first
abbrev pub calls_notes : Table → List Ask → List Note
calls_notes t [] = []
calls_notes t (call ∷ more) = call_notes t call ++ calls_notes (call_next t call) more

abbrev pub calls_next : Table → List Ask → Table
calls_next t [] = t
calls_next t (call ∷ more) = calls_next (call_next t call) more

-- These calls led from a table to a table, and what they tell was added to the notes.
pub record Tells (old new : Table) (before after : List SessionNote) (calls : List Ask) : Type 0 where
  pub table : new ≡ calls_next old calls
  pub notes : map told after ≡ map told before ++ calls_notes old calls

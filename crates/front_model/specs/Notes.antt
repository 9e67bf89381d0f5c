-- What a session tells of what it is given, and which packets it gives on.
use Rattle.std.specs.Prelude.{ℕ, if◌then◌else◌, is_some, true, false, List, [], ◌∷◌, ◌++◌, map, Result, Ok, Err}
use Rattle.rtp_units.specs.Numbers.{ntp_time}
use Rattle.source_table.specs.declared.source.Heard.{Heard}
use Rattle.source_table.specs.declared.source.Heard.TheVariants.{Waiting, NowValid, Valid}
use Rattle.source_table.specs.declared.answers.Refuse.{Refuse}
use Rattle.source_table.specs.declared.answers.Refuse.TheVariants as refuse
use Rattle.source_table.specs.declared.answers.Named.{Named}
use Rattle.source_table.specs.declared.answers.Named.TheVariants.{Unknown, Same, Changed}
use Rattle.source_table.specs.Table.{kept, gone, expired, blocks}
use Rattle.timeline.specs.declared.line.Word.{Word}
use Rattle.timeline.specs.declared.line.Word.TheVariants as word
use Rattle.source_table.specs.Answers.{named}
use Rattle.front_model.specs.Given.{Setting, Given, Ask, Hears, Names, Reports, Leaves, Closes, asks_of, asks, table}
use Rattle.front_model.specs.Probation.{Kept, kept_at, answer, waiting}
use Rattle.front_model.specs.Reports.{report_bytes}

-- A packet waits, is dropped with a cause, or is given on with the time at which it came; a source
-- has a new name; a sender report of a kept source, with its NTP and its RTP time, or of another
-- SSRC; a kept source said BYE; a source is removed; and the bytes of a report.
pub data Note : Type 0 where
  Holds : Kept → Note
  Drops : Kept → Word → Note
  Releases : Kept → Note
  NewName : ℕ → List ℕ → Note
  Synced : ℕ → ℕ → ℕ → Note
  Stray : ℕ → Note
  Left : ℕ → Note
  Gone : ℕ → Note
  Says : List ℕ → Note

-- ---- a packet

abbrev pub broken : Kept → Note
broken k = Drops k word.Probation

-- a packet that breaks a run drops those that wait, and one that makes the source valid releases
-- them in front of it
abbrev pub packet_notes : List Kept → Kept → Result Heard Refuse → List Note
packet_notes waiting p (Ok (Waiting true)) = map broken waiting ++ Holds p ∷ []
packet_notes waiting p (Ok (Waiting false)) = Holds p ∷ []
packet_notes waiting p (Ok NowValid) = map Releases waiting ++ Releases p ∷ []
packet_notes waiting p (Ok Valid) = Releases p ∷ []
packet_notes waiting p (Err refuse.Own) = Drops p word.Own ∷ []
packet_notes waiting p (Err refuse.LimitSources) = Drops p word.Sources ∷ []
packet_notes waiting p (Err (refuse.Collision first other)) = Drops p word.Collision ∷ []
packet_notes waiting p (Err refuse.OutOfMemory) = []

-- ---- the others

abbrev pub name_notes : ℕ → List ℕ → Named → List Note
name_notes ssrc text Changed = NewName ssrc text ∷ []
name_notes ssrc text Same = []
name_notes ssrc text Unknown = []

-- what a call on the table tells, where these came before it
abbrev pub ask_notes : Setting → List Ask → Ask → List Note
ask_notes s before (Hears now from view rate) =
    packet_notes (waiting s view.ssrc before) (kept_at now view)
    (answer s before now from view rate)
ask_notes s before (Names ssrc text) = name_notes ssrc text (named (table s before) ssrc text)
ask_notes s before (Reports now ssrc seconds fraction rtp) =
    if is_some (kept (table s before) ssrc) then Synced ssrc (ntp_time seconds fraction) rtp ∷ []
    else Stray ssrc ∷ []
ask_notes s before (Leaves ssrc) =
    if is_some (kept (table s before) ssrc) then Left ssrc ∷ [] else []
ask_notes s before (Closes now timeout) =
    map Gone (gone (table s before) now timeout)
    ++ Says (report_bytes s.own (blocks (expired (table s before) now timeout) now)) ∷ []

-- calls one after the other, the first one first
abbrev pub notes_along : Setting → List Ask → List Ask → List Note
notes_along s before [] = []
notes_along s before (ask ∷ more) = ask_notes s before ask ++ notes_along s (ask ∷ before) more

-- what a session tells of what it is given, after it was given these
abbrev pub notes : Setting → List Given → Given → List Note
notes s older g = notes_along s (asks older) (asks_of g)

-- The packets of a source that are kept until it is valid.
use Rattle.std.specs.Prelude.{ℕ, nat_eq, if◌then◌else◌, Bool, false, List, [], ◌∷◌, ◌++◌, Option, Some, None, Result, Ok, Err}
use Rattle.rtp_wire.specs.Packet.{Packet as View}
use Rattle.source_table.specs.declared.source.Source.{Source}
use Rattle.source_table.specs.declared.source.Heard.{Heard}
use Rattle.source_table.specs.declared.source.Heard.TheVariants.{Waiting, NowValid, Valid}
use Rattle.source_table.specs.declared.answers.Refuse.{Refuse}
use Rattle.source_table.specs.Sources.{is_gone}
use Rattle.source_table.specs.Table.{kept, packet_of}
use Rattle.source_table.specs.Answers.{heard}
use Rattle.front_model.specs.Given.{Setting, Ask, Hears, Names, Reports, Leaves, Closes, is_quick, table}
use Rattle.rtp_units.specs.declared.shared.Address.{Address}

-- a packet with the time at which it came
pub record Kept : Type 0 where
  pub stamp : ℕ
  pub packet : View

abbrev pub kept_at : ℕ → View → Kept
kept_at now view = record { stamp = now; packet = view }

-- what a packet was to the table
abbrev pub answer : Setting → List Ask → ℕ → Address → View → Option ℕ → Result Heard Refuse
answer s before now from view rate =
    heard (table s before) from view.ssrc
    (packet_of (table s before) now view rate (is_quick s view.ssrc))

-- The packet goes behind those that wait, or begins a new run where it broke theirs. Once the
-- source is valid none waits.
abbrev pub waiting_next : List Kept → Kept → Result Heard Refuse → List Kept
waiting_next waiting p (Ok (Waiting broken)) = if broken then p ∷ [] else waiting ++ p ∷ []
waiting_next waiting p (Ok NowValid) = []
waiting_next waiting p (Ok Valid) = waiting
waiting_next waiting p (Err refuse) = waiting

abbrev pub is_removed : Option Source → ℕ → ℕ → Bool
is_removed None now timeout = false
is_removed (Some s) now timeout = is_gone s now timeout

-- the packets of this SSRC that wait, the first one first; they go with their source
abbrev pub waiting : Setting → ℕ → List Ask → List Kept
waiting s ssrc [] = []
waiting s ssrc (Hears now from view rate ∷ before) =
    if nat_eq ssrc view.ssrc then waiting_next (waiting s ssrc before) (kept_at now view)
    (answer s before now from view rate)
    else waiting s ssrc before
waiting s ssrc (Names x text ∷ before) = waiting s ssrc before
waiting s ssrc (Reports now x seconds fraction rtp ∷ before) = waiting s ssrc before
waiting s ssrc (Leaves x ∷ before) = waiting s ssrc before
waiting s ssrc (Closes now timeout ∷ before) =
    if is_removed (kept (table s before) ssrc) now timeout then [] else waiting s ssrc before

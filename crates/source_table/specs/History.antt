-- What a table stands for: the calls on it, each with its answer; and what the calls on one source make of it.
use Rattle.std.specs.Prelude.{◌≡◌, ℕ, not, nat_eq, if◌then◌else◌, Bool, false, max, List, [], ◌∷◌, Option, Some, None, Result, Ok, Err, option_map}
use Rattle.rtp_units.specs.declared.shared.Address.{Address}
use Rattle.rtp_wire.specs.Packet.{Packet as View}
use Rattle.source_table.specs.declared.source.Source.{Source}
use Rattle.source_table.specs.declared.source.Packet.{Packet}
use Rattle.source_table.specs.declared.source.Heard.{Heard}
use Rattle.source_table.specs.declared.answers.Refuse.{Refuse}
use Rattle.source_table.specs.declared.answers.Named.{Named}
use Rattle.source_table.specs.Answers.{heard, heard_next, named, name_next}
use Rattle.source_table.specs.Sources.{fresh, hear_next, report_next, left_next, is_gone, reported}
use Rattle.source_table.specs.Table.{Table, empty, kept, name_of, IsNamed, packet_of, changed, expired, all_reported}

-- A call on a table. A packet and a name come with their answers.
pub data Call : Type 0 where
  Rtp : ℕ → Address → View → Option ℕ → Bool → Result Heard Refuse → Call
  Reports : ℕ → ℕ → ℕ → ℕ → Call
  Leaves : ℕ → Call
  Sets : ℕ → List ℕ → Named → Call
  Block : ℕ → ℕ → Call
  Blocks : ℕ → Call
  Expires : ℕ → ℕ → Call

-- the table after a call
abbrev pub table_next : Table → Call → Table
table_next t (Rtp now from view rate quick answer) =
    heard_next t from view.ssrc (packet_of t now view rate quick)
table_next t (Reports now ssrc seconds fraction) =
    changed t ssrc (λ s. report_next s now seconds fraction)
table_next t (Leaves ssrc) = changed t ssrc left_next
table_next t (Sets ssrc text answer) = name_next t ssrc text
table_next t (Block ssrc now) = changed t ssrc reported
table_next t (Blocks now) = all_reported t
table_next t (Expires now timeout) = expired t now timeout

-- the table that these calls leave of an empty one, the latest call first
abbrev pub table : ℕ → ℕ → List Call → Table
table own probation [] = empty own probation
table own probation (call ∷ before) = table_next (table own probation before) call

-- The answer is the table's.
abbrev pub IsAnswered : Table → Call → Type 0
IsAnswered t (Rtp now from view rate quick answer) =
    answer ≡ heard t from view.ssrc (packet_of t now view rate quick)
IsAnswered t (Reports now ssrc seconds fraction) = Unit {0}
IsAnswered t (Leaves ssrc) = Unit {0}
IsAnswered t (Sets ssrc text answer) = answer ≡ named t ssrc text
IsAnswered t (Block ssrc now) = Unit {0}
IsAnswered t (Blocks now) = Unit {0}
IsAnswered t (Expires now timeout) = Unit {0}

abbrev pub AreAnswered : ℕ → ℕ → List Call → Type 0
AreAnswered own probation [] = Unit {0}
AreAnswered own probation (call ∷ before) =
    IsAnswered (table own probation before) call × AreAnswered own probation before

-- A table that was made with this SSRC and this probation went through these calls, the latest first.
-- How it holds what they leave is its own affair.
unfoldable pub StandsFor : Table → ℕ → ℕ → List Call → Type 0
StandsFor t own probation calls =
    (t ≡ table own probation calls) × AreAnswered own probation calls

-- Whatever calls the table stood for, it stands for them with this one more.
abbrev pub Extends : Table → Call → Table → Type 0
Extends old call new =
    (own probation : ℕ) (calls : List Call)
    → StandsFor old own probation calls → StandsFor new own probation (call ∷ calls)

-- ---- one source

-- what is told of a kept source: what was heard of it, and its name, if it has one
pub record Told : Type 0 where
  pub source : Source
  pub name : Option (List ℕ)

abbrev pub told_of : Source → Option (List ℕ) → Told
told_of source name = record { source = source; name = name }

-- what a table tells of the source of this SSRC, if it is kept
abbrev pub told : Table → ℕ → Option Told
told t ssrc = option_map (λ s. told_of s (name_of t ssrc)) (kept t ssrc)

-- its name, if it is kept and has one
abbrev pub told_name : Option Told → Option (List ℕ)
told_name None = None
told_name (Some k) = k.name

abbrev pub packet_by : ℕ → ℕ → View → Option ℕ → Bool → Packet
packet_by probation now view rate quick = record {
  arrival = now;
  seq = view.seq;
  timestamp = view.timestamp;
  rate = rate;
  needed = if quick then 1 else max probation 1;
}

abbrev pub only_if : {X : Type 0} → (X → Bool) → Option X → Option X
only_if test None = None
only_if test (Some s) = if test s then Some s else None

-- A packet is heard of a source that is kept, or of a new one, which has no name.
abbrev pub told_heard : Address → Option Told → Packet → Told
told_heard from None p = told_of (hear_next (fresh from) p) None
told_heard from (Some k) p = told_of (hear_next k.source p) k.name

abbrev pub told_changed : (Source → Source) → Told → Told
told_changed f k = told_of (f k.source) k.name

abbrev pub told_named : List ℕ → Told → Told
told_named text k = told_of k.source (Some text)

-- What is told of the source after one call more: a call on another SSRC and a refused packet leave it as it
-- was.
abbrev pub alone_next : ℕ → ℕ → Option Told → Call → Option Told
alone_next probation ssrc k (Rtp now from view rate quick (Ok heard)) =
    if nat_eq ssrc view.ssrc then Some (told_heard from k (packet_by probation now view rate quick)) else k
alone_next probation ssrc k (Rtp now from view rate quick (Err refuse)) = k
alone_next probation ssrc k (Reports now x seconds fraction) =
    if nat_eq ssrc x then option_map (told_changed (λ s. report_next s now seconds fraction)) k else k
alone_next probation ssrc k (Leaves x) =
    if nat_eq ssrc x then option_map (told_changed left_next) k else k
alone_next probation ssrc k (Sets x text answer) =
    if nat_eq ssrc x then option_map (told_named text) k else k
alone_next probation ssrc k (Block x now) =
    if nat_eq ssrc x then option_map (told_changed reported) k else k
alone_next probation ssrc k (Blocks now) = option_map (told_changed reported) k
alone_next probation ssrc k (Expires now timeout) = only_if (λ x. not (is_gone x.source now timeout)) k

-- what is told of the source by the calls on it, the latest call first
abbrev pub alone : ℕ → ℕ → List Call → Option Told
alone probation ssrc [] = None
alone probation ssrc (call ∷ before) = alone_next probation ssrc (alone probation ssrc before) call

-- What is told of a source is what the calls on it alone leave, whatever calls on others came between; and
-- one that is not kept has no name.
abbrev pub IsIsolated : Type 0
IsIsolated =
    (t : Table) (own probation : ℕ) (calls : List Call) → StandsFor t own probation calls
    → (ssrc : ℕ) → told t ssrc ≡ alone probation ssrc calls

abbrev pub IsNamedIfKept : Type 0
IsNamedIfKept =
    (t : Table) (own probation : ℕ) (calls : List Call) → StandsFor t own probation calls → IsNamed t

-- ---- the packets of a source

abbrev pub was_gone : Option Told → ℕ → ℕ → Bool
was_gone None now timeout = false
was_gone (Some k) now timeout = is_gone k.source now timeout

abbrev pub packets_next : ℕ → ℕ → Option Told → List Packet → Call → List Packet
packets_next probation ssrc k ps (Rtp now from view rate quick (Ok heard)) =
    if nat_eq ssrc view.ssrc then packet_by probation now view rate quick ∷ ps else ps
packets_next probation ssrc k ps (Rtp now from view rate quick (Err refuse)) = ps
packets_next probation ssrc k ps (Reports now x seconds fraction) = ps
packets_next probation ssrc k ps (Leaves x) = ps
packets_next probation ssrc k ps (Sets x text answer) = ps
packets_next probation ssrc k ps (Block x now) = ps
packets_next probation ssrc k ps (Blocks now) = ps
packets_next probation ssrc k ps (Expires now timeout) = if was_gone k now timeout then [] else ps

-- the packets that were heard of a source since it was last added, the latest first
abbrev pub packets : ℕ → ℕ → List Call → List Packet
packets probation ssrc [] = []
packets probation ssrc (call ∷ before) =
    packets_next probation ssrc (alone probation ssrc before) (packets probation ssrc before) call

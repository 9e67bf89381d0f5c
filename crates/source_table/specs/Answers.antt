-- What a table answers to a packet and to a name, and what it becomes, as functions.
use Rattle.std.specs.Prelude.{◌≡◌, ℕ, ◌+◌, ◌&&◌, nat_eq, nat_lt, bytes_eq, if◌then◌else◌, Bool, false, List, length, Option, Some, None, Result, Ok, Err}
use Rattle.rtp_units.specs.declared.shared.Address.{Address}
use Rattle.source_table.specs.declared.source.Source.{Source}
use Rattle.source_table.specs.declared.source.Packet.{Packet}
use Rattle.source_table.specs.declared.source.Heard.{Heard}
use Rattle.source_table.specs.declared.answers.Refuse.{Refuse}
use Rattle.source_table.specs.declared.answers.Refuse.TheVariants.{Own, LimitSources, Collision, OutOfMemory}
use Rattle.source_table.specs.declared.answers.Named.{Named}
use Rattle.source_table.specs.declared.answers.Named.TheVariants.{Unknown, Same, Changed}
use Rattle.source_table.specs.Sources.{fresh, hear_next, hear_answer}
use Rattle.source_table.specs.Table.{Table, kept, name_of, with_source, named_next, Hears, Names}

abbrev pub is_address : Address → Address → Bool
is_address a b = nat_eq a.family b.family && bytes_eq a.ip b.ip && nat_eq a.port b.port

-- a kept source, or a new one that is first heard from this address
abbrev pub source_or : Address → Option Source → Source
source_or from None = fresh from
source_or from (Some s) = s

-- ---- a packet of RTP

abbrev pub heard_of_new : Table → Address → Packet → Result Heard Refuse
heard_of_new t from p =
    if nat_lt (length t.sources) 64 then Ok (hear_answer (fresh from) p) else Err LimitSources

abbrev pub heard_of_kept : Source → Address → Packet → Result Heard Refuse
heard_of_kept s from p =
    if is_address s.from from then Ok (hear_answer s p) else Err (Collision s.from from)

abbrev pub heard_by : Table → Option Source → Address → Packet → Result Heard Refuse
heard_by t None from p = heard_of_new t from p
heard_by t (Some s) from p = heard_of_kept s from p

-- what a packet of this SSRC, from this address, is to the table
abbrev pub heard : Table → Address → ℕ → Packet → Result Heard Refuse
heard t from ssrc p = if nat_eq ssrc t.own then Err Own else heard_by t (kept t ssrc) from p

abbrev pub heard_next_by : Table → Address → ℕ → Packet → Result Heard Refuse → Table
heard_next_by t from ssrc p (Ok heard) =
    record (with_source t ssrc (hear_next (source_or from (kept t ssrc)) p)) { heard = t.heard + 1 }
heard_next_by t from ssrc p (Err refuse) = t

-- the table after it
abbrev pub heard_next : Table → Address → ℕ → Packet → Table
heard_next t from ssrc p = heard_next_by t from ssrc p (heard t from ssrc p)

-- ---- a name

abbrev pub is_name : List ℕ → Option (List ℕ) → Bool
is_name text None = false
is_name text (Some name) = bytes_eq name text

abbrev pub named_by : Option Source → Option (List ℕ) → List ℕ → Named
named_by None name text = Unknown
named_by (Some s) name text = if is_name text name then Same else Changed

-- what a name of this SSRC is to the table
abbrev pub named : Table → ℕ → List ℕ → Named
named t ssrc text = named_by (kept t ssrc) (name_of t ssrc) text

abbrev pub name_next_by : Table → ℕ → List ℕ → Named → Table
name_next_by t ssrc text Changed = named_next t ssrc text
name_next_by t ssrc text named = t

-- the table after it
abbrev pub name_next : Table → ℕ → List ℕ → Table
name_next t ssrc text = name_next_by t ssrc text (named t ssrc text)

-- ---- that these are the only answers

-- an answer but want of memory
abbrev pub IsAnswer : Result Heard Refuse → Type 0
IsAnswer (Ok h) = Unit {0}
IsAnswer (Err Own) = Unit {0}
IsAnswer (Err LimitSources) = Unit {0}
IsAnswer (Err (Collision first other)) = Unit {0}
IsAnswer (Err OutOfMemory) = ⊥

-- A table that was told a packet, and not refused memory, answered and became what the functions
-- say.
abbrev pub IsOneHearing : Type 0
IsOneHearing =
    (t new : Table) (from : Address) (ssrc : ℕ) (p : Packet) (answer : Result Heard Refuse)
    → Hears t from ssrc p answer new → IsAnswer answer
    → (answer ≡ heard t from ssrc p) × (new ≡ heard_next t from ssrc p)

-- The same of a name.
abbrev pub IsOneNaming : Type 0
IsOneNaming =
    (t new : Table) (ssrc : ℕ) (text : List ℕ) (answer : Named) → Names t ssrc text answer new
    → (answer ≡ named t ssrc text) × (new ≡ name_next t ssrc text)

-- A table of sources in order of first sight, and what each call leaves of it.
use Rattle.std.specs.Prelude.{◌≡◌, ◌<◌, ◌≤◌, ℕ, ◌+◌, not, nat_eq, if◌then◌else◌, Bool, List, [], length, map, filter, filter_map, Option, Some, None, Result, Ok, Err, max}
use Rattle.std.specs.Map.{lookup}
use Rattle.std.specs.List.{list_any}
use Rattle.indexmap.specs.IndexMap.{insert_entry}
use Rattle.rtp_units.specs.declared.shared.Address.{Address}
use Rattle.rtcp_wire.specs.declared.block.ReportBlock.{ReportBlock}
use Rattle.rtp_wire.specs.Packet.{Packet as View}
use Rattle.source_table.specs.declared.source.Source.{Source}
use Rattle.source_table.specs.declared.source.Packet.{Packet}
use Rattle.source_table.specs.declared.source.Heard.{Heard}
use Rattle.source_table.specs.declared.answers.Refuse.{Refuse}
use Rattle.source_table.specs.declared.answers.Refuse.TheVariants.{Own, LimitSources, Collision, OutOfMemory}
use Rattle.source_table.specs.declared.answers.Named.{Named}
use Rattle.source_table.specs.declared.answers.Named.TheVariants.{Unknown, Same, Changed}
use Rattle.source_table.specs.Sources.{fresh, hear_next, hear_answer, is_gone, block_of, reported}

-- what a table keeps: its own SSRC, the setting of probation, how many packets it heard, the sources and their names
pub record Table : Type 0 where
  pub own : ℕ
  pub probation : ℕ
  pub heard : ℕ
  pub sources : List (ℕ × Source)
  pub names : List (ℕ × List ℕ)

abbrev pub empty : ℕ → ℕ → Table
empty own probation = record { own = own; probation = probation; heard = 0; sources = []; names = [] }

-- the source of this SSRC, where it is kept
abbrev pub kept : Table → ℕ → Option Source
kept t ssrc = lookup (nat_eq ssrc) t.sources

abbrev pub name_of : Table → ℕ → Option (List ℕ)
name_of t ssrc = lookup (nat_eq ssrc) t.names

-- A source that is not kept has no name.
abbrev pub IsNamed : Table → Type 0
IsNamed t = (ssrc : ℕ) → kept t ssrc ≡ None → name_of t ssrc ≡ None

-- how many consecutive packets make a source valid
abbrev pub needed : Table → Bool → ℕ
needed t quick = if quick then 1 else max t.probation 1

-- the packet that a view shows
abbrev pub packet_of : Table → ℕ → View → Option ℕ → Bool → Packet
packet_of t now view rate quick = record { arrival = now; seq = view.seq; timestamp = view.timestamp; rate = rate; needed = needed t quick }

-- the table with this source
abbrev pub with_source : Table → ℕ → Source → Table
with_source t ssrc s = record t { sources = insert_entry nat_eq t.sources ssrc s }

-- the table after a change of a source, where it is kept
abbrev pub changed_by : Table → ℕ → Option Source → (Source → Source) → Table
changed_by t ssrc None f = t
changed_by t ssrc (Some s) f = with_source t ssrc (f s)

abbrev pub changed : Table → ℕ → (Source → Source) → Table
changed t ssrc f = changed_by t ssrc (kept t ssrc) f

-- The packet is the source's, which is kept or can be added.
abbrev pub Takes : Table → ℕ → Address → Option Source → Source → Type 0
Takes t ssrc from None s = (length t.sources < 64) × (s ≡ fresh from)
Takes t ssrc from (Some k) s = (k.from ≡ from) × (s ≡ k)

-- What hearing a packet answered and left. A refusal leaves the table as it was.
abbrev pub Hears : Table → Address → ℕ → Packet → Result Heard Refuse → Table → Type 0
Hears t from ssrc p (Ok heard) new =
    (ssrc ≡ t.own → ⊥) × (s : Source) × Takes t ssrc from (kept t ssrc) s × (heard ≡ hear_answer s p) × (new ≡ record (with_source t ssrc (hear_next s p)) { heard = t.heard + 1 })
Hears t from ssrc p (Err Own) new = (ssrc ≡ t.own) × (new ≡ t)
Hears t from ssrc p (Err LimitSources) new = (ssrc ≡ t.own → ⊥) × (kept t ssrc ≡ None) × (64 ≤ length t.sources) × (new ≡ t)
Hears t from ssrc p (Err (Collision first other)) new =
    (ssrc ≡ t.own → ⊥) × (s : Source) × (kept t ssrc ≡ Some s) × (first ≡ s.from) × (other ≡ from) × (s.from ≡ from → ⊥) × (new ≡ t)
Hears t from ssrc p (Err OutOfMemory) new = new ≡ t

-- What hearing a packet of a kept source answered and left of it.
abbrev pub HearsKept : Source → Address → Packet → Result Heard Refuse → Source → Type 0
HearsKept s from p (Ok heard) new =
    (s.from ≡ from) × (heard ≡ hear_answer s p) × (new ≡ hear_next s p)
HearsKept s from p (Err (Collision first other)) new =
    (first ≡ s.from) × (other ≡ from) × (s.from ≡ from → ⊥) × (new ≡ s)
HearsKept s from p (Err refuse) new = ⊥

-- What hearing a packet of a source that is not kept answered and left of the sources.
abbrev pub HearsNew : List (ℕ × Source) → Address → ℕ → Packet → Result Heard Refuse → List (ℕ × Source) → Type 0
HearsNew es from ssrc p (Ok heard) new =
    (length es < 64) × (heard ≡ hear_answer (fresh from) p)
    × (new ≡ insert_entry nat_eq es ssrc (hear_next (fresh from) p))
HearsNew es from ssrc p (Err LimitSources) new = (64 ≤ length es) × (new ≡ es)
HearsNew es from ssrc p (Err OutOfMemory) new = new ≡ es
HearsNew es from ssrc p (Err refuse) new = ⊥

-- What hearing a packet of an SSRC answered and left of the sources, by the kept one.
abbrev pub HearsBy : Option Source → List (ℕ × Source) → Address → ℕ → Packet → Result Heard Refuse → List (ℕ × Source) → Type 0
HearsBy None es from ssrc p answer new = HearsNew es from ssrc p answer new
HearsBy (Some s) es from ssrc p answer new =
    (after : Source) × HearsKept s from p answer after
    × (new ≡ insert_entry nat_eq es ssrc after)

abbrev pub HearsIn : List (ℕ × Source) → Address → ℕ → Packet → Result Heard Refuse → List (ℕ × Source) → Type 0
HearsIn es from ssrc p answer new =
    HearsBy (lookup (nat_eq ssrc) es) es from ssrc p answer new

abbrev pub named_next : Table → ℕ → List ℕ → Table
named_next t ssrc text = record t { names = insert_entry nat_eq t.names ssrc text }

-- What setting a name answered and left.
abbrev pub Names : Table → ℕ → List ℕ → Named → Table → Type 0
Names t ssrc text Unknown new = (kept t ssrc ≡ None) × (new ≡ t)
Names t ssrc text Same new = (kept t ssrc ≡ None → ⊥) × (name_of t ssrc ≡ Some text) × (new ≡ t)
Names t ssrc text Changed new = (kept t ssrc ≡ None → ⊥) × (name_of t ssrc ≡ Some text → ⊥) × (new ≡ named_next t ssrc text)

-- the SSRCs that are removed, in table order
abbrev pub gone : Table → ℕ → ℕ → List ℕ
gone t now timeout = map (λ e. e.0) (filter (λ e. is_gone e.1 now timeout) t.sources)

-- the table without the sources that are gone, and without their names
abbrev pub expired : Table → ℕ → ℕ → Table
expired t now timeout = record t {
  sources = filter (λ e. not (is_gone e.1 now timeout)) t.sources;
  names = filter (λ e. not (list_any (nat_eq e.0) (gone t now timeout))) t.names;
}

abbrev pub block_in : Option Source → ℕ → ℕ → Option ReportBlock
block_in None ssrc now = None
block_in (Some s) ssrc now = block_of s ssrc now

-- the blocks of all sources that have one, in table order
abbrev pub blocks : Table → ℕ → List ReportBlock
blocks t now = filter_map (λ e. block_of e.1 e.0 now) t.sources

-- the table once they were made
abbrev pub all_reported : Table → Table
all_reported t = record t { sources = map (λ e. (e.0, reported e.1)) t.sources }

-- When a source becomes valid, by the packets that were heard of it since it was added.
use Rattle.std.specs.Prelude.{◌≡◌, ◌≤◌, ◌⊎◌, ◌↔◌, ℕ, Bool, List, [], ◌∷◌, map, Option, Some, Ok, IsSome}
use Rattle.std.specs.Option.{option_and_then}
use Rattle.rtp_units.specs.declared.shared.Address.{Address}
use Rattle.rtp_wire.specs.Packet.{Packet as View}
use Rattle.source_table.specs.declared.source.Source.{Source}
use Rattle.source_table.specs.declared.source.Packet.{Packet}
use Rattle.source_table.specs.declared.source.Heard.{Heard}
use Rattle.source_table.specs.declared.source.Heard.TheVariants.{Waiting, NowValid, Valid}
use Rattle.source_table.specs.Counting.{counts_begin}
use Rattle.source_table.specs.Probation.{AreConsecutive}
use Rattle.source_table.specs.Table.{Table, kept}
use Rattle.source_table.specs.History.{Call, Rtp, StandsFor, packet_by, packets}

abbrev pub numbers : List Packet → List ℕ
numbers ps = map (λ p. p.seq) ps

-- The last packets, as many as the latest one needs, have consecutive numbers.
abbrev pub IsRun : List Packet → Type 0
IsRun [] = ⊥
IsRun (p ∷ before) = AreConsecutive p.needed (numbers (p ∷ before))

-- That was so at one of the packets.
abbrev pub HadRun : List Packet → Type 0
HadRun [] = ⊥
HadRun (p ∷ before) = IsRun (p ∷ before) ⊎ HadRun before

-- A kept source is valid exactly if its packets had such a run. (Probation is at most 255.)
abbrev pub IsValidByRun : Type 0
IsValidByRun =
    (t : Table) (own probation : ℕ) (calls : List Call)
    → probation ≤ 255 → StandsFor t own probation calls
    → (ssrc : ℕ) (s : Source) → kept t ssrc ≡ Some s
    → IsSome s.counts ↔ HadRun (packets probation ssrc calls)

-- What a packet was to its source, by the packets before it: it makes the source valid where it is the
-- first that ends a run, and then the counts begin with it.
abbrev pub Tells : Heard → List Packet → Packet → Option Source → Type 0
Tells (Waiting broken) before p s = (HadRun before → ⊥) × (IsRun (p ∷ before) → ⊥)
Tells NowValid before p s =
    (HadRun before → ⊥) × IsRun (p ∷ before)
    × (option_and_then (λ x. x.counts) s ≡ Some (counts_begin p.seq))
Tells Valid before p s = HadRun before

abbrev pub IsValidFromRun : Type 0
IsValidFromRun =
    (t : Table) (own probation : ℕ) (calls : List Call) (now : ℕ) (from : Address) (view : View)
    (rate : Option ℕ) (quick : Bool) (heard : Heard)
    → probation ≤ 255
    → StandsFor t own probation (Rtp now from view rate quick (Ok heard) ∷ calls)
    → Tells heard (packets probation view.ssrc calls) (packet_by probation now view rate quick)
    (kept t view.ssrc)

-- That what a table keeps stays in its range, whatever it is told.
use Rattle.std.specs.Prelude.{ℕ, ◌<◌, ◌^◌, List, IfSome}
use Rattle.std.specs.List.{AllByRecursion}
use Rattle.source_table.specs.declared.source.Source.{Source}
use Rattle.source_table.specs.Table.{Table}
use Rattle.source_table.specs.History.{Call, Rtp, Reports, Leaves, Sets, Block, Blocks, Expires, StandsFor}
use Rattle.source_table.specs.Sources.{block_of}
use Rattle.source_table.specs.Ranges.{IsSourceOf, AreSourcesOf}

-- A packet's number has 16 bits.
abbrev pub HasNumber : Call → Type 0
HasNumber (Rtp now from view rate quick answer) = view.seq < 65536
HasNumber (Reports now ssrc seconds fraction) = Unit {0}
HasNumber (Leaves ssrc) = Unit {0}
HasNumber (Sets ssrc text answer) = Unit {0}
HasNumber (Block ssrc now) = Unit {0}
HasNumber (Blocks now) = Unit {0}
HasNumber (Expires now timeout) = Unit {0}

-- Each source of a table is in the range that as many packets leave as the table heard.
abbrev pub StayInRange : Type 0
StayInRange =
    (t : Table) (own probation : ℕ) (calls : List Call) → StandsFor t own probation calls
    → AllByRecursion HasNumber calls → AreSourcesOf t.heard t.sources

-- A block of a source in its range fits its fields.
abbrev pub FitTheirFields : Type 0
FitTheirFields =
    (n : ℕ) (s : Source) (ssrc now : ℕ) → IsSourceOf n s
    → IfSome (block_of s ssrc now) (λ b. (b.fraction < 2 ^ 8) × (b.jitter < 2 ^ 32))

-- The ranges of what a table keeps, by how many packets it heard.
use Rattle.std.specs.Prelude.{ℕ, ◌+◌, ◌*◌, ◌^◌, ◌≤◌, List, Option, Some, None}
use Rattle.std.specs.List.{AllByRecursion}
use Rattle.source_table.specs.declared.counts.Counts.{Counts}
use Rattle.source_table.specs.declared.source.Source.{Source}
use Rattle.source_table.specs.Counting.{expected_of}

-- Counts of at most n packets. A packet in order is less than 3000 ahead, and nothing is expected
-- since the last block where nothing was received.
pub record AreCountsOf (n : ℕ) (c : Counts) : Type 0 where
  pub base : c.base ≤ c.greatest
  pub greatest : c.greatest ≤ 3000 * n + 65535
  pub received : c.received ≤ n
  pub prior_expected : c.prior_expected ≤ 3000 * n + 65536
  pub prior_received : c.prior_received ≤ c.received
  pub interval : c.received ≤ c.prior_received → expected_of c ≤ c.prior_expected

-- the same of counts that begin once the source is valid
abbrev pub AreCountsIn : ℕ → Option Counts → Type 0
AreCountsIn n None = Unit {0}
AreCountsIn n (Some c) = AreCountsOf n c

-- A source of at most n packets. Its jitter stays below 2^31 + 1 ticks.
pub record IsSourceOf (n : ℕ) (s : Source) : Type 0 where
  pub counts : AreCountsIn n s.counts
  pub jitter : s.jitter.sixteenths ≤ 34359738375

abbrev pub AreSourcesOf : ℕ → List (ℕ × Source) → Type 0
AreSourcesOf n es = AllByRecursion (λ e. IsSourceOf n e.1) es

-- A table hears at most 2^40 packets, and its sources are such as these leave.
pub record AreInRange (heard : ℕ) (es : List (ℕ × Source)) : Type 0 where
  pub few : heard ≤ 2 ^ 40
  pub sources : AreSourcesOf heard es

use Rattle.std.proofs.Common.{ℕ, ◌≡◌, List, ltb, ltb-true, ltb-false, lt-ltb, inl, inr, arith, rules}
use Rattle.std.specs.List.Sorted.{IsPartitionedBy}
use Rattle.std.proofs.lemmas.Bool.{cases_lt}
use Rattle.std.proofs.lemmas.List.Sorted.{IsPartitionPoint-from_clause}
use Rattle.jitter_core.specs.declared.peaks.Peak.{Peak}
use Rattle.jitter_core.specs.Peaks.{ArePeaksRising}
use Rattle.jitter_core.proofs.peaks.count_below.Goals as goal

parted : (ps : List Peak) (n : ℕ) → ArePeaksRising ps → IsPartitionedBy (λ p. ltb p.number n) ps
parted ps n rising i j d le lt e =
    elim (cases_lt i j) [
      | inl before ↦ let a = rising i j d before lt in let b = ltb-true _ n e in lt-ltb _ n (omega arith)
      | inr after ↦ let same : j ≡ i = omega arith in rw same at e
    ]

pub returns : goal.returns
returns c =
    let point = IsPartitionPoint-from_clause (λ (p : Peak). ltb p.number c.args.number) _ _ c.partition_point.ensures.partitioned (parted _ c.args.number c.requires) (λ a r q k. search rules) in
    record {
      most = c.partition_point.ensures.bound;
      below = λ k d from to. ltb-true _ _ (point.0 k d from to);
      others = λ k d from to. ltb-false _ _ (point.1 k d from (omega arith));
    }

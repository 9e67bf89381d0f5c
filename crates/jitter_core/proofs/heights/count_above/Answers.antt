use Rattle.std.proofs.Common.{ℕ, ◌≡◌, List, ltb, ltb-true, ltb-false, lt-ltb, inl, inr, arith, rules}
use Rattle.std.specs.List.Sorted.{IsPartitionedBy}
use Rattle.std.proofs.lemmas.Bool.{cases_lt}
use Rattle.std.proofs.lemmas.List.Sorted.{IsPartitionPoint-from_clause}
use Rattle.jitter_model.specs.declared.Mark.{Mark}
use Rattle.jitter_core.specs.Marks.{AreMarksFalling}
use Rattle.jitter_core.proofs.heights.count_above.Goals as goal

parted : (ms : List Mark) (n : ℕ) → AreMarksFalling ms → IsPartitionedBy (λ m. ltb n m.number) ms
parted ms n falling i j d le lt e =
    elim (cases_lt i j) [
      | inl before ↦ let a = falling i j d before lt in let b = ltb-true n _ e in lt-ltb n _ (omega arith)
      | inr after ↦ let same : j ≡ i = omega arith in rw same at e
    ]

pub returns : goal.returns
returns c =
    let point = IsPartitionPoint-from_clause (λ (m : Mark). ltb c.args.n m.number) _ _ c.partition_point.ensures.partitioned (parted _ c.args.n c.requires) (λ a r q k. search rules) in
    record {
      most = c.partition_point.ensures.bound;
      above = λ k d from to. ltb-true _ _ (point.0 k d from to);
      others = λ k d from to. ltb-false _ _ (point.1 k d from (omega arith));
    }

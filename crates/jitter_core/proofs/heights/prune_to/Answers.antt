use Rattle.std.proofs.Common.{◌≡◌, ◌∷◌, [], ◌++◌, Option, ◌-◌, ◌∙◌, sym, ap, arith}
use Rattle.std.specs.Prelude.{option_to_list, slice_index_or}
use Rattle.jitter_model.specs.declared.Mark.{Mark}
use Rattle.jitter_core.proofs.Searching.{two_popped, falling_popped, two_whole, two_short}
use Rattle.jitter_core.proofs.heights.prune_to.Goals as goal

pub loop-marks-preserved : goal.loop-marks-preserved
loop-marks-preserved c =
    let old = c.loop-marks.marks.items in
    let new = c.pop_back.new.self.items in
    let x = c.index.result.now in
    let z = slice_index_or old (c.loop-marks.marks.len - 1) x in
    let is : old ≡ new ++ z ∷ [] = c.pop_back.ensures.items ∙ ap (λ (o : Option Mark). new ++ option_to_list o) (c.pop_back.ensures.value x (omega arith)) in
    record {
      rest = two_popped c.args.next old new z x _ is (omega arith) (omega arith) c.index.ensures (omega arith) ∙ c.loop-marks.invariant.rest;
      falling = falling_popped old new z is c.loop-marks.invariant.falling;
      capacity = c.pop_back.ensures.capacity ∙ c.loop-marks.invariant.capacity;
    }

pub returns-else-index-next-clause-items : goal.returns-else-index-next-clause-items
returns-else-index-next-clause-items c =
    sym (two_whole c.args.next c.loop-marks.marks.items c.index.result.now _ c.loop-marks.invariant.falling (omega arith) c.index.ensures (omega arith)) ∙ c.loop-marks.invariant.rest

pub returns-after-loop-marks-clause-items : goal.returns-after-loop-marks-clause-items
returns-after-loop-marks-clause-items c =
    sym (two_short c.args.next c.loop-marks.marks.items (omega arith)) ∙ c.loop-marks.invariant.rest

use Rattle.std.proofs.Common.{◌++◌, ◌∙◌, ◌∷◌, [], sym, ap}
use Rattle.depay.specs.declared.outcome.Outcome.{Outcome}
use Rattle.depay.specs.Aggregate.{units_in}
use Rattle.depay.specs.Outcomes.{single_unit}
use Rattle.depay.specs.Shapes.{packet_of}
use Rattle.depay.proofs.Splitting.{is_some-split, made, made_more, made_all}
use Rattle.depay.proofs.aggregate.push_units.Goals as goal

pub loop-unit-preserved : goal.loop-unit-preserved
loop-unit-preserved c =
    let f = single_unit (packet_of c.args.packet.now) in
    let out = c.loop-unit.outcomes.items in
    record {
      left = sym (is_some-split c.loop-unit.rest.now c.in-Some.unit.now c.in-Some.after.now c.in-Some.ensures) ∙ c.loop-unit.invariant.left;
      all = made_more f c.loop-unit.rest.now c.in-Some.unit.now c.in-Some.after.now out c.push.new.self.items (c.args.outcomes.now.items ++ made f (units_in c.args.bytes.now))
          c.in-Some.ensures c.loop-unit.invariant.left (c.in_ok-push.ensures.items ∙ ap (λ (x : Outcome). out ++ x ∷ []) c.in_ok-single.ensures) c.loop-unit.invariant.all;
    }

pub returns : goal.returns
returns c =
    let f = single_unit (packet_of c.args.packet.now) in
    made_all f c.loop-unit.rest.now c.loop-unit.outcomes.items (c.args.outcomes.now.items ++ made f (units_in c.args.bytes.now)) c.in_default.ensures c.loop-unit.invariant.left c.loop-unit.invariant.all

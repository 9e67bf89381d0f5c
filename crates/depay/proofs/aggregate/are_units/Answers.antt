use Rattle.std.proofs.Common.{◌∙◌, sym}
use Rattle.depay.proofs.Splitting.{is_some-split, is_some-bad, is_some-end}
use Rattle.depay.proofs.aggregate.are_units.Goals as goal

pub loop-rest-preserved : goal.loop-rest-preserved
loop-rest-preserved c = c.loop-rest.invariant ∙ is_some-split c.loop-rest.rest.now c.in-Some.field-0-0.now c.in-Some.after.now c.in-Some.ensures

pub returns-in-None : goal.returns-in-None
returns-in-None c = sym (c.loop-rest.invariant ∙ is_some-bad c.loop-rest.rest.now (sym c.is_empty.ensures ∙ c.loop-rest-test.true) c.in-None.ensures)

pub returns : goal.returns
returns c = sym (c.loop-rest.invariant ∙ is_some-end c.loop-rest.rest.now (sym c.is_empty.ensures ∙ c.loop-rest-test.false))

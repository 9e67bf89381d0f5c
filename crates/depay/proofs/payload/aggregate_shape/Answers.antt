use Rattle.std.proofs.Common.{◌∙◌, sym, ap}
use Rattle.depay.specs.Aggregate.{is_filled}
use Rattle.depay.proofs.Shaping.{aggregate_size, aggregate_is}
use Rattle.depay.proofs.payload.aggregate_shape.Goals as goal

pub returns-then-not-is_filled : goal.returns-then-not-is_filled
returns-then-not-is_filled c =
    aggregate_size c.args.payload.now c.requires.filled c.requires.kind (ap is_filled (sym c.behind_first-units.ensures) ∙ sym c.is_filled.ensures ∙ c.if-not-is_filled.true)

pub returns : goal.returns
returns c = aggregate_is c.args.payload.now c.requires.filled c.requires.kind (ap is_filled (sym c.behind_first-units.ensures) ∙ sym c.is_filled.ensures ∙ c.if-not-is_filled.false)

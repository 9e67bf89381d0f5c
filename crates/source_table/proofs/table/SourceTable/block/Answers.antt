use Rattle.std.proofs.Common.{refl, sym, ap, subst, ◌∙◌}
use Rattle.source_table.specs.Table.{Table, kept}
use Rattle.source_table.specs.Sources.{reported}
use Rattle.source_table.specs.History.{Block}
use Rattle.source_table.specs.Ranges.{IsSourceOf}
use Rattle.source_table.proofs.Ranging.{found_in, put_range, small_source, reported_in}
use Rattle.source_table.proofs.Standing.{rests, changes}
use Rattle.source_table.proofs.table.SourceTable.block.Goals as goal

pub block-block-requires : goal.block-block-requires
block-block-requires c = small_source c.self.inside.heard c.self.inside.sources.entries c.args.ssrc c.in-Some.source.now c.self.invariant c.in-Some.ensures.value

pub after_block-after-requires : goal.after_block-after-requires
after_block-after-requires c = small_source c.self.inside.heard c.self.inside.sources.entries c.args.ssrc c.in-Some.source.now c.self.invariant c.in-Some.ensures.value

pub invariant_of-self : goal.invariant_of-self
invariant_of-self c =
    put_range c.self.inside.heard c.self.inside.sources.entries _ c.args.ssrc _ c.self.invariant c.replace.ensures
    (subst (IsSourceOf c.self.inside.heard) (sym c.after_block-after.ensures) (reported_in c.self.inside.heard c.in-Some.source.now (found_in c.self.inside.heard c.self.inside.sources.entries c.args.ssrc c.in-Some.source.now c.self.invariant.sources (sym c.in-Some.ensures.value))))

pub returns-in-None-clause-stands : goal.returns-in-None-clause-stands
returns-in-None-clause-stands c =
    rests c.args.self.now (Block c.args.ssrc c.args.now) c.args.ssrc (reported) (ap (λ (t : Table). kept t c.args.ssrc) (sym c.self.view_is) ∙ sym c.in-None.ensures.value) refl tt

pub returns-in-Some-clause-stands : goal.returns-in-Some-clause-stands
returns-in-Some-clause-stands c = rw (← c.self.view_is) (changes _ (Block c.args.ssrc c.args.now) c.args.ssrc (reported) c.in-Some.source.now _ _ (sym c.in-Some.ensures.value) c.replace.ensures c.after_block-after.ensures refl tt)

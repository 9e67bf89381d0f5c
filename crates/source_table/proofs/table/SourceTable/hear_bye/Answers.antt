use Rattle.std.proofs.Common.{refl, sym, ap, subst, ◌∙◌}
use Rattle.source_table.specs.Table.{Table, kept}
use Rattle.source_table.specs.Sources.{left_next}
use Rattle.source_table.specs.History.{Leaves}
use Rattle.source_table.specs.Ranges.{IsSourceOf}
use Rattle.source_table.proofs.Ranging.{found_in, put_range, left_in}
use Rattle.source_table.proofs.Standing.{rests, changes}
use Rattle.source_table.proofs.table.SourceTable.hear_bye.Goals as goal

pub invariant_of-self : goal.invariant_of-self
invariant_of-self c =
    put_range c.self.inside.heard c.self.inside.sources.entries _ c.args.ssrc _ c.self.invariant c.replace.ensures
    (subst (IsSourceOf c.self.inside.heard) (sym refl) (left_in c.self.inside.heard c.in-Some.source.now (found_in c.self.inside.heard c.self.inside.sources.entries c.args.ssrc c.in-Some.source.now c.self.invariant.sources (sym c.in-Some.ensures.value))))

pub returns-in-None-clause-stands : goal.returns-in-None-clause-stands
returns-in-None-clause-stands c =
    rests c.args.self.now (Leaves c.args.ssrc) c.args.ssrc (left_next) (ap (λ (t : Table). kept t c.args.ssrc) (sym c.self.view_is) ∙ sym c.in-None.ensures.value) refl tt

pub returns-in-Some-clause-stands : goal.returns-in-Some-clause-stands
returns-in-Some-clause-stands c = rw (← c.self.view_is) (changes _ (Leaves c.args.ssrc) c.args.ssrc (left_next) c.in-Some.source.now _ _ (sym c.in-Some.ensures.value) c.replace.ensures refl refl tt)

use Rattle.std.proofs.Common.{refl, sym, ap, subst, ◌∙◌}
use Rattle.source_table.specs.Table.{Table, kept}
use Rattle.source_table.specs.Sources.{report_next}
use Rattle.source_table.specs.History.{Reports}
use Rattle.source_table.specs.Ranges.{IsSourceOf}
use Rattle.source_table.proofs.Ranging.{found_in, put_range, report_in}
use Rattle.source_table.proofs.Standing.{rests, changes}
use Rattle.source_table.proofs.table.SourceTable.hear_sr.Goals as goal

pub invariant_of-self : goal.invariant_of-self
invariant_of-self c =
    put_range c.self.inside.heard c.self.inside.sources.entries _ c.args.ssrc _ c.self.invariant c.replace.ensures
    (subst (IsSourceOf c.self.inside.heard) (sym c.reported_by-after.ensures) (report_in c.self.inside.heard c.in-Some.source.now c.args.now c.args.seconds c.args.fraction (found_in c.self.inside.heard c.self.inside.sources.entries c.args.ssrc c.in-Some.source.now c.self.invariant.sources (sym c.in-Some.ensures.value))))

pub returns-in-None-clause-stands : goal.returns-in-None-clause-stands
returns-in-None-clause-stands c =
    rests c.args.self.now (Reports c.args.now c.args.ssrc c.args.seconds c.args.fraction) c.args.ssrc (λ s. report_next s c.args.now c.args.seconds c.args.fraction) (ap (λ (t : Table). kept t c.args.ssrc) (sym c.self.view_is) ∙ sym c.in-None.ensures.value) refl tt

pub returns-in-Some-clause-stands : goal.returns-in-Some-clause-stands
returns-in-Some-clause-stands c = rw (← c.self.view_is) (changes _ (Reports c.args.now c.args.ssrc c.args.seconds c.args.fraction) c.args.ssrc (λ s. report_next s c.args.now c.args.seconds c.args.fraction) c.in-Some.source.now _ _ (sym c.in-Some.ensures.value) c.replace.ensures c.reported_by-after.ensures refl tt)

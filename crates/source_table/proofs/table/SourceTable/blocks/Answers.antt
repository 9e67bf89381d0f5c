use Rattle.std.proofs.Common.{sym, subst, List}
use Rattle.std.specs.List.{AllByRecursion}
use Rattle.rtcp_wire.specs.declared.block.ReportBlock.{ReportBlock}
use Rattle.rtcp_wire.specs.Written.{LossFits}
use Rattle.source_table.specs.History.{Blocks}
use Rattle.source_table.specs.Ranges.{AreSourcesOf}
use Rattle.source_table.proofs.Blocks.{blocks_fit}
use Rattle.source_table.proofs.Ranging.{all_reported_in, small_sources}
use Rattle.source_table.proofs.Standing.{extends}
use Rattle.source_table.proofs.table.SourceTable.blocks.Goals as goal

pub blocks_of-requires : goal.blocks_of-requires
blocks_of-requires c = small_sources c.self.inside.heard c.self.inside.sources.entries c.self.invariant

pub begin_intervals-requires : goal.begin_intervals-requires
begin_intervals-requires c = small_sources c.self.inside.heard c.self.inside.sources.entries c.self.invariant

pub invariant_of-self : goal.invariant_of-self
invariant_of-self c = record {
  few = c.self.invariant.few;
  sources = subst (AreSourcesOf c.self.inside.heard) (sym c.begin_intervals.ensures) (all_reported_in c.self.inside.heard c.self.inside.sources.entries c.self.invariant.sources);
}

pub returns-clause-stands : goal.returns-clause-stands
returns-clause-stands c =
    rw (← c.self.view_is) (extends _ (Blocks c.args.now) _ (λ i. record {
      own = c.self.inside.own;
      probation = c.self.inside.probation;
      heard = c.self.inside.heard;
      sources = c.begin_intervals.ensures i;
      names = c.self.inside.names.entries;
    }) tt)

pub returns-clause-fits : goal.returns-clause-fits
returns-clause-fits c =
    subst (λ (bs : List ReportBlock). AllByRecursion LossFits bs) (sym c.in_ok-blocks.ensures) (blocks_fit c.args.now c.self.inside.sources.entries)

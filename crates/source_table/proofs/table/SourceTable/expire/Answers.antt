use Rattle.std.proofs.Common.{sym, subst, ◌∙◌, ap, not, nat_eq, List, ℕ, filter}
use Rattle.std.specs.List.{list_any}
use Rattle.source_table.specs.Sources.{is_gone}
use Rattle.source_table.specs.History.{Expires}
use Rattle.source_table.specs.Ranges.{AreSourcesOf}
use Rattle.source_table.proofs.Ranging.{filtered_in}
use Rattle.source_table.proofs.Standing.{extends}
use Rattle.source_table.proofs.table.SourceTable.expire.Goals as goal

pub returns-clause-ok : goal.returns-clause-ok
returns-clause-ok c =
    let names = c.keep_names.ensures ∙ ap (λ (g : List ℕ). filter (λ e. not (list_any (nat_eq e.0) g)) c.self.inside.names.entries) (c.as_slice.ensures.value ∙ c.in_ok-ssrcs.ensures) in
    rw (← c.self.view_is) (
      c.in_ok-ssrcs.ensures,
      λ i. record {
        own = c.self.inside.own;
        probation = c.self.inside.probation;
        heard = c.self.inside.heard;
        sources = c.keep_sources.ensures i;
        names = names i;
      },
    )

pub invariant_of-self : goal.invariant_of-self
invariant_of-self c = record {
  few = c.self.invariant.few;
  sources = subst (AreSourcesOf c.self.inside.heard) (sym c.keep_sources.ensures)
      (filtered_in c.self.inside.heard (λ e. not (is_gone e.1 c.args.now c.args.timeout)) c.self.inside.sources.entries c.self.invariant.sources);
}

pub returns-clause-stands : goal.returns-clause-stands
returns-clause-stands c =
    let names = c.keep_names.ensures ∙ ap (λ (g : List ℕ). filter (λ e. not (list_any (nat_eq e.0) g)) c.self.inside.names.entries) (c.as_slice.ensures.value ∙ c.in_ok-ssrcs.ensures) in
    rw (← c.self.view_is) (extends _ (Expires c.args.now c.args.timeout) _ (λ i. record {
      own = c.self.inside.own;
      probation = c.self.inside.probation;
      heard = c.self.inside.heard;
      sources = c.keep_sources.ensures i;
      names = names i;
    }) tt)

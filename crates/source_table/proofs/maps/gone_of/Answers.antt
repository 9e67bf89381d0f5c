use Rattle.std.proofs.Common.{◌∙◌, ◌++◌, ◌∷◌, [], ℕ, List, sym, ap}
use Rattle.source_table.specs.Sources.{is_gone}
use Rattle.source_table.proofs.Gone.{gone_more, gone_same}
use Rattle.source_table.proofs.maps.gone_of.Goals as goal
use Rattle.source_table.proofs.maps.gone_of.Goals.{then-is_gone+in_ok-push, else-is_gone}

pub loop-i-preserved : goal.loop-i-preserved
loop-i-preserved c =
    elim c.if-is_gone.branch [
      | then-is_gone+in_ok-push w ↦
          ap (λ v. v.items) w.ssrcs-is ∙ w.in_ok-push.ensures.items ∙ ap (λ (xs : List ℕ). xs ++ c.entry_at-ssrc.result.0 ∷ []) c.loop-i.invariant
          ∙ sym (gone_more (λ e. is_gone e.1 c.args.now c.args.timeout) c.args.sources.now.entries c.loop-i.i c.entry_at-ssrc.result c.entry_at-ssrc.ensures (sym c.is_gone.ensures ∙ w.if-is_gone.true))
      | else-is_gone w ↦
          ap (λ v. v.items) w.ssrcs-is ∙ c.loop-i.invariant
          ∙ sym (gone_same (λ e. is_gone e.1 c.args.now c.args.timeout) c.args.sources.now.entries c.loop-i.i c.entry_at-ssrc.result c.entry_at-ssrc.ensures (sym c.is_gone.ensures ∙ w.if-is_gone.false))
    ]

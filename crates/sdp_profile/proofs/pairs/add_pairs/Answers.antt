use Rattle.std.proofs.Common.{sym, ◌∙◌, ap, subst, arith, drop, get_or, ◌++◌, [], ◌+◌}
use Rattle.std.specs.List.{cons_option}
use Rattle.std.proofs.lemmas.Option.{none-some}
use Rattle.sdp_profile.specs.declared.attribute.Attribute.TheVariants as attribute
use Rattle.sdp_profile.specs.declared.attribute.Placed.{Placed}
use Rattle.sdp_profile.specs.Pairs.{cause_of_pair}
use Rattle.sdp_profile.proofs.PairLemmas.{PairsSoFar, line_added, line_refused, no_lines}
use Rattle.sdp_profile.proofs.pairs.add_pairs.Goals as goal

pub returns-in-Some : goal.returns-in-Some
returns-in-Some c =
    let d : Placed = record { line = 0; attribute = attribute.Mux } in (
      line_refused c.loop-placed.fids.items c.args.fids.now.items c.args.session c.loop-placed.placed-index d c.args.lines.now c.in-Some.cause (omega arith) c.loop-placed.invariant
          (ap (λ fs. cause_of_pair fs c.args.session (get_or c.args.lines.now c.loop-placed.placed-index d).attribute) (sym c.deref.ensures.value) ∙ sym c.cause_of_pair.ensures ∙ c.in-Some.is),
      λ e. absurd (none-some _ (sym e)),
    )

pub loop-placed-preserved : goal.loop-placed-preserved
loop-placed-preserved c =
    let d : Placed = record { line = 0; attribute = attribute.Mux } in
    subst (λ fs. PairsSoFar fs c.args.fids.now.items c.args.session (drop (c.loop-placed.placed-index + 1) c.args.lines.now) c.args.lines.now)
    (sym (c.in_ok-add_fid.ensures ∙ ap (λ o. c.loop-placed.fids.items ++ cons_option o []) c.fid_in.ensures))
    (line_added c.loop-placed.fids.items c.args.fids.now.items c.args.session c.loop-placed.placed-index d c.args.lines.now (omega arith) c.loop-placed.invariant
    (ap (λ fs. cause_of_pair fs c.args.session (get_or c.args.lines.now c.loop-placed.placed-index d).attribute) (sym c.deref.ensures.value) ∙ sym c.cause_of_pair.ensures ∙ c.in_default.is))

pub returns : goal.returns
returns c =
    let h = no_lines c.loop-placed.fids.items c.args.fids.now.items c.args.session c.loop-placed.placed-index c.args.lines.now (omega arith) c.loop-placed.invariant in
    (h.0, λ _. h.1)

use Rattle.std.proofs.Common.{◌≡◌, ℕ, ◌^◌, ◌<◌, false, refl, sym, ap, ◌∙◌, subst, arith, to_z, of_z}
use mir.Syntax.{w64}
use Rattle.std.specs.Prelude.{⊤, MatchOption, option_map}
use Rattle.std.proofs.lemmas.Int.{ints}
use Rattle.rtp_units.specs.Numbers.{ext32}
use Rattle.skew_estimator.specs.Estimator.{estimator, StandsFor, cut, height}
use Rattle.skew_estimator.specs.Segment.{estimate_of, with_latest, IsKept}
use Rattle.skew_estimator.proofs.Stands.{stands-step, jump-is, cut-kept, within-more}
use Rattle.skew_estimator.proofs.skew.Skew.jump.Goals as goal

pub invariant_of-self : goal.invariant_of-self
invariant_of-self c =
    let s = c.self.inside in let b = c.in-Some.before in let n : ℕ = s.heights in let t = c.extended-timestamp.result in
    let kept = subst (λ z. MatchOption z ⊤ (λ g. IsKept g s.window n)) c.in-Some.is c.self.invariant.2 in
    let few : n < 2 ^ 31 = subst (λ v. v.heights < 2 ^ 31) (sym c.self.view_is) c.requires.heights in
    let l0 = kept.latest.from in let l1 = kept.latest.to in let above = c.extended-timestamp.ensures.above in let below = c.extended-timestamp.ensures.below in
    let same : to_z w64 (of_z w64 t) ≡ t = omega (arith, ints) in
    rw c.with_latest-after.ensures (
      c.self.invariant.0,
      omega arith,
      record { start = within-more b.start n kept.start; latest = rw same (record { from = omega (arith, ints); to = omega (arith, ints) }); near = kept.near; fitted = kept.fitted },
    )

pub returns-clause-stands : goal.returns-clause-stands
returns-clause-stands c = λ heights arrival st.
    let s = c.self.inside in let b = c.in-Some.before in let n : ℕ = s.heights in let t = c.extended-timestamp.result in let rtp = c.args.rtp in
    let kept = subst (λ z. MatchOption z ⊤ (λ g. IsKept g s.window n)) c.in-Some.is c.self.invariant.2 in
    let few : n < 2 ^ 31 = subst (λ v. v.heights < 2 ^ 31) (sym c.self.view_is) c.requires.heights in
    let l0 = kept.latest.from in let l1 = kept.latest.to in let above = c.extended-timestamp.ensures.above in let below = c.extended-timestamp.ensures.below in
    let same : to_z w64 (of_z w64 t) ≡ t = omega (arith, ints) in
    let same_latest : to_z w64 (of_z w64 b.latest) ≡ b.latest = omega (arith, ints) in
    let value : t ≡ ext32 b.latest rtp = c.extended-timestamp.ensures.value ∙ ap (λ z. ext32 z rtp) same_latest in
    let e = estimate_of b s.window in
    let after = c.with_latest-after.ensures ∙ ap (with_latest b) same in
    let step = ap (λ g. estimate_of g s.window) after ∙ cut-kept (with_latest b t) s.window kept.fitted ∙ ap cut (jump-is s.mode s.rate e rtp arrival t value) in
    stands-step (estimator s.rate s.mode n (option_map (λ g. estimate_of g s.window) s.segment)) _ e (estimate_of c.with_latest-after.result s.window) (height rtp arrival false) heights
    (ap (option_map (λ g. estimate_of g s.window)) c.in-Some.is) refl step refl refl refl (subst (λ v. StandsFor v heights) (sym c.self.view_is) st)

use Rattle.std.proofs.Common.{◌≡◌, ℕ, ◌^◌, ◌<◌, true, refl, sym, ap, ◌∙◌, subst, inl, inr, arith, to_z, of_z}
use mir.Syntax.{w64}
use Rattle.std.specs.Prelude.{⊤, MatchOption, option_map}
use Rattle.std.proofs.lemmas.Int.{ints}
use Rattle.rtp_units.specs.Numbers.{ext32}
use Rattle.skew_model.specs.Skew.{time_at}
use Rattle.skew_estimator.specs.Estimator.{estimator, StandsFor, cut, height}
use Rattle.skew_estimator.specs.Segment.{estimate_of, in_mode, IsKept}
use Rattle.skew_estimator.proofs.Stands.{stands-step, time-step, in_mode-is}
use Rattle.skew_estimator.proofs.skew.Skew.in_order.Goals as goal

pub time_of-requires-clause-start_from : goal.time_of-requires-clause-start_from
time_of-requires-clause-start_from c =
    let s = c.self.inside in let b = c.in-Some.before in let n : ℕ = s.heights in let t = c.extended-timestamp.result in
    let kept = subst (λ z. MatchOption z ⊤ (λ g. IsKept g s.window n)) c.in-Some.is c.self.invariant.2 in
    let few : n < 2 ^ 31 = subst (λ v. v.heights < 2 ^ 31) (sym c.self.view_is) c.requires.heights in
    let l0 = kept.latest.from in let l1 = kept.latest.to in let s0 = kept.start.from in let s1 = kept.start.to in
    let above = c.extended-timestamp.ensures.above in let below = c.extended-timestamp.ensures.below in
    elim c.advance-after.ensures.start [ inl e ↦ omega (arith, ints) | inr e ↦ omega (arith, ints) ]

pub time_of-requires-clause-from : goal.time_of-requires-clause-from
time_of-requires-clause-from c =
    let s = c.self.inside in let n : ℕ = s.heights in
    let kept = subst (λ z. MatchOption z ⊤ (λ g. IsKept g s.window n)) c.in-Some.is c.self.invariant.2 in
    let few : n < 2 ^ 31 = subst (λ v. v.heights < 2 ^ 31) (sym c.self.view_is) c.requires.heights in
    let l0 = kept.latest.from in let l1 = kept.latest.to in let above = c.extended-timestamp.ensures.above in let below = c.extended-timestamp.ensures.below in
    omega (arith, ints)

pub invariant_of-self : goal.invariant_of-self
invariant_of-self c =
    let s = c.self.inside in let b = c.in-Some.before in let n : ℕ = s.heights in let t = c.extended-timestamp.result in
    let kept = subst (λ z. MatchOption z ⊤ (λ g. IsKept g s.window n)) c.in-Some.is c.self.invariant.2 in
    let few : n < 2 ^ 31 = subst (λ v. v.heights < 2 ^ 31) (sym c.self.view_is) c.requires.heights in
    let l0 = kept.latest.from in let l1 = kept.latest.to in let s0 = kept.start.from in let s1 = kept.start.to in
    let above = c.extended-timestamp.ensures.above in let below = c.extended-timestamp.ensures.below in
    let latest = c.advance-after.ensures.latest in (
      c.self.invariant.0,
      omega arith,
      record {
        start = elim c.advance-after.ensures.start [
          | inl e ↦ record { from = omega (arith, ints); to = omega (arith, ints) }
          | inr e ↦ record { from = omega (arith, ints); to = omega (arith, ints) }
        ];
        latest = record { from = omega (arith, ints); to = omega (arith, ints) };
        near = c.advance-after.ensures.near;
        fitted = c.advance-after.ensures.fitted;
      },
    )

pub returns-clause-stands : goal.returns-clause-stands
returns-clause-stands c = λ heights st.
    let s = c.self.inside in let b = c.in-Some.before in let n : ℕ = s.heights in let t = c.extended-timestamp.result in let rtp = c.args.rtp in
    let kept = subst (λ z. MatchOption z ⊤ (λ g. IsKept g s.window n)) c.in-Some.is c.self.invariant.2 in
    let few : n < 2 ^ 31 = subst (λ v. v.heights < 2 ^ 31) (sym c.self.view_is) c.requires.heights in
    let l0 = kept.latest.from in let l1 = kept.latest.to in let above = c.extended-timestamp.ensures.above in let below = c.extended-timestamp.ensures.below in
    let same : to_z w64 (of_z w64 t) ≡ t = omega (arith, ints) in
    let same_latest : to_z w64 (of_z w64 b.latest) ≡ b.latest = omega (arith, ints) in
    let value : t ≡ ext32 b.latest rtp = c.extended-timestamp.ensures.value ∙ ap (λ z. ext32 z rtp) same_latest in
    let e = estimate_of b s.window in
    let step = c.advance-after.ensures.estimate ∙ ap (λ z. cut (in_mode s.mode s.rate e c.args.arrival z)) same ∙ ap cut (in_mode-is s.mode s.rate e rtp c.args.arrival t value) in
    stands-step (estimator s.rate s.mode n (option_map (λ g. estimate_of g s.window) s.segment)) _ e (estimate_of c.advance-after.result c.advance-after.new.window) (height rtp c.args.arrival true) heights
    (ap (option_map (λ g. estimate_of g s.window)) c.in-Some.is) refl step refl refl refl (subst (λ v. StandsFor v heights) (sym c.self.view_is) st)

pub returns-clause-time : goal.returns-clause-time
returns-clause-time c = λ heights st.
    let s = c.self.inside in let b = c.in-Some.before in let n : ℕ = s.heights in let t = c.extended-timestamp.result in let rtp = c.args.rtp in
    let kept = subst (λ z. MatchOption z ⊤ (λ g. IsKept g s.window n)) c.in-Some.is c.self.invariant.2 in
    let few : n < 2 ^ 31 = subst (λ v. v.heights < 2 ^ 31) (sym c.self.view_is) c.requires.heights in
    let l0 = kept.latest.from in let l1 = kept.latest.to in let above = c.extended-timestamp.ensures.above in let below = c.extended-timestamp.ensures.below in
    let same : to_z w64 (of_z w64 t) ≡ t = omega (arith, ints) in
    let same_latest : to_z w64 (of_z w64 b.latest) ≡ b.latest = omega (arith, ints) in
    let value : t ≡ ext32 b.latest rtp = c.extended-timestamp.ensures.value ∙ ap (λ z. ext32 z rtp) same_latest in
    let e = estimate_of b s.window in let after = estimate_of c.advance-after.result c.advance-after.new.window in
    let step = c.advance-after.ensures.estimate ∙ ap (λ z. cut (in_mode s.mode s.rate e c.args.arrival z)) same ∙ ap cut (in_mode-is s.mode s.rate e rtp c.args.arrival t value) in
    let time = c.time_of.ensures ∙ ap (time_at s.rate after) (sym c.advance-after.ensures.latest) in
    let old = estimator s.rate s.mode n (option_map (λ g. estimate_of g s.window) s.segment) in
    time-step old old e after (height rtp c.args.arrival true) heights c.time_of.result
    (ap (option_map (λ g. estimate_of g s.window)) c.in-Some.is) step refl refl time (subst (λ v. StandsFor v heights) (sym c.self.view_is) st)

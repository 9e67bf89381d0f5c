use Rattle.std.proofs.Common.{◌≡◌, ◌<◌, ◌≤◌, false, ◌∷◌, length, take, None, sym, ap, ◌∙◌, subst, arith, to_z, of_z}
use mir.Syntax.{w64, w128}
use Rattle.std.specs.Prelude.{pos, ◌-ℤ◌, MatchOption}
use Rattle.std.proofs.lemmas.Int.{ints}
use Rattle.rtp_units.specs.Numbers.{nanoseconds}
use Rattle.skew_model.specs.Skew.{sent_at, difference, is_apart}
use Rattle.skew_estimator.specs.Segment.{estimate_of, filled_with}
use Rattle.skew_estimator.proofs.Least.{length-most, take-whole}
use Rattle.skew_estimator.proofs.Steps.{measured-filling}
use Rattle.skew_estimator.proofs.segment.measure.Goals as goal

pub fill-requires-clause-few : goal.fill-requires-clause-few
fill-requires-clause-few c = rw c.add.ensures (length-most 512 (to_z w128 (of_z w128 c.difference-difference.result) ∷ c.args.window.now))

pub returns-in_default-clause-estimate : goal.returns-in_default-clause-estimate
returns-in_default-clause-estimate c =
    let s = c.args.segment.now in let ws = c.args.window.now in let t = c.args.timestamp in let rate = c.args.rate in let stamp = c.args.arrival in
    let sent = c.sent_at-sent.result in let d = c.difference-difference.result in
    let s0 = c.sent_at-sent.ensures.above in let s1 = c.sent_at-sent.ensures.below in let d0 = c.difference-difference.ensures.near.from in let d1 = c.difference-difference.ensures.near.to in
    let k0 = c.requires.near.from in let k1 = c.requires.near.to in
    let same_sent : to_z w128 (of_z w128 sent) ≡ sent = omega (arith, ints) in
    let same_d : to_z w128 (of_z w128 d) ≡ d = omega (arith, ints) in
    let same_skew : to_z w128 (of_z w128 s.skew) ≡ s.skew = omega (arith, ints) in
    let same_t : to_z w64 (of_z w64 t) ≡ t = omega (arith, ints) in
    let ticks : to_z w64 (of_z w64 t) -ℤ to_z w64 (of_z w64 s.start) ≡ t -ℤ s.start = omega (arith, ints) in
    let is_sent : sent ≡ sent_at rate (estimate_of s ws) t = c.sent_at-sent.ensures.value ∙ ap (λ z. nanoseconds z rate) ticks in
    let is_difference : d ≡ difference (estimate_of s ws) stamp sent = c.difference-difference.ensures.value ∙ ap (λ z. pos stamp -ℤ pos s.base -ℤ z) same_sent in
    let close : is_apart d s.skew ≡ false = (λ k. is_apart (sym same_d k) (sym same_skew k)) ∙ sym c.is_apart.ensures ∙ c.if-is_apart.false in
    let none : s.size ≡ None = c.in_default.is in
    let few : length ws < 512 = subst (λ z. MatchOption z (length ws < 512) (λ n. (length ws ≡ n) × (n ≤ 512))) none c.requires.fitted.few in
    let window : c.add.new.self ≡ d ∷ ws = c.add.ensures ∙ ap (λ z. take 512 (z ∷ ws)) same_d ∙ take-whole 512 (d ∷ ws) (omega arith) in
    let filled = c.fill.ensures.segment ∙ (λ k. filled_with s (window k) (same_t k) (same_sent k)) in
    (λ k. estimate_of (filled k) (window k)) ∙ measured-filling rate s ws stamp t sent d is_sent is_difference close none

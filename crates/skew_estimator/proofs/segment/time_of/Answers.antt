use Rattle.std.proofs.Common.{◌≡◌, ◌∙◌, ap, arith, to_z, of_z}
use mir.Syntax.{w64, w128}
use Rattle.std.specs.Prelude.{ℤ, pos, ◌+ℤ◌, ◌-ℤ◌}
use Rattle.std.proofs.lemmas.Int.{ints}
use Rattle.rtp_units.specs.Numbers.{hold, nanoseconds}
use Rattle.skew_estimator.proofs.segment.time_of.Goals as goal

pub returns : goal.returns
returns c =
    let s = c.args.segment.now in let base = c.from.result in let sent = c.sent_at-sent.result in let skew = s.skew in
    let fits = c.fits-segment in let is = c.from.ensures in let near = c.requires.near in let n0 = near.from in let n1 = near.to in
    let s0 = c.sent_at-sent.ensures.above in let s1 = c.sent_at-sent.ensures.below in
    let sum : ℤ = to_z w128 (of_z w128 (to_z w128 (of_z w128 (to_z w128 (of_z w128 base) +ℤ to_z w128 (of_z w128 sent))) +ℤ to_z w128 (of_z w128 skew))) in
    let same : sum ≡ pos s.base +ℤ sent +ℤ skew = omega (arith, ints) in
    let ticks : to_z w64 (of_z w64 c.args.timestamp) -ℤ to_z w64 (of_z w64 s.start) ≡ c.args.timestamp -ℤ s.start = omega (arith, ints) in
    c.held_to_time.ensures.value ∙ ap hold same ∙ ap (λ z. hold (pos s.base +ℤ z +ℤ skew)) c.sent_at-sent.ensures.value ∙ ap (λ z. hold (pos s.base +ℤ nanoseconds z c.args.rate +ℤ skew)) ticks

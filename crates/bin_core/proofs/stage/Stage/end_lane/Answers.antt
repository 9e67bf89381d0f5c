use Rattle.std.proofs.Common.{ℕ, ◌≡◌, ◌∙◌, refl, subst, arith}
use Rattle.jitter_model.specs.History as History
use Rattle.bin_core.proofs.Ending.{EndsBelow, ends_more}
use Rattle.bin_core.proofs.stage.Stage.end_lane.Goals as goal

pub loop-pusher-init : goal.loop-pusher-init
loop-pusher-init c = (λ k base tl h. h, refl)

pub end_pusher-requires-clause-lane : goal.end_pusher-requires-clause-lane
end_pusher-requires-clause-lane c = omega (arith, c.requires.lane, c.loop-pusher.invariant.1)

pub returns-in_err-end_pusher-clause-same : goal.returns-in_err-end_pusher-clause-same
returns-in_err-end_pusher-clause-same c = c.end_pusher.ensures.same ∙ c.loop-pusher.invariant.1

pub loop-pusher-preserved : goal.loop-pusher-preserved
loop-pusher-preserved c = (
  ends_more c.timelines_keep.ensures c.args.time c.args.number c.loop-pusher.pusher _ c.args.self.now c.loop-pusher.self c.end_pusher.new.self c.args.lines.now c.loop-pusher.lines c.end_pusher.new.lines refl c.in_ok-end_pusher.ensures.stands c.loop-pusher.invariant.0,
  c.end_pusher.ensures.same ∙ c.loop-pusher.invariant.1,
)

pub returns-clause-stands : goal.returns-clause-stands
unfolding History.pusher_count
returns-clause-stands c =
    let at : c.loop-pusher.pusher ≡ 9 = omega (arith, c.loop-pusher-test.false, c.loop-pusher.auto.pusher-end) in
    subst (λ (p : ℕ). EndsBelow c.args.time c.args.number p c.args.self.now c.loop-pusher.self c.args.lines.now c.loop-pusher.lines) at c.loop-pusher.invariant.0

pub returns-clause-same : goal.returns-clause-same
returns-clause-same c = c.loop-pusher.invariant.1

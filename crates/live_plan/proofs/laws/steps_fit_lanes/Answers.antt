use Rattle.std.proofs.Common.{◌≡◌, [], ◌∷◌, ◌++◌, ap, subst, arith}
use Rattle.timeline.specs.Times.{time_after}
use Rattle.front_model.specs.Events.{Came, records}
use Rattle.front_model.specs.Plan.{captured}
use Rattle.replay_model.specs.Fitting.{AreComing}
use Rattle.live_plan.proofs.Planning.{captured_more}
use Rattle.live_plan.proofs.Serving.{captured_come, captured_count}
use Rattle.live_plan.proofs.Rightness.{event_fits}
use Rattle.live_plan.proofs.laws.steps_fit_lanes.Goals as goal

pub returns : goal.returns
returns c = λ x before r script stamped.
    let more : captured (before ++ r ∷ []) ≡ Came (time_after (before ++ r ∷ [])) r ∷ captured before = captured_more before r (c.times_go_on.ensures.next before r) in
    event_fits
    (record { suits = c.steps_suit_a_bin.ensures; opened = c.lanes_open_in_order.ensures })
    (record { stay = c.lanes_stay.ensures.moves; tell = c.reports_only_tell.ensures })
    x (captured before) (Came (time_after (before ++ r ∷ [])) r) script
    (subst AreComing more (captured_come (before ++ r ∷ []) stamped))
    (omega (arith, ap records more, captured_count (before ++ r ∷ []), stamped.few))

use Rattle.std.proofs.Common.{◌≡◌, true, false, ◌||◌, not}
use Rattle.std.specs.Prelude.{slice_index_or}
use Rattle.jitter_model.specs.History.{is_pusher, all_below}
use Rattle.jitter_core.proofs.turning.have_all_ended.Given as goal

abbrev pub invariant-loop-pusher : goal.invariant-loop-pusher
invariant-loop-pusher l = all_below (λ p. not (is_pusher l.settings.pushers p) || slice_index_or l.progress.ended p false) l.pusher ≡ true

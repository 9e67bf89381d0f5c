use Rattle.std.proofs.Common.{◌≡◌, ◌<◌, ℕ, length, get_or}
use Rattle.front_model.specs.Steps.{pushers}
use Rattle.rtp_front.proofs.choices.pushers_of.Given as goal

abbrev pub invariant-loop-session : goal.invariant-loop-session
invariant-loop-session l =
    (length l.pushers ≡ 8)
    × ((s : ℕ) → s < l.session → get_or l.pushers s 0 ≡ pushers l.script s)

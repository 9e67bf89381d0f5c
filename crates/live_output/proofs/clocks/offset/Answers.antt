use Rattle.std.proofs.Common.{ap, ◌∙◌}
use Rattle.std.specs.Prelude.{fold}
use Rattle.std.proofs.lemmas.List.{take_all}
use Rattle.live_output.specs.Clocks.{further}
use Rattle.live_output.proofs.Clocking.{further_all}
use Rattle.live_output.proofs.clocks.offset.Goals as goal

pub returns : goal.returns
returns c =
    let xs = c.args.clocks.now in
    c.loop-other.invariant
    ∙ ap (fold (further c.args.clock.now) 0)
    (take_all c.loop-other.other-index xs c.loop-other-test.false)
    ∙ further_all c.args.clock.now 0 xs

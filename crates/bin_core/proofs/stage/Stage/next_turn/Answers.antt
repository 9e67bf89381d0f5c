use Rattle.std.proofs.Common.{[], ◌∙◌}
use Rattle.bin_core.proofs.Owing.{few_lanes, rest_wakes}
use Rattle.bin_core.proofs.Waking.{first_kept}
use Rattle.bin_core.proofs.stage.Stage.next_turn.Goals as goal

pub returns : goal.returns
returns c =
    c.first.ensures
    ∙ first_kept c.args.self.now.wakes c.args.self.now.lanes.items (few_lanes c.requires.0 [] c.args.self.now c.requires.1)
    (λ k. rest_wakes c.requires.0 [] c.args.self.now k c.requires.1)

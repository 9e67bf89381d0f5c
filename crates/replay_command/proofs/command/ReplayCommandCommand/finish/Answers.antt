use Rattle.std.proofs.Common.{ap, drop, subst, sym, ◌∙◌, List}
use Rattle.script_lang.specs.declared.script.Item.{Item}
use Rattle.bin_core.specs.Words.{time_of}
use Rattle.replay_command.specs.Plays.{AreItems}
use Rattle.replay_command.proofs.Items.{behind_is}
use Rattle.replay_command.proofs.Replaying.{finishes}
use Rattle.replay_command.proofs.command.ReplayCommandCommand.finish.Goals as goal

pub finish-requires-clause-items : goal.finish-requires-clause-items
finish-requires-clause-items g c =
    let command = c.args.self.now in
    subst (AreItems (time_of command.player.bin)) (sym (behind_is command.given c.items_of-items.result.now ∙ ap (λ (l : List Item). drop command.given l) c.items_of-items.ensures.value)) c.requires.ready.are

pub returns-clause-finishes : goal.returns-clause-finishes
returns-clause-finishes g c =
    let command = c.args.self.now in
    finishes command.script.now command.player command.given _ c.finish.result _ _
    (behind_is command.given c.items_of-items.result.now ∙ ap (λ (l : List Item). drop command.given l) c.items_of-items.ensures.value) c.finish.ensures.plays

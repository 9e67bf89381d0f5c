use Rattle.command_core.specs.declared.stop.Stop.TheVariants as stop
use Rattle.command_core.specs.Laws.{more_then}
use Rattle.replay_command.proofs.Ahead.{LogGoesOn}
use Rattle.replay_command.proofs.Playing.{plays_end, plays_cut, plays_no_end}
use Rattle.replay_command.proofs.player.Player.finish.Goals as goal

pub returns-in-Err-clause-plays : goal.returns-in-Err-clause-plays
returns-in-Err-clause-plays g c =
    let law : LogGoesOn = record { input = c.goes_on.ensures.input; part = c.goes_on.ensures.part; whole = c.goes_on.ensures.whole } in
    plays_cut law c.in-Err.stop c.args.self.now c.give_items.new.self _ _ _ c.in-Err.ensures.plays

pub returns-in-Ok-finish-clause-plays : goal.returns-in-Ok-finish-clause-plays
returns-in-Ok-finish-clause-plays g c =
    plays_end c.write_lines.result c.args.self.now c.give_items.new.self c.write_lines.new.self c.finish.new.lines
    _ _ _ _ c.in-Ok.ensures.ready.none c.give_items.ensures.style c.write_lines.ensures.style
    c.in-Ok.ensures.plays c.in-Ok-finish.ensures.completes c.write_lines.ensures.renders

pub returns-in-Err-finish-clause-plays : goal.returns-in-Err-finish-clause-plays
returns-in-Err-finish-clause-plays g c =
    let law : LogGoesOn = record { input = c.goes_on.ensures.input; part = c.goes_on.ensures.part; whole = c.goes_on.ensures.whole } in
    plays_no_end law stop.Memory c.args.self.now c.give_items.new.self _ _ _ c.give_items.ensures.style
    c.in-Ok.ensures.plays

pub returns-in-Ok-finish-clause-more : goal.returns-in-Ok-finish-clause-more
returns-in-Ok-finish-clause-more g c =
    more_then _ _ _ c.give_items.ensures.more c.write_lines.ensures.more

use Rattle.std.proofs.Common.{arith}
use Rattle.replay_model.specs.Inputs.{OfCapture}
use Rattle.bin_core.specs.Bins.{timed}
use Rattle.command_core.specs.declared.stop.Stop.TheVariants as stop
use Rattle.command_core.specs.Laws.{more_then}
use Rattle.replay_command.proofs.Ahead.{LogGoesOn}
use Rattle.replay_command.proofs.Playing.{plays_late, plays_one, plays_none}
use Rattle.replay_command.proofs.player.Player.give_record.Goals as goal

pub returns-in-Err-clause-plays : goal.returns-in-Err-clause-plays
returns-in-Err-clause-plays g c =
    plays_late c.args.time c.in-Err.stop c.args.self.now c.advance.new.self
    (OfCapture (timed c.args.time c.args.link c.args.rec.now)) _ _ (omega arith) c.in-Err.ensures.plays

pub returns-in-Ok-take_record-clause-plays : goal.returns-in-Ok-take_record-clause-plays
returns-in-Ok-take_record-clause-plays g c =
    plays_one c.write_lines.result c.args.time c.args.self.now c.advance.new.self c.write_lines.new.self
    c.take_record.new.self c.take_record.new.lines (OfCapture (timed c.args.time c.args.link c.args.rec.now)) _ _ _
    c.in-Ok.ensures.none c.advance.ensures.style c.write_lines.ensures.bin
    c.in-Ok-take_record.ensures.takes c.in-Ok.ensures.plays c.write_lines.ensures.renders

pub returns-in-Err-take_record-clause-plays : goal.returns-in-Err-take_record-clause-plays
returns-in-Err-take_record-clause-plays g c =
    let law : LogGoesOn = record { input = c.goes_on.ensures.input; part = c.goes_on.ensures.part; whole = c.goes_on.ensures.whole } in
    plays_none law c.args.time stop.Memory c.args.self.now c.advance.new.self c.advance.new.self
    (OfCapture (timed c.args.time c.args.link c.args.rec.now)) _ _ c.advance.ensures.style
    (omega (arith, c.in-Ok.ensures.time)) c.in-Ok.ensures.plays

pub returns-in-Ok-take_record-clause-more : goal.returns-in-Ok-take_record-clause-more
returns-in-Ok-take_record-clause-more g c =
    more_then _ _ _ c.advance.ensures.more c.write_lines.ensures.more

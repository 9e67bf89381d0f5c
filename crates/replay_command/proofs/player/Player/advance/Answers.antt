use Rattle.std.proofs.Common.{refl, ap, ◌∙◌, arith}
use Rattle.bin_core.specs.Words.{records_of, time_of, is_finished}
use Rattle.command_core.specs.declared.stop.Stop.TheVariants as stop
use Rattle.command_core.specs.Laws.{more_none, more_then}
use Rattle.replay_command.proofs.Ahead.{LogGoesOn}
use Rattle.replay_command.proofs.Playing.{plays_level, plays_due, plays_due_fail, plays_due_none}
use Rattle.replay_command.proofs.player.Player.advance.Goals as goal

pub due-init : goal.due-init
due-init g c = record {
  style = refl;
  records = refl;
  running = c.requires.ready.running;
  time = c.requires.onward;
  none = c.requires.ready.none;
  plays = plays_level c.args.time c.args.self.now (g.O.Sink.written c.args.out.now);
  more = more_none (g.O.Sink.written c.args.out.now);
  faults = refl;
}

pub returns-in-Err-clause-plays : goal.returns-in-Err-clause-plays
returns-in-Err-clause-plays g c =
    let law : LogGoesOn = record { input = c.goes_on.ensures.input; part = c.goes_on.ensures.part; whole = c.goes_on.ensures.whole } in
    let i = c.due.invariant in
    plays_due_none law c.args.time stop.Memory c.args.self.now c.due.self c.due.self _ _ i.style i.time i.plays

pub returns-in-Err-write_lines-clause-plays : goal.returns-in-Err-write_lines-clause-plays
returns-in-Err-write_lines-clause-plays g c =
    let law : LogGoesOn = record { input = c.goes_on.ensures.input; part = c.goes_on.ensures.part; whole = c.goes_on.ensures.whole } in
    let i = c.due.invariant in
    plays_due_fail law c.args.time c.in-Err-write_lines.stop c.args.self.now c.due.self c.write_lines.new.self
    c.advance.new.self c.advance.new.lines _ _ _ i.none i.style c.advance.ensures.time
    c.in-Ok.ensures.serves i.plays c.in-Err-write_lines.ensures.renders

pub returns-in-Err-write_lines-clause-more : goal.returns-in-Err-write_lines-clause-more
returns-in-Err-write_lines-clause-more g c =
    more_then _ _ _ c.due.invariant.more c.write_lines.ensures.more

pub returns-then-not-more-clause-plays : goal.returns-then-not-more-clause-plays
returns-then-not-more-clause-plays g c =
    let i = c.due.invariant in
    plays_due c.args.time c.args.self.now c.due.self c.write_lines.new.self c.advance.new.self c.advance.new.lines
    _ _ _ i.none c.write_lines.ensures.bin
    c.in-Ok.ensures.serves i.plays c.in-Ok-write_lines.ensures.renders

pub returns-then-not-more-clause-more : goal.returns-then-not-more-clause-more
returns-then-not-more-clause-more g c =
    more_then _ _ _ c.due.invariant.more c.write_lines.ensures.more

pub due-preserved : goal.due-preserved
due-preserved g c =
    let i = c.due.invariant in
    record {
      style = c.write_lines.ensures.style ∙ i.style;
      records = ap records_of c.write_lines.ensures.bin ∙ c.advance.ensures.records ∙ i.records;
      running = ap is_finished c.write_lines.ensures.bin ∙ c.advance.ensures.open;
      time = omega (arith, ap time_of c.write_lines.ensures.bin, c.advance.ensures.time);
      none = c.in-Ok-write_lines.ensures.none;
      plays = plays_due c.args.time c.args.self.now c.due.self c.write_lines.new.self c.advance.new.self c.advance.new.lines
          _ _ _ i.none c.write_lines.ensures.bin
          c.in-Ok.ensures.serves i.plays c.in-Ok-write_lines.ensures.renders;
      more = more_then _ _ _ i.more c.write_lines.ensures.more;
      faults = c.in-Ok-write_lines.ensures.cause ∙ i.faults;
    }

use Rattle.std.proofs.Common.{◌∙◌}
use Rattle.unit_log.specs.Text.{unit_text}
use Rattle.replay_command.proofs.Printing.{prints_on, print_fails}
use Rattle.replay_command.proofs.rendering.print_all.Goals as goal

pub returns-in-Err : goal.returns-in-Err
returns-in-Err g c =
    let i = c.loop-line.invariant in
    print_fails unit_text c.args.lines.now c.loop-line.line-index c.line-item.result c.in-Err.stop
    _ _ _ _ _ _ c.loop-line-test.true c.line-item.is i.written i.faults c.in-Err.ensures

pub loop-line-preserved : goal.loop-line-preserved
loop-line-preserved g c =
    let i = c.loop-line.invariant in
    record {
      written = prints_on unit_text c.args.lines.now c.loop-line.line-index c.line-item.result
          _ _ _ c.loop-line-test.true c.line-item.is i.written c.in-Ok.ensures.0;
      faults = c.in-Ok.ensures.1 ∙ i.faults;
    }

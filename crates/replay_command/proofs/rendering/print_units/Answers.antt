use Rattle.std.proofs.Common.{◌∙◌}
use Rattle.command_core.specs.declared.stop.Stop.TheVariants as stop
use Rattle.command_core.specs.Laws.{more_none, prints_more, prints_cause}
use Rattle.replay_command.proofs.Writing.{no_units, prints_units}
use Rattle.replay_command.proofs.rendering.print_units.Goals as goal

pub returns-in-Err-clause-renders : goal.returns-in-Err-clause-renders
returns-in-Err-clause-renders g c =
    no_units stop.Memory c.args.log.now c.take.new.self c.args.line.now (g.O.Sink.written c.args.out.now)

pub returns-in-Err-clause-more : goal.returns-in-Err-clause-more
returns-in-Err-clause-more g c = more_none (g.O.Sink.written c.args.out.now)

pub returns-clause-renders : goal.returns-clause-renders
returns-clause-renders g c =
    let p = c.args.log.now in
    prints_units p c.take.new.self c.args.line.now c.as_slice.result.now c.print_all.result _ _ _ _
    (λ before was. c.as_slice.ensures.value ∙ c.in-Ok.ensures.told p.format p.pt before was)
    (λ before was. c.in-Ok.ensures.took p.format p.pt before was) c.print_all.ensures

pub returns-clause-more : goal.returns-clause-more
returns-clause-more g c = prints_more _ c.print_all.result _ _ _ _ c.print_all.ensures

pub returns-clause-cause : goal.returns-clause-cause
returns-clause-cause g c = prints_cause _ c.print_all.result _ _ _ _ c.print_all.ensures

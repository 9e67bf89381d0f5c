use Rattle.std.proofs.Common.{◌∙◌, ap, subst}
use Rattle.command_core.specs.Steps.{Covers}
use Rattle.replay_command.specs.declared.rendering.Style.{Style}
use Rattle.replay_command.specs.Rendered.{style_of}
use Rattle.replay_command.specs.Replay.{played_output}
use Rattle.replay_command.proofs.Ahead.{LogGoesOn}
use Rattle.replay_command.proofs.Replaying.{InputsGoOn, GoOn, can_replay, fresh, replay_goes_on}
use Rattle.replay_command.proofs.command.play_open.Goals as goal

pub run_command-requires-clause-ready : goal.run_command-requires-clause-ready
run_command-requires-clause-ready g c = can_replay c.args.script.now c.new.result c.in-Ok.player c.in-Ok.ensures.fresh c.items_of.ensures.ordered

pub run_command-requires-clause-stands : goal.run_command-requires-clause-stands
run_command-requires-clause-stands g c = fresh c.args.script.now c.new.result c.in-Ok.player c.new.ensures.given c.in-Ok.ensures.fresh

pub run_command-requires-clause-goes_on : goal.run_command-requires-clause-goes_on
run_command-requires-clause-goes_on g c =
    let log : LogGoesOn = record { input = c.goes_on.ensures.input; part = c.goes_on.ensures.part; whole = c.goes_on.ensures.whole } in
    let inputs : InputsGoOn = record {
      more = c.inputs_go_on.ensures.more;
      next = c.inputs_go_on.ensures.next;
      left = c.inputs_go_on.ensures.left;
    } in
    let law : GoOn = record { log = log; inputs = inputs } in
    replay_goes_on law (style_of c.in-Ok.player.rendering) c.args.script.now

pub returns-clause-covers : goal.returns-clause-covers
returns-clause-covers g c =
    subst (λ (s : Style). Covers (played_output s c.args.script.now) c.run_command.result (g.F.Files.disk c.args.files.now) (g.F.Files.disk c.run_command.new.files) (g.O.Sink.written c.args.out.now) (g.O.Sink.written c.run_command.new.out)) (ap style_of c.in-Ok.ensures.fresh.rendering ∙ c.new.ensures.style) c.run_command.ensures.covers

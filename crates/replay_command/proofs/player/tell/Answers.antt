use Rattle.std.proofs.Common.{◌∙◌, refl, ap, arith, length, List, get_or}
use Rattle.timeline.specs.declared.line.BinLine.{BinLine}
use Rattle.command_core.specs.Laws.{more_none, more_then}
use Rattle.replay_command.proofs.Writing.{renders_none, renders_on, renders_fail}
use Rattle.replay_command.proofs.player.tell.Goals as goal

pub loop-line-init : goal.loop-line-init
loop-line-init g c = record {
  style = refl;
  renders = renders_none c.args.rendering.now (g.O.Sink.written c.args.out.now);
  more = more_none (g.O.Sink.written c.args.out.now);
  faults = refl;
}

pub loop-line-preserved : goal.loop-line-preserved
loop-line-preserved g c =
    let i = c.loop-line.invariant in
    let k = c.loop-line.line-index in
    record {
      style = c.write.ensures.style ∙ i.style;
      renders = renders_on c.args.rendering.now c.loop-line.rendering c.write.new.self c.args.lines.now k
          c.line-item.result _ _ _ (omega (arith, ap length c.lines-line-items.ensures))
          (c.line-item.is ∙ ap (λ (l : List BinLine). get_or l k c.line-item.result) c.lines-line-items.ensures)
          i.renders c.in-Ok.ensures.renders;
      more = more_then _ _ _ i.more c.write.ensures.more;
      faults = c.in-Ok.ensures.cause ∙ i.faults;
    }

pub returns-in-Err-clause-renders : goal.returns-in-Err-clause-renders
returns-in-Err-clause-renders g c =
    let i = c.loop-line.invariant in
    let k = c.loop-line.line-index in
    renders_fail c.in-Err.stop c.args.rendering.now c.loop-line.rendering c.write.new.self c.write.new.self
    c.args.lines.now k c.line-item.result _ _ _ (omega (arith, ap length c.lines-line-items.ensures))
    (c.line-item.is ∙ ap (λ (l : List BinLine). get_or l k c.line-item.result) c.lines-line-items.ensures)
    i.style i.renders c.in-Err.ensures.renders

pub returns-in-Err-clause-more : goal.returns-in-Err-clause-more
returns-in-Err-clause-more g c = more_then _ _ _ c.loop-line.invariant.more c.write.ensures.more

use Rattle.std.proofs.Common.{◌∙◌, ◌∷◌, [], sym, ap, subst}
use Rattle.command_core.specs.Laws.{prints_more, prints_cause}
use Rattle.replay_command.specs.declared.rendering.Rendering.{Rendering}
use Rattle.replay_command.specs.declared.rendering.Rendering.TheVariants as rendering
use Rattle.replay_command.specs.Rendered.{Renders, style_of}
use Rattle.replay_command.proofs.Writing.{log_renders, units_render, units_style}
use Rattle.replay_command.proofs.rendering.Rendering.write.Goals as goal

pub returns-in-Log-clause-renders : goal.returns-in-Log-clause-renders
returns-in-Log-clause-renders g c =
    subst (λ (r : Rendering). Renders c.print_line.result r (rendering.Log c.in-Log.hex c.print_line.new.text)
    (c.args.line.now ∷ []) (g.O.Sink.written c.args.out.now)
    (g.O.Sink.written c.print_line.new.out)) (sym c.in-Log.is)
    (log_renders c.in-Log.hex c.in-Log.text c.print_line.new.text c.args.line.now c.print_line.result _ _ _ _ c.print_line.ensures)

pub returns-in-Log-clause-more : goal.returns-in-Log-clause-more
returns-in-Log-clause-more g c = prints_more _ c.print_line.result _ _ _ _ c.print_line.ensures

pub returns-in-Log-clause-cause : goal.returns-in-Log-clause-cause
returns-in-Log-clause-cause g c = prints_cause _ c.print_line.result _ _ _ _ c.print_line.ensures

pub returns-in-Units-clause-style : goal.returns-in-Units-clause-style
returns-in-Units-clause-style g c =
    units_style c.in-Units.log c.print_units.new.log c.print_units.ensures.same
    ∙ ap style_of (sym c.in-Units.is)

pub returns-in-Units-clause-renders : goal.returns-in-Units-clause-renders
returns-in-Units-clause-renders g c =
    subst (λ (r : Rendering). Renders c.print_units.result r
    (rendering.Units c.print_units.new.log) (c.args.line.now ∷ [])
    (g.O.Sink.written c.args.out.now) (g.O.Sink.written c.print_units.new.out))
    (sym c.in-Units.is)
    (units_render c.in-Units.log c.print_units.new.log c.args.line.now c.print_units.result _ _
    c.print_units.ensures.same c.print_units.ensures.renders)

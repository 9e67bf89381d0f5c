use Rattle.std.proofs.Common.{◌∙◌, sym, ap}
use Rattle.script_lang.specs.Grammar.{read_script}
use Rattle.command_core.proofs.Scripts.{front_tells, reads_script, reads_cause}
use Rattle.command_core.proofs.script.read_script.Goals as goal

pub returns-clause-after : goal.returns-clause-after
returns-clause-after g c =
    let before = g.F.Files.disk c.args.files.now in
    reads_script c.script_in.result c.args.name.now c.deref.result.now before
    (g.F.Files.disk c.read_input.new.files)
    (λ told. front_tells (before.contents c.args.name.now)
    ∙ ap read_script (sym (c.deref.ensures.value ∙ c.in_ok-text.ensures.after told)))
    c.script_in.ensures

pub returns-clause-cause : goal.returns-clause-cause
returns-clause-cause g c =
    reads_cause c.script_in.result _ _ _ c.in_ok-text.ensures.cause.0 c.script_in.ensures

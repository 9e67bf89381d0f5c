use Rattle.std.proofs.Common.{◌∙◌, sym, ap, Some}
use Rattle.script_lang.specs.Text.{is_passed_over}
use Rattle.script_lang.specs.Grammar.{entry_in_line}
use Rattle.script_lang.specs.Reading.{texts}
use Rattle.script_lang.proofs.GrammarLemmas.{line_said}
use Rattle.script_lang.proofs.reading.read_line.Goals as goal

pub returns-in-Ok : goal.returns-in-Ok
returns-in-Ok c = (
  Some c.in-Ok.entry,
  line_said c.args.draft.now c.args.line.now (texts c.in_ok-words.words.items) c.in-Ok.entry c.in_ok-words.ensures
      (ap (λ ws. is_passed_over (texts ws)) (sym c.deref.ensures.value) ∙ sym c.is_passed_over.ensures ∙ c.if-is_passed_over.false)
      (ap (λ ws. entry_in_line c.args.draft.now c.args.line.now (texts ws)) (sym c.deref-2.ensures.value) ∙ sym c.in-Ok.ensures.value),
  c.in_ok-add-in-Ok.ensures,
)

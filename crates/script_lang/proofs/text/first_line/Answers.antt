-- A text begins with its first line, by the place of its first newline.
use Rattle.std.proofs.Common.{◌≡◌, sym, ◌∙◌, Some}
use Rattle.std.specs.Prelude.{position}
use Rattle.script_lang.specs.Text.{is_newline}
use Rattle.script_lang.proofs.TextLemmas.{lines_first, lines_only}
use Rattle.script_lang.proofs.text.first_line.Goals as goal

pub returns-in-Some-clause-line : goal.returns-in-Some-clause-line
returns-in-Some-clause-line c =
    let at : position is_newline c.args.text.now ≡ Some c.in-Some.end = sym c.newline_in.ensures ∙ c.in-Some.is in
    rw c.without_return.ensures (lines_first c.args.text.now c.in-Some.end at)

pub returns-in-None-clause-line : goal.returns-in-None-clause-line
returns-in-None-clause-line c =
    rw c.without_return-in-None.ensures (lines_only c.args.text.now (sym c.newline_in.ensures ∙ c.in-None.is))

-- The lists of the draft are those of a script, where no flush is open.
use Rattle.std.proofs.Common.{◌∙◌, sym, ap, subst}
use Rattle.script_lang.specs.Settings.{settings_of}
use Rattle.script_lang.specs.Sound.{IsSound}
use Rattle.script_lang.proofs.SoundLemmas.{script_of_parts}
use Rattle.script_lang.proofs.draft.Draft.finish.Goals as goal

pub invariant_of-result : goal.invariant_of-result
invariant_of-result c =
    script_of_parts _ _ _ _ (subst IsSound (sym c.self.view_is) c.requires) (sym c.greatest.ensures ∙ c.in_default.is)
    c.in_ok-pt_lines.ensures c.in_ok-rtx_lines.ensures (c.of.ensures ∙ ap settings_of c.deref.ensures.value)

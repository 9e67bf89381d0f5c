use Rattle.std.proofs.Common.{sym, ◌∙◌}
use Rattle.script_lang.proofs.FitsLemmas.{entry_of_fits}
use Rattle.script_lang.proofs.reading.entry_in.Goals as goal

pub returns-in-None-clause-fits : goal.returns-in-None-clause-fits
returns-in-None-clause-fits c = entry_of_fits _ _ (sym c.of_form.ensures ∙ c.in_ok-entry.was)

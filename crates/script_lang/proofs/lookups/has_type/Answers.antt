use Rattle.std.proofs.Common.{◌∙◌}
use Rattle.script_lang.proofs.LookupLemmas.{is_found}
use Rattle.script_lang.proofs.lookups.has_type.Goals as goal

pub returns : goal.returns
returns g c = c.contains_key.ensures ∙ is_found _ c.args.types.now.entries

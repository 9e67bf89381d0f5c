use Rattle.std.proofs.Common.{◌∙◌}
use Rattle.script_lang.proofs.LookupLemmas.{inserted}
use Rattle.script_lang.proofs.lookups.add_type.Goals as goal

pub returns : goal.returns
returns g c = c.in_ok-insert.ensures.entries ∙ inserted _ c.args.types.now.entries (c.args.session, c.args.pt) c.args.value c.requires

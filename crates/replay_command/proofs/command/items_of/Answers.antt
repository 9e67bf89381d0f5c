use Rattle.std.proofs.Common.{subst}
use Rattle.script_lang.specs.Contents.{IsScript}
use Rattle.replay_command.proofs.Items.{items_of_script}
use Rattle.replay_command.proofs.command.items_of.Goals as goal

pub returns-clause-ordered : goal.returns-clause-ordered
returns-clause-ordered c = items_of_script c.args.script.now (subst IsScript c.script.view_is c.script.invariant)

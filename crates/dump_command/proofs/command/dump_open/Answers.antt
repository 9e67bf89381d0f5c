use Rattle.dump_command.proofs.Dumping.{dump_goes_on}
use Rattle.dump_command.proofs.command.dump_open.Goals as goal

pub run_command-requires-clause-goes_on : goal.run_command-requires-clause-goes_on
run_command-requires-clause-goes_on g c = dump_goes_on

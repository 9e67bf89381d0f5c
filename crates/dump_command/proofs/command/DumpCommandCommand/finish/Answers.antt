use Rattle.dump_command.proofs.Dumping.{took_last}
use Rattle.dump_command.proofs.command.DumpCommandCommand.finish.Goals as goal

pub returns-clause-finishes : goal.returns-clause-finishes
returns-clause-finishes g c = took_last c.args.self.now.records c.print.result _ _ _ _ c.print.ensures

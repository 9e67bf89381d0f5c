use Rattle.std.proofs.Common.{◌+◌, List, refl}
use Rattle.pcap_file.specs.Capture.{Record}
use Rattle.pcap_file.specs.Reading.{record_view}
use Rattle.command_core.specs.declared.stop.Stop.TheVariants as stop
use Rattle.dump_command.proofs.Dumping.{took, took_none}
use Rattle.dump_command.proofs.command.DumpCommandCommand.take.Goals as goal

pub returns-in-Err-clause-takes : goal.returns-in-Err-clause-takes
returns-in-Err-clause-takes g c = took_none stop.Memory c.args.time (record_view c.args.link c.args.rec.now) _ (λ (seen : List Record). Unit {0}) _

pub returns-clause-takes : goal.returns-clause-takes
returns-clause-takes g c =
    took c.args.self.now.records (c.args.self.now.records + 1) c.args.time (record_view c.args.link c.args.rec.now) c.in-Ok.line c.print.result _ _ _ _ refl c.in-Ok.ensures c.print.ensures

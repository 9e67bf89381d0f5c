use Rattle.capture_file.proofs.PcapSteps.{opens_pcap, open_fault}
use Rattle.capture_file.proofs.NgSteps.{opens_ng}
use Rattle.capture_file.proofs.file.CaptureFile.open.Goals as goal

pub returns-in-Ok-Pcap-clause-after : goal.returns-in-Ok-Pcap-clause-after
returns-in-Ok-Pcap-clause-after g c =
    opens_pcap c.in-Ok-Pcap.pcap c.args.pull.now c.open_any.new.pull (g.F.Files.disk c.args.files.now) (g.F.Files.disk c.open_any.new.files)
    (rw c.in-Ok-Pcap.field-0-is at c.in-Ok-Pcap.ensures.after)

pub returns-in-Ok-clause-after : goal.returns-in-Ok-clause-after
returns-in-Ok-clause-after g c =
    opens_ng c.in-Ok-Ng.head c.in-Ok.ng c.args.pull.now c.open_any.new.pull (g.F.Files.disk c.args.files.now) (g.F.Files.disk c.open_any.new.files)
    (rw c.in-Ok-Ng.field-0-is at c.in-Ok-Ng.ensures.after) c.in-Ok.ensures.stands c.in-Ok.ensures.records c.in-Ok.ensures.fault

pub returns-in-Err-clause-after : goal.returns-in-Err-clause-after
returns-in-Err-clause-after g c =
    rw c.of_pcap.ensures
    (open_fault c.in-Err.fault c.args.pull.now c.open_any.new.pull (g.F.Files.disk c.args.files.now) (g.F.Files.disk c.open_any.new.files) c.in-Err.ensures.after)

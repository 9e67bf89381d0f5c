use Rattle.std.proofs.Common.{ap, ◌∙◌}
use Rattle.pcap_file.specs.declared.header.Format.{Format}
use Rattle.capture_file.specs.Faults.{fault_of_pcap}
use Rattle.capture_file.proofs.FaultLemmas.{kept_none}
use Rattle.capture_file.proofs.PcapSteps.{next_taken, next_none, next_fault}
use Rattle.capture_file.proofs.file.next_of_pcap.Goals as goal

pub returns-in-Ok-Some-clause-after : goal.returns-in-Ok-Some-clause-after
returns-in-Ok-Some-clause-after g c = λ kept.
    let none = kept_none fault_of_pcap c.args.pcap.now.fault kept in
    let link = c.link.ensures ∙ ap (λ (format : Format). format.link) c.next.ensures.format in
    next_taken c.in-Ok-Some.rec c.link.result c.args.pcap.now c.next.new.self c.args.pull.now c.next.new.pull (g.F.Files.disk c.args.files.now) (g.F.Files.disk c.next.new.files) link
    (rw c.in-Ok-Some.field-0-is at (c.in-Ok-Some.ensures.after none))

pub returns-in-Ok-None-clause-after : goal.returns-in-Ok-None-clause-after
returns-in-Ok-None-clause-after g c = λ kept.
    let none = kept_none fault_of_pcap c.args.pcap.now.fault kept in
    next_none c.args.pcap.now c.next.new.self c.args.pull.now c.next.new.pull (g.F.Files.disk c.args.files.now) (g.F.Files.disk c.next.new.files)
    (rw c.in-Ok-None.field-0-is at (c.in-Ok-None.ensures.after none))

pub returns-in-Err-clause-after : goal.returns-in-Err-clause-after
returns-in-Err-clause-after g c = λ kept.
    let none = kept_none fault_of_pcap c.args.pcap.now.fault kept in
    rw c.of_pcap.ensures
    (next_fault c.in-Err.fault c.args.pcap.now c.next.new.self c.args.pull.now c.next.new.pull (g.F.Files.disk c.args.files.now) (g.F.Files.disk c.next.new.files) (c.in-Err.ensures.after none))

use Rattle.pcapng_file.specs.Reading.{ng_view}
use Rattle.capture_file.specs.Faults.{fault_of_ng}
use Rattle.capture_file.proofs.FaultLemmas.{kept_none}
use Rattle.capture_file.proofs.NgSteps.{takes_record, next_none, next_fault}
use Rattle.capture_file.proofs.file.next_of_ng.Goals as goal

pub returns-in-Ok-Some-clause-after : goal.returns-in-Ok-Some-clause-after
returns-in-Ok-Some-clause-after g c = λ kept.
    let none = kept_none fault_of_ng c.args.ng.now.fault kept in
    takes_record c.args.ng.now c.next.new.self (ng_view c.in-Ok-Some.record) c.args.pull.now c.next.new.pull (g.F.Files.disk c.args.files.now) (g.F.Files.disk c.next.new.files)
    (rw c.in-Ok-Some.field-0-is at (c.in-Ok-Some.ensures.after none))

pub returns-in-Ok-None-clause-after : goal.returns-in-Ok-None-clause-after
returns-in-Ok-None-clause-after g c = λ kept.
    let none = kept_none fault_of_ng c.args.ng.now.fault kept in
    next_none c.args.ng.now c.args.pull.now c.next.new.pull (g.F.Files.disk c.args.files.now) (g.F.Files.disk c.next.new.files)
    (rw c.in-Ok-None.field-0-is at (c.in-Ok-None.ensures.after none))

pub returns-in-Err-clause-after : goal.returns-in-Err-clause-after
returns-in-Err-clause-after g c = λ kept.
    let none = kept_none fault_of_ng c.args.ng.now.fault kept in
    rw c.of_ng.ensures
    (next_fault c.in-Err.fault c.args.ng.now c.next.new.self c.args.pull.now c.next.new.pull (g.F.Files.disk c.args.files.now) (g.F.Files.disk c.next.new.files) (c.in-Err.ensures.after none))

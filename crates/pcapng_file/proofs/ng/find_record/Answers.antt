use Rattle.pcapng_file.specs.Reading.{ng_view}
use Rattle.pcapng_file.proofs.Searching.{first_packet, first_passed, first_fault}
use Rattle.pcapng_file.proofs.ng.find_record.Goals as goal

pub returns-in-None-clause-after : goal.returns-in-None-clause-after
returns-in-None-clause-after g c = rw c.in-None.is c.search.ensures.after

pub returns-in-Ok-Some-clause-after : goal.returns-in-Ok-Some-clause-after
returns-in-Ok-Some-clause-after g c =
    rw c.in-Some.is (first_packet c.args.mark.now c.read_behind.new.mark (ng_view c.in-Ok-Some.record) c.in-Some.head c.args.pull.now c.read_behind.new.pull (g.F.Files.disk c.args.files.now) (g.F.Files.disk c.read_behind.new.files) (rw c.in-Ok-Some.field-0-is at c.in-Ok-Some.ensures.after))

pub returns-in-Ok-None-clause-after : goal.returns-in-Ok-None-clause-after
returns-in-Ok-None-clause-after g c =
    rw c.in-Some.is (first_passed c.search-in-Ok-None.result c.args.mark.now c.read_behind.new.mark c.search-in-Ok-None.new.mark c.in-Some.head c.args.pull.now c.read_behind.new.pull c.search-in-Ok-None.new.pull (g.F.Files.disk c.args.files.now) (g.F.Files.disk c.read_behind.new.files) (g.F.Files.disk c.search-in-Ok-None.new.files)
    (rw c.in-Ok-None.field-0-is at c.in-Ok-None.ensures.after) c.search-in-Ok-None.ensures.after)

pub returns-in-Err-clause-after : goal.returns-in-Err-clause-after
returns-in-Err-clause-after g c =
    rw c.in-Some.is (first_fault c.args.mark.now c.read_behind.new.mark c.in-Err.fault c.in-Some.head c.args.pull.now c.read_behind.new.pull (g.F.Files.disk c.args.files.now) (g.F.Files.disk c.read_behind.new.files) c.in-Err.ensures.after)

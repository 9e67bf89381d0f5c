use Rattle.std.proofs.Common.{◌∙◌, [], refl, arith}
use Rattle.pcapng_file.specs.Reading.{ng_view}
use Rattle.pcapng_file.proofs.Searching.{passes_none, passes_more, passes_all, passes_packet, passes_fault, search_exit}
use Rattle.pcapng_file.proofs.ng.search.Goals as goal

pub loop-record-init : goal.loop-record-init
loop-record-init g c = record {
  bound = λ h. h;
  passed = passes_none c.args.mark.now c.args.pull.now (g.F.Files.disk c.args.files.now);
  faults = refl;
}

pub loop-record-preserved : goal.loop-record-preserved
loop-record-preserved g c =
    let kept = c.loop-record.invariant in
    record {
      bound = λ h. c.in_ok-read_block.ensures.bound (kept.bound h);
      passed = passes_more c.args.mark.now c.loop-record.mark c.read_block.new.mark c.args.pull.now c.loop-record.pull c.read_block.new.pull (g.F.Files.disk c.args.files.now) (g.F.Files.disk c.loop-record.files) (g.F.Files.disk c.read_block.new.files) kept.passed (rw c.in-Passed.is at c.in_ok-read_block.ensures.after);
      faults = c.in_ok-read_block.ensures.cause ∙ kept.faults;
    }

pub loop-record-smaller : goal.loop-record-smaller
loop-record-smaller g c =
    let block = rw c.in-Passed.is at c.in_ok-read_block.ensures.after in
    omega (arith, block.blocks, block.few)

pub returns-in_err-read_block-clause-after : goal.returns-in_err-read_block-clause-after
returns-in_err-read_block-clause-after g c =
    search_exit c.from_residual.result c.in_err-read_block.field-0.0 c.args.mark.now c.read_block.new.mark [] c.args.pull.now c.read_block.new.pull (g.F.Files.disk c.args.files.now) (g.F.Files.disk c.read_block.new.files) c.from_residual.ensures.1
    (passes_fault c.args.mark.now c.loop-record.mark c.read_block.new.mark c.in_err-read_block.field-0.0 c.args.pull.now c.loop-record.pull c.read_block.new.pull (g.F.Files.disk c.args.files.now) (g.F.Files.disk c.loop-record.files) (g.F.Files.disk c.read_block.new.files) c.loop-record.invariant.passed c.in_err-read_block.ensures.after)

pub returns-in-End-clause-after : goal.returns-in-End-clause-after
returns-in-End-clause-after g c =
    passes_all c.args.mark.now c.loop-record.mark c.read_block.new.mark c.args.pull.now c.loop-record.pull c.read_block.new.pull (g.F.Files.disk c.args.files.now) (g.F.Files.disk c.loop-record.files) (g.F.Files.disk c.read_block.new.files) c.loop-record.invariant.passed (rw c.in-End.is at c.in_ok-read_block.ensures.after)

pub returns-in-Found-clause-after : goal.returns-in-Found-clause-after
returns-in-Found-clause-after g c =
    passes_packet c.args.mark.now c.loop-record.mark c.read_block.new.mark (ng_view c.in-Found.record) c.args.pull.now c.loop-record.pull c.read_block.new.pull (g.F.Files.disk c.args.files.now) (g.F.Files.disk c.loop-record.files) (g.F.Files.disk c.read_block.new.files) c.loop-record.invariant.passed (rw c.in-Found.is at c.in_ok-read_block.ensures.after)

pub returns-in-Found-clause-short : goal.returns-in-Found-clause-short
returns-in-Found-clause-short g c = (rw c.in-Found.is at c.in_ok-read_block.ensures.small).0

pub returns-in-Found-clause-early : goal.returns-in-Found-clause-early
returns-in-Found-clause-early g c = (rw c.in-Found.is at c.in_ok-read_block.ensures.small).1

use Rattle.std.proofs.Common.{take}
use Rattle.pcapng_file.proofs.Steps.{frame_fault, frame_cause, front_of_kind, front_long, block_exit, cause_exit, whole_fault, block_counts, counts_cause, counts_short, counts_early}
use Rattle.pcapng_file.proofs.block.read_behind.Goals as goal

pub returns-in_err-frame-clause-after : goal.returns-in_err-frame-clause-after
returns-in_err-frame-clause-after g c =
    let is = rw (c.order.ensures, c.offset.ensures) at c.in_err-frame.ensures.frame in
    block_exit c.from_residual.result c.in_err-frame.field-0.0 c.args.mark.now c.args.mark.now c.args.front.now c.args.pull.now c.args.pull.now (g.F.Files.disk c.args.files.now) (g.F.Files.disk c.args.files.now) c.from_residual.ensures.1
    (frame_fault c.args.mark.now c.args.front.now c.args.pull.now c.in_err-frame.field-0.0 (g.F.Files.disk c.args.files.now) (front_long c.args.front.now c.requires.front) is)

pub returns-in_err-frame-clause-cause : goal.returns-in_err-frame-clause-cause
returns-in_err-frame-clause-cause g c =
    cause_exit c.from_residual.result c.in_err-frame.field-0.0 (g.F.Files.faults c.args.files.now) (g.F.Files.faults c.args.files.now) c.from_residual.ensures.1
    (frame_cause c.order.result c.offset.result (g.F.Files.faults c.args.files.now) (take 12 c.args.front.now) c.in_err-frame.field-0.0 c.in_err-frame.ensures.frame)

pub read_whole-requires-clause-front : goal.read_whole-requires-clause-front
read_whole-requires-clause-front g c = front_of_kind c.args.front.now c.in_ok-frame.frame.kind c.requires.front c.in_ok-frame.ensures.section

pub returns-in_err-content-clause-after : goal.returns-in_err-content-clause-after
returns-in_err-content-clause-after g c =
    let is = rw (c.order.ensures, c.offset.ensures) at c.in_ok-frame.ensures.frame in
    let long = front_long c.args.front.now c.requires.front in
    block_exit c.from_residual-in_err-content.result c.in_err-content.field-0.0 c.args.mark.now c.args.mark.now c.args.front.now c.args.pull.now c.read_whole.new.pull (g.F.Files.disk c.args.files.now) (g.F.Files.disk c.read_whole.new.files) c.from_residual-in_err-content.ensures.1
    (whole_fault c.args.mark.now c.in_ok-frame.frame c.args.front.now c.args.pull.now c.read_whole.new.pull c.in_err-content.field-0.0 (g.F.Files.disk c.args.files.now) (g.F.Files.disk c.read_whole.new.files) long is c.in_err-content.ensures.after)

pub returns-in_err-content-clause-cause : goal.returns-in_err-content-clause-cause
returns-in_err-content-clause-cause g c =
    cause_exit c.from_residual-in_err-content.result c.in_err-content.field-0.0 (g.F.Files.faults c.args.files.now) (g.F.Files.faults c.read_whole.new.files) c.from_residual-in_err-content.ensures.1 c.in_err-content.ensures.cause

pub returns-clause-after : goal.returns-clause-after
returns-clause-after g c =
    let is = rw (c.order.ensures, c.offset.ensures) at c.in_ok-frame.ensures.frame in
    let long = front_long c.args.front.now c.requires.front in
    block_counts c.count.result c.args.mark.now c.count.new.self c.in_ok-frame.frame c.in_ok-content.content c.args.front.now c.args.pull.now c.read_whole.new.pull (g.F.Files.disk c.args.files.now) (g.F.Files.disk c.read_whole.new.files) long is c.in_ok-content.ensures.after c.count.ensures

pub returns-clause-cause : goal.returns-clause-cause
returns-clause-cause g c =
    counts_cause c.count.result c.args.mark.now c.count.new.self c.in_ok-frame.frame c.in_ok-content.content (g.F.Files.faults c.args.files.now) (g.F.Files.faults c.read_whole.new.files) c.in_ok-content.ensures.cause c.count.ensures

pub returns-clause-short : goal.returns-clause-short
returns-clause-short g c = counts_short c.count.result c.args.mark.now c.count.new.self c.in_ok-frame.frame c.in_ok-content.content c.count.ensures

pub returns-clause-early : goal.returns-clause-early
returns-clause-early g c = counts_early c.count.result c.args.mark.now c.count.new.self c.in_ok-frame.frame c.in_ok-content.content c.count.ensures

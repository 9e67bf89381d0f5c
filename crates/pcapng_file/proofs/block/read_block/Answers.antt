use Rattle.std.proofs.Common.{inl, refl, [], ◌∷◌}
use Rattle.pcapng_file.specs.Reading.{ng_view}
use Rattle.pcapng_file.proofs.Steps.{step_exit, front_none, front_fault, behind_block, behind_fault}
use Rattle.pcapng_file.proofs.block.read_block.Goals as goal

pub returns-in_err-front-clause-after : goal.returns-in_err-front-clause-after
returns-in_err-front-clause-after g c =
    step_exit c.from_residual.result c.in_err-front.field-0.0 c.args.mark.now c.args.mark.now c.args.pull.now c.read_front.new.pull (g.F.Files.disk c.args.files.now) (g.F.Files.disk c.read_front.new.files) c.from_residual.ensures.1
    (front_fault c.args.mark.now c.offset.result c.args.pull.now c.read_front.new.pull c.in_err-front.field-0.0 (g.F.Files.disk c.args.files.now) (g.F.Files.disk c.read_front.new.files) c.offset.ensures c.in_err-front.ensures.after)

pub returns-in-None-clause-after : goal.returns-in-None-clause-after
returns-in-None-clause-after g c =
    front_none c.args.mark.now c.args.mark.now c.offset.result c.args.pull.now c.read_front.new.pull (g.F.Files.disk c.args.files.now) (g.F.Files.disk c.read_front.new.files) refl (rw c.in-None.is at c.in_ok-front.ensures.after)

pub read_behind-requires-clause-front : goal.read_behind-requires-clause-front
read_behind-requires-clause-front g c =
    let first = rw c.in-Some.is at c.in_ok-front.ensures.after in
    inl first.1

pub returns-in_err-record-clause-after : goal.returns-in_err-record-clause-after
returns-in_err-record-clause-after g c =
    let first = rw c.in-Some.is at c.in_ok-front.ensures.after in
    step_exit c.from_residual-in_err-record.result c.in_err-record.field-0.0 c.args.mark.now c.read_behind.new.mark c.args.pull.now c.read_behind.new.pull (g.F.Files.disk c.args.files.now) (g.F.Files.disk c.read_behind.new.files) c.from_residual-in_err-record.ensures.1
    (behind_fault c.args.mark.now c.in_err-record.field-0.0 c.in-Some.front c.args.pull.now c.read_front.new.pull c.read_behind.new.pull (g.F.Files.disk c.args.files.now) (g.F.Files.disk c.read_front.new.files) (g.F.Files.disk c.read_behind.new.files) first.0 c.in_err-record.ensures.after)

pub returns-in-Some-2-clause-after : goal.returns-in-Some-2-clause-after
returns-in-Some-2-clause-after g c =
    let first = rw c.in-Some.is at c.in_ok-front.ensures.after in
    behind_block c.args.mark.now c.read_behind.new.mark (ng_view c.in-Some-2.record ∷ []) c.in-Some.front c.args.pull.now c.read_front.new.pull c.read_behind.new.pull (g.F.Files.disk c.args.files.now) (g.F.Files.disk c.read_front.new.files) (g.F.Files.disk c.read_behind.new.files) first.0 (rw c.in-Some-2.is at c.in_ok-record.ensures.after)

pub returns-in-None-2-clause-after : goal.returns-in-None-2-clause-after
returns-in-None-2-clause-after g c =
    let first = rw c.in-Some.is at c.in_ok-front.ensures.after in
    behind_block c.args.mark.now c.read_behind.new.mark [] c.in-Some.front c.args.pull.now c.read_front.new.pull c.read_behind.new.pull (g.F.Files.disk c.args.files.now) (g.F.Files.disk c.read_front.new.files) (g.F.Files.disk c.read_behind.new.files) first.0 (rw c.in-None-2.is at c.in_ok-record.ensures.after)

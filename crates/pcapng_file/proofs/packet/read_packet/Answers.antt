use Rattle.std.proofs.Common.{◌≡◌, ◌≤◌, ◌-◌, ℕ, List, Result, refl, take, arith}
use Rattle.std.proofs.lemmas.Result.{IfOk-at_ok}
use Rattle.pcapng_file.specs.declared.fault.NgFault.{NgFault}
use Rattle.pcapng_file.specs.declared.content.Content.{Content}
use Rattle.pcapng_file.specs.declared.packet.Plan.{Plan}
use Rattle.pcapng_file.specs.Options.{filled}
use Rattle.pcapng_file.specs.Blocks.{new_packet}
use Rattle.pcapng_file.specs.Reading.{verdict_view}
use Rattle.pcapng_file.proofs.Parts.{stop_then, stop_exit}
use Rattle.pcapng_file.proofs.Meanings.{bytes_part}
use Rattle.pcapng_file.proofs.packet.read_packet.Goals as goal

pub returns-in_err-skip-clause-after : goal.returns-in_err-skip-clause-after
returns-in_err-skip-clause-after g c =
    let plan = c.in-Ok.plan in
    let fit : filled plan.captured ≤ c.args.room = IfOk-at_ok (λ (p : Plan). filled p.captured ≤ c.args.room) c.in-Ok.is c.requires.room in
    stop_exit (λ (said : Result Content NgFault) (taken : List ℕ). verdict_view said ≡ new_packet c.args.offset taken c.args.plan) c.from_residual-in_err-skip.result c.in_err-skip.field-0.0 c.args.room
    c.args.pull.now c.skip-2.new.pull (g.F.Files.disk c.args.files.now) (g.F.Files.disk c.skip-2.new.files) c.from_residual-in_err-skip.ensures.1
    (stop_then (λ taken. c.in_ok-bytes.bytes ≡ take plan.captured taken) c.in_err-skip.field-0.0 (filled plan.captured) (c.args.room - c.filled.result) c.args.room
    c.args.pull.now c.take_filled.new.pull c.skip-2.new.pull (g.F.Files.disk c.args.files.now) (g.F.Files.disk c.take_filled.new.files) (g.F.Files.disk c.skip-2.new.files)
    c.in_ok-bytes.ensures.after c.in_err-skip.ensures.after (omega (arith, fit, c.filled.ensures)))

pub returns-clause-after : goal.returns-clause-after
returns-clause-after g c =
    let plan = c.in-Ok.plan in
    let fit : filled plan.captured ≤ c.args.room = IfOk-at_ok (λ (p : Plan). filled p.captured ≤ c.args.room) c.in-Ok.is c.requires.room in
    bytes_part c.args.offset c.args.room plan c.args.plan c.in_ok-bytes.bytes _ c.args.pull.now c.take_filled.new.pull c.skip-2.new.pull (g.F.Files.disk c.args.files.now) (g.F.Files.disk c.take_filled.new.files) (g.F.Files.disk c.skip-2.new.files)
    c.in-Ok.is fit c.in_ok-bytes.ensures.after (rw c.filled.ensures at c.in_ok-skip.ensures.after) refl

use Rattle.std.proofs.Common.{◌≡◌, ◌-◌, ◌++◌, ℕ, List, Result, Ok, Err, ap, arith}
use Rattle.pcapng_file.specs.declared.fault.NgFault.{NgFault}
use Rattle.pcapng_file.specs.declared.content.Content.{Content}
use Rattle.pcapng_file.specs.declared.interface.Interface.{Interface}
use Rattle.pcapng_file.specs.Blocks.{NewInterface, new_interface, meaning_of}
use Rattle.pcapng_file.specs.Reading.{verdict_view}
use Rattle.pcapng_file.proofs.Parts.{part_long, stop_first, stop_then, stop_exit}
use Rattle.pcapng_file.proofs.Meanings.{interface_part}
use Rattle.pcapng_file.proofs.content.read_interface.Goals as goal

pub returns-in_err-snap-clause-after : goal.returns-in_err-snap-clause-after
returns-in_err-snap-clause-after g c =
    stop_exit (λ (said : Result Content NgFault) (taken : List ℕ). verdict_view said ≡ meaning_of c.args.mark.now c.args.frame (c.args.front.now ++ taken)) c.from_residual.result c.in_err-snap.field-0.0 (c.args.frame.total - 16)
    c.args.pull.now c.take.new.pull (g.F.Files.disk c.args.files.now) (g.F.Files.disk c.take.new.files) c.from_residual.ensures.1
    (stop_first c.in_err-snap.field-0.0 4 (c.args.frame.total - 16) c.args.pull.now c.take.new.pull (g.F.Files.disk c.args.files.now) (g.F.Files.disk c.take.new.files) c.in_err-snap.ensures.after (omega (arith, c.requires.least)))

pub returns-in_err-said-clause-after : goal.returns-in_err-said-clause-after
returns-in_err-said-clause-after g c =
    stop_exit (λ (said : Result Content NgFault) (taken : List ℕ). verdict_view said ≡ meaning_of c.args.mark.now c.args.frame (c.args.front.now ++ taken)) c.from_residual-in_err-said.result c.in_err-said.field-0.0 (c.args.frame.total - 16)
    c.args.pull.now c.read_options.new.pull (g.F.Files.disk c.args.files.now) (g.F.Files.disk c.read_options.new.files) c.from_residual-in_err-said.ensures.1
    (stop_then (λ taken. taken ≡ c.in_ok-snap.snap) c.in_err-said.field-0.0 4 (c.args.frame.total - 20) (c.args.frame.total - 16) c.args.pull.now c.take.new.pull c.read_options.new.pull
    (g.F.Files.disk c.args.files.now) (g.F.Files.disk c.take.new.files) (g.F.Files.disk c.read_options.new.files) c.in_ok-snap.ensures.after c.in_err-said.ensures.after (omega (arith, c.requires.least)))

pub returns-in-Ok-clause-after : goal.returns-in-Ok-clause-after
returns-in-Ok-clause-after g c =
    let made = rw (c.offset.ensures, c.count_interfaces.ensures, c.number16.ensures, c.number32.ensures) at c.in-Ok.ensures.interface in
    interface_part c.args.mark.now c.args.frame c.args.front.now c.in_ok-snap.snap c.in_ok-said.said (Ok (NewInterface c.in-Ok.interface)) c.args.pull.now c.take.new.pull c.read_options.new.pull
    (g.F.Files.disk c.args.files.now) (g.F.Files.disk c.take.new.files) (g.F.Files.disk c.read_options.new.files) c.requires.kind c.requires.front
    (part_long c.in_ok-snap.snap 4 c.args.pull.now c.take.new.pull (g.F.Files.disk c.args.files.now) (g.F.Files.disk c.take.new.files) c.in_ok-snap.ensures.after) c.requires.least
    c.in_ok-snap.ensures.after c.in_ok-said.ensures.after (ap (λ (r : Result Interface NgFault). new_interface r) made)

pub returns-in-Err-clause-after : goal.returns-in-Err-clause-after
returns-in-Err-clause-after g c =
    let made = rw (c.offset.ensures, c.count_interfaces.ensures, c.number16.ensures, c.number32.ensures) at c.in-Err.ensures.interface in
    interface_part c.args.mark.now c.args.frame c.args.front.now c.in_ok-snap.snap c.in_ok-said.said (Err c.in-Err.fault) c.args.pull.now c.take.new.pull c.read_options.new.pull
    (g.F.Files.disk c.args.files.now) (g.F.Files.disk c.take.new.files) (g.F.Files.disk c.read_options.new.files) c.requires.kind c.requires.front
    (part_long c.in_ok-snap.snap 4 c.args.pull.now c.take.new.pull (g.F.Files.disk c.args.files.now) (g.F.Files.disk c.take.new.files) c.in_ok-snap.ensures.after) c.requires.least
    c.in_ok-snap.ensures.after c.in_ok-said.ensures.after (ap (λ (r : Result Interface NgFault). new_interface r) made)

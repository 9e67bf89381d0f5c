use Rattle.std.proofs.Common.{◌≡◌, ◌-◌, ◌++◌, ℕ, List, Result, arith}
use Rattle.pcapng_file.specs.declared.fault.NgFault.{NgFault}
use Rattle.pcapng_file.specs.declared.content.Content.{Content}
use Rattle.pcapng_file.specs.Blocks.{meaning_of}
use Rattle.pcapng_file.specs.Reading.{verdict_view}
use Rattle.pcapng_file.proofs.Parts.{part_long, stop_first, stop_exit}
use Rattle.pcapng_file.proofs.Contents.{packet_after, sound_packet}
use Rattle.pcapng_file.proofs.content.read_enhanced.Goals as goal

pub returns-in_err-fields-clause-after : goal.returns-in_err-fields-clause-after
returns-in_err-fields-clause-after g c =
    stop_exit (λ (said : Result Content NgFault) (taken : List ℕ). verdict_view said ≡ meaning_of c.args.mark.now c.args.frame (c.args.front.now ++ taken)) c.from_residual.result c.in_err-fields.field-0.0 (c.args.frame.total - 16)
    c.args.pull.now c.take.new.pull (g.F.Files.disk c.args.files.now) (g.F.Files.disk c.take.new.files) c.from_residual.ensures.1
    (stop_first c.in_err-fields.field-0.0 16 (c.args.frame.total - 16) c.args.pull.now c.take.new.pull (g.F.Files.disk c.args.files.now) (g.F.Files.disk c.take.new.files) c.in_err-fields.ensures.after (omega (arith, c.requires.least)))

pub returns-clause-after : goal.returns-clause-after
returns-clause-after g c =
    let plan = rw (c.offset.ensures, c.from.ensures, c.number32.ensures, c.from-2.ensures, c.number32-2.ensures, c.number32-3.ensures, c.number32-4.ensures, c.interface.ensures.value, c.number32-5.ensures) at c.plan_packet-plan.ensures.plan in
    packet_after c.args.mark.now c.args.frame c.args.front.now c.in_ok-fields.fields c.plan_packet-plan.result c.read_packet.result c.args.pull.now c.take.new.pull c.read_packet.new.pull
    (g.F.Files.disk c.args.files.now) (g.F.Files.disk c.take.new.files) (g.F.Files.disk c.read_packet.new.files) c.requires.kind c.requires.front
    (part_long c.in_ok-fields.fields 16 c.args.pull.now c.take.new.pull (g.F.Files.disk c.args.files.now) (g.F.Files.disk c.take.new.files) c.in_ok-fields.ensures.after) c.requires.least plan
    c.in_ok-fields.ensures.after (rw c.offset-2.ensures at c.read_packet.ensures.after)

pub returns-clause-sound : goal.returns-clause-sound
returns-clause-sound g c = sound_packet c.args.mark.now c.read_packet.result c.read_packet.ensures.short

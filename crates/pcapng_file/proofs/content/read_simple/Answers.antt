use Rattle.pcapng_file.proofs.Contents.{simple_after, sound_packet}
use Rattle.pcapng_file.proofs.content.read_simple.Goals as goal

pub returns-clause-after : goal.returns-clause-after
returns-clause-after g c =
    let plan = rw (c.offset.ensures, c.stamp.ensures.value, c.number32-original.ensures, c.interface.ensures.value) at c.plan_simple-plan.ensures.plan in
    simple_after c.args.mark.now c.args.frame c.args.front.now c.plan_simple-plan.result c.read_packet.result c.args.pull.now c.read_packet.new.pull
    (g.F.Files.disk c.args.files.now) (g.F.Files.disk c.read_packet.new.files) c.requires.kind c.requires.front plan (rw c.offset-2.ensures at c.read_packet.ensures.after)

pub returns-clause-sound : goal.returns-clause-sound
returns-clause-sound g c = sound_packet c.args.mark.now c.read_packet.result c.read_packet.ensures.short

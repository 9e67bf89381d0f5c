use Rattle.std.proofs.Common.{◌≡◌, ◌≤◌, ◌+◌, ◌-◌, ◌++◌, ◌∙◌, length, arith, Ok}
use Rattle.std.specs.Prelude.{◌==◌}
use Rattle.pcap_file.specs.Numbers.{number_at}
use Rattle.pcapng_file.specs.declared.content.Content.TheVariants.{Other}
use Rattle.pcapng_file.specs.declared.fault.NgFault.TheVariants.{Block}
use Rattle.pcapng_file.specs.Blocks.{meaning_of}
use Rattle.pcapng_file.specs.Reading.{verdict_view, CanFollow}
use Rattle.pcapng_file.proofs.Heads.{least_some}
use Rattle.pcapng_file.proofs.Parts.{part_long, stop_then}
use Rattle.pcapng_file.proofs.Wholes.{whole_ended, whole_stop, whole_empty, only_other, front_fits, ended_sound, ended_cause}
use Rattle.pcapng_file.proofs.block.read_whole.Goals as goal

pub read_empty-requires : goal.read_empty-requires
read_empty-requires g c =
    let kind = only_other c.args.frame.kind (omega (arith, c.requires.least)) in
    rw kind at c.requires.front

pub read_content-requires-clause-long : goal.read_content-requires-clause-long
read_content-requires-clause-long g c = omega (arith, least_some c.args.frame.kind, c.requires.least, c.requires.whole)

pub returns-then-frame-eq-FRONT-clause-after : goal.returns-then-frame-eq-FRONT-clause-after
returns-then-frame-eq-FRONT-clause-after g c =
    let kind = only_other c.args.frame.kind (omega (arith, c.requires.least)) in
    whole_empty c.args.mark.now c.args.frame c.args.front.now c.offset.result c.read_empty.result c.args.pull.now (g.F.Files.disk c.args.files.now) c.if-frame-eq-FRONT.true (rw kind at c.requires.front) kind c.offset.ensures c.read_empty.ensures

pub returns-then-frame-eq-FRONT-clause-sound : goal.returns-then-frame-eq-FRONT-clause-sound
returns-then-frame-eq-FRONT-clause-sound g c =
    ended_sound (number_at c.args.frame.order 4 8 c.args.front.now == c.args.frame.total) (CanFollow c.args.mark.now) (Block c.offset.result) (Ok Other) c.read_empty.result c.read_empty.ensures tt

pub returns-in-Err-clause-after : goal.returns-in-Err-clause-after
returns-in-Err-clause-after g c =
    let some : 16 ≤ c.args.frame.total = omega (arith, least_some c.args.frame.kind, c.requires.least, c.requires.whole) in
    let fit : length c.args.front.now + 4 ≤ c.args.frame.total = front_fits c.args.frame.kind (length c.args.front.now) c.args.frame.total c.requires.front c.requires.least some in
    whole_stop c.in-Err.stop c.fault_at-in-Err.result c.args.mark.now c.args.frame c.args.front.now (c.args.frame.total - 4 - length c.args.front.now) c.offset-in-Err.result c.args.pull.now c.read_content.new.pull (g.F.Files.disk c.args.files.now) (g.F.Files.disk c.read_content.new.files) (omega (arith, fit)) c.offset-in-Err.ensures c.fault_at-in-Err.ensures c.in-Err.ensures.after

pub returns-in-Err-take-clause-after : goal.returns-in-Err-take-clause-after
returns-in-Err-take-clause-after g c =
    let some : 16 ≤ c.args.frame.total = omega (arith, least_some c.args.frame.kind, c.requires.least, c.requires.whole) in
    let fit : length c.args.front.now + 4 ≤ c.args.frame.total = front_fits c.args.frame.kind (length c.args.front.now) c.args.frame.total c.requires.front c.requires.least some in
    whole_stop c.in-Err-take.stop c.fault_at.result c.args.mark.now c.args.frame c.args.front.now (c.args.frame.total - length c.args.front.now) c.offset-in-Err-take.result c.args.pull.now c.take.new.pull (g.F.Files.disk c.args.files.now) (g.F.Files.disk c.take.new.files) (omega (arith, fit)) c.offset-in-Err-take.ensures c.fault_at.ensures
    (stop_then (λ taken. verdict_view c.in-Ok.verdict ≡ meaning_of c.args.mark.now c.args.frame (c.args.front.now ++ taken)) c.in-Err-take.stop (c.args.frame.total - 4 - length c.args.front.now) 4 (c.args.frame.total - length c.args.front.now) c.args.pull.now c.read_content.new.pull c.take.new.pull (g.F.Files.disk c.args.files.now) (g.F.Files.disk c.read_content.new.files) (g.F.Files.disk c.take.new.files) c.in-Ok.ensures.after c.in-Err-take.ensures.after (omega (arith, fit)))

pub returns-in-Ok-take-clause-after : goal.returns-in-Ok-take-clause-after
returns-in-Ok-take-clause-after g c =
    let some : 16 ≤ c.args.frame.total = omega (arith, least_some c.args.frame.kind, c.requires.least, c.requires.whole) in
    let fit : length c.args.front.now + 4 ≤ c.args.frame.total = front_fits c.args.frame.kind (length c.args.front.now) c.args.frame.total c.requires.front c.requires.least some in
    whole_ended c.args.mark.now c.args.frame c.args.front.now c.in-Ok-take.end c.offset-in-Ok-take.result c.in-Ok.verdict c.ended.result c.args.pull.now c.read_content.new.pull c.take.new.pull (g.F.Files.disk c.args.files.now) (g.F.Files.disk c.read_content.new.files) (g.F.Files.disk c.take.new.files) fit
    (part_long c.in-Ok-take.end 4 c.read_content.new.pull c.take.new.pull (g.F.Files.disk c.read_content.new.files) (g.F.Files.disk c.take.new.files) c.in-Ok-take.ensures.after) c.offset-in-Ok-take.ensures c.in-Ok.ensures.after c.in-Ok-take.ensures.after c.ended.ensures

pub returns-in-Ok-take-clause-sound : goal.returns-in-Ok-take-clause-sound
returns-in-Ok-take-clause-sound g c =
    ended_sound (number_at c.args.frame.order 4 0 c.in-Ok-take.end == c.args.frame.total) (CanFollow c.args.mark.now) (Block c.offset-in-Ok-take.result) c.in-Ok.verdict c.ended.result c.ended.ensures c.in-Ok.ensures.sound

pub returns-in-Ok-take-clause-cause : goal.returns-in-Ok-take-clause-cause
returns-in-Ok-take-clause-cause g c =
    ended_cause (number_at c.args.frame.order 4 0 c.in-Ok-take.end == c.args.frame.total) c.offset-in-Ok-take.result (c.args.frame.total - 4 - length c.args.front.now) c.in-Ok.verdict c.ended.result c.args.mark.now c.args.frame c.args.front.now c.args.pull.now c.read_content.new.pull (g.F.Files.disk c.args.files.now) (g.F.Files.disk c.read_content.new.files)
    (g.F.Files.faults c.args.files.now) (g.F.Files.faults c.take.new.files) c.ended.ensures (c.in-Ok-take.ensures.cause ∙ c.in-Ok.ensures.cause) c.in-Ok.ensures.after

use Rattle.std.proofs.Common.{◌≡◌, ◌-◌, ◌++◌, ℕ, List, length, Result}
use Rattle.pcapng_file.specs.declared.fault.NgFault.{NgFault}
use Rattle.pcapng_file.specs.declared.content.Content.{Content}
use Rattle.pcapng_file.specs.Blocks.{meaning_of}
use Rattle.pcapng_file.specs.Reading.{verdict_view}
use Rattle.pcapng_file.proofs.Parts.{stop_exit}
use Rattle.pcapng_file.proofs.Contents.{section_new, section_bad}
use Rattle.pcapng_file.proofs.content.read_section.Goals as goal

pub returns-in_err-major-clause-after : goal.returns-in_err-major-clause-after
returns-in_err-major-clause-after g c =
    stop_exit (λ (said : Result Content NgFault) (taken : List ℕ). verdict_view said ≡ meaning_of c.args.mark.now c.args.frame (c.args.front.now ++ taken)) c.from_residual.result c.in_err-major.field-0.0 (c.args.frame.total - 4 - length c.args.front.now)
    c.args.pull.now c.read_version.new.pull (g.F.Files.disk c.args.files.now) (g.F.Files.disk c.read_version.new.files) c.from_residual.ensures.1 c.in_err-major.ensures.after

pub returns-then-major-ne1-clause-after : goal.returns-then-major-ne1-clause-after
returns-then-major-ne1-clause-after g c =
    section_bad c.args.mark.now c.args.frame c.args.front.now c.in_ok-major.major (c.args.frame.total - 4 - length c.args.front.now) c.offset.result
    c.args.pull.now c.read_version.new.pull (g.F.Files.disk c.args.files.now) (g.F.Files.disk c.read_version.new.files) c.requires.kind c.if-major-ne1.true c.offset.ensures c.in_ok-major.ensures.after

pub returns-clause-after : goal.returns-clause-after
returns-clause-after g c =
    section_new c.args.mark.now c.args.frame c.args.front.now c.in_ok-major.major (c.args.frame.total - 4 - length c.args.front.now)
    c.args.pull.now c.read_version.new.pull (g.F.Files.disk c.args.files.now) (g.F.Files.disk c.read_version.new.files) c.requires.kind c.if-major-ne1.false c.in_ok-major.ensures.after

use Rattle.std.proofs.Common.{refl}
use Rattle.dump_command.specs.Dump.{dump_output}
use Rattle.rtpbin_cli.specs.Words.{Dump}
use Rattle.rtpbin_cli.proofs.Forms.{covers_of_form}
use Rattle.rtpbin_cli.proofs.Running.{open_fails, capture_runs}
use Rattle.rtpbin_cli.proofs.tool.dump_capture.Goals as goal

pub returns-in-Ok-clause-runs : goal.returns-in-Ok-clause-runs
returns-in-Ok-clause-runs g c = λ told.
    let before = g.F.Files.disk c.args.files.now in
    let start = g.F.Files.disk c.open_file.new.self in
    let after = g.F.Files.disk c.dump_open.new.files in
    capture_runs (Dump c.args.capture.now) (λ contents. refl) dump_output c.dump_open.result before start after _ _ told c.open_file.ensures.same c.dump_open.ensures.same refl (c.in-Ok.ensures.opened told) c.dump_open.ensures.opened c.dump_open.ensures.covers

pub returns-in-Ok-clause-of_form : goal.returns-in-Ok-clause-of_form
returns-in-Ok-clause-of_form g c =
    covers_of_form dump_output c.dump_open.result (g.F.Files.disk c.open_file.new.self) (g.F.Files.disk c.dump_open.new.files) (g.O.Sink.written c.args.out.now) (g.O.Sink.written c.dump_open.new.out) c.dump_open.ensures.covers

pub returns-in-Err-clause-runs : goal.returns-in-Err-clause-runs
returns-in-Err-clause-runs g c = λ told.
    open_fails (Dump c.args.capture.now) (g.F.Files.disk c.open_file.new.self) _ (c.in-Err.ensures.closed told)

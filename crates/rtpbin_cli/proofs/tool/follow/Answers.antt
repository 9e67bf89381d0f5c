use Rattle.std.proofs.Common.{ap, refl}
use Rattle.rtp_io.specs.Laws.{same_then, told_then}
use Rattle.rtpbin_cli.specs.Words.{Scripted}
use Rattle.rtpbin_cli.specs.Commands.{scripted_by, scripted_output}
use Rattle.rtpbin_cli.proofs.Scripts.{BeginsNoCapture, IsScript}
use Rattle.rtpbin_cli.proofs.Sections.{no_section}
use Rattle.rtpbin_cli.proofs.Forms.{covers_of_form}
use Rattle.rtpbin_cli.proofs.Running.{script_stops, open_fails, capture_runs}
use Rattle.rtpbin_cli.proofs.tool.follow.Goals as goal

pub returns-in-Err-clause-runs : goal.returns-in-Err-clause-runs
returns-in-Err-clause-runs g c = λ told.
    let law : BeginsNoCapture IsScript = record {
      big = λ xs is. c.begins_no_capture.ensures.big xs is.0 is.1;
      little = λ xs is. c.begins_no_capture.ensures.little xs is.0 is.1;
      nano = λ xs is. c.begins_no_capture.ensures.nano xs is.0 is.1;
      section = λ xs is. no_section xs is.0 is.1;
    } in
    script_stops law c.args.way c.args.capture.now c.args.script.now c.in-Err.stop _ _ _ c.read_script.ensures.same c.in-Err.ensures.after told

pub returns-in-Ok-open_file-clause-runs : goal.returns-in-Ok-open_file-clause-runs
returns-in-Ok-open_file-clause-runs g c = λ told.
    let before = g.F.Files.disk c.args.files.now in
    let mid = g.F.Files.disk c.read_script.new.files in
    let start = g.F.Files.disk c.open_file.new.self in
    let after = g.F.Files.disk c.follow_open.new.files in
    capture_runs (Scripted c.args.way c.args.capture.now c.args.script.now) (λ contents. refl) (scripted_output c.args.way c.in-Ok.script) c.follow_open.result before start after _ _ told
    (same_then before mid start c.read_script.ensures.same c.open_file.ensures.same) c.follow_open.ensures.same
    (ap (scripted_by c.args.way) (c.in-Ok.ensures.after told)) (c.in-Ok-open_file.ensures.opened (told_then before mid c.read_script.ensures.same told)) c.follow_open.ensures.opened c.follow_open.ensures.covers

pub returns-clause-runs : goal.returns-clause-runs
returns-clause-runs g c = λ told.
    let before = g.F.Files.disk c.args.files.now in
    let mid = g.F.Files.disk c.read_script.new.files in
    open_fails (Scripted c.args.way c.args.capture.now c.args.script.now) (g.F.Files.disk c.open_file.new.self) _ (c.in-Err-open_file.ensures.closed (told_then before mid c.read_script.ensures.same told))

pub returns-in-Ok-open_file-clause-of_form : goal.returns-in-Ok-open_file-clause-of_form
returns-in-Ok-open_file-clause-of_form g c =
    covers_of_form (scripted_output c.args.way c.in-Ok.script) c.follow_open.result (g.F.Files.disk c.open_file.new.self) (g.F.Files.disk c.follow_open.new.files) (g.O.Sink.written c.args.out.now) (g.O.Sink.written c.follow_open.new.out) c.follow_open.ensures.covers

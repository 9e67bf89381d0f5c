use Rattle.std.proofs.Common.{ap, refl, subst, ◌∙◌, ℕ}
use Rattle.command_core.specs.Steps.{HasStopCause}
use Rattle.rtp_io.specs.Laws.{same_then, told_then}
use Rattle.rtpbin_cli.specs.Words.{Described}
use Rattle.rtpbin_cli.specs.Commands.{described_by, described_output}
use Rattle.rtpbin_cli.proofs.Scripts.{BeginsNoCapture, IsDescription, AreTimes}
use Rattle.rtpbin_cli.proofs.Forms.{covers_of_form, no_usage, described_no_usage, cause_any}
use Rattle.rtpbin_cli.proofs.Running.{described_stops, open_fails, capture_runs, runs_any}
use Rattle.rtpbin_cli.proofs.tool.follow_described.Goals as goal

pub returns-in-Err-clause-runs : goal.returns-in-Err-clause-runs
returns-in-Err-clause-runs g c = λ told.
    let first : BeginsNoCapture IsDescription = record {
      big = λ xs is. c.description_begins_no_capture.ensures.big xs is.0 is.1 is.2;
      little = λ xs is. c.description_begins_no_capture.ensures.little xs is.0 is.1 is.2;
      nano = λ xs is. c.description_begins_no_capture.ensures.nano xs is.0 is.1 is.2;
      section = λ xs is. c.description_begins_no_capture.ensures.section xs is.0 is.1 is.2;
    } in
    let second : BeginsNoCapture AreTimes = record {
      big = λ xs is. c.times_begin_no_capture.ensures.big is.0 xs is.1 is.2;
      little = λ xs is. c.times_begin_no_capture.ensures.little is.0 xs is.1 is.2;
      nano = λ xs is. c.times_begin_no_capture.ensures.nano is.0 xs is.1 is.2;
      section = λ xs is. c.times_begin_no_capture.ensures.section is.0 xs is.1 is.2;
    } in
    described_stops first second c.args.capture.now c.args.sdp.now c.args.times.now c.in-Err.failure _ _ _ c.in-Err.ensures.after told

pub returns-in-Err-clause-usage : goal.returns-in-Err-clause-usage
returns-in-Err-clause-usage g c =
    described_no_usage c.in-Err.failure c.args.capture.now c.args.sdp.now c.args.times.now _ _ c.in-Err.ensures.after

pub returns-in-Ok-open_file-clause-runs : goal.returns-in-Ok-open_file-clause-runs
returns-in-Ok-open_file-clause-runs g c = λ told.
    let before = g.F.Files.disk c.args.files.now in
    let mid = g.F.Files.disk c.read_described.new.files in
    let start = g.F.Files.disk c.open_file.new.self in
    let after = g.F.Files.disk c.play_open.new.files in
    let runs = capture_runs (Described c.args.capture.now c.args.sdp.now c.args.times.now) (λ contents. refl) (described_output c.in-Ok.script) c.play_open.result before start after _ _ told
    (same_then before mid start c.read_described.ensures.same c.open_file.ensures.same) c.play_open.ensures.same
    (ap described_by (c.in-Ok.ensures.after told)) (c.in-Ok-open_file.ensures.opened (told_then before mid c.read_described.ensures.same told)) c.play_open.ensures.opened c.play_open.ensures.covers in
    rw c.stopped.ensures (runs_any c.play_open.result _ _ _ _ _ runs)

pub returns-in-Ok-open_file-clause-usage : goal.returns-in-Ok-open_file-clause-usage
returns-in-Ok-open_file-clause-usage g c =
    rw c.stopped.ensures (no_usage c.play_open.result _ (Described c.args.capture.now c.args.sdp.now c.args.times.now) refl
    (covers_of_form (described_output c.in-Ok.script) c.play_open.result (g.F.Files.disk c.open_file.new.self) (g.F.Files.disk c.play_open.new.files) (g.O.Sink.written c.args.out.now) (g.O.Sink.written c.play_open.new.out) c.play_open.ensures.covers))

pub returns-in-Ok-open_file-clause-cause : goal.returns-in-Ok-open_file-clause-cause
returns-in-Ok-open_file-clause-cause g c =
    let same = c.in-Ok-open_file.ensures.cause ∙ c.in-Ok.ensures.cause.0 in
    rw c.stopped.ensures (cause_any c.play_open.result (g.F.Files.faults c.args.files.now) _ _ _
    (subst (λ (f : ℕ). HasStopCause c.play_open.result f (g.F.Files.faults c.play_open.new.files) (g.O.Sink.faults c.args.out.now) (g.O.Sink.faults c.play_open.new.out)) same c.play_open.ensures.cause))

pub returns-clause-runs : goal.returns-clause-runs
returns-clause-runs g c = λ told.
    let before = g.F.Files.disk c.args.files.now in
    let mid = g.F.Files.disk c.read_described.new.files in
    open_fails (Described c.args.capture.now c.args.sdp.now c.args.times.now) (g.F.Files.disk c.open_file.new.self) _ (c.in-Err-open_file.ensures.closed (told_then before mid c.read_described.ensures.same told))

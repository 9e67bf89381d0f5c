use Rattle.std.proofs.Common.{◌≡◌, ◌∙◌, ap, subst, ℕ, List}
use Rattle.rtp_io.specs.Laws.{same_then, told_then}
use Rattle.live_cli.specs.Words.{form_view}
use Rattle.live_cli.specs.Outcome.{Wanted}
use Rattle.live_cli.specs.Steps.{Runs}
use Rattle.live_cli.proofs.Running.{script_stops, script_silent, script_of_form, quiet_cause}
use Rattle.live_cli.proofs.Running.{wanted_is}
use Rattle.live_cli.proofs.live.follow.Goals as goal

pub returns-in-Err-clause-runs : goal.returns-in-Err-clause-runs
returns-in-Err-clause-runs g c = λ told.
    script_stops (form_view c.args.asked) c.in-Err.stop _ _ _ c.in-Err.ensures.after told

pub returns-in-Err-clause-silent : goal.returns-in-Err-clause-silent
returns-in-Err-clause-silent g c =
    script_silent c.in-Err.stop _ _ _ _ c.in-Err.ensures.after

pub returns-in-Err-clause-of_form : goal.returns-in-Err-clause-of_form
returns-in-Err-clause-of_form g c = script_of_form c.in-Err.stop _ _ _ c.in-Err.ensures.after

pub returns-in-Err-clause-cause : goal.returns-in-Err-clause-cause
returns-in-Err-clause-cause g c = quiet_cause c.in-Err.stop _ _ _ c.in-Err.ensures.cause

pub returns-in-Ok-open_file-clause-runs : goal.returns-in-Ok-open_file-clause-runs
returns-in-Ok-open_file-clause-runs g c = λ told.
    let before = g.F.Files.disk c.args.files.now in
    let mid = g.F.Files.disk c.read_script.new.files in
    let start = g.F.Files.disk c.open_file.new.self in
    let x = g.O.Sink.written c.args.out.now in
    let x' = g.O.Sink.written c.run_open.new.out in
    let same = same_then before mid start c.read_script.ensures.same c.open_file.ensures.same in
    let told' = told_then before start same told in
    let opened = c.in-Ok-open_file.ensures.opened (told_then before mid c.read_script.ensures.same told) in
    let left : start.left ≡ before.contents c.args.asked.capture.now =
    opened.all ∙ ap (λ (f : List ℕ → List ℕ). f c.args.asked.capture.now) same.contents in
    subst (λ (want : Wanted). Runs c.run_open.result want x x')
    (wanted_is (form_view c.args.asked) c.in-Ok.script before start (c.in-Ok.ensures.after told) left)
    (c.run_open.ensures.runs told')

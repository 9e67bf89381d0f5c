use Rattle.std.proofs.Common.{subst, refl, Option, Some, Err}
use Rattle.rtp_io.specs.Laws.{adds_none}
use Rattle.command_core.specs.declared.stop.Stop.TheVariants as stop
use Rattle.rtpscan_cli.specs.Words.{Form, form_view}
use Rattle.rtpscan_cli.specs.Scanned.{scan_output}
use Rattle.rtpscan_cli.specs.Outcome.{Knows, wanted}
use Rattle.rtpscan_cli.specs.Steps.{Runs}
use Rattle.rtpscan_cli.proofs.Running.{covers_no_usage, read_no_usage, capture_runs}
use Rattle.rtpscan_cli.proofs.tool.run.Goals as goal

pub returns-in-Ok-clause-usage : goal.returns-in-Ok-clause-usage
returns-in-Ok-clause-usage g c =
    covers_no_usage (scan_output c.in-Some.asked.script_only) c.scan_open.result _
    (form_view c.in-Some.asked) (g.F.Files.disk c.open_file.new.self)
    (g.F.Files.disk c.scan_open.new.files)
    (g.O.Sink.written c.args.out.now) (g.O.Sink.written c.scan_open.new.out) c.in-Some.ensures
    c.scan_open.ensures.covers

pub returns-in-Ok-clause-runs : goal.returns-in-Ok-clause-runs
returns-in-Ok-clause-runs g c =
    let f : Form = form_view c.in-Some.asked in
    let before = g.F.Files.disk c.args.files.now in
    let start = g.F.Files.disk c.open_file.new.self in
    let after = g.F.Files.disk c.scan_open.new.files in
    let w = g.O.Sink.written c.args.out.now in
    let w' = g.O.Sink.written c.scan_open.new.out in
    subst (λ (o : Option Form). Knows o before
    → Runs c.scan_open.result (wanted before.contents o) w w') c.in-Some.ensures
    (λ knows. let told = knows in
    capture_runs f (Some f) c.scan_open.result before start after w w' refl told
    c.open_file.ensures.same (c.in-Ok.ensures.opened told) c.scan_open.ensures.covers)

pub returns-in-Err-clause-usage : goal.returns-in-Err-clause-usage
returns-in-Err-clause-usage g c = read_no_usage _ (form_view c.in-Some.asked) c.in-Some.ensures

pub returns-in-Err-clause-runs : goal.returns-in-Err-clause-runs
returns-in-Err-clause-runs g c = λ knows. adds_none (g.O.Sink.written c.args.out.now)

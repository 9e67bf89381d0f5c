use Rattle.std.proofs.Common.{◌≡◌, List, Err, subst}
use Rattle.rtp_io.specs.Outside.{Adds}
use Rattle.capture_file.specs.Capture.{capture_of}
use Rattle.command_core.specs.Steps.{Prints}
use Rattle.live_bin.specs.declared.history.LaneHistory.{LaneHistory}
use Rattle.live_output.specs.Text.{live_text}
use Rattle.live_cli.proofs.Running.{plan_stops, plan_silent, plan_of_form, plan_cause}
use Rattle.live_cli.proofs.Running.{text_written, text_cut, cut_silent, cut_of_form, cut_cause}
use Rattle.live_cli.proofs.live.run_open.Goals as goal

pub returns-in-Err-clause-runs : goal.returns-in-Err-clause-runs
returns-in-Err-clause-runs g c = λ told.
    plan_stops c.args.hex c.args.script.now c.in-Err.stop _ _ c.in-Err.ensures.reads told

pub returns-in-Err-clause-silent : goal.returns-in-Err-clause-silent
returns-in-Err-clause-silent g c = plan_silent c.in-Err.stop _

pub returns-in-Err-clause-of_form : goal.returns-in-Err-clause-of_form
returns-in-Err-clause-of_form g c =
    plan_of_form c.args.script.now c.in-Err.stop _ c.in-Err.ensures.reads

pub returns-in-Err-clause-cause : goal.returns-in-Err-clause-cause
returns-in-Err-clause-cause g c = plan_cause c.in-Err.stop _ _ _ c.in-Err.ensures.cause

pub returns-in-Ok-print_live-clause-runs : goal.returns-in-Ok-print_live-clause-runs
returns-in-Ok-print_live-clause-runs g c = λ told.
    let p = c.in-Ok.made.0 in
    let r = c.in-Ok.ensures.reads told in
    text_written c.args.hex c.args.script.now (capture_of (g.F.Files.disk c.args.files.now).left)
    p c.in-Ok-run_lanes.histories.items (g.O.Sink.written c.args.out.now)
    (g.O.Sink.written c.print_live.new.out) r.0 r.1 c.in-Ok-run_lanes.ensures.whole
    (subst (λ (hs : List LaneHistory). Adds (live_text c.args.hex p hs)
    (g.O.Sink.written c.args.out.now) (g.O.Sink.written c.print_live.new.out))
    c.as_slice.ensures.value c.in-Ok-print_live.ensures.0)

pub returns-clause-runs : goal.returns-clause-runs
returns-clause-runs g c = λ told.
    let p = c.in-Ok.made.0 in
    let r = c.in-Ok.ensures.reads told in
    text_cut c.args.hex c.args.script.now (capture_of (g.F.Files.disk c.args.files.now).left)
    p c.in-Ok-run_lanes.histories.items c.in-Err-print_live.stop
    (g.O.Sink.written c.args.out.now) (g.O.Sink.written c.print_live.new.out)
    (g.O.Sink.faults c.args.out.now) (g.O.Sink.faults c.print_live.new.out)
    r.0 r.1 c.in-Ok-run_lanes.ensures.whole
    (subst (λ (hs : List LaneHistory). Prints (live_text c.args.hex p hs)
    (Err c.in-Err-print_live.stop)
    (g.O.Sink.written c.args.out.now) (g.O.Sink.written c.print_live.new.out)
    (g.O.Sink.faults c.args.out.now) (g.O.Sink.faults c.print_live.new.out))
    c.as_slice.ensures.value c.in-Err-print_live.ensures)

pub returns-clause-silent : goal.returns-clause-silent
returns-clause-silent g c =
    cut_silent _ c.in-Err-print_live.stop _ _ _ _ c.in-Err-print_live.ensures

pub returns-clause-of_form : goal.returns-clause-of_form
returns-clause-of_form g c =
    cut_of_form _ c.in-Err-print_live.stop _ _ _ _ c.in-Err-print_live.ensures

pub returns-clause-cause : goal.returns-clause-cause
returns-clause-cause g c =
    cut_cause _ c.in-Err-print_live.stop _ _ _ _ _ _ c.in-Ok.ensures.cause.0
    c.in-Err-print_live.ensures

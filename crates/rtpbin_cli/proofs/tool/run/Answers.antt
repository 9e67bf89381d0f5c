use Rattle.std.proofs.Common.{subst, Option}
use Rattle.rtpbin_cli.specs.Words.{Form}
use Rattle.rtpbin_cli.specs.Outcome.{Knows, wanted}
use Rattle.rtpbin_cli.specs.Steps.{IsUsage, RunsAny}
use Rattle.rtpbin_cli.specs.Commands.{generated_text}
use Rattle.rtpbin_cli.proofs.Forms.{no_usage, prints_of_form, prints_stop, cause_any}
use Rattle.rtpbin_cli.proofs.Running.{generated_runs, runs_any}
use Rattle.rtpbin_cli.proofs.tool.run.Goals as goal

pub returns-in-Some-Scripted-clause-usage : goal.returns-in-Some-Scripted-clause-usage
returns-in-Some-Scripted-clause-usage g c =
    let e = rw c.in-Some-Scripted.field-0-is at c.in-Some-Scripted.ensures.form in
    rw c.stopped.ensures (no_usage c.follow.result _ _ e c.follow.ensures.of_form)

pub returns-in-Some-Scripted-clause-runs : goal.returns-in-Some-Scripted-clause-runs
returns-in-Some-Scripted-clause-runs g c =
    let before = g.F.Files.disk c.args.files.now in
    let after = g.F.Files.disk c.follow.new.files in
    let w = g.O.Sink.written c.args.out.now in
    let w' = g.O.Sink.written c.follow.new.out in
    let e = rw c.in-Some-Scripted.field-0-is at c.in-Some-Scripted.ensures.form in
    subst (λ (f : Option Form). Knows f before → RunsAny c.stopped.result (wanted before.contents f) f after w w') e
    (λ knows. rw c.stopped.ensures (runs_any c.follow.result _ _ _ _ _ (c.follow.ensures.runs knows)))

pub returns-in-Some-Scripted-clause-cause : goal.returns-in-Some-Scripted-clause-cause
returns-in-Some-Scripted-clause-cause g c =
    rw c.stopped.ensures (cause_any c.follow.result _ _ _ _ c.follow.ensures.cause)

pub returns-in-Some-Described-clause-usage : goal.returns-in-Some-Described-clause-usage
returns-in-Some-Described-clause-usage g c =
    let e = rw c.in-Some-Described.field-0-is at c.in-Some-Described.ensures.form in
    subst (λ (f : Option Form). IsUsage c.follow_described.result f) e c.follow_described.ensures.usage

pub returns-in-Some-Described-clause-runs : goal.returns-in-Some-Described-clause-runs
returns-in-Some-Described-clause-runs g c =
    let before = g.F.Files.disk c.args.files.now in
    let after = g.F.Files.disk c.follow_described.new.files in
    let w = g.O.Sink.written c.args.out.now in
    let w' = g.O.Sink.written c.follow_described.new.out in
    let e = rw c.in-Some-Described.field-0-is at c.in-Some-Described.ensures.form in
    subst (λ (f : Option Form). Knows f before → RunsAny c.follow_described.result (wanted before.contents f) f after w w') e
    (λ knows. c.follow_described.ensures.runs knows)

pub returns-in-Some-Dump-clause-usage : goal.returns-in-Some-Dump-clause-usage
returns-in-Some-Dump-clause-usage g c =
    let e = rw c.in-Some-Dump.field-0-is at c.in-Some-Dump.ensures.form in
    rw c.stopped-in-Some-Dump.ensures (no_usage c.dump_capture.result _ _ e c.dump_capture.ensures.of_form)

pub returns-in-Some-Dump-clause-runs : goal.returns-in-Some-Dump-clause-runs
returns-in-Some-Dump-clause-runs g c =
    let before = g.F.Files.disk c.args.files.now in
    let after = g.F.Files.disk c.dump_capture.new.files in
    let w = g.O.Sink.written c.args.out.now in
    let w' = g.O.Sink.written c.dump_capture.new.out in
    let e = rw c.in-Some-Dump.field-0-is at c.in-Some-Dump.ensures.form in
    subst (λ (f : Option Form). Knows f before → RunsAny c.stopped-in-Some-Dump.result (wanted before.contents f) f after w w') e
    (λ knows. rw c.stopped-in-Some-Dump.ensures (runs_any c.dump_capture.result _ _ _ _ _ (c.dump_capture.ensures.runs knows)))

pub returns-in-Some-Dump-clause-cause : goal.returns-in-Some-Dump-clause-cause
returns-in-Some-Dump-clause-cause g c =
    rw c.stopped-in-Some-Dump.ensures (cause_any c.dump_capture.result _ _ _ _ c.dump_capture.ensures.cause)

pub returns-in-Some-Gen-clause-usage : goal.returns-in-Some-Gen-clause-usage
returns-in-Some-Gen-clause-usage g c =
    let e = rw c.in-Some-Gen.field-0-is at c.in-Some-Gen.ensures.form in
    rw c.stopped-in-Some-Gen.ensures (no_usage c.print_generated.result _ _ e
    (prints_of_form (generated_text c.in-Some-Gen.first c.in-Some-Gen.count) c.print_generated.result _ _ _ _ c.print_generated.ensures))

pub returns-in-Some-Gen-clause-runs : goal.returns-in-Some-Gen-clause-runs
returns-in-Some-Gen-clause-runs g c =
    let before = g.F.Files.disk c.args.files.now in
    let w = g.O.Sink.written c.args.out.now in
    let w' = g.O.Sink.written c.print_generated.new.out in
    let e = rw c.in-Some-Gen.field-0-is at c.in-Some-Gen.ensures.form in
    subst (λ (f : Option Form). Knows f before → RunsAny c.stopped-in-Some-Gen.result (wanted before.contents f) f before w w') e
    (λ knows. rw c.stopped-in-Some-Gen.ensures (runs_any c.print_generated.result _ _ _ _ _
    (generated_runs c.in-Some-Gen.first c.in-Some-Gen.count c.print_generated.result before before w w' _ _ c.print_generated.ensures)))

pub returns-in-Some-Gen-clause-cause : goal.returns-in-Some-Gen-clause-cause
returns-in-Some-Gen-clause-cause g c =
    rw c.stopped-in-Some-Gen.ensures (cause_any c.print_generated.result _ _ _ _
    (prints_stop (generated_text c.in-Some-Gen.first c.in-Some-Gen.count) c.print_generated.result _ _ _ _ _ c.print_generated.ensures))

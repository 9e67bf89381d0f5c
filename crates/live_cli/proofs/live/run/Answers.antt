use Rattle.std.proofs.Common.{◌≡◌, Option, Some, subst}
use Rattle.live_cli.specs.Words.{Form, form_view}
use Rattle.live_cli.specs.Outcome.{Knows, wanted}
use Rattle.live_cli.specs.Steps.{Runs}
use Rattle.live_cli.proofs.Running.{no_usage}
use Rattle.live_cli.proofs.live.run.Goals as goal

pub returns-in-Some-clause-usage : goal.returns-in-Some-clause-usage
returns-in-Some-clause-usage g c =
    let e = c.in-Some.ensures in no_usage c.follow.result _ (λ none. cc) c.follow.ensures.of_form

pub returns-in-Some-clause-runs : goal.returns-in-Some-clause-runs
returns-in-Some-clause-runs g c =
    let before = g.F.Files.disk c.args.files.now in
    let w = g.O.Sink.written c.args.out.now in
    let w' = g.O.Sink.written c.follow.new.out in
    subst (λ (f : Option Form). Knows f before → Runs c.follow.result (wanted before.contents f) w w')
    c.in-Some.ensures (λ knows. c.follow.ensures.runs knows)

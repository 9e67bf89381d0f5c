use Rattle.std.proofs.Common.{◌≡◌, [], refl, ap}
use Rattle.script_lang.specs.Contents.{Contents}
use Rattle.replay_model.specs.Serving.{next_report}
use Rattle.bin_core.proofs.Knowing.{interval_small}
use Rattle.bin_core.proofs.Serving.{first_none, first_some}
use Rattle.bin_core.proofs.agenda.Agenda.new.Goals as goal
use Rattle.bin_core.proofs.agenda.Agenda.new.Goals.{then-interval-eq0, else-interval-eq0}

pub returns-clause-stands : goal.returns-clause-stands
returns-clause-stands c =
    let same : c.script.inside.settings.report ≡ c.args.script.now.settings.report = ap (λ (x : Contents). x.settings.report) c.script.view_is in
    let next : c.if-interval-eq0.result ≡ next_report c.args.script.now [] =
    elim c.if-interval-eq0.branch [
      | then-interval-eq0 w ↦ first_none c.args.script.now c.script.inside.settings.report _ same w.if-interval-eq0.true w.result-is
      | else-interval-eq0 w ↦ first_some c.args.script.now c.script.inside.settings.report _ same w.if-interval-eq0.false w.result-is
    ] in
    λ before. record { stage = c.in_ok-new.ensures.stands before; interval = same; next = next; last = refl }

pub invariant_of-result : goal.invariant_of-result
invariant_of-result c = record { small = interval_small _ c.script.invariant }

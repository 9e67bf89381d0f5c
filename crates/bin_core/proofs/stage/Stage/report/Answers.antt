use Rattle.std.proofs.Common.{◌∙◌, ap, refl, List, ◌++◌}
use Rattle.front_model.specs.declared.Step.{Step}
use Rattle.front_model.specs.Events.{ReportsDue}
use Rattle.front_model.specs.Steps.{steps}
use Rattle.replay_model.specs.Events.{front}
use Rattle.bin_core.specs.declared.stage.Stage.{Stage}
use Rattle.bin_core.specs.Underway.{Owes}
use Rattle.bin_core.proofs.Outcomes.{on_ok, ok_of}
use Rattle.bin_core.proofs.Owing.{Comes, reports_owed, reports_quiet, all_done}
use Rattle.bin_core.proofs.Staging.{reports_told}
use Rattle.bin_core.proofs.stage.Stage.report.Goals as goal

pub tell_all-requires : goal.tell_all-requires
tell_all-requires c =
    let one : Stage = record { front = c.report.new.self; lanes = c.args.self.now.lanes; wakes = c.args.self.now.wakes; sync = c.args.self.now.sync; standings = c.args.self.now.standings } in
    let comes : Comes (ReportsDue c.args.time) c.args.self.now.front one.front c.report.new.steps.items =
    record {
      stands = λ k older h. ok_of c.report.result c.in_ok-report.field-0 _ c.in_ok-report.was (c.report.ensures.stands k older h);
      steps_are = λ k older h.
          ok_of c.report.result c.in_ok-report.field-0 _ c.in_ok-report.was (c.report.ensures.steps k older h)
          ∙ ap (λ (xs : List Step). xs ++ steps k older (ReportsDue c.args.time)) c.clear.ensures.items;
    } in
    let owed : Owes c.requires.0 c.report.new.steps.items one =
    reports_owed c.requires.0 c.args.time c.report.new.steps.items c.args.self.now one c.steps_suit_a_bin.ensures c.scripts_are_sound.ensures refl refl refl comes c.requires.1 in
    reports_quiet c.reports_only_tell.ensures c.requires.0 c.requires.0 c.args.time c.report.new.steps.items c.args.self.now one comes c.requires.1 owed

pub returns-clause-stands : goal.returns-clause-stands
returns-clause-stands c =
    on_ok c.tell_all.result _ _
    (λ told. λ k base tl h. reports_told c.lanes_stand_beside.ensures k base c.args.self.now _ c.args.time (ReportsDue c.args.time) c.report.new.steps.items c.args.lines.now c.tell_all.new.lines tl refl refl refl
    (ok_of c.report.result c.in_ok-report.field-0 _ c.in_ok-report.was (c.report.ensures.stands k (front tl) h.front))
    (ok_of c.report.result c.in_ok-report.field-0 _ c.in_ok-report.was (c.report.ensures.steps k (front tl) h.front)
    ∙ ap (λ (xs : List Step). xs ++ steps k (front tl) (ReportsDue c.args.time)) c.clear.ensures.items)
    told h)
    c.tell_all.ensures

pub returns-clause-rests : goal.returns-clause-rests
returns-clause-rests c =
    let one : Stage = record { front = c.report.new.self; lanes = c.args.self.now.lanes; wakes = c.args.self.now.wakes; sync = c.args.self.now.sync; standings = c.args.self.now.standings } in
    let comes : Comes (ReportsDue c.args.time) c.args.self.now.front one.front c.report.new.steps.items =
    record {
      stands = λ k older h. ok_of c.report.result c.in_ok-report.field-0 _ c.in_ok-report.was (c.report.ensures.stands k older h);
      steps_are = λ k older h.
          ok_of c.report.result c.in_ok-report.field-0 _ c.in_ok-report.was (c.report.ensures.steps k older h)
          ∙ ap (λ (xs : List Step). xs ++ steps k older (ReportsDue c.args.time)) c.clear.ensures.items;
    } in
    on_ok c.tell_all.result _ _
    (λ told. λ n k.
    let owed : Owes n c.report.new.steps.items one =
    reports_owed n c.args.time c.report.new.steps.items c.args.self.now one c.steps_suit_a_bin.ensures c.scripts_are_sound.ensures refl refl refl comes k in
    all_done c.report.new.steps.items n one
    (reports_quiet c.reports_only_tell.ensures n n c.args.time c.report.new.steps.items c.args.self.now one comes k owed) owed)
    c.tell_all.ensures

use Rattle.std.proofs.Common.{◌≡◌, ◌∙◌, ℕ, ◌+◌, ◌++◌, [], ◌∷◌, List, refl, sym, ap, subst}
use Rattle.std.proofs.lemmas.List.{length_push}
use Rattle.pcap_file.specs.Reading.{record_view}
use Rattle.front_model.specs.declared.Step.{Step}
use Rattle.front_model.specs.Events.{FrontEvent, Came}
use Rattle.front_model.specs.Plan.{captured, plan}
use Rattle.front_model.specs.Steps.{steps, all_steps}
use Rattle.std.specs.Prelude.{filter_map}
use Rattle.std.proofs.lemmas.List.Elements.{filter_map-append}
use Rattle.live_bin.specs.declared.course.Route.{Route}
use Rattle.rtp_front.specs.Standing.{StandsFor}
use Rattle.live_plan.specs.Courses.{route_of, routes}
use Rattle.live_plan.specs.Drafts.{AreDrafts}
use Rattle.live_plan.proofs.Outcomes.{on_ok}
use Rattle.live_plan.proofs.Planning.{captured_more}
use Rattle.live_plan.proofs.builder.PlanBuilder.place_record.Goals as goal

pub returns-clause-taken : goal.returns-clause-taken
returns-clause-taken c = λ script before h.
    let r = record_view c.args.link c.args.captured.now in
    let time = c.pass-self.result.time in
    let passed = c.pass-self.ensures before r refl h.clock in
    let more : captured (before ++ r ∷ []) ≡ Came time r ∷ captured before =
    captured_more before r (c.times_go_on.ensures.next before r) ∙ ap (λ (t : ℕ). Came t r ∷ captured before) (sym passed.time) in
    let got : c.take.new.steps.items ≡ steps script (captured before) (Came time r) =
    c.in_ok-take.ensures.steps script (captured before) h.front ∙ ap (λ (xs : List Step). xs ++ steps script (captured before) (Came time r)) c.new-steps.ensures.items in
    let all : plan script (before ++ r ∷ []) ≡ plan script before ++ c.take.new.steps.items =
    ap (all_steps script) more ∙ ap (λ (xs : List Step). plan script before ++ xs) (sym got) in
    on_ok c.place_all.result _ _
    (λ drafts. record {
      front = subst (λ (es : List FrontEvent). StandsFor c.take.new.self script es) (sym more) (c.in_ok-take.ensures.stands script (captured before) h.front);
      counted = c.in_ok-take.ensures.taken ∙ ap (λ (n : ℕ). n + 1) h.counted ∙ sym (length_push before r);
      clock = passed;
      drafts = subst (λ (xs : List Step). AreDrafts xs c.place_all.new.drafts.items) (sym all) drafts;
      routes = c.in_ok-note_routes.ensures
          ∙ ap (λ (xs : List Step). c.args.self.now.routes.items ++ routes xs) c.as_slice.ensures.value
          ∙ ap (λ (xs : List Route). xs ++ routes c.take.new.steps.items) h.routes
          ∙ sym (filter_map-append route_of (plan script before) c.take.new.steps.items) ∙ ap routes (sym all);
      works = h.works;
    })
    (c.place_all.ensures (plan script before) h.drafts)

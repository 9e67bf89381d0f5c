-- The plan of the records that were taken.
use Rattle.std.proofs.Common.{◌≡◌, ℕ, List, [], ◌∷◌, ◌++◌, length, map, reverse, refl, sym, ap, subst, ◌∙◌}
use Rattle.std.specs.Prelude.{filter_map}
use Rattle.std.proofs.lemmas.List.{map-append, reverse-append}
use Rattle.pcap_file.specs.Capture.{Record}
use Rattle.script_lang.specs.Contents.{Contents}
use Rattle.timeline.specs.Times.{Timed, at_times, timed_after, time_after}
use Rattle.front_model.specs.declared.Opening.{Opening}
use Rattle.front_model.specs.Events.{FrontEvent, Came}
use Rattle.front_model.specs.Laws.{opened_by}
use Rattle.front_model.specs.Plan.{coming, captured, plan}
use Rattle.front_model.specs.Steps.{all_steps}
use Rattle.live_bin.specs.declared.plan.PlanLane.{PlanLane}
use Rattle.live_plan.specs.Drafts.{Drafted, draft, AreDrafts}
use Rattle.live_plan.specs.Planned.{lane, lanes}
use Rattle.live_plan.specs.Taken.{finished}

-- a record more comes at the time that the records have come to
pub captured_more : (rs : List Record) (r : Record) → at_times (rs ++ r ∷ []) ≡ at_times rs ++ timed_after rs r ∷ [] → captured (rs ++ r ∷ []) ≡ Came (time_after (rs ++ r ∷ [])) r ∷ captured rs
captured_more rs r e =
    ap (λ (ts : List Timed). reverse (map coming ts)) e
    ∙ ap reverse (map-append coming (at_times rs) (timed_after rs r ∷ []))
    ∙ reverse-append (map coming (at_times rs)) (coming (timed_after rs r) ∷ [])

finished_drafts : (c : Contents) (events : List FrontEvent) (os : List Opening) → map (finished c events) (map (draft (all_steps c events)) os) ≡ map (lane c events) os
finished_drafts c events [] = refl
finished_drafts c events (o ∷ os) = ap (λ (ls : List PlanLane). lane c events o ∷ ls) (finished_drafts c events os)

pub finished_lanes : (c : Contents) (rs : List Record) (drafts : List Drafted) → AreDrafts (plan c rs) drafts → map (finished c (captured rs)) drafts ≡ lanes c rs
finished_lanes c rs drafts h =
    ap (map (finished c (captured rs))) h.drafts_are ∙ finished_drafts c (captured rs) (filter_map opened_by (plan c rs))

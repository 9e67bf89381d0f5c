use Rattle.std.proofs.Common.{◌++◌, [], ◌∷◌, refl, sym, subst}
use Rattle.front_model.specs.declared.Step.{Step}
use Rattle.front_model.specs.declared.Step.TheVariants as step
use Rattle.live_bin.specs.declared.plan.Delivery.{Delivery}
use Rattle.live_bin.specs.declared.plan.Delivery.TheVariants.{Packet, Report}
use Rattle.live_plan.specs.Drafts.{AreDrafts, Brings}
use Rattle.live_plan.proofs.Outcomes.{on_ok, on_both}
use Rattle.live_plan.proofs.Drafting.{tells, opens, brings}
use Rattle.live_plan.proofs.draft.place.Goals as goal

pub returns-in-Tell : goal.returns-in-Tell
returns-in-Tell c = λ before h.
    subst (λ (s : Step). AreDrafts (before ++ s ∷ []) c.args.drafts.now.items) (sym c.in-Tell.is)
    (tells before (step.Tell c.in-Tell.field-0) c.args.drafts.now.items (λ way. refl) refl h)

pub returns-in-Open : goal.returns-in-Open
returns-in-Open c = λ before h.
    on_both c.open.result _ _ _
    (λ at added. subst (λ (s : Step). AreDrafts (before ++ s ∷ []) c.open.new.drafts.items) (sym c.in-Open.is)
    (opens before c.in-Open.opening c.args.drafts.now.items c.open.new.drafts.items at added h))
    c.open.ensures.numbered c.open.ensures.opened

pub returns-in-Push : goal.returns-in-Push
returns-in-Push c = λ before h.
    let a = c.in-Push.arrival in
    on_ok c.bring.result _ _
    (λ b. subst (λ (s : Step). AreDrafts (before ++ s ∷ []) c.bring.new.drafts.items) (sym c.in-Push.is)
    (brings before (step.Push c.in-Push.lane a) a.pusher c.in-Push.lane (Packet a) c.args.drafts.now.items c.bring.new.drafts.items (record { on_ways = λ way. refl; begins = refl }) b h))
    c.bring.ensures

pub returns : goal.returns
returns c = λ before h.
    let r = c.in-Sync.report in
    on_ok c.bring-in-Sync.result _ _
    (λ b. subst (λ (s : Step). AreDrafts (before ++ s ∷ []) c.bring-in-Sync.new.drafts.items) (sym c.in-Sync.is)
    (brings before (step.Sync c.in-Sync.lane r) r.pusher c.in-Sync.lane (Report r.pusher r.k r.ntp_ns r.rtp) c.args.drafts.now.items c.bring-in-Sync.new.drafts.items (record { on_ways = λ way. refl; begins = refl })
    (subst (λ (d : Delivery). Brings c.args.drafts.now.items c.bring-in-Sync.new.drafts.items c.in-Sync.lane r.pusher d) c.reported.ensures b) h))
    c.bring-in-Sync.ensures

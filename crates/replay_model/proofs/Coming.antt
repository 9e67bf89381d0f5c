-- Each record and each item comes once, in order.
use Rattle.std.proofs.Common.{ℕ, zero, suc, ◌≡◌, Bool, true, false, refl, sym, ap, subst, ◌∙◌, List, [], ◌∷◌, Option, None, Some}
use Rattle.std.specs.Prelude.{if◌then◌else◌}
use Rattle.rtp_units.specs.declared.SyncInfo.{SyncInfo}
use Rattle.jitter_model.specs.declared.Entry.TheVariants.{Clock, Latency, Report}
use Rattle.jitter_model.specs.Turns.{left}
use Rattle.jitter_model.specs.Runs.{report}
use Rattle.script_lang.specs.Contents.{Contents}
use Rattle.script_lang.specs.declared.script.Item.{Item}
use Rattle.script_lang.specs.declared.script.Action.{Action}
use Rattle.script_lang.specs.declared.script.Action.TheVariants as action
use Rattle.timeline.specs.declared.line.BinLine.TheVariants as told
use Rattle.front_model.specs.declared.Opening.{Opening}
use Rattle.front_model.specs.declared.Step.{Step}
use Rattle.front_model.specs.declared.Step.TheVariants as step
use Rattle.front_model.specs.Events.{FrontEvent, Came, ReportsDue, Requested}
use Rattle.front_model.specs.Reports.{nack_bytes}
use Rattle.front_model.specs.Steps.{steps}
use Rattle.replay_model.specs.declared.Due.{Due}
use Rattle.replay_model.specs.declared.Due.TheVariants as due
use Rattle.timeline.specs.Times.{Timed}
use Rattle.replay_model.specs.Inputs.{Input, OfCapture, OfScript, records_in, items_in}
use Rattle.replay_model.specs.Events.{Timeline, Acted, Fronted, Began, Told, At, front, lane, items}
use Rattle.replay_model.specs.Lanes.{lane_count, opened, latency_of, is_flushing_of}
use Rattle.replay_model.specs.Turning.{all_turns, request, all_requested, sent, asked, settled, ticked}
use Rattle.replay_model.specs.Acting.{is_for, done_to, acted_on, all_acted, ticked_where, acted}
use Rattle.replay_model.specs.Taking.{flushed_at_begin, synced_by, stepped, all_stepped, fronted, is_touched, taken}
use Rattle.replay_model.specs.Serving.{first_due, serve_one, serve_up_to}
use Rattle.replay_model.specs.Log.{served, timeline}
use Rattle.replay_model.specs.Order.{came}
use Rattle.replay_model.proofs.Lanes.{by_cases}
use Rattle.replay_model.proofs.Turning.{settled_items}
use Rattle.replay_model.proofs.Serving.{by_option, serve_none, serve_some, turns_front}
use Rattle.replay_model.proofs.Reporting.{reported_front}
use Rattle.replay_model.proofs.Keeping.{synced_leaves, Leaves, where_yes, where_not, acted_front, all_stepped_front}

-- the same records and items came
record CameAlike (old new : Timeline) : Type 0 where
  records_are : came (front new) ≡ came (front old)
  items_are : items new ≡ items old

alike_then : (a b c : Timeline) → CameAlike a b → CameAlike b c → CameAlike a c
alike_then a b c f g = record { records_are = g.records_are ∙ f.records_are; items_are = g.items_are ∙ f.items_are }

alike_same : (tl : Timeline) → CameAlike tl tl
alike_same tl = record { records_are = refl; items_are = refl }

-- ---- ticks

requested_came : (o : Opening) (t : ℕ) (xs : List ℕ) (tl : Timeline) → came (front (all_requested o t xs tl)) ≡ came (front tl)
requested_came o t [] tl = refl
requested_came o t (x ∷ xs) tl = requested_came o t xs (Fronted t (Requested (request o x)) ∷ tl)

sent_came : (c : Contents) (o : Opening) (t : ℕ) (xs : List ℕ) (tl : Timeline) → came (front (sent c o t xs tl)) ≡ came (front tl)
sent_came c o t [] tl = refl
sent_came c o t (x ∷ xs) tl =
    requested_came o t (x ∷ xs) (Told t (told.Nack t o.session (nack_bytes c.settings.ssrc o.ssrc (x ∷ xs))) ∷ tl)

settled_alike : (c : Contents) (o : ℕ → Opening) (t l : ℕ) (tl : Timeline) → CameAlike tl (settled c o t l tl)
settled_alike c o t l tl =
    record {
      records_are = sent_came c (o l) t (asked (lane l (all_turns o t l tl))) (all_turns o t l tl)
          ∙ ap came (turns_front (left (o l).settings (lane l tl)) o t l tl);
      items_are = settled_items c o t l tl;
    }

ticked_alike : (c : Contents) (o : ℕ → Opening) (t l : ℕ) (tl : Timeline) → CameAlike tl (ticked c o t l tl)
ticked_alike c o t l tl =
    let h : CameAlike (At t l (Clock t) ∷ tl) (ticked c o t l tl) = settled_alike c o t l (At t l (Clock t) ∷ tl) in
    record { records_are = h.records_are; items_are = h.items_are }

where_alike : (c : Contents) (o : ℕ → Opening) (t : ℕ) (passes : ℕ → Bool) (count : ℕ) (tl : Timeline) → CameAlike tl (ticked_where c o t passes count tl)
where_alike c o t passes zero tl = alike_same tl
where_alike c o t passes (suc l) tl =
    by_cases (passes l)
    (λ b. subst (CameAlike tl) (sym (where_yes c o t passes l tl b))
    (alike_then tl (ticked_where c o t passes l tl) (ticked c o t l (ticked_where c o t passes l tl)) (where_alike c o t passes l tl) (ticked_alike c o t l (ticked_where c o t passes l tl))))
    (λ b. subst (CameAlike tl) (sym (where_not c o t passes l tl b)) (where_alike c o t passes l tl))

-- ---- steps

flushed_items : (b : Bool) (t l : ℕ) (tl : Timeline) → items (flushed_at_begin b t l tl) ≡ items tl
flushed_items true t l tl = refl
flushed_items false t l tl = refl

stepped_items : (c : Contents) (t : ℕ) (x : Step) (tl : Timeline) → items (stepped c t x tl) ≡ items tl
stepped_items c t (step.Tell line) tl = refl
stepped_items c t (step.Open x) tl =
    flushed_items (is_flushing_of x.session tl) t (lane_count tl) (At t (lane_count tl) (Latency (latency_of c x.session tl)) ∷ Began t x ∷ tl)
stepped_items c t (step.Push l a) tl = refl
stepped_items c t (step.Sync l r) tl =
    let reply : Option SyncInfo = report (opened c tl l).settings (lane l tl) r.ntp_ns r.rtp in
    (synced_leaves c t l reply (At t l (Report r.ntp_ns r.rtp reply) ∷ tl)).items_are

all_stepped_items : (c : Contents) (t : ℕ) (xs : List Step) (tl : Timeline) → items (all_stepped c t xs tl) ≡ items tl
all_stepped_items c t [] tl = refl
all_stepped_items c t (x ∷ xs) tl = all_stepped_items c t xs (stepped c t x tl) ∙ stepped_items c t x tl

-- ---- serving

one_alike : (c : Contents) (o : ℕ → Opening) (d : Due) (tl : Timeline) → CameAlike tl (serve_one c o d tl)
one_alike c o (due.Reports t) tl =
    record {
      records_are = ap came (reported_front c t tl);
      items_are = all_stepped_items c t (steps c (front tl) (ReportsDue t)) (Fronted t (ReportsDue t) ∷ tl);
    }
one_alike c o (due.Turns w) tl = ticked_alike c o w.time w.lane tl

serve_alike : (n : ℕ) (c : Contents) (o : ℕ → Opening) (reports : Bool) (count limit : ℕ) (tl : Timeline) → CameAlike tl (serve_up_to n c o reports count limit tl)
serve_alike zero c o reports count limit tl = alike_same tl
serve_alike (suc n) c o reports count limit tl =
    by_option (first_due c o reports count limit tl)
    (λ e. subst (CameAlike tl) (sym (serve_none (suc n) c o reports count limit tl e)) (alike_same tl))
    (λ d e. subst (CameAlike tl) (sym (serve_some n c o reports count limit tl d e))
    (alike_then tl (serve_one c o d tl) (serve_up_to n c o reports count limit (serve_one c o d tl)) (one_alike c o d tl) (serve_alike n c o reports count limit (serve_one c o d tl))))

served_alike : (c : Contents) (limit : ℕ) (tl : Timeline) → CameAlike tl (served c limit tl)
served_alike c limit tl = serve_alike _ c (opened c tl) true (lane_count tl) limit tl

-- ---- inputs

done_items : (t l : ℕ) (a : Action) (tl : Timeline) → items (done_to t l a tl) ≡ items tl
done_items t l action.Clock tl = refl
done_items t l (action.FlushStart session) tl = refl
done_items t l (action.FlushStop session) tl = refl
done_items t l (action.Latency session ns) tl = refl

acted_items : (o : ℕ → Opening) (t count : ℕ) (a : Action) (tl : Timeline) → items (all_acted o t count a tl) ≡ items tl
acted_items o t zero a tl = refl
acted_items o t (suc l) a tl =
    by_cases (is_for a (o l).session)
    (λ b. ap (λ (x : Bool). items (if x then acted_on t l a (all_acted o t l a tl) else all_acted o t l a tl)) b
    ∙ done_items t l a (At t l (Clock t) ∷ all_acted o t l a tl) ∙ acted_items o t l a tl)
    (λ b. ap (λ (x : Bool). items (if x then acted_on t l a (all_acted o t l a tl) else all_acted o t l a tl)) b ∙ acted_items o t l a tl)

-- after these inputs these records and these items have come
pub record HaveCome (xs : List Input) (tl : Timeline) : Type 0 where
  pub records_are : came (front tl) ≡ records_in xs
  pub items_are : items tl ≡ items_in xs

have_come : (xs : List Input) (old new : Timeline) → CameAlike old new → HaveCome xs old → HaveCome xs new
have_come xs old new e h = record { records_are = e.records_are ∙ h.records_are; items_are = e.items_are ∙ h.items_are }

taken_comes : (c : Contents) (r : Timed) (older : List Input) (tl : Timeline) → HaveCome older tl → HaveCome (OfCapture r ∷ older) (taken c r.time (Came r.time r.captured) tl)
taken_comes c r older tl h =
    let e : FrontEvent = Came r.time r.captured in
    let before : Timeline = fronted c r.time e tl in
    let xs : List Step = steps c (front tl) e in
    have_come (OfCapture r ∷ older) before (taken c r.time e tl)
    (where_alike c (opened c before) r.time (is_touched (lane_count tl) xs) (lane_count before) before)
    (record {
      records_are = ap came (all_stepped_front c r.time xs (Fronted r.time e ∷ tl)) ∙ ap (λ (rs : List Timed). r ∷ rs) h.records_are;
      items_are = all_stepped_items c r.time xs (Fronted r.time e ∷ tl) ∙ h.items_are;
    })

acted_comes : (c : Contents) (o : ℕ → Opening) (count : ℕ) (i : Item) (older : List Input) (tl : Timeline) → HaveCome older tl → HaveCome (OfScript i ∷ older) (acted c o count i tl)
acted_comes c o count i older tl h =
    let before : Timeline = all_acted o i.time count i.action (Acted i ∷ tl) in
    have_come (OfScript i ∷ older) before (acted c o count i tl)
    (where_alike c o i.time (λ l. is_for i.action (o l).session) count before)
    (record {
      records_are = ap came (acted_front o i.time count i.action (Acted i ∷ tl)) ∙ h.records_are;
      items_are = acted_items o i.time count i.action (Acted i ∷ tl) ∙ ap (λ (is : List Item). i ∷ is) h.items_are;
    })

pub all_have_come : (c : Contents) (xs : List Input) → HaveCome xs (timeline c xs)
all_have_come c [] = record { records_are = refl; items_are = refl }
all_have_come c (OfCapture r ∷ older) =
    taken_comes c r older (served c r.time (timeline c older)) (have_come older (timeline c older) _ (served_alike c r.time (timeline c older)) (all_have_come c older))
all_have_come c (OfScript i ∷ older) =
    acted_comes c (opened c (served c i.time (timeline c older))) (lane_count (served c i.time (timeline c older))) i older (served c i.time (timeline c older))
    (have_come older (timeline c older) _ (served_alike c i.time (timeline c older)) (all_have_come c older))

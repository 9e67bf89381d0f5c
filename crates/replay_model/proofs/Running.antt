-- Each lane of a replay is a run of the list machine.
use Rattle.std.proofs.Common.{ℕ, zero, suc, ◌≡◌, ◌≢◌, ◌+◌, ◌*◌, ◌≤◌, ◌<◌, ◌^◌, Bool, true, false, refl, sym, ap, subst, ◌∙◌, List, [], ◌∷◌, ◌++◌, Option, None, Some, length, arith}
use Rattle.std.specs.Prelude.{All, ◌==◌, ◌||◌, nat_le, if◌then◌else◌, slice_get, reverse, map}
use Rattle.std.proofs.lemmas.Grind.{common_steps}
use Rattle.std.proofs.lemmas.List.{append_assoc, append-nil, length-append, reverse-append}
use Rattle.std.proofs.lemmas.List.Elements.{All-head, All-tail, All-cons, All-append}
use Rattle.rtp_units.specs.declared.SyncInfo.{SyncInfo}
use Rattle.jitter_model.specs.declared.Arrival.{Arrival}
use Rattle.jitter_model.specs.declared.Settings.{Settings}
use Rattle.jitter_model.specs.declared.Pushed.{Pushed}
use Rattle.jitter_model.specs.declared.Entry.{Entry}
use Rattle.jitter_model.specs.declared.Entry.TheVariants.{Push, Clock, FlushStart, FlushStop, Latency, Report, Ends, Turned}
use Rattle.jitter_model.specs.History.{History, pushes, is_pusher, pusher_count}
use Rattle.jitter_model.specs.Turns.{turn, is_quiet, left}
use Rattle.jitter_model.specs.Runs.{IsValid, IsInRange, Run, flush_count, report}
use Rattle.jitter_model.specs.Verdicts.{pushed as reply_to_push}
use Rattle.script_lang.specs.Contents.{Contents}
use Rattle.script_lang.specs.declared.script.Item.{Item}
use Rattle.script_lang.specs.declared.script.Action.{Action}
use Rattle.script_lang.specs.declared.script.Action.TheVariants as action
use Rattle.timeline.specs.declared.line.BinLine.TheVariants as told
use Rattle.front_model.specs.declared.Opening.{Opening}
use Rattle.front_model.specs.declared.Step.{Step}
use Rattle.front_model.specs.declared.Step.TheVariants as step
use Rattle.front_model.specs.Events.{FrontEvent, Came, ReportsDue, Requested, records}
use Rattle.front_model.specs.Reports.{nack_bytes}
use Rattle.front_model.specs.Steps.{steps, all_steps}
use Rattle.replay_model.specs.declared.Due.{Due}
use Rattle.replay_model.specs.declared.Due.TheVariants as due
use Rattle.replay_model.specs.declared.TheConstants.{END_OF_TIME}
use Rattle.timeline.specs.Times.{Timed}
use Rattle.replay_model.specs.Inputs.{Input, OfCapture, OfScript, records_in}
use Rattle.replay_model.specs.Events.{Timeline, Acted, Fronted, Began, Told, At, Kept, front, lane, latest, openings, items}
use Rattle.replay_model.specs.Lanes.{lane_count, opening_or, opened, latency_of, is_flushing_of, latency_by, latency_after}
use Rattle.replay_model.specs.Turning.{all_turns, request, all_requested, sent, asked, settled, ticked}
use Rattle.replay_model.specs.Acting.{is_for, flush_begun, done_to, acted_on, all_acted, ticked_where, acted}
use Rattle.replay_model.specs.Taking.{flushed_at_begin, begun, entry_of, pushed, stepped, all_stepped, synced_by, fronted, is_touched, taken}
use Rattle.replay_model.specs.Serving.{first_due, serve_one, serve_up_to, serve}
use Rattle.replay_model.specs.Ending.{pushers_ended, all_ended}
use Rattle.replay_model.specs.Log.{served, timeline, whole_timeline}
use Rattle.replay_model.specs.Fitting.{IsCaptured, IsAction, IsItem, IsInput, IsComing, AreComing, with_step, with_steps, given_by, given, IsFitting, IsFit, AreFit, IsSound, IsReplay}
use Rattle.replay_model.proofs.Lanes.{lane_here, lane_other, by_cases}
use Rattle.replay_model.proofs.Turning.{settled_run, settled_other, settled_pushes, settled_items}
use Rattle.replay_model.proofs.Serving.{IsDueNow, due_is, by_option, serve_none, serve_some, turns_front}
use Rattle.replay_model.proofs.Keeping.{settled_openings, synced_leaves, Leaves, where_yes, where_not, where_openings, all_acted_openings, acted_front, all_stepped_front, one_openings, serve_openings, same_opened}

-- ---- after some steps

-- So lanes began, so many packets came to lanes, and each lane is a run.
record IsReady (c : Contents) (os : List Opening) (n : ℕ) (tl : Timeline) : Type 0 where
  openings_are : openings tl ≡ os
  valid : (l : ℕ) → IsValid (opened c tl l).settings
  runs : (l : ℕ) → Run (opened c tl l).settings (lane l tl)
  silent : (l : ℕ) → length os ≤ l → lane l tl ≡ []
  few : (l : ℕ) → pushes (lane l tl) ≤ n
  latency : (session : ℕ) → latency_of c session tl ≤ 600000000000

-- the same lanes and items, and nothing came to a lane
record IsAlike (old new : Timeline) : Type 0 where
  openings_are : openings new ≡ openings old
  items_are : items new ≡ items old
  lanes_are : (l : ℕ) → lane l new ≡ lane l old

alike_ready : (c : Contents) (os : List Opening) (n : ℕ) (old new : Timeline) → IsAlike old new → IsReady c os n old → IsReady c os n new
alike_ready c os n old new a h =
    record {
      openings_are = a.openings_are ∙ h.openings_are;
      valid = λ l. subst (λ (x : Opening). IsValid x.settings) (sym (same_opened c old new l a.openings_are)) (h.valid l);
      runs = λ l. subst (λ (x : Opening). Run x.settings (lane l new)) (sym (same_opened c old new l a.openings_are)) (subst (Run (opened c old l).settings) (sym (a.lanes_are l)) (h.runs l));
      silent = λ l le. a.lanes_are l ∙ h.silent l le;
      few = λ l. subst (λ (x : History). pushes x ≤ n) (sym (a.lanes_are l)) (h.few l);
      latency = λ s. subst (λ (x : List Item). latency_after c s x ≤ 600000000000) (sym a.items_are) (h.latency s);
    }

event_pushes : (t k l m : ℕ) (e : Entry) (tl : Timeline) → ((h : History) → pushes (e ∷ h) ≤ pushes h + m) → pushes (lane l (At t k e ∷ tl)) ≤ pushes (lane l tl) + m
event_pushes t k l m e tl more =
    by_cases (k == l)
    (λ q. let eq : k ≡ l = grind (arith, common_steps) in
    subst (λ (x : ℕ). pushes (lane l (At t x e ∷ tl)) ≤ pushes (lane l tl) + m) (sym eq)
    (subst (λ (x : History). pushes x ≤ pushes (lane l tl) + m) (sym (lane_here t l e tl)) (more (lane l tl))))
    (λ q. let ne : k ≢ l = grind (arith, common_steps) in
    subst (λ (x : History). pushes x ≤ pushes (lane l tl) + m) (sym (lane_other t k l e tl ne)) (omega arith))

-- a call comes to a lane that is there
entry_ready : (c : Contents) (os : List Opening) (n m t k : ℕ) (e : Entry) (tl : Timeline) → k < length os → Run (opened c tl k).settings (e ∷ lane k tl) → ((h : History) → pushes (e ∷ h) ≤ pushes h + m) → IsReady c os n tl → IsReady c os (n + m) (At t k e ∷ tl)
entry_ready c os n m t k e tl lt run more h =
    record {
      openings_are = h.openings_are;
      valid = h.valid;
      runs = λ l. at_lane l;
      silent = λ l le. lane_other t k l e tl (λ q. absurd (omega (arith, q))) ∙ h.silent l le;
      few = λ l. few_after (pushes (lane l tl)) (pushes (lane l (At t k e ∷ tl))) (h.few l) (event_pushes t k l m e tl more);
      latency = h.latency;
    }
  where
    few_after : (a b : ℕ) → a ≤ n → b ≤ a + m → b ≤ n + m
    few_after a b x y = omega arith

    at_lane : (l : ℕ) → Run (opened c tl l).settings (lane l (At t k e ∷ tl))
    at_lane l =
        by_cases (k == l)
        (λ q. let eq : k ≡ l = grind (arith, common_steps) in
        subst (λ (x : ℕ). Run (opened c tl x).settings (lane x (At t k e ∷ tl))) eq (subst (Run (opened c tl k).settings) (sym (lane_here t k e tl)) run))
        (λ q. let ne : k ≢ l = grind (arith, common_steps) in subst (Run (opened c tl l).settings) (sym (lane_other t k l e tl ne)) (h.runs l))

-- a call that is no push
call_ready : (c : Contents) (os : List Opening) (n t k : ℕ) (e : Entry) (tl : Timeline) → k < length os → Run (opened c tl k).settings (e ∷ lane k tl) → ((h : History) → pushes (e ∷ h) ≡ pushes h) → IsReady c os n tl → IsReady c os n (At t k e ∷ tl)
call_ready c os n t k e tl lt run same h =
    subst (λ (x : ℕ). IsReady c os x (At t k e ∷ tl)) (no_more n) (entry_ready c os n 0 t k e tl lt run (λ x. omega (arith, same x)) h)
  where
    no_more : (n : ℕ) → n + 0 ≡ n
    no_more n = omega arith

-- ---- a series

settled_ready : (c : Contents) (o : ℕ → Opening) (os : List Opening) (n t k : ℕ) (tl : Timeline) → o k ≡ opened c tl k → k < length os → IsReady c os n tl → IsReady c os n (settled c o t k tl)
settled_ready c o os n t k tl is lt h =
    record {
      openings_are = same ∙ h.openings_are;
      valid = λ l. subst (λ (x : Opening). IsValid x.settings) (sym (same_opened c tl after l same)) (h.valid l);
      runs = λ l. subst (λ (x : Opening). Run x.settings (lane l after)) (sym (same_opened c tl after l same)) (at_lane l);
      silent = λ l le. settled_other c o t k l tl (λ q. absurd (omega (arith, q))) ∙ h.silent l le;
      few = λ l. subst (λ (x : ℕ). x ≤ n) (sym (settled_pushes c o t k l tl)) (h.few l);
      latency = λ s. subst (λ (x : List Item). latency_after c s x ≤ 600000000000) (sym (settled_items c o t k tl)) (h.latency s);
    }
  where
    after : Timeline
    after = settled c o t k tl

    same : openings after ≡ openings tl
    same = settled_openings c o t k tl

    at_lane : (l : ℕ) → Run (opened c tl l).settings (lane l after)
    at_lane l =
        by_cases (k == l)
        (λ q. let eq : k ≡ l = grind (arith, common_steps) in
        subst (λ (x : ℕ). Run (opened c tl x).settings (lane x after)) eq
        (subst (λ (x : Opening). Run x.settings (lane k after)) is
        (settled_run c o t k tl (subst (λ (x : Opening). Run x.settings (lane k tl)) (sym is) (h.runs k)))))
        (λ q. let ne : k ≢ l = grind (arith, common_steps) in subst (Run (opened c tl l).settings) (sym (settled_other c o t k l tl ne)) (h.runs l))

ticked_ready : (c : Contents) (o : ℕ → Opening) (os : List Opening) (n t k : ℕ) (tl : Timeline) → o k ≡ opened c tl k → k < length os → t < 2 ^ 63 + 2 ^ 50 → IsReady c os n tl → IsReady c os n (ticked c o t k tl)
ticked_ready c o os n t k tl is lt early h =
    settled_ready c o os n t k (At t k (Clock t) ∷ tl) is lt (call_ready c os n t k (Clock t) tl lt (early, h.runs k) (λ x. refl) h)

where_ready : (c : Contents) (o : ℕ → Opening) (os : List Opening) (n t : ℕ) (passes : ℕ → Bool) (count : ℕ) (tl : Timeline) → ((k : ℕ) → o k ≡ opened c tl k) → count ≤ length os → t < 2 ^ 63 + 2 ^ 50 → IsReady c os n tl → IsReady c os n (ticked_where c o t passes count tl)
where_ready c o os n t passes zero tl is le early h = h
where_ready c o os n t passes (suc k) tl is le early h =
    by_cases (passes k)
    (λ b. subst (IsReady c os n) (sym (where_yes c o t passes k tl b))
    (ticked_ready c o os n t k before (is k ∙ sym (same_opened c tl before k (where_openings c o t passes k tl))) (omega arith) early (where_ready c o os n t passes k tl is (omega arith) early h)))
    (λ b. subst (IsReady c os n) (sym (where_not c o t passes k tl b)) (where_ready c o os n t passes k tl is (omega arith) early h))
  where
    before : Timeline
    before = ticked_where c o t passes k tl

-- ---- items

flush_ready : (c : Contents) (os : List Opening) (n t k : ℕ) (tl : Timeline) → k < length os → IsReady c os n tl → IsReady c os n (flush_begun t k tl)
flush_ready c os n t k tl lt h = call_ready c os n t k (FlushStart (flush_count (lane k tl))) tl lt (refl, h.runs k) (λ x. refl) h

done_ready : (c : Contents) (os : List Opening) (n t k : ℕ) (a : Action) (tl : Timeline) → IsAction a → k < length os → IsReady c os n tl → IsReady c os n (done_to t k a tl)
done_ready c os n t k action.Clock tl ok lt h = h
done_ready c os n t k (action.FlushStart session) tl ok lt h = flush_ready c os n t k tl lt h
done_ready c os n t k (action.FlushStop session) tl ok lt h = call_ready c os n t k FlushStop tl lt (h.runs k) (λ x. refl) h
done_ready c os n t k (action.Latency session ns) tl ok lt h =
    let before : IsReady c os n (Told t (told.Latency t k ns) ∷ tl) =
    alike_ready c os n tl (Told t (told.Latency t k ns) ∷ tl) (record { openings_are = refl; items_are = refl; lanes_are = λ l. refl }) h in
    call_ready c os n t k (Latency ns) (Told t (told.Latency t k ns) ∷ tl) lt (ok, h.runs k) (λ x. refl) before

acted_ready : (c : Contents) (o : ℕ → Opening) (os : List Opening) (n t count : ℕ) (a : Action) (tl : Timeline) → IsAction a → count ≤ length os → t < 2 ^ 63 + 2 ^ 50 → IsReady c os n tl → IsReady c os n (all_acted o t count a tl)
acted_ready c o os n t zero a tl ok le early h = h
acted_ready c o os n t (suc k) a tl ok le early h =
    let rest : IsReady c os n (all_acted o t k a tl) = acted_ready c o os n t k a tl ok (omega arith) early h in
    by_cases (is_for a (o k).session)
    (λ b. subst (IsReady c os n) (sym (ap (λ (x : Bool). if x then acted_on t k a (all_acted o t k a tl) else all_acted o t k a tl) b))
    (done_ready c os n t k a (At t k (Clock t) ∷ all_acted o t k a tl) ok (omega arith)
    (call_ready c os n t k (Clock t) (all_acted o t k a tl) (omega arith) (early, rest.runs k) (λ x. refl) rest)))
    (λ b. subst (IsReady c os n) (sym (ap (λ (x : Bool). if x then acted_on t k a (all_acted o t k a tl) else all_acted o t k a tl) b)) rest)

latency_small : (c : Contents) (session : ℕ) (a : Action) (was : ℕ) → IsAction a → was ≤ 600000000000 → latency_by session a was ≤ 600000000000
latency_small c session (action.Latency of ns) was ok le =
    elim (of == session) as (λ b. (if b then ns else was) ≤ 600000000000) [ true ↦ ok | false ↦ le ]
latency_small c session action.Clock was ok le = le
latency_small c session (action.FlushStart of) was ok le = le
latency_small c session (action.FlushStop of) was ok le = le

came_ready : (c : Contents) (os : List Opening) (n : ℕ) (i : Item) (tl : Timeline) → IsAction i.action → IsReady c os n tl → IsReady c os n (Acted i ∷ tl)
came_ready c os n i tl ok h =
    record {
      openings_are = h.openings_are;
      valid = h.valid;
      runs = h.runs;
      silent = h.silent;
      few = h.few;
      latency = λ s. latency_small c s i.action (latency_of c s tl) ok (h.latency s);
    }

-- ---- steps of the front

flushed_ready : (c : Contents) (os : List Opening) (n t k : ℕ) (b : Bool) (tl : Timeline) → k < length os → IsReady c os n tl → IsReady c os n (flushed_at_begin b t k tl)
flushed_ready c os n t k true tl lt h = flush_ready c os n t k tl lt h
flushed_ready c os n t k false tl lt h = h

-- what stands at a place in a list with one more
at_more : (xs : List Opening) (x : Opening) (l : ℕ) (P : Option Opening → Type 0) → (l < length xs → P (slice_get xs l)) → (l ≡ length xs → P (Some x)) → (length xs < l → P None) → P (slice_get (xs ++ x ∷ []) l)
at_more [] x zero P f g h = g refl
at_more [] x (suc l) P f g h = h (omega arith)
at_more (y ∷ xs) x zero P f g h = f (omega arith)
at_more (y ∷ xs) x (suc l) P f g h = at_more xs x l P (λ lt. f (omega arith)) (λ e. g (omega (arith, e))) (λ lt. h (omega arith))

none_at : (xs : List Opening) (l : ℕ) → length xs ≤ l → slice_get xs l ≡ None
none_at [] l le = refl
none_at (x ∷ xs) zero le = absurd (omega arith)
none_at (x ∷ xs) (suc l) le = none_at xs l (omega arith)

began_ready : (c : Contents) (os : List Opening) (n t : ℕ) (o : Opening) (tl : Timeline) → IsValid o.settings → IsReady c os n tl → IsReady c (os ++ o ∷ []) n (Began t o ∷ tl)
began_ready c os n t o tl valid h =
    record {
      openings_are = ap (λ (xs : List Opening). xs ++ o ∷ []) h.openings_are;
      valid = λ l. at_more (openings tl) o l (λ x. IsValid (opening_or c l x).settings) (λ lt. h.valid l) (λ e. valid) (λ lt. subst (λ (x : Option Opening). IsValid (opening_or c l x).settings) (none_at (openings tl) l (omega arith)) (h.valid l));
      runs = λ l. at_more (openings tl) o l (λ x. Run (opening_or c l x).settings (lane l tl)) (λ lt. h.runs l)
          (λ e. subst (Run o.settings) (sym (h.silent l (from_end l (omega (arith, e))))) valid)
          (λ lt. subst (λ (x : Option Opening). Run (opening_or c l x).settings (lane l tl)) (none_at (openings tl) l (omega arith)) (h.runs l));
      silent = λ l le. h.silent l (omega (arith, length-append os (o ∷ []), le));
      few = h.few;
      latency = h.latency;
    }
  where
    from_end : (l : ℕ) → length (openings tl) ≤ l → length os ≤ l
    from_end l le = subst (λ (xs : List Opening). length xs ≤ l) h.openings_are le

open_ready : (c : Contents) (os : List Opening) (n t : ℕ) (o : Opening) (tl : Timeline) → IsValid o.settings → IsReady c os n tl → IsReady c (os ++ o ∷ []) n (begun c t o tl)
open_ready c os n t o tl valid h =
    let count : lane_count tl ≡ length os = ap (λ (xs : List Opening). length xs) h.openings_are in
    let lt : lane_count tl < length (os ++ o ∷ []) = omega (arith, count, length-append os (o ∷ [])) in
    let now : IsReady c (os ++ o ∷ []) n (Began t o ∷ tl) = began_ready c os n t o tl valid h in
    flushed_ready c (os ++ o ∷ []) n t (lane_count tl) (is_flushing_of o.session tl) (At t (lane_count tl) (Latency (latency_of c o.session tl)) ∷ Began t o ∷ tl) lt
    (call_ready c (os ++ o ∷ []) n t (lane_count tl) (Latency (latency_of c o.session tl)) (Began t o ∷ tl) lt (h.latency o.session, now.runs (lane_count tl)) (λ x. refl) now)

-- a lane that is there has the settings that it began with
opened_is : (c : Contents) (os : List Opening) (l : ℕ) (o : Opening) (tl : Timeline) → openings tl ≡ os → slice_get os l ≡ Some o → opened c tl l ≡ o
opened_is c os l o tl e at = ap (λ (xs : List Opening). opening_or c l (slice_get xs l)) e ∙ ap (opening_or c l) at

place_below : (os : List Opening) (l : ℕ) (o : Opening) → slice_get os l ≡ Some o → l < length os
place_below [] l o at = absurd (differ o at)
  where
    differ : (o : Opening) → None ≡ Some o → ⊥
    differ o e = cc
place_below (x ∷ os) zero o at = omega arith
place_below (x ∷ os) (suc l) o at = omega (arith, place_below os l o at)

push_ready : (c : Contents) (os : List Opening) (n t l : ℕ) (a : Arrival) (tl : Timeline) → IsFitting os l a → n < 2147483648 → IsReady c os n tl → IsReady c os (n + 1) (pushed c t l a tl)
push_ready c os n t l a tl fit few h =
    let reply : Pushed = reply_to_push (opened c tl l).settings (lane l tl) a in
    let settings_are : opened c tl l ≡ fit.opening = opened_is c os l fit.opening tl h.openings_are fit.is in
    entry_ready c os n 1 t l (entry_of a reply) tl (place_below os l fit.opening fit.is) (
      record {
        pusher = subst (λ (x : Opening). is_pusher x.settings.pushers a.pusher ≡ true) (sym settings_are) fit.pusher;
        few = omega (arith, h.few l, few);
        in_range = fit.ranges;
        verdict_is = refl;
        number_is = refl;
        dropped_is = refl;
      },
      h.runs l,
    )
    (λ x. omega arith) h

sync_ready : (c : Contents) (os : List Opening) (n t l ntp rtp : ℕ) (tl : Timeline) → l < length os → ntp < 2 ^ 64 → rtp < 2 ^ 32 → IsReady c os n tl → IsReady c os n (At t l (Report ntp rtp (report (opened c tl l).settings (lane l tl) ntp rtp)) ∷ tl)
sync_ready c os n t l ntp rtp tl lt a b h =
    call_ready c os n t l (Report ntp rtp (report (opened c tl l).settings (lane l tl) ntp rtp)) tl lt
    (record { ntp_ns_range = a; rtp_range = b; reply_is = refl }, h.runs l) (λ x. refl) h

same_count : (c : Contents) (os : List Opening) (n : ℕ) (tl : Timeline) → IsReady c os n tl → IsReady c os (n + 0) tl
same_count c os n tl h = subst (λ (x : ℕ). IsReady c os x tl) (no_more n) h
  where
    no_more : (n : ℕ) → n ≡ n + 0
    no_more n = omega arith

stepped_ready : (c : Contents) (os : List Opening) (n t : ℕ) (x : Step) (tl : Timeline) → IsFit os x → n < 2147483648 → IsReady c os n tl → IsReady c (with_step os x) (n + given_by x) (stepped c t x tl)
stepped_ready c os n t (step.Tell line) tl fit few h =
    same_count c os n (Told t line ∷ tl) (alike_ready c os n tl (Told t line ∷ tl) (record { openings_are = refl; items_are = refl; lanes_are = λ l. refl }) h)
stepped_ready c os n t (step.Open o) tl fit few h = same_count c (os ++ o ∷ []) n (begun c t o tl) (open_ready c os n t o tl fit h)
stepped_ready c os n t (step.Push l a) tl fit few h = push_ready c os n t l a tl fit few h
stepped_ready c os n t (step.Sync l r) tl fit few h =
    let reply : Option SyncInfo = report (opened c tl l).settings (lane l tl) r.ntp_ns r.rtp in
    let before : Timeline = At t l (Report r.ntp_ns r.rtp reply) ∷ tl in
    let leaves : Leaves before (synced_by c t l r reply tl) = synced_leaves c t l reply before in
    same_count c os n (synced_by c t l r reply tl)
    (alike_ready c os n before (synced_by c t l r reply tl) (record { openings_are = leaves.openings_is; items_are = leaves.items_are; lanes_are = leaves.lanes_are })
    (sync_ready c os n t l r.ntp_ns r.rtp tl fit.0 fit.1 fit.2 h))

all_stepped_ready : (c : Contents) (os : List Opening) (n t : ℕ) (xs : List Step) (tl : Timeline) → AreFit os xs → n + given xs < 2147483648 → IsReady c os n tl → IsReady c (with_steps os xs) (n + given xs) (all_stepped c t xs tl)
all_stepped_ready c os n t [] tl fit few h = same_count c os n tl h
all_stepped_ready c os n t (x ∷ xs) tl fit few h =
    subst (λ (m : ℕ). IsReady c (with_steps (with_step os x) xs) m (all_stepped c t xs (stepped c t x tl))) (regroup n (given_by x) (given xs))
    (all_stepped_ready c (with_step os x) (n + given_by x) t xs (stepped c t x tl) fit.1 (omega arith) (stepped_ready c os n t x tl fit.0 (omega arith) h))
  where
    regroup : (a b m : ℕ) → a + b + m ≡ a + (b + m)
    regroup a b m = omega arith

-- ---- between inputs

steps_then : (os : List Opening) (xs ys : List Step) → with_steps os (xs ++ ys) ≡ with_steps (with_steps os xs) ys
steps_then os [] ys = refl
steps_then os (x ∷ xs) ys = steps_then (with_step os x) xs ys

given_then : (xs ys : List Step) → given (xs ++ ys) ≡ given xs + given ys
given_then [] ys = omega arith
given_then (x ∷ xs) ys = omega (arith, given_then xs ys)

abbrev opened_by : Contents → List FrontEvent → List Opening
opened_by c events = with_steps [] (all_steps c events)

abbrev given_by_all : Contents → List FrontEvent → ℕ
given_by_all c events = given (all_steps c events)

-- lanes and packets are those of all that came to the front, of which so many are records
record IsRested (c : Contents) (m : ℕ) (tl : Timeline) : Type 0 where
  ready : IsReady c (opened_by c (front tl)) (given_by_all c (front tl)) tl
  coming : AreComing (front tl)
  counted : records (front tl) ≤ m

-- requests alone came
record SameSteps (c : Contents) (old new : List FrontEvent) : Type 0 where
  opens : opened_by c new ≡ opened_by c old
  many : given_by_all c new ≡ given_by_all c old
  coming : AreComing old → AreComing new
  counted : records new ≡ records old

same_steps : (c : Contents) (old new : List FrontEvent) → new ≡ old → SameSteps c old new
same_steps c old new e =
    record { opens = ap (opened_by c) e; many = ap (given_by_all c) e; coming = λ h. subst AreComing (sym e) h; counted = ap records e }

requested_steps : (c : Contents) (o : Opening) (t : ℕ) (xs : List ℕ) (tl : Timeline) → SameSteps c (front tl) (front (all_requested o t xs tl))
requested_steps c o t [] tl = same_steps c (front tl) (front tl) refl
requested_steps c o t (x ∷ xs) tl =
    let rest : SameSteps c (Requested (request o x) ∷ front tl) (front (all_requested o t (x ∷ xs) tl)) = requested_steps c o t xs (Fronted t (Requested (request o x)) ∷ tl) in
    record {
      opens = rest.opens ∙ ap (with_steps []) (append-nil (all_steps c (front tl)));
      many = rest.many ∙ ap given (append-nil (all_steps c (front tl)));
      coming = λ h. rest.coming (tt, h);
      counted = rest.counted;
    }

sent_steps : (c : Contents) (o : Opening) (t : ℕ) (xs : List ℕ) (tl : Timeline) → SameSteps c (front tl) (front (sent c o t xs tl))
sent_steps c o t [] tl = same_steps c (front tl) (front tl) refl
sent_steps c o t (x ∷ xs) tl = requested_steps c o t (x ∷ xs) (Told t (told.Nack t o.session (nack_bytes c.settings.ssrc o.ssrc (x ∷ xs))) ∷ tl)

settled_steps : (c : Contents) (o : ℕ → Opening) (t l : ℕ) (tl : Timeline) → SameSteps c (front tl) (front (settled c o t l tl))
settled_steps c o t l tl =
    subst (λ (x : List FrontEvent). SameSteps c x (front (settled c o t l tl))) (turns_front (left (o l).settings (lane l tl)) o t l tl)
    (sent_steps c (o l) t (asked (lane l (all_turns o t l tl))) (all_turns o t l tl))

rested_by : (c : Contents) (m : ℕ) (old new : Timeline) → SameSteps c (front old) (front new) → IsReady c (opened_by c (front old)) (given_by_all c (front old)) new → IsRested c m old → IsRested c m new
rested_by c m old new e ready h =
    record {
      ready = subst (λ (os : List Opening). IsReady c os (given_by_all c (front new)) new) (sym e.opens)
          (subst (λ (n : ℕ). IsReady c (opened_by c (front old)) n new) (sym e.many) ready);
      coming = e.coming h.coming;
      counted = omega (arith, e.counted, h.counted);
    }

ticked_rested : (c : Contents) (o : ℕ → Opening) (m t k : ℕ) (tl : Timeline) → o k ≡ opened c tl k → k < lane_count tl → t < 2 ^ 63 + 2 ^ 50 → IsRested c m tl → IsRested c m (ticked c o t k tl)
ticked_rested c o m t k tl is lt early h =
    rested_by c m tl (ticked c o t k tl) (settled_steps c o t k (At t k (Clock t) ∷ tl))
    (ticked_ready c o (opened_by c (front tl)) (given_by_all c (front tl)) t k tl is
    (subst (λ (os : List Opening). k < length os) h.ready.openings_are lt) early h.ready) h

-- something comes to the front
fronted_rested : (c : Contents) (m t : ℕ) (e : FrontEvent) (tl : Timeline) → IsSound c → IsComing e → records (e ∷ front tl) ≤ m → m ≤ 100000000 → IsRested c m tl → IsRested c m (fronted c t e tl)
fronted_rested c m t e tl sound ok counted le h =
    let xs : List Step = steps c (front tl) e in
    let all : given_by_all c (e ∷ front tl) ≤ 16 * records (e ∷ front tl) = sound.few (e ∷ front tl) (ok, h.coming) in
    let sum : given_by_all c (e ∷ front tl) ≡ given_by_all c (front tl) + given xs = given_then (all_steps c (front tl)) xs in
    let before : IsReady c (opened_by c (front tl)) (given_by_all c (front tl)) (Fronted t e ∷ tl) =
    alike_ready c (opened_by c (front tl)) (given_by_all c (front tl)) tl (Fronted t e ∷ tl) (record { openings_are = refl; items_are = refl; lanes_are = λ l. refl }) h.ready in
    let after : IsReady c (with_steps (opened_by c (front tl)) xs) (given_by_all c (front tl) + given xs) (fronted c t e tl) =
    all_stepped_ready c (opened_by c (front tl)) (given_by_all c (front tl)) t xs (Fronted t e ∷ tl) (sound.fit (front tl) e (ok, h.coming) (omega (arith, counted, le))) (few (given_by_all c (front tl) + given xs) (given_by_all c (e ∷ front tl)) (records (e ∷ front tl)) (sym sum) all (omega (arith, counted, le))) before in
    let is : front (fronted c t e tl) ≡ e ∷ front tl = all_stepped_front c t xs (Fronted t e ∷ tl) in
    record {
      ready = subst (λ (fs : List FrontEvent). IsReady c (opened_by c fs) (given_by_all c fs) (fronted c t e tl)) (sym is)
          (subst (λ (os : List Opening). IsReady c os (given_by_all c (e ∷ front tl)) (fronted c t e tl)) (sym (steps_then [] (all_steps c (front tl)) xs))
          (subst (λ (n : ℕ). IsReady c (with_steps (opened_by c (front tl)) xs) n (fronted c t e tl)) (sym sum) after));
      coming = subst AreComing (sym is) (ok, h.coming);
      counted = subst (λ (fs : List FrontEvent). records fs ≤ m) (sym is) counted;
    }
  where
    few : (a b r : ℕ) → a ≡ b → b ≤ 16 * r → r ≤ 100000000 → a < 2147483648
    few a b r e x y = omega arith

where_rested : (c : Contents) (o : ℕ → Opening) (m t : ℕ) (passes : ℕ → Bool) (count : ℕ) (tl : Timeline) → ((k : ℕ) → o k ≡ opened c tl k) → count ≤ lane_count tl → t < 2 ^ 63 + 2 ^ 50 → IsRested c m tl → IsRested c m (ticked_where c o t passes count tl)
where_rested c o m t passes zero tl is le early h = h
where_rested c o m t passes (suc k) tl is le early h =
    by_cases (passes k)
    (λ b. subst (IsRested c m) (sym (where_yes c o t passes k tl b))
    (ticked_rested c o m t k before (is k ∙ sym (same_opened c tl before k (where_openings c o t passes k tl)))
    (subst (λ (os : List Opening). k < length os) (sym (where_openings c o t passes k tl)) (omega arith)) early (where_rested c o m t passes k tl is (omega arith) early h)))
    (λ b. subst (IsRested c m) (sym (where_not c o t passes k tl b)) (where_rested c o m t passes k tl is (omega arith) early h))
  where
    before : Timeline
    before = ticked_where c o t passes k tl

one_rested : (c : Contents) (o : ℕ → Opening) (reports : Bool) (m count limit : ℕ) (tl : Timeline) (d : Due) → IsSound c → m ≤ 100000000 → limit < 2 ^ 63 + 2 ^ 50 → ((k : ℕ) → o k ≡ opened c tl k) → count ≤ lane_count tl → IsDueNow c o reports count limit tl d → IsRested c m tl → IsRested c m (serve_one c o d tl)
one_rested c o reports m count limit tl (due.Reports t) sound few early is le d h = fronted_rested c m t (ReportsDue t) tl sound tt h.counted few h
one_rested c o reports m count limit tl (due.Turns w) sound few early is le d h =
    ticked_rested c o m w.time w.lane tl (is w.lane) (omega (arith, d.found.0, le)) (omega (arith, d.le, early)) h

serve_rested : (n : ℕ) (c : Contents) (o : ℕ → Opening) (reports : Bool) (m count limit : ℕ) (tl : Timeline) → IsSound c → m ≤ 100000000 → limit < 2 ^ 63 + 2 ^ 50 → ((k : ℕ) → o k ≡ opened c tl k) → count ≤ lane_count tl → IsRested c m tl → IsRested c m (serve_up_to n c o reports count limit tl)
serve_rested zero c o reports m count limit tl sound few early is le h = h
serve_rested (suc n) c o reports m count limit tl sound few early is le h =
    by_option (first_due c o reports count limit tl)
    (λ e. subst (IsRested c m) (sym (serve_none (suc n) c o reports count limit tl e)) h)
    (λ d e. subst (IsRested c m) (sym (serve_some n c o reports count limit tl d e))
    (serve_rested n c o reports m count limit (serve_one c o d tl) sound few early
    (λ k. is k ∙ sym (same_opened c tl (serve_one c o d tl) k (one_openings c o d tl)))
    (subst (λ (os : List Opening). count ≤ length os) (sym (one_openings c o d tl)) le)
    (one_rested c o reports m count limit tl d sound few early is le (due_is c o reports count limit tl d e) h)))

served_rested : (c : Contents) (m limit : ℕ) (tl : Timeline) → IsSound c → m ≤ 100000000 → limit < 2 ^ 63 → IsRested c m tl → IsRested c m (served c limit tl)
served_rested c m limit tl sound few early h =
    serve_rested _ c (opened c tl) true m (lane_count tl) limit tl sound few (omega arith) (λ k. refl) (omega arith) h

taken_rested : (c : Contents) (m : ℕ) (r : Timed) (tl : Timeline) → IsSound c → IsCaptured r.time r.captured → suc m ≤ 100000000 → IsRested c m tl → IsRested c (suc m) (taken c r.time (Came r.time r.captured) tl)
taken_rested c m r tl sound ok few h =
    let e : FrontEvent = Came r.time r.captured in
    let more : IsRested c (suc m) tl = record { ready = h.ready; coming = h.coming; counted = omega (arith, h.counted) } in
    let before : IsRested c (suc m) (fronted c r.time e tl) = fronted_rested c (suc m) r.time e tl sound ok (omega (arith, h.counted)) few more in
    let early : r.time < 2 ^ 63 = ok.early in
    where_rested c (opened c (fronted c r.time e tl)) (suc m) r.time (is_touched (lane_count tl) (steps c (front tl) e)) (lane_count (fronted c r.time e tl)) (fronted c r.time e tl) (λ k. refl) (omega arith) (omega arith) before

item_rested : (c : Contents) (m : ℕ) (i : Item) (tl : Timeline) → IsItem i → IsRested c m tl → IsRested c m (acted c (opened c tl) (lane_count tl) i tl)
item_rested c m i tl ok h =
    let o : ℕ → Opening = opened c tl in
    let os : List Opening = opened_by c (front tl) in
    let n : ℕ = given_by_all c (front tl) in
    let early : i.time < 2 ^ 63 = ok.early in
    let came : IsReady c os n (Acted i ∷ tl) = came_ready c os n i tl ok.action h.ready in
    let acts : IsReady c os n (all_acted o i.time (lane_count tl) i.action (Acted i ∷ tl)) =
    acted_ready c o os n i.time (lane_count tl) i.action (Acted i ∷ tl) ok.action (subst (λ (xs : List Opening). lane_count tl ≤ length xs) h.ready.openings_are (omega arith)) (omega arith) came in
    let before : Timeline = all_acted o i.time (lane_count tl) i.action (Acted i ∷ tl) in
    let same : openings before ≡ openings tl = all_acted_openings o i.time (lane_count tl) i.action (Acted i ∷ tl) in
    where_rested c o m i.time (λ l. is_for i.action (o l).session) (lane_count tl) before
    (λ k. sym (same_opened c tl before k same)) (subst (λ (xs : List Opening). lane_count tl ≤ length xs) (sym same) (omega arith)) (omega arith)
    (rested_by c m tl before (same_steps c (front tl) (front before) (acted_front o i.time (lane_count tl) i.action (Acted i ∷ tl))) acts h)

rested : (c : Contents) (xs : List Input) → IsSound c → c.settings.latency ≤ 600000000000 → length (records_in xs) ≤ 100000000 → All IsInput xs → IsRested c (length (records_in xs)) (timeline c xs)
rested c [] sound small few all =
    record {
      ready = record { openings_are = refl; valid = λ l. sound.valid; runs = λ l. sound.valid; silent = λ l le. refl; few = λ l. omega arith; latency = λ s. small };
      coming = tt;
      counted = omega arith;
    }
rested c (OfCapture r ∷ older) sound small few all =
    let first : IsCaptured r.time r.captured = All-head IsInput (OfCapture r) older all in
    taken_rested c (length (records_in older)) r (served c r.time (timeline c older)) sound first few
    (served_rested c (length (records_in older)) r.time (timeline c older) sound (omega arith) first.early
    (rested c older sound small (omega arith) (All-tail IsInput (OfCapture r) older all)))
rested c (OfScript i ∷ older) sound small few all =
    let first : IsItem i = All-head IsInput (OfScript i) older all in
    item_rested c (length (records_in older)) i (served c i.time (timeline c older)) first
    (served_rested c (length (records_in older)) i.time (timeline c older) sound few first.early
    (rested c older sound small few (All-tail IsInput (OfScript i) older all)))

-- ---- the other way round

all_reverse : (xs : List Input) → All IsInput xs → All IsInput (reverse xs)
all_reverse [] h = h
all_reverse (x ∷ xs) h =
    subst (All IsInput) (sym (reverse-append (x ∷ []) xs))
    (All-append IsInput (reverse xs) (x ∷ []) (all_reverse xs (All-tail IsInput x xs h)) (All-cons IsInput x [] (All-head IsInput x xs h) (λ k d lt. absurd (omega arith))))

records_append : (xs ys : List Input) → length (records_in (xs ++ ys)) ≡ length (records_in xs) + length (records_in ys)
records_append [] ys = omega arith
records_append (OfCapture r ∷ xs) ys = omega (arith, records_append xs ys)
records_append (OfScript i ∷ xs) ys = records_append xs ys

records_reverse : (xs : List Input) → length (records_in (reverse xs)) ≡ length (records_in xs)
records_reverse [] = refl
records_reverse (x ∷ xs) =
    ap (λ (ys : List Input). length (records_in ys)) (reverse-append (x ∷ []) xs) ∙ records_append (reverse xs) (x ∷ []) ∙ ap (λ (n : ℕ). n + length (records_in (x ∷ []))) (records_reverse xs)
    ∙ at_one x
  where
    at_one : (x : Input) → length (records_in xs) + length (records_in (x ∷ [])) ≡ length (records_in (x ∷ xs))
    at_one (OfCapture r) = omega arith
    at_one (OfScript i) = omega arith

replay_rested : (c : Contents) (xs : List Input) → IsSound c → IsReplay c xs → IsRested c (length (records_in (reverse xs))) (timeline c (reverse xs))
replay_rested c xs sound h = rested c (reverse xs) sound h.latency (omega (arith, records_reverse xs, h.few)) (all_reverse xs h.each)

pub lanes_run : (c : Contents) (xs : List Input) → IsSound c → IsReplay c xs → (l : ℕ) → Run (opened c (timeline c (reverse xs)) l).settings (lane l (timeline c (reverse xs)))
lanes_run c xs sound h = (replay_rested c xs sound h).ready.runs

-- ---- the ends

pushers_ready : (c : Contents) (o : ℕ → Opening) (os : List Opening) (n t k count : ℕ) (tl : Timeline) → o k ≡ opened c tl k → k < length os → IsReady c os n tl → IsReady c os n (pushers_ended c o t k count tl)
pushers_ready c o os n t k zero tl is lt h = h
pushers_ready c o os n t k (suc p) tl is lt h =
    let before : Timeline = pushers_ended c o t k p tl in
    let rest : IsReady c os n before = pushers_ready c o os n t k p tl is lt h in
    let now : o k ≡ opened c before k = is ∙ sym (same_opened c tl before k (rest.openings_are ∙ sym h.openings_are)) in
    by_cases (is_pusher (o k).settings.pushers p)
    (λ b. subst (IsReady c os n) (sym (ap (λ (x : Bool). if x then settled c o t k (At t k (Ends p) ∷ before) else before) b))
    (settled_ready c o os n t k (At t k (Ends p) ∷ before) now lt
    (call_ready c os n t k (Ends p) before lt (subst (λ (x : Opening). is_pusher x.settings.pushers p ≡ true) now b, rest.runs k) (λ x. refl) rest)))
    (λ b. subst (IsReady c os n) (sym (ap (λ (x : Bool). if x then settled c o t k (At t k (Ends p) ∷ before) else before) b)) rest)

all_ended_ready : (c : Contents) (o : ℕ → Opening) (os : List Opening) (n t count : ℕ) (tl : Timeline) → ((k : ℕ) → o k ≡ opened c tl k) → count ≤ length os → IsReady c os n tl → IsReady c os n (all_ended c o t count tl)
all_ended_ready c o os n t zero tl is le h = h
all_ended_ready c o os n t (suc k) tl is le h =
    let rest : IsReady c os n (all_ended c o t k tl) = all_ended_ready c o os n t k tl is (omega arith) h in
    pushers_ready c o os n t k pusher_count (all_ended c o t k tl) (is k ∙ sym (same_opened c tl (all_ended c o t k tl) k (rest.openings_are ∙ sym h.openings_are))) (omega arith) rest

pub lanes_run_whole : (c : Contents) (xs : List Input) → IsSound c → IsReplay c xs → (l : ℕ) → Run (opened c (whole_timeline c (reverse xs)) l).settings (lane l (whole_timeline c (reverse xs)))
lanes_run_whole c xs sound h =
    let tl : Timeline = timeline c (reverse xs) in
    let m : ℕ = length (records_in (reverse xs)) in
    let few : m ≤ 100000000 = omega (arith, records_reverse xs, h.few) in
    let last : Timeline = serve c (opened c tl) false (lane_count tl) END_OF_TIME tl in
    let same : openings last ≡ openings tl = serve_openings _ c (opened c tl) false (lane_count tl) END_OF_TIME tl in
    let rest : IsRested c m last = serve_rested _ c (opened c tl) false m (lane_count tl) END_OF_TIME tl sound few (omega arith) (λ k. refl) (omega arith) (replay_rested c xs sound h) in
    let os : List Opening = opened_by c (front last) in
    (all_ended_ready c (opened c tl) os (given_by_all c (front last)) (latest last) (lane_count tl) last (λ k. sym (same_opened c tl last k same))
    (subst (λ (xs : List Opening). lane_count tl ≤ length xs) rest.ready.openings_are (subst (λ (xs : List Opening). lane_count tl ≤ length xs) (sym same) (omega arith))) rest.ready).runs

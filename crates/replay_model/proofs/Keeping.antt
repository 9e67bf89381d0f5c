-- What each step leaves: how lanes began, the lanes that it is not for, and the last report time.
use Rattle.std.proofs.Common.{ℕ, zero, suc, ◌≡◌, ◌≢◌, ◌≤◌, ◌<◌, Bool, true, false, refl, sym, ap, subst, ◌∙◌, List, [], ◌∷◌, ◌++◌, Option, None, Some, arith, length}
use Rattle.std.specs.Prelude.{if◌then◌else◌, ◌==◌, ◌||◌, nat_le, map, slice_get}
use Rattle.std.specs.List.{list_any}
use Rattle.std.proofs.lemmas.Grind.{common_steps}
use Rattle.std.proofs.lemmas.List.{append_assoc, append-nil, length-append}
use Rattle.rtp_units.specs.declared.SyncInfo.{SyncInfo}
use Rattle.jitter_model.specs.declared.Arrival.{Arrival}
use Rattle.jitter_model.specs.declared.Entry.{Entry}
use Rattle.jitter_model.specs.declared.Entry.TheVariants.{Clock, FlushStart, FlushStop, Latency, Report, Turned}
use Rattle.jitter_model.specs.Turns.{left}
use Rattle.jitter_model.specs.Runs.{flush_count, report}
use Rattle.script_lang.specs.Contents.{Contents}
use Rattle.script_lang.specs.declared.script.Item.{Item}
use Rattle.script_lang.specs.declared.script.Action.{Action}
use Rattle.script_lang.specs.declared.script.Action.TheVariants as action
use Rattle.timeline.specs.declared.line.BinLine.{BinLine}
use Rattle.timeline.specs.declared.line.BinLine.TheVariants as told
use Rattle.front_model.specs.declared.Opening.{Opening}
use Rattle.front_model.specs.declared.SenderReport.{SenderReport}
use Rattle.front_model.specs.declared.Step.{Step}
use Rattle.front_model.specs.declared.Step.TheVariants as step
use Rattle.front_model.specs.Events.{FrontEvent, Came, ReportsDue, Requested}
use Rattle.front_model.specs.Reports.{nack_bytes}
use Rattle.front_model.specs.Steps.{steps}
use Rattle.replay_model.specs.declared.Due.{Due}
use Rattle.replay_model.specs.declared.Due.TheVariants as due
use Rattle.replay_model.specs.Events.{Timeline, Acted, Fronted, Began, Told, At, Kept, front, lane, openings, kept, items}
use Rattle.replay_model.specs.Lines.{all_told}
use Rattle.replay_model.specs.Lanes.{lane_count, opening_or, opened, latency_of, is_flushing_of}
use Rattle.replay_model.specs.Turning.{turned, turns_up_to, all_turns, request, all_requested, sent, asked, settled, ticked}
use Rattle.replay_model.specs.Acting.{is_for, done_to, acted_on, all_acted, ticked_where, acted}
use Rattle.replay_model.specs.Taking.{flushed_at_begin, begun, pushed, last_reports, offsets, offset_line, call_of, kept_under, name_of, synced_at, synced_by, stepped, all_stepped, fronted, touches, is_touched, all_ticked, taken}
use Rattle.replay_model.specs.Serving.{last_report, report_time, first_due, serve_one, serve_due, serve_up_to, serve}
use Rattle.replay_model.proofs.Lanes.{lane_here, lane_other, by_cases}
use Rattle.replay_model.proofs.Turning.{is_rest, turns_quiet, turns_more, ticked_other}
use Rattle.replay_model.proofs.Serving.{by_option, serve_none, serve_some, ticked_last}
use Rattle.replay_model.proofs.Reporting.{AreLines, reports_are_lines, reported_front}

-- ---- how lanes began

turns_openings : (n : ℕ) (o : ℕ → Opening) (t l : ℕ) (tl : Timeline) → openings (turns_up_to n o t l tl) ≡ openings tl
turns_openings zero o t l tl = refl
turns_openings (suc n) o t l tl =
    by_cases (is_rest o l tl)
    (λ i. ap openings (turns_quiet (suc n) o t l tl i))
    (λ i. ap openings (turns_more n o t l tl i) ∙ turns_openings n o t l (turned o t l tl))

requested_openings : (o : Opening) (t : ℕ) (xs : List ℕ) (tl : Timeline) → openings (all_requested o t xs tl) ≡ openings tl
requested_openings o t [] tl = refl
requested_openings o t (x ∷ xs) tl = requested_openings o t xs (Fronted t (Requested (request o x)) ∷ tl)

sent_openings : (c : Contents) (o : Opening) (t : ℕ) (xs : List ℕ) (tl : Timeline) → openings (sent c o t xs tl) ≡ openings tl
sent_openings c o t [] tl = refl
sent_openings c o t (x ∷ xs) tl =
    requested_openings o t (x ∷ xs) (Told t (told.Nack t o.session (nack_bytes c.settings.ssrc o.ssrc (x ∷ xs))) ∷ tl)

pub settled_openings : (c : Contents) (o : ℕ → Opening) (t l : ℕ) (tl : Timeline) → openings (settled c o t l tl) ≡ openings tl
settled_openings c o t l tl =
    sent_openings c (o l) t (asked (lane l (all_turns o t l tl))) (all_turns o t l tl) ∙ turns_openings (left (o l).settings (lane l tl)) o t l tl

pub ticked_openings : (c : Contents) (o : ℕ → Opening) (t l : ℕ) (tl : Timeline) → openings (ticked c o t l tl) ≡ openings tl
ticked_openings c o t l tl = settled_openings c o t l (At t l (Clock t) ∷ tl)

lines_openings : (c : Contents) (t : ℕ) (xs : List Step) (tl : Timeline) → AreLines xs → openings (all_stepped c t xs tl) ≡ openings tl
lines_openings c t [] tl h = refl
lines_openings c t (step.Tell x ∷ xs) tl h = lines_openings c t xs (Told t x ∷ tl) h
lines_openings c t (step.Open o ∷ xs) tl h = absurd h
lines_openings c t (step.Push k a ∷ xs) tl h = absurd h
lines_openings c t (step.Sync k r ∷ xs) tl h = absurd h

pub one_openings : (c : Contents) (o : ℕ → Opening) (d : Due) (tl : Timeline) → openings (serve_one c o d tl) ≡ openings tl
one_openings c o (due.Reports t) tl =
    lines_openings c t (steps c (front tl) (ReportsDue t)) (Fronted t (ReportsDue t) ∷ tl) (reports_are_lines c (front tl) t)
one_openings c o (due.Turns w) tl = ticked_openings c o w.time w.lane tl

pub serve_openings : (n : ℕ) (c : Contents) (o : ℕ → Opening) (reports : Bool) (count limit : ℕ) (tl : Timeline) → openings (serve_up_to n c o reports count limit tl) ≡ openings tl
serve_openings zero c o reports count limit tl = refl
serve_openings (suc n) c o reports count limit tl =
    by_option (first_due c o reports count limit tl)
    (λ e. ap openings (serve_none (suc n) c o reports count limit tl e))
    (λ d e. ap openings (serve_some n c o reports count limit tl d e) ∙ serve_openings n c o reports count limit (serve_one c o d tl) ∙ one_openings c o d tl)

done_openings : (t l : ℕ) (a : Action) (tl : Timeline) → openings (done_to t l a tl) ≡ openings tl
done_openings t l action.Clock tl = refl
done_openings t l (action.FlushStart session) tl = refl
done_openings t l (action.FlushStop session) tl = refl
done_openings t l (action.Latency session ns) tl = refl

pub all_acted_openings : (o : ℕ → Opening) (t count : ℕ) (a : Action) (tl : Timeline) → openings (all_acted o t count a tl) ≡ openings tl
all_acted_openings o t zero a tl = refl
all_acted_openings o t (suc l) a tl =
    by_cases (is_for a (o l).session)
    (λ b. ap (λ (x : Bool). openings (if x then acted_on t l a (all_acted o t l a tl) else all_acted o t l a tl)) b
    ∙ done_openings t l a (At t l (Clock t) ∷ all_acted o t l a tl) ∙ all_acted_openings o t l a tl)
    (λ b. ap (λ (x : Bool). openings (if x then acted_on t l a (all_acted o t l a tl) else all_acted o t l a tl)) b ∙ all_acted_openings o t l a tl)

pub where_not : (c : Contents) (o : ℕ → Opening) (t : ℕ) (passes : ℕ → Bool) (l : ℕ) (tl : Timeline) → passes l ≡ false → ticked_where c o t passes (suc l) tl ≡ ticked_where c o t passes l tl
where_not c o t passes l tl b = ap (λ (x : Bool). if x then ticked c o t l (ticked_where c o t passes l tl) else ticked_where c o t passes l tl) b

pub where_yes : (c : Contents) (o : ℕ → Opening) (t : ℕ) (passes : ℕ → Bool) (l : ℕ) (tl : Timeline) → passes l ≡ true → ticked_where c o t passes (suc l) tl ≡ ticked c o t l (ticked_where c o t passes l tl)
where_yes c o t passes l tl b = ap (λ (x : Bool). if x then ticked c o t l (ticked_where c o t passes l tl) else ticked_where c o t passes l tl) b

pub where_openings : (c : Contents) (o : ℕ → Opening) (t : ℕ) (passes : ℕ → Bool) (count : ℕ) (tl : Timeline) → openings (ticked_where c o t passes count tl) ≡ openings tl
where_openings c o t passes zero tl = refl
where_openings c o t passes (suc l) tl =
    by_cases (passes l)
    (λ b. ap openings (where_yes c o t passes l tl b) ∙ ticked_openings c o t l (ticked_where c o t passes l tl) ∙ where_openings c o t passes l tl)
    (λ b. ap openings (where_not c o t passes l tl b) ∙ where_openings c o t passes l tl)

-- ---- ticks of some lanes

-- lanes from the count on are left
where_above : (c : Contents) (o : ℕ → Opening) (t : ℕ) (passes : ℕ → Bool) (count l : ℕ) (tl : Timeline) → count ≤ l → lane l (ticked_where c o t passes count tl) ≡ lane l tl
where_above c o t passes zero l tl le = refl
where_above c o t passes (suc k) l tl le =
    by_cases (passes k)
    (λ b. ap (lane l) (where_yes c o t passes k tl b) ∙ ticked_other c o t k l (ticked_where c o t passes k tl) (λ e. absurd (omega (arith, e)))
    ∙ where_above c o t passes k l tl (omega arith))
    (λ b. ap (lane l) (where_not c o t passes k tl b) ∙ where_above c o t passes k l tl (omega arith))

-- a lane that doesn't pass is left
pub where_left : (c : Contents) (o : ℕ → Opening) (t : ℕ) (passes : ℕ → Bool) (count l : ℕ) (tl : Timeline) → passes l ≡ false → lane l (ticked_where c o t passes count tl) ≡ lane l tl
where_left c o t passes zero l tl misses = refl
where_left c o t passes (suc k) l tl misses =
    by_cases (passes k)
    (λ b. ap (lane l) (where_yes c o t passes k tl b) ∙ ticked_other c o t k l (ticked_where c o t passes k tl) (λ e. differ (sym b ∙ ap passes e ∙ misses))
    ∙ where_left c o t passes k l tl misses)
    (λ b. ap (lane l) (where_not c o t passes k tl b) ∙ where_left c o t passes k l tl misses)
  where
    differ : true ≡ false → ⊥
    differ e = cc

-- a lane that passes is as after its own tick
pub where_ticked : (c : Contents) (o : ℕ → Opening) (t : ℕ) (passes : ℕ → Bool) (count l : ℕ) (tl : Timeline) → l < count → passes l ≡ true → lane l (ticked_where c o t passes count tl) ≡ lane l (ticked c o t l (ticked_where c o t passes l tl))
where_ticked c o t passes zero l tl lt hits = absurd (omega arith)
where_ticked c o t passes (suc k) l tl lt hits =
    by_cases (k == l)
    (λ e. let eq : k ≡ l = grind (arith, common_steps) in
    subst (λ (n : ℕ). lane l (ticked_where c o t passes (suc n) tl) ≡ lane l (ticked c o t l (ticked_where c o t passes l tl))) (sym eq)
    (ap (lane l) (where_yes c o t passes l tl hits)))
    (λ e. let ne : k ≢ l = grind (arith, common_steps) in
    by_cases (passes k)
    (λ b. ap (lane l) (where_yes c o t passes k tl b) ∙ ticked_other c o t k l (ticked_where c o t passes k tl) ne
    ∙ where_ticked c o t passes k l tl (omega arith) hits)
    (λ b. ap (lane l) (where_not c o t passes k tl b) ∙ where_ticked c o t passes k l tl (omega arith) hits))

pub where_last : (c : Contents) (o : ℕ → Opening) (t : ℕ) (passes : ℕ → Bool) (count : ℕ) (tl : Timeline) → last_report (front (ticked_where c o t passes count tl)) ≡ last_report (front tl)
where_last c o t passes zero tl = refl
where_last c o t passes (suc l) tl =
    by_cases (passes l)
    (λ b. ap (λ (x : Timeline). last_report (front x)) (where_yes c o t passes l tl b) ∙ ticked_last c o t l (ticked_where c o t passes l tl) ∙ where_last c o t passes l tl)
    (λ b. ap (λ (x : Timeline). last_report (front x)) (where_not c o t passes l tl b) ∙ where_last c o t passes l tl)

-- ---- items

done_other : (t k l : ℕ) (a : Action) (tl : Timeline) → k ≢ l → lane l (done_to t k a tl) ≡ lane l tl
done_other t k l action.Clock tl ne = refl
done_other t k l (action.FlushStart session) tl ne = lane_other t k l (FlushStart (flush_count (lane k tl))) tl ne
done_other t k l (action.FlushStop session) tl ne = lane_other t k l FlushStop tl ne
done_other t k l (action.Latency session ns) tl ne = lane_other t k l (Latency ns) (Told t (told.Latency t k ns) ∷ tl) ne

-- a lane that an action isn't for is left
pub acted_left : (o : ℕ → Opening) (t count l : ℕ) (a : Action) (tl : Timeline) → is_for a (o l).session ≡ false → lane l (all_acted o t count a tl) ≡ lane l tl
acted_left o t zero l a tl misses = refl
acted_left o t (suc k) l a tl misses =
    by_cases (is_for a (o k).session)
    (λ b. let ne : k ≢ l = λ e. differ (sym b ∙ ap (λ (n : ℕ). is_for a (o n).session) e ∙ misses) in
    ap (λ (x : Bool). lane l (if x then acted_on t k a (all_acted o t k a tl) else all_acted o t k a tl)) b
    ∙ done_other t k l a (At t k (Clock t) ∷ all_acted o t k a tl) ne ∙ lane_other t k l (Clock t) (all_acted o t k a tl) ne ∙ acted_left o t k l a tl misses)
    (λ b. ap (λ (x : Bool). lane l (if x then acted_on t k a (all_acted o t k a tl) else all_acted o t k a tl)) b ∙ acted_left o t k l a tl misses)
  where
    differ : true ≡ false → ⊥
    differ e = cc

done_front : (t l : ℕ) (a : Action) (tl : Timeline) → front (done_to t l a tl) ≡ front tl
done_front t l action.Clock tl = refl
done_front t l (action.FlushStart session) tl = refl
done_front t l (action.FlushStop session) tl = refl
done_front t l (action.Latency session ns) tl = refl

pub acted_front : (o : ℕ → Opening) (t count : ℕ) (a : Action) (tl : Timeline) → front (all_acted o t count a tl) ≡ front tl
acted_front o t zero a tl = refl
acted_front o t (suc l) a tl =
    by_cases (is_for a (o l).session)
    (λ b. ap (λ (x : Bool). front (if x then acted_on t l a (all_acted o t l a tl) else all_acted o t l a tl)) b
    ∙ done_front t l a (At t l (Clock t) ∷ all_acted o t l a tl) ∙ acted_front o t l a tl)
    (λ b. ap (λ (x : Bool). front (if x then acted_on t l a (all_acted o t l a tl) else all_acted o t l a tl)) b ∙ acted_front o t l a tl)

-- ---- steps of the front

told_front : (t : ℕ) (xs : List BinLine) (tl : Timeline) → front (all_told t xs tl) ≡ front tl
told_front t [] tl = refl
told_front t (x ∷ xs) tl = told_front t xs (Told t x ∷ tl)

told_lane : (t : ℕ) (xs : List BinLine) (l : ℕ) (tl : Timeline) → lane l (all_told t xs tl) ≡ lane l tl
told_lane t [] l tl = refl
told_lane t (x ∷ xs) l tl = told_lane t xs l (Told t x ∷ tl)

told_items : (t : ℕ) (xs : List BinLine) (tl : Timeline) → items (all_told t xs tl) ≡ items tl
told_items t [] tl = refl
told_items t (x ∷ xs) tl = told_items t xs (Told t x ∷ tl)

told_openings : (t : ℕ) (xs : List BinLine) (tl : Timeline) → openings (all_told t xs tl) ≡ openings tl
told_openings t [] tl = refl
told_openings t (x ∷ xs) tl = told_openings t xs (Told t x ∷ tl)

-- a report that has a time leaves lanes, openings and what came to the front
pub record Leaves (old new : Timeline) : Type 0 where
  pub front_is : front new ≡ front old
  pub openings_is : openings new ≡ openings old
  pub items_are : items new ≡ items old
  pub lanes_are : (l : ℕ) → lane l new ≡ lane l old

kept_leaves : (t l : ℕ) (info : SyncInfo) (name : Option (List ℕ)) (tl : Timeline) → Leaves tl (kept_under t l info name tl)
kept_leaves t l info None tl = record { front_is = refl; openings_is = refl; items_are = refl; lanes_are = λ k. refl }
kept_leaves t l info (Some name) tl =
    let before : Timeline = Kept t (call_of l name info) ∷ tl in
    let lines : List BinLine = map (offset_line t) (offsets name (last_reports (kept before) (lane_count before))) in
    record { front_is = told_front t lines before; openings_is = told_openings t lines before; items_are = told_items t lines before; lanes_are = λ k. told_lane t lines k before }

pub synced_leaves : (c : Contents) (t l : ℕ) (reply : Option SyncInfo) (tl : Timeline) → Leaves tl (synced_at c t l reply tl)
synced_leaves c t l None tl = record { front_is = refl; openings_is = refl; items_are = refl; lanes_are = λ k. refl }
synced_leaves c t l (Some info) tl =
    let h : Leaves (Told t (told.Sync t l info.local) ∷ tl) (synced_at c t l (Some info) tl) = kept_leaves t l info (name_of c l tl) (Told t (told.Sync t l info.local) ∷ tl) in
    record { front_is = h.front_is; openings_is = h.openings_is; items_are = h.items_are; lanes_are = h.lanes_are }

flushed_front : (b : Bool) (t l : ℕ) (tl : Timeline) → front (flushed_at_begin b t l tl) ≡ front tl
flushed_front true t l tl = refl
flushed_front false t l tl = refl

flushed_openings : (b : Bool) (t l : ℕ) (tl : Timeline) → openings (flushed_at_begin b t l tl) ≡ openings tl
flushed_openings true t l tl = refl
flushed_openings false t l tl = refl

flushed_other : (b : Bool) (t k l : ℕ) (tl : Timeline) → k ≢ l → lane l (flushed_at_begin b t k tl) ≡ lane l tl
flushed_other true t k l tl ne = lane_other t k l (FlushStart (flush_count (lane k tl))) tl ne
flushed_other false t k l tl ne = refl

stepped_front : (c : Contents) (t : ℕ) (x : Step) (tl : Timeline) → front (stepped c t x tl) ≡ front tl
stepped_front c t (step.Tell line) tl = refl
stepped_front c t (step.Open x) tl =
    flushed_front (is_flushing_of x.session tl) t (lane_count tl) (At t (lane_count tl) (Latency (latency_of c x.session tl)) ∷ Began t x ∷ tl)
stepped_front c t (step.Push l a) tl = refl
stepped_front c t (step.Sync l r) tl =
    let reply : Option SyncInfo = report (opened c tl l).settings (lane l tl) r.ntp_ns r.rtp in
    (synced_leaves c t l reply (At t l (Report r.ntp_ns r.rtp reply) ∷ tl)).front_is

pub all_stepped_front : (c : Contents) (t : ℕ) (xs : List Step) (tl : Timeline) → front (all_stepped c t xs tl) ≡ front tl
all_stepped_front c t [] tl = refl
all_stepped_front c t (x ∷ xs) tl = all_stepped_front c t xs (stepped c t x tl) ∙ stepped_front c t x tl

-- more lanes may have begun
pub record Grown (old new : Timeline) : Type 0 where
  pub more : List Opening
  pub is : openings new ≡ openings old ++ more

grown_same : (old new : Timeline) → openings new ≡ openings old → Grown old new
grown_same old new e = record { more = []; is = e ∙ sym (append-nil (openings old)) }

pub grown_then : (a b c : Timeline) → Grown a b → Grown b c → Grown a c
grown_then a b c f g =
    record { more = f.more ++ g.more; is = g.is ∙ ap (λ (x : List Opening). x ++ g.more) f.is ∙ append_assoc (openings a) f.more g.more }

stepped_grown : (c : Contents) (t : ℕ) (x : Step) (tl : Timeline) → Grown tl (stepped c t x tl)
stepped_grown c t (step.Tell line) tl = grown_same tl _ refl
stepped_grown c t (step.Open x) tl =
    record { more = x ∷ []; is = flushed_openings (is_flushing_of x.session tl) t (lane_count tl) (At t (lane_count tl) (Latency (latency_of c x.session tl)) ∷ Began t x ∷ tl) }
stepped_grown c t (step.Push l a) tl = grown_same tl _ refl
stepped_grown c t (step.Sync l r) tl =
    let reply : Option SyncInfo = report (opened c tl l).settings (lane l tl) r.ntp_ns r.rtp in
    grown_same tl (synced_by c t l r reply tl) (synced_leaves c t l reply (At t l (Report r.ntp_ns r.rtp reply) ∷ tl)).openings_is

pub all_stepped_grown : (c : Contents) (t : ℕ) (xs : List Step) (tl : Timeline) → Grown tl (all_stepped c t xs tl)
all_stepped_grown c t [] tl = grown_same tl tl refl
all_stepped_grown c t (x ∷ xs) tl = grown_then tl (stepped c t x tl) _ (stepped_grown c t x tl) (all_stepped_grown c t xs (stepped c t x tl))

pub grown_count : (old new : Timeline) → Grown old new → lane_count old ≤ lane_count new
grown_count old new h = omega (arith, ap (λ (xs : List Opening). length xs) h.is, length-append (openings old) h.more)

pub at_append : (xs ys : List Opening) (l : ℕ) → l < length xs → slice_get (xs ++ ys) l ≡ slice_get xs l
at_append [] ys l lt = absurd (omega arith)
at_append (x ∷ xs) ys zero lt = refl
at_append (x ∷ xs) ys (suc l) lt = at_append xs ys l (omega arith)

-- lanes that were there began as before
pub grown_opened : (c : Contents) (old new : Timeline) (l : ℕ) → l < lane_count old → Grown old new → opened c new l ≡ opened c old l
grown_opened c old new l lt h =
    ap (λ (xs : List Opening). opening_or c l (slice_get xs l)) h.is ∙ ap (opening_or c l) (at_append (openings old) h.more l lt)

pub same_opened : (c : Contents) (old new : Timeline) (l : ℕ) → openings new ≡ openings old → opened c new l ≡ opened c old l
same_opened c old new l e = ap (λ (xs : List Opening). opening_or c l (slice_get xs l)) e

-- a lane that was there and that a step doesn't touch is left
stepped_left : (c : Contents) (t : ℕ) (x : Step) (l : ℕ) (tl : Timeline) → l < lane_count tl → touches l x ≡ false → lane l (stepped c t x tl) ≡ lane l tl
stepped_left c t (step.Tell line) l tl lt misses = refl
stepped_left c t (step.Open x) l tl lt misses =
    let ne : lane_count tl ≢ l = λ e. absurd (omega (arith, e)) in
    flushed_other (is_flushing_of x.session tl) t (lane_count tl) l (At t (lane_count tl) (Latency (latency_of c x.session tl)) ∷ Began t x ∷ tl) ne
    ∙ lane_other t (lane_count tl) l (Latency (latency_of c x.session tl)) (Began t x ∷ tl) ne
stepped_left c t (step.Push k a) l tl lt misses =
    let apart : (k == l) ≡ false = misses in
    let ne : k ≢ l = grind (arith, common_steps) in
    lane_other t k l _ tl ne
stepped_left c t (step.Sync k r) l tl lt misses =
    let apart : (k == l) ≡ false = misses in
    let ne : k ≢ l = grind (arith, common_steps) in
    let reply : Option SyncInfo = report (opened c tl k).settings (lane k tl) r.ntp_ns r.rtp in
    (synced_leaves c t k reply (At t k (Report r.ntp_ns r.rtp reply) ∷ tl)).lanes_are l ∙ lane_other t k l (Report r.ntp_ns r.rtp reply) tl ne

pub all_stepped_left : (c : Contents) (t : ℕ) (xs : List Step) (l : ℕ) (tl : Timeline) → l < lane_count tl → list_any (touches l) xs ≡ false → lane l (all_stepped c t xs tl) ≡ lane l tl
all_stepped_left c t [] l tl lt misses = refl
all_stepped_left c t (x ∷ xs) l tl lt misses =
    let more : lane_count tl ≤ lane_count (stepped c t x tl) = grown_count tl (stepped c t x tl) (stepped_grown c t x tl) in
    all_stepped_left c t xs l (stepped c t x tl) (omega arith) (none_of_more (touches l x) (list_any (touches l) xs) misses)
    ∙ stepped_left c t x l tl lt (none_of_first (touches l x) (list_any (touches l) xs) misses)
  where
    none_of_first : (a b : Bool) → (a || b) ≡ false → a ≡ false
    none_of_first true b e = e
    none_of_first false b e = refl

    none_of_more : (a b : Bool) → (a || b) ≡ false → b ≡ false
    none_of_more true b e = cc
    none_of_more false b e = e

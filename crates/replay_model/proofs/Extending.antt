-- What happened stays: each step adds to the timeline.
use Rattle.std.proofs.Common.{ℕ, zero, suc, ◌≡◌, Bool, true, false, refl, sym, ap, ◌∙◌, List, [], ◌∷◌, ◌++◌, Option, None, Some}
use Rattle.std.specs.Prelude.{if◌then◌else◌, map}
use Rattle.std.proofs.lemmas.List.{append_assoc}
use Rattle.rtp_units.specs.declared.SyncInfo.{SyncInfo}
use Rattle.jitter_model.specs.declared.Entry.TheVariants.{Clock, FlushStart, FlushStop, Latency, Report, Ends, Turned}
use Rattle.jitter_model.specs.Turns.{turn, is_quiet, left}
use Rattle.jitter_model.specs.History.{is_pusher, pusher_count}
use Rattle.jitter_model.specs.Runs.{flush_count, report}
use Rattle.script_lang.specs.Contents.{Contents}
use Rattle.script_lang.specs.declared.script.Item.{Item}
use Rattle.script_lang.specs.declared.script.Action.{Action}
use Rattle.script_lang.specs.declared.script.Action.TheVariants as action
use Rattle.timeline.specs.declared.line.BinLine.{BinLine}
use Rattle.timeline.specs.declared.line.BinLine.TheVariants as told
use Rattle.front_model.specs.declared.Opening.{Opening}
use Rattle.front_model.specs.declared.SenderReport.{SenderReport}
use Rattle.front_model.specs.declared.Step.{Step}
use Rattle.front_model.specs.declared.Step.TheVariants as step
use Rattle.front_model.specs.Events.{FrontEvent, Came, ReportsDue, Requested}
use Rattle.front_model.specs.Reports.{nack_bytes}
use Rattle.front_model.specs.Steps.{steps}
use Rattle.replay_model.specs.declared.Due.{Due}
use Rattle.replay_model.specs.declared.Due.TheVariants as due
use Rattle.replay_model.specs.declared.TheConstants.{END_OF_TIME}
use Rattle.replay_model.specs.Inputs.{Input, OfCapture, OfScript}
use Rattle.replay_model.specs.Events.{Event, Timeline, Acted, Fronted, Began, Told, At, Kept, event_time, front, lane, latest, kept}
use Rattle.replay_model.specs.Lines.{all_told}
use Rattle.replay_model.specs.Lanes.{lane_count, opened, latency_of, is_flushing_of}
use Rattle.replay_model.specs.Turning.{turned, turns_up_to, all_turns, request, all_requested, sent, asked, all_sent, settled, ticked}
use Rattle.replay_model.specs.Acting.{is_for, flush_begun, done_to, acted_on, all_acted, ticked_where, acted}
use Rattle.replay_model.specs.Taking.{flushed_at_begin, begun, pushed, last_reports, offsets, offset_line, offsets_told, call_of, kept_under, name_of, synced_at, synced_by, synced, stepped, all_stepped, fronted, is_touched, all_ticked, taken}
use Rattle.replay_model.specs.Serving.{first_due, serve_one, serve_up_to, serve_due, serve}
use Rattle.replay_model.specs.Ending.{pushers_ended, all_ended, closed}
use Rattle.replay_model.specs.Keeping.{AreAt, Adds}
use Rattle.replay_model.specs.Log.{served, with_item, with_input, timeline, whole_timeline}

at_then : (t : ℕ) (xs ys : Timeline) → AreAt t xs → AreAt t ys → AreAt t (xs ++ ys)
at_then t [] ys h k = k
at_then t (e ∷ xs) ys h k = (h.0, at_then t xs ys h.1 k)

pub same : (t : ℕ) (tl : Timeline) → Adds t tl tl
same t tl = record { more = []; is = refl; at = tt }

pub then_more : (t : ℕ) (a b c : Timeline) → Adds t a b → Adds t b c → Adds t a c
then_more t a b c f g =
    record { more = g.more ++ f.more; is = g.is ∙ ap (λ (x : Timeline). g.more ++ x) f.is ∙ sym (append_assoc g.more f.more a); at = at_then t g.more f.more g.at f.at }

pub one : (t : ℕ) (e : Event) (tl : Timeline) → event_time e ≡ t → Adds t tl (e ∷ tl)
one t e tl h = record { more = e ∷ []; is = refl; at = (h, tt) }

one_more : (t : ℕ) (e : Event) (a b : Timeline) → Adds t a b → event_time e ≡ t → Adds t a (e ∷ b)
one_more t e a b f h = then_more t a b (e ∷ b) f (one t e b h)

-- either way
choice : (t : ℕ) (b : Bool) (old x y : Timeline) → Adds t old x → Adds t old y → Adds t old (if b then x else y)
choice t true old x y f g = f
choice t false old x y f g = g

-- ---- turns

turns_extend : (n : ℕ) (o : ℕ → Opening) (t l : ℕ) (tl : Timeline) → Adds t tl (turns_up_to n o t l tl)
turns_extend zero o t l tl = same t tl
turns_extend (suc n) o t l tl =
    choice t (is_quiet (turn (o l).settings (lane l tl))) tl tl (turns_up_to n o t l (turned o t l tl)) (same t tl)
    (then_more t tl (turned o t l tl) (turns_up_to n o t l (turned o t l tl)) (one t _ tl refl) (turns_extend n o t l (turned o t l tl)))

requested_extend : (o : Opening) (t : ℕ) (xs : List ℕ) (tl : Timeline) → Adds t tl (all_requested o t xs tl)
requested_extend o t [] tl = same t tl
requested_extend o t (x ∷ xs) tl =
    then_more t tl (Fronted t (Requested (request o x)) ∷ tl) _ (one t _ tl refl) (requested_extend o t xs (Fronted t (Requested (request o x)) ∷ tl))

sent_extend : (c : Contents) (o : Opening) (t : ℕ) (xs : List ℕ) (tl : Timeline) → Adds t tl (sent c o t xs tl)
sent_extend c o t [] tl = same t tl
sent_extend c o t (x ∷ xs) tl =
    then_more t tl (Told t (told.Nack t o.session (nack_bytes c.settings.ssrc o.ssrc (x ∷ xs))) ∷ tl) _ (one t _ tl refl)
    (requested_extend o t (x ∷ xs) (Told t (told.Nack t o.session (nack_bytes c.settings.ssrc o.ssrc (x ∷ xs))) ∷ tl))

pub settled_extend : (c : Contents) (o : ℕ → Opening) (t l : ℕ) (tl : Timeline) → Adds t tl (settled c o t l tl)
settled_extend c o t l tl =
    then_more t tl (all_turns o t l tl) _ (turns_extend (left (o l).settings (lane l tl)) o t l tl)
    (sent_extend c (o l) t (asked (lane l (all_turns o t l tl))) (all_turns o t l tl))

pub ticked_extend : (c : Contents) (o : ℕ → Opening) (t l : ℕ) (tl : Timeline) → Adds t tl (ticked c o t l tl)
ticked_extend c o t l tl = then_more t tl (At t l (Clock t) ∷ tl) _ (one t _ tl refl) (settled_extend c o t l (At t l (Clock t) ∷ tl))

-- ---- steps of the front

pub told_extend : (t : ℕ) (xs : List BinLine) (tl : Timeline) → Adds t tl (all_told t xs tl)
told_extend t [] tl = same t tl
told_extend t (x ∷ xs) tl = then_more t tl (Told t x ∷ tl) _ (one t _ tl refl) (told_extend t xs (Told t x ∷ tl))

flushed_extend : (b : Bool) (t l : ℕ) (tl : Timeline) → Adds t tl (flushed_at_begin b t l tl)
flushed_extend true t l tl = one t _ tl refl
flushed_extend false t l tl = same t tl

kept_extend : (t l : ℕ) (info : SyncInfo) (name : Option (List ℕ)) (tl : Timeline) → Adds t tl (kept_under t l info name tl)
kept_extend t l info None tl = same t tl
kept_extend t l info (Some name) tl =
    then_more t tl (Kept t (call_of l name info) ∷ tl) _ (one t _ tl refl)
    (told_extend t (map (offset_line t) (offsets name (last_reports (kept (Kept t (call_of l name info) ∷ tl)) (lane_count (Kept t (call_of l name info) ∷ tl))))) (Kept t (call_of l name info) ∷ tl))

synced_at_extend : (c : Contents) (t l : ℕ) (reply : Option SyncInfo) (tl : Timeline) → Adds t tl (synced_at c t l reply tl)
synced_at_extend c t l None tl = same t tl
synced_at_extend c t l (Some info) tl =
    then_more t tl (Told t (told.Sync t l info.local) ∷ tl) _ (one t _ tl refl) (kept_extend t l info (name_of c l tl) (Told t (told.Sync t l info.local) ∷ tl))

synced_extend : (c : Contents) (t l : ℕ) (r : SenderReport) (reply : Option SyncInfo) (tl : Timeline) → Adds t tl (synced_by c t l r reply tl)
synced_extend c t l r reply tl =
    then_more t tl (At t l (Report r.ntp_ns r.rtp reply) ∷ tl) _ (one t _ tl refl) (synced_at_extend c t l reply (At t l (Report r.ntp_ns r.rtp reply) ∷ tl))

stepped_extend : (c : Contents) (t : ℕ) (x : Step) (tl : Timeline) → Adds t tl (stepped c t x tl)
stepped_extend c t (step.Tell line) tl = one t _ tl refl
stepped_extend c t (step.Open x) tl =
    then_more t tl (At t (lane_count tl) (Latency (latency_of c x.session tl)) ∷ Began t x ∷ tl) _ (one_more t _ tl (Began t x ∷ tl) (one t _ tl refl) refl)
    (flushed_extend (is_flushing_of x.session tl) t (lane_count tl) (At t (lane_count tl) (Latency (latency_of c x.session tl)) ∷ Began t x ∷ tl))
stepped_extend c t (step.Push l a) tl = one t _ tl refl
stepped_extend c t (step.Sync l r) tl = synced_extend c t l r (report (opened c tl l).settings (lane l tl) r.ntp_ns r.rtp) tl

pub all_stepped_extend : (c : Contents) (t : ℕ) (xs : List Step) (tl : Timeline) → Adds t tl (all_stepped c t xs tl)
all_stepped_extend c t [] tl = same t tl
all_stepped_extend c t (x ∷ xs) tl = then_more t tl (stepped c t x tl) _ (stepped_extend c t x tl) (all_stepped_extend c t xs (stepped c t x tl))

pub fronted_extend : (c : Contents) (t : ℕ) (e : FrontEvent) (tl : Timeline) → Adds t tl (fronted c t e tl)
fronted_extend c t e tl = then_more t tl (Fronted t e ∷ tl) _ (one t _ tl refl) (all_stepped_extend c t (steps c (front tl) e) (Fronted t e ∷ tl))

pub ticked_where_extend : (c : Contents) (o : ℕ → Opening) (t : ℕ) (passes : ℕ → Bool) (count : ℕ) (tl : Timeline) → Adds t tl (ticked_where c o t passes count tl)
ticked_where_extend c o t passes zero tl = same t tl
ticked_where_extend c o t passes (suc l) tl =
    choice t (passes l) tl (ticked c o t l (ticked_where c o t passes l tl)) (ticked_where c o t passes l tl)
    (then_more t tl (ticked_where c o t passes l tl) _ (ticked_where_extend c o t passes l tl) (ticked_extend c o t l (ticked_where c o t passes l tl)))
    (ticked_where_extend c o t passes l tl)

pub taken_extend : (c : Contents) (t : ℕ) (e : FrontEvent) (tl : Timeline) → Adds t tl (taken c t e tl)
taken_extend c t e tl =
    then_more t tl (fronted c t e tl) _ (fronted_extend c t e tl)
    (ticked_where_extend c (opened c (fronted c t e tl)) t (is_touched (lane_count tl) (steps c (front tl) e)) (lane_count (fronted c t e tl)) (fronted c t e tl))

-- behind the event itself
pub taken_adds : (c : Contents) (t : ℕ) (e : FrontEvent) (tl : Timeline) → Adds t (Fronted t e ∷ tl) (taken c t e tl)
taken_adds c t e tl =
    let there : Timeline = fronted c t e tl in
    then_more t (Fronted t e ∷ tl) there (taken c t e tl) (all_stepped_extend c t (steps c (front tl) e) (Fronted t e ∷ tl))
    (ticked_where_extend c (opened c there) t (is_touched (lane_count tl) (steps c (front tl) e)) (lane_count there) there)

-- ---- items

done_extend : (t l : ℕ) (a : Action) (tl : Timeline) → Adds t tl (done_to t l a tl)
done_extend t l action.Clock tl = same t tl
done_extend t l (action.FlushStart session) tl = one t _ tl refl
done_extend t l (action.FlushStop session) tl = one t _ tl refl
done_extend t l (action.Latency session ns) tl = one_more t _ tl (Told t (told.Latency t l ns) ∷ tl) (one t _ tl refl) refl

acted_on_extend : (t l : ℕ) (a : Action) (tl : Timeline) → Adds t tl (acted_on t l a tl)
acted_on_extend t l a tl = then_more t tl (At t l (Clock t) ∷ tl) _ (one t _ tl refl) (done_extend t l a (At t l (Clock t) ∷ tl))

all_acted_extend : (o : ℕ → Opening) (t count : ℕ) (a : Action) (tl : Timeline) → Adds t tl (all_acted o t count a tl)
all_acted_extend o t zero a tl = same t tl
all_acted_extend o t (suc l) a tl =
    choice t (is_for a (o l).session) tl (acted_on t l a (all_acted o t l a tl)) (all_acted o t l a tl)
    (then_more t tl (all_acted o t l a tl) _ (all_acted_extend o t l a tl) (acted_on_extend t l a (all_acted o t l a tl)))
    (all_acted_extend o t l a tl)

pub acted_extend : (c : Contents) (o : ℕ → Opening) (count : ℕ) (i : Item) (tl : Timeline) → Adds i.time tl (acted c o count i tl)
acted_extend c o count i tl =
    let after : Timeline = all_acted o i.time count i.action (Acted i ∷ tl) in
    then_more i.time tl after _ (then_more i.time tl (Acted i ∷ tl) after (one i.time _ tl refl) (all_acted_extend o i.time count i.action (Acted i ∷ tl)))
    (ticked_where_extend c o i.time (λ l. is_for i.action (o l).session) count after)

-- ---- serving

-- the timeline with what happened then
pub record Extends (old new : Timeline) : Type 0 where
  pub more : Timeline
  pub is : new ≡ more ++ old

ext_same : (tl : Timeline) → Extends tl tl
ext_same tl = record { more = []; is = refl }

pub ext_then : (a b c : Timeline) → Extends a b → Extends b c → Extends a c
ext_then a b c f g =
    record { more = g.more ++ f.more; is = g.is ∙ ap (λ (x : Timeline). g.more ++ x) f.is ∙ sym (append_assoc g.more f.more a) }

ext : (t : ℕ) (a b : Timeline) → Adds t a b → Extends a b
ext t a b f = record { more = f.more; is = f.is }

ext_choice : (b : Bool) (old x y : Timeline) → Extends old x → Extends old y → Extends old (if b then x else y)
ext_choice true old x y f g = f
ext_choice false old x y f g = g

serve_one_extend : (c : Contents) (o : ℕ → Opening) (d : Due) (tl : Timeline) → Extends tl (serve_one c o d tl)
serve_one_extend c o (due.Reports time) tl = ext time tl _ (fronted_extend c time (ReportsDue time) tl)
serve_one_extend c o (due.Turns w) tl = ext w.time tl _ (ticked_extend c o w.time w.lane tl)

serve_due_extend : (more : Timeline → Timeline) (c : Contents) (o : ℕ → Opening) (d : Option Due) (tl : Timeline) → ((x : Timeline) → Extends x (more x)) → Extends tl (serve_due more c o d tl)
serve_due_extend more c o None tl h = ext_same tl
serve_due_extend more c o (Some d) tl h = ext_then tl (serve_one c o d tl) _ (serve_one_extend c o d tl) (h (serve_one c o d tl))

serve_extend : (n : ℕ) (c : Contents) (o : ℕ → Opening) (reports : Bool) (count limit : ℕ) (tl : Timeline) → Extends tl (serve_up_to n c o reports count limit tl)
serve_extend zero c o reports count limit tl = ext_same tl
serve_extend (suc n) c o reports count limit tl =
    serve_due_extend (serve_up_to n c o reports count limit) c o (first_due c o reports count limit tl) tl (λ x. serve_extend n c o reports count limit x)

served_extend : (c : Contents) (limit : ℕ) (tl : Timeline) → Extends tl (served c limit tl)
served_extend c limit tl = serve_extend _ c (opened c tl) true (lane_count tl) limit tl

-- ---- all

pub input_extend : (c : Contents) (x : Input) (tl : Timeline) → Extends tl (with_input c x tl)
input_extend c (OfCapture r) tl =
    ext_then tl (served c r.time tl) _ (served_extend c r.time tl) (ext r.time (served c r.time tl) _ (taken_extend c r.time (Came r.time r.captured) (served c r.time tl)))
input_extend c (OfScript i) tl =
    ext_then tl (served c i.time tl) _ (served_extend c i.time tl) (ext i.time (served c i.time tl) _ (acted_extend c (opened c (served c i.time tl)) (lane_count (served c i.time tl)) i (served c i.time tl)))

pub timeline_extend : (c : Contents) (newer older : List Input) → Extends (timeline c older) (timeline c (newer ++ older))
timeline_extend c [] older = ext_same (timeline c older)
timeline_extend c (x ∷ newer) older =
    ext_then (timeline c older) (timeline c (newer ++ older)) _ (timeline_extend c newer older) (input_extend c x (timeline c (newer ++ older)))

pushers_extend : (c : Contents) (o : ℕ → Opening) (t l count : ℕ) (tl : Timeline) → Adds t tl (pushers_ended c o t l count tl)
pushers_extend c o t l zero tl = same t tl
pushers_extend c o t l (suc p) tl =
    choice t (is_pusher (o l).settings.pushers p) tl (settled c o t l (At t l (Ends p) ∷ pushers_ended c o t l p tl)) (pushers_ended c o t l p tl)
    (then_more t tl (At t l (Ends p) ∷ pushers_ended c o t l p tl) _ (one_more t _ tl (pushers_ended c o t l p tl) (pushers_extend c o t l p tl) refl) (settled_extend c o t l (At t l (Ends p) ∷ pushers_ended c o t l p tl)))
    (pushers_extend c o t l p tl)

pub all_ended_extend : (c : Contents) (o : ℕ → Opening) (t count : ℕ) (tl : Timeline) → Adds t tl (all_ended c o t count tl)
all_ended_extend c o t zero tl = same t tl
all_ended_extend c o t (suc l) tl =
    then_more t tl (all_ended c o t l tl) _ (all_ended_extend c o t l tl) (pushers_extend c o t l pusher_count (all_ended c o t l tl))

pub closed_extend : (c : Contents) (tl : Timeline) → Extends tl (closed c tl)
closed_extend c tl =
    let left : Timeline = serve c (opened c tl) false (lane_count tl) END_OF_TIME tl in
    ext_then tl left _ (serve_extend _ c (opened c tl) false (lane_count tl) END_OF_TIME tl) (ext (latest left) left _ (all_ended_extend c (opened c tl) (latest left) (lane_count tl) left))

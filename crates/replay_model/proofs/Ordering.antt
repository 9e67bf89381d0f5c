-- Times never fall.
use Rattle.std.proofs.Common.{ℕ, zero, suc, ◌≡◌, ◌≢◌, ◌+◌, ◌≤◌, ◌<◌, Bool, true, false, refl, sym, ap, subst, ◌∙◌, List, [], ◌∷◌, ◌++◌, Option, None, Some, arith, length}
use Rattle.std.specs.Prelude.{if◌then◌else◌, ◌==◌, ◌||◌, nat_le}
use Rattle.std.specs.List.{list_any}
use Rattle.std.proofs.lemmas.Grind.{common_steps}
use Rattle.jitter_model.specs.History.{History}
use Rattle.jitter_model.specs.Turns.{turn, wake_of}
use Rattle.jitter_model.specs.Laws.{IsLater}
use Rattle.script_lang.specs.Contents.{Contents}
use Rattle.script_lang.specs.declared.script.Item.{Item}
use Rattle.front_model.specs.declared.Opening.{Opening}
use Rattle.front_model.specs.declared.Step.{Step}
use Rattle.front_model.specs.Events.{FrontEvent, Came, ReportsDue}
use Rattle.front_model.specs.Steps.{steps}
use Rattle.replay_model.specs.declared.Wake.{Wake}
use Rattle.replay_model.specs.declared.Due.{Due}
use Rattle.replay_model.specs.declared.Due.TheVariants as due
use Rattle.replay_model.specs.declared.TheConstants.{END_OF_TIME}
use Rattle.timeline.specs.Times.{Timed}
use Rattle.replay_model.specs.Inputs.{Input, OfCapture, OfScript}
use Rattle.replay_model.specs.Events.{Event, Timeline, Acted, Fronted, event_time, front, lane, latest, openings}
use Rattle.replay_model.specs.Lanes.{lane_count, opened}
use Rattle.replay_model.specs.Turning.{ticked}
use Rattle.replay_model.specs.Acting.{is_for, all_acted, ticked_where, acted}
use Rattle.replay_model.specs.Taking.{touches, is_touched, all_stepped, fronted, taken}
use Rattle.replay_model.specs.Serving.{wake, first_wake, last_report, next_report, report_time, due_time, first_due, serve_one, serve_up_to, serve}
use Rattle.replay_model.specs.Ending.{all_ended, closed}
use Rattle.replay_model.specs.Log.{served, with_input, timeline, whole_timeline}
use Rattle.replay_model.specs.Order.{IsInOrder, input_time, last_time, AreInOrder}
use Rattle.replay_model.proofs.Lanes.{by_cases}
use Rattle.replay_model.specs.Keeping.{AreAt, Adds}
use Rattle.replay_model.proofs.Extending.{ticked_extend, fronted_extend, taken_extend, acted_extend, all_ended_extend}
use Rattle.replay_model.proofs.Turning.{WakesLater, ticked_later, ticked_other}
use Rattle.replay_model.proofs.Reporting.{reported_lane}
use Rattle.replay_model.proofs.Serving.{IsDue, IsDueNow, due_is, by_option, serve_none, serve_some, served_ends, ticked_reports, reports_later, time_is, time_by}
use Rattle.replay_model.proofs.Waiting.{IsFrom, from_later, from_less, later_less, IsLeast, is_least, AreLater, later_than}
use Rattle.replay_model.proofs.Keeping.{serve_openings, where_openings, all_acted_openings, where_left, where_ticked, where_last, acted_left, acted_front, Grown, all_stepped_grown, grown_opened, same_opened, all_stepped_left, all_stepped_front}

-- ---- what is added at a time

more_latest : (t : ℕ) (xs tl : Timeline) → AreAt t xs → latest tl ≤ t → latest (xs ++ tl) ≤ t
more_latest t [] tl h le = le
more_latest t (e ∷ xs) tl h le = omega (arith, h.0, more_latest t xs tl h.1 le)

more_order : (t : ℕ) (xs tl : Timeline) → AreAt t xs → latest tl ≤ t → IsInOrder tl → IsInOrder (xs ++ tl)
more_order t [] tl h le order = order
more_order t (e ∷ xs) tl h le order = (omega (arith, h.0, more_latest t xs tl h.1 le), more_order t xs tl h.1 le order)

adds_latest : (t : ℕ) (old new : Timeline) → Adds t old new → latest old ≤ t → latest new ≤ t
adds_latest t old new f le = subst (λ (x : Timeline). latest x ≤ t) (sym f.is) (more_latest t f.more old f.at le)

adds_order : (t : ℕ) (old new : Timeline) → Adds t old new → latest old ≤ t → IsInOrder old → IsInOrder new
adds_order t old new f le order = subst IsInOrder (sym f.is) (more_order t f.more old f.at le order)

-- ---- serving

-- what is still due isn't earlier than what happened
record IsAhead (c : Contents) (o : ℕ → Opening) (reports : Bool) (count limit : ℕ) (tl : Timeline) : Type 0 where
  order : IsInOrder tl
  within : latest tl ≤ limit
  wakes : (l : ℕ) → l < count → IsFrom (latest tl) (wake o tl l)
  report : IsFrom (latest tl) (report_time c reports tl)

some_from : (t n : ℕ) (x : Option ℕ) → x ≡ Some n → IsFrom t x → t ≤ n
some_from t n None e h = cc
some_from t n (Some m) e h = let same : m ≡ n = is_same m n e in omega (arith, same)
  where
    is_same : (m n : ℕ) → Some m ≡ Some n → m ≡ n
    is_same m n e = cc

-- what is due isn't earlier than what happened
due_from : (c : Contents) (o : ℕ → Opening) (reports : Bool) (count limit : ℕ) (tl : Timeline) (d : Due) → IsAhead c o reports count limit tl → IsDueNow c o reports count limit tl d → latest tl ≤ due_time d
due_from c o reports count limit tl (due.Reports t) h d = some_from (latest tl) t (report_time c reports tl) d.found h.report
due_from c o reports count limit tl (due.Turns w) h d = some_from (latest tl) w.time (wake o tl w.lane) d.found.1 (h.wakes w.lane d.found.0)

-- after it is served the others are due as before, and it is due later
one_from : WakesLater → (c : Contents) (o : ℕ → Opening) (reports : Bool) (count limit : ℕ) (tl : Timeline) (d : Due) → IsDueNow c o reports count limit tl d → IsLeast (due_time d) (report_time c reports tl) (wake o tl) count → IsLeast (due_time d) (report_time c reports (serve_one c o d tl)) (wake o (serve_one c o d tl)) count
one_from rising c o reports count limit tl (due.Reports t) d h =
    record {
      report_from = from_later t _ (reports_later c reports t tl d.found);
      wakes_from = λ l lt. subst (λ (x : History). IsFrom t (wake_of (turn (o l).settings x))) (sym (reported_lane c t l tl)) (h.wakes_from l lt);
    }
one_from rising c o reports count limit tl (due.Turns w) d h =
    record {
      report_from = subst (IsFrom w.time) (sym (ticked_reports c o reports w.time w.lane tl)) h.report_from;
      wakes_from = λ l lt. at_lane l lt;
    }
  where
    at_lane : (l : ℕ) → l < count → IsFrom w.time (wake o (ticked c o w.time w.lane tl) l)
    at_lane l lt =
        by_cases (w.lane == l)
        (λ e. let eq : w.lane ≡ l = grind (arith, common_steps) in
        subst (λ (n : ℕ). IsFrom w.time (wake o (ticked c o w.time w.lane tl) n)) eq (from_later w.time _ (ticked_later rising c o w.time w.lane tl)))
        (λ e. let ne : w.lane ≢ l = grind (arith, common_steps) in
        subst (λ (x : History). IsFrom w.time (wake_of (turn (o l).settings x))) (sym (ticked_other c o w.time w.lane l tl ne)) (h.wakes_from l lt))

one_adds : (c : Contents) (o : ℕ → Opening) (d : Due) (tl : Timeline) → Adds (due_time d) tl (serve_one c o d tl)
one_adds c o (due.Reports t) tl = fronted_extend c t (ReportsDue t) tl
one_adds c o (due.Turns w) tl = ticked_extend c o w.time w.lane tl

one_ahead : WakesLater → (c : Contents) (o : ℕ → Opening) (reports : Bool) (count limit : ℕ) (tl : Timeline) (d : Due) → first_due c o reports count limit tl ≡ Some d → IsAhead c o reports count limit tl → IsAhead c o reports count limit (serve_one c o d tl)
one_ahead rising c o reports count limit tl d e h =
    let now : IsDueNow c o reports count limit tl d = due_is c o reports count limit tl d e in
    let le : latest tl ≤ due_time d = due_from c o reports count limit tl d h now in
    let after : latest (serve_one c o d tl) ≤ due_time d = adds_latest (due_time d) tl (serve_one c o d tl) (one_adds c o d tl) le in
    let all : IsLeast (due_time d) (report_time c reports (serve_one c o d tl)) (wake o (serve_one c o d tl)) count =
    one_from rising c o reports count limit tl d now (is_least c o reports count limit tl d e) in
    record {
      order = adds_order (due_time d) tl (serve_one c o d tl) (one_adds c o d tl) le h.order;
      within = omega (arith, after, now.le);
      wakes = λ l lt. from_less _ (due_time d) _ after (all.wakes_from l lt);
      report = from_less _ (due_time d) _ after all.report_from;
    }

serve_ahead : WakesLater → (n : ℕ) (c : Contents) (o : ℕ → Opening) (reports : Bool) (count limit : ℕ) (tl : Timeline) → IsAhead c o reports count limit tl → IsAhead c o reports count limit (serve_up_to n c o reports count limit tl)
serve_ahead rising zero c o reports count limit tl h = h
serve_ahead rising (suc n) c o reports count limit tl h =
    by_option (first_due c o reports count limit tl)
    (λ e. subst (IsAhead c o reports count limit) (sym (serve_none (suc n) c o reports count limit tl e)) h)
    (λ d e. subst (IsAhead c o reports count limit) (sym (serve_some n c o reports count limit tl d e))
    (serve_ahead rising n c o reports count limit (serve_one c o d tl) (one_ahead rising c o reports count limit tl d e h)))

-- ---- between inputs

-- All that happened is in order and not later than this time; what is due is later.
record IsAtRest (c : Contents) (t : ℕ) (tl : Timeline) : Type 0 where
  order : IsInOrder tl
  within : latest tl ≤ t
  wakes : (l : ℕ) → l < lane_count tl → IsLater t (wake (opened c tl) tl l)
  report : IsLater t (report_time c true tl)

ahead : (c : Contents) (t limit : ℕ) (reports : Bool) (tl : Timeline) → t ≤ limit → IsAtRest c t tl → IsAhead c (opened c tl) reports (lane_count tl) limit tl
ahead c t limit reports tl le h =
    record {
      order = h.order;
      within = omega (arith, h.within);
      wakes = λ l lt. from_less _ t _ h.within (from_later t _ (h.wakes l lt));
      report = at_report reports;
    }
  where
    at_report : (reports : Bool) → IsFrom (latest tl) (report_time c reports tl)
    at_report true = from_less _ t _ h.within (from_later t _ h.report)
    at_report false = tt

-- after what is due up to a time was served, all the rest is later
served_rest : WakesLater → (c : Contents) (t limit : ℕ) (tl : Timeline) → t ≤ limit → IsAtRest c t tl → IsAtRest c limit (served c limit tl)
served_rest rising c t limit tl le h =
    let after : Timeline = served c limit tl in
    let on : IsAhead c (opened c tl) true (lane_count tl) limit after = serve_ahead rising _ c (opened c tl) true (lane_count tl) limit tl (ahead c t limit true tl le h) in
    let same : openings after ≡ openings tl = serve_openings _ c (opened c tl) true (lane_count tl) limit tl in
    let later : AreLater limit (report_time c true after) (wake (opened c tl) after) (lane_count tl) =
    later_than c (opened c tl) true (lane_count tl) limit after (served_ends rising c (opened c tl) true (lane_count tl) limit tl) in
    record {
      order = on.order;
      within = on.within;
      wakes = λ l lt. subst (λ (x : Opening). IsLater limit (wake_of (turn x.settings (lane l after)))) (sym (same_opened c tl after l same))
          (later.wakes_later l (subst (λ (n : ℕ). l < n) (ap (λ (xs : List Opening). length xs) same) lt));
      report = later.report_later;
    }

last_same : (c : Contents) (t : ℕ) (old new : Timeline) → last_report (front new) ≡ last_report (front old) → IsLater t (report_time c true old) → IsLater t (report_time c true new)
last_same c t old new e h =
    subst (IsLater t) (sym (time_is c true new ∙ ap (time_by c true) e ∙ sym (time_is c true old))) h

-- a lane that ticks wants its next turn later, and one that doesn't wants it as before
where_later : WakesLater → (c : Contents) (o : ℕ → Opening) (t : ℕ) (passes : ℕ → Bool) (count l : ℕ) (tl : Timeline) → l < count → (passes l ≡ false → IsLater t (wake o tl l)) → IsLater t (wake o (ticked_where c o t passes count tl) l)
where_later rising c o t passes count l tl lt h =
    by_cases (passes l)
    (λ b. subst (λ (x : History). IsLater t (wake_of (turn (o l).settings x))) (sym (where_ticked c o t passes count l tl lt b))
    (ticked_later rising c o t l (ticked_where c o t passes l tl)))
    (λ b. subst (λ (x : History). IsLater t (wake_of (turn (o l).settings x))) (sym (where_left c o t passes count l tl b)) (h b))

acted_rest : WakesLater → (c : Contents) (i : Item) (tl : Timeline) → IsAtRest c i.time tl → IsAtRest c i.time (acted c (opened c tl) (lane_count tl) i tl)
acted_rest rising c i tl h =
    let o : ℕ → Opening = opened c tl in
    let count : ℕ = lane_count tl in
    let passes : ℕ → Bool = λ l. is_for i.action (o l).session in
    let before : Timeline = all_acted o i.time count i.action (Acted i ∷ tl) in
    let after : Timeline = ticked_where c o i.time passes count before in
    let adds : Adds i.time tl after = acted_extend c o count i tl in
    let same : openings after ≡ openings tl = where_openings c o i.time passes count before ∙ all_acted_openings o i.time count i.action (Acted i ∷ tl) in
    record {
      order = adds_order i.time tl after adds h.within h.order;
      within = adds_latest i.time tl after adds h.within;
      wakes = λ l lt. let below : l < count = subst (λ (n : ℕ). l < n) (ap (λ (xs : List Opening). length xs) same) lt in
          subst (λ (x : Opening). IsLater i.time (wake_of (turn x.settings (lane l after)))) (sym (same_opened c tl after l same))
          (where_later rising c o i.time passes count l before below
          (λ misses. subst (λ (x : History). IsLater i.time (wake_of (turn (o l).settings x))) (sym (acted_left o i.time count l i.action (Acted i ∷ tl) misses)) (h.wakes l below)));
      report = last_same c i.time tl after (where_last c o i.time passes count before ∙ ap last_report (acted_front o i.time count i.action (Acted i ∷ tl))) h.report;
    }

taken_rest : WakesLater → (c : Contents) (r : Timed) (tl : Timeline) → IsAtRest c r.time tl → IsAtRest c r.time (taken c r.time (Came r.time r.captured) tl)
taken_rest rising c r tl h =
    let t : ℕ = r.time in
    let e : FrontEvent = Came r.time r.captured in
    let xs : List Step = steps c (front tl) e in
    let before : Timeline = fronted c t e tl in
    let o : ℕ → Opening = opened c before in
    let passes : ℕ → Bool = is_touched (lane_count tl) xs in
    let after : Timeline = ticked_where c o t passes (lane_count before) before in
    let adds : Adds t tl after = taken_extend c t e tl in
    let same : openings after ≡ openings before = where_openings c o t passes (lane_count before) before in
    let grown : Grown (Fronted t e ∷ tl) before = all_stepped_grown c t xs (Fronted t e ∷ tl) in
    record {
      order = adds_order t tl after adds h.within h.order;
      within = adds_latest t tl after adds h.within;
      wakes = λ l lt. subst (λ (x : Opening). IsLater t (wake_of (turn x.settings (lane l after)))) (sym (same_opened c before after l same))
          (where_later rising c o t passes (lane_count before) l before (subst (λ (n : ℕ). l < n) (ap (λ (ys : List Opening). length ys) same) lt)
          (λ misses. untouched l (was_there (lane_count tl) l (list_any (touches l) xs) misses) (not_given (lane_count tl) l (list_any (touches l) xs) misses) grown));
      report = last_same c t tl after (where_last c o t passes (lane_count before) before ∙ ap last_report (all_stepped_front c t xs (Fronted t e ∷ tl))) h.report;
    }
  where
    differ : true ≡ false → ⊥
    differ x = cc

    was_there : (count l : ℕ) (b : Bool) → (nat_le count l || b) ≡ false → l < count
    was_there count l b misses = by_cases (nat_le count l) (λ x. absurd (differ (sym (ap (λ (y : Bool). y || b) x) ∙ misses))) (λ x. grind (arith, common_steps))

    not_given : (count l : ℕ) (b : Bool) → (nat_le count l || b) ≡ false → b ≡ false
    not_given count l true misses = by_cases (nat_le count l) (λ x. sym (ap (λ (y : Bool). y || true) x) ∙ misses) (λ x. sym (ap (λ (y : Bool). y || true) x) ∙ misses)
    not_given count l false misses = refl

    untouched : (l : ℕ) → l < lane_count tl → list_any (touches l) (steps c (front tl) (Came r.time r.captured)) ≡ false → Grown (Fronted r.time (Came r.time r.captured) ∷ tl) (fronted c r.time (Came r.time r.captured) tl) → IsLater r.time (wake (opened c (fronted c r.time (Came r.time r.captured) tl)) (fronted c r.time (Came r.time r.captured) tl) l)
    untouched l lt misses grown =
        let began : Timeline = Fronted r.time (Came r.time r.captured) ∷ tl in
        let before : Timeline = fronted c r.time (Came r.time r.captured) tl in
        subst (λ (x : Opening). IsLater r.time (wake_of (turn x.settings (lane l before)))) (sym (grown_opened c began before l lt grown))
        (subst (λ (x : History). IsLater r.time (wake_of (turn (opened c tl l).settings x))) (sym (all_stepped_left c r.time (steps c (front tl) (Came r.time r.captured)) l began lt misses)) (h.wakes l lt))

input_rest : WakesLater → (c : Contents) (t : ℕ) (x : Input) (tl : Timeline) → t ≤ input_time x → IsAtRest c t tl → IsAtRest c (input_time x) (with_input c x tl)
input_rest rising c t (OfCapture r) tl le h = taken_rest rising c r (served c r.time tl) (served_rest rising c t r.time tl le h)
input_rest rising c t (OfScript i) tl le h = acted_rest rising c i (served c i.time tl) (served_rest rising c t i.time tl le h)

empty_rest : (c : Contents) → IsAtRest c 0 []
empty_rest c = record { order = tt; within = omega arith; wakes = λ l lt. absurd (omega arith); report = first_report }
  where
    first_report : IsLater 0 (report_time c true [])
    first_report =
        by_cases (c.settings.report == 0)
        (λ e. subst (λ (b : Bool). IsLater 0 (if b then None else Some (0 + c.settings.report))) (sym e) tt)
        (λ e. subst (λ (b : Bool). IsLater 0 (if b then None else Some (0 + c.settings.report))) (sym e) (grind (arith, common_steps)))

rests : WakesLater → (c : Contents) (xs : List Input) → AreInOrder xs → IsAtRest c (last_time xs) (timeline c xs)
rests rising c [] h = empty_rest c
rests rising c (x ∷ older) h = input_rest rising c (last_time older) x (timeline c older) h.0 (rests rising c older h.1)

pub in_order : WakesLater → (c : Contents) (xs : List Input) → AreInOrder xs → IsInOrder (timeline c xs)
in_order rising c xs h = (rests rising c xs h).order

pub in_order_whole : WakesLater → (c : Contents) (xs : List Input) → AreInOrder xs → last_time xs ≤ END_OF_TIME → IsInOrder (whole_timeline c xs)
in_order_whole rising c xs h le =
    let tl : Timeline = timeline c xs in
    let left : Timeline = serve c (opened c tl) false (lane_count tl) END_OF_TIME tl in
    let on : IsAhead c (opened c tl) false (lane_count tl) END_OF_TIME left =
    serve_ahead rising _ c (opened c tl) false (lane_count tl) END_OF_TIME tl (ahead c (last_time xs) END_OF_TIME false tl le (rests rising c xs h)) in
    adds_order (latest left) left (whole_timeline c xs) (all_ended_extend c (opened c tl) (latest left) (lane_count tl) left) (omega arith) on.order

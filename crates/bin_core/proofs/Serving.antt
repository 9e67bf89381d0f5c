-- An agenda along the timeline.
use Rattle.std.proofs.Common.{ℕ, zero, suc, ◌≡◌, ◌≢◌, ◌+◌, ◌≤◌, Bool, true, false, refl, sym, ap, subst, ◌∙◌, List, [], ◌∷◌, ◌++◌, length, Option, None, Some, max, arith}
use Rattle.std.specs.Prelude.{◌==◌, slice_get, if◌then◌else◌}
use Rattle.std.proofs.Math.Nat.{max_comm}
use Rattle.std.proofs.lemmas.Grind.{common_steps}
use Rattle.script_lang.specs.Contents.{Contents}
use Rattle.script_lang.specs.declared.script.Item.{Item}
use Rattle.timeline.specs.declared.line.BinLine.{BinLine}
use Rattle.front_model.specs.declared.Opening.{Opening}
use Rattle.front_model.specs.Events.{FrontEvent, ReportsDue}
use Rattle.front_model.specs.Steps.{steps}
use Rattle.replay_model.specs.declared.Due.{Due}
use Rattle.replay_model.specs.Events.{Event, Timeline, Acted, Fronted, At, event_time, front, items, latest, openings}
use Rattle.jitter_model.specs.declared.Entry.TheVariants.{Clock}
use Rattle.replay_model.specs.declared.TheConstants.{END_OF_TIME}
use Rattle.replay_model.specs.Acting.{is_for, all_acted, ticked_where}
use Rattle.replay_model.specs.Lanes.{lane_count, opening_or, opened}
use Rattle.replay_model.specs.Turning.{ticked}
use Rattle.replay_model.specs.Taking.{fronted, taken, is_touched}
use Rattle.replay_model.specs.Serving.{next_report, last_report, first_due, serve_one, serve}
use Rattle.replay_model.specs.Ending.{closed, all_ended}
use Rattle.replay_model.specs.Log.{with_item, with_done}
use Rattle.bin_core.proofs.Cases.{by_cases}
use Rattle.bin_core.proofs.Timelines.{where_yes, where_not}
use Rattle.lane_core.specs.Lanes.{Base, Adds as AddsLines}
use Rattle.lane_core.specs.AllLanes.{all_resting, resting_and}
use Rattle.bin_core.specs.declared.agenda.Agenda.{Agenda}
use Rattle.bin_core.specs.Stages.{StageTells, Ticks, GoesOn, Finishes, none_resting}
use Rattle.bin_core.proofs.Controlling.{acted_items}
use Rattle.bin_core.specs.Intervals.{next_by}
use Rattle.bin_core.specs.Agendas.{Holds, GoesTo, ServesFirst, ServesNothing, due_first, all_served}
use Rattle.bin_core.proofs.Staging.{tells_fewer}
use Rattle.bin_core.proofs.Ticking.{and_other}
use Rattle.replay_model.specs.Keeping.{Adds, AreAt}
use Rattle.replay_model.specs.Keeping.{TimelinesKeep}
use Rattle.lane_core.specs.Beside.{LanesStandBeside}

-- ---- the latest time

level : (t : ℕ) (xs tl : Timeline) → AreAt t xs → t ≤ latest tl → latest (xs ++ tl) ≡ latest tl
level t [] tl h le = refl
level t (e ∷ xs) tl h le =
    let more : latest (xs ++ tl) ≡ latest tl = level t xs tl h.1 le in
    let at : event_time e ≡ t = h.0 in
    ap (λ (n : ℕ). max n (latest (xs ++ tl))) at ∙ ap (max t) more ∙ max_le t (latest tl) le
  where
    max_le : (a b : ℕ) → a ≤ b → max a b ≡ b
    max_le a b le = omega (arith, le)

-- what happened at the latest time doesn't raise it
pub added_level : (t : ℕ) (old new : Timeline) → Adds t old new → t ≤ latest old → latest new ≡ latest old
added_level t old new h le = ap latest h.is ∙ level t h.more old h.at le

-- something came to the front, and more happened at the same time
pub fronted_latest : (t : ℕ) (e : FrontEvent) (tl new : Timeline) → Adds t (Fronted t e ∷ tl) new → latest new ≡ max (latest tl) t
fronted_latest t e tl new h =
    let le : t ≤ max t (latest tl) = omega arith in
    added_level t (Fronted t e ∷ tl) new h le ∙ max_comm t (latest tl)

-- ---- report times

-- the next report time hangs on the last one
pub next_same : (c : Contents) (old new : Timeline) → last_report (front new) ≡ last_report (front old) → next_report c new ≡ next_report c old
next_same c old new e = ap (λ (n : ℕ). if c.settings.report == 0 then None else Some (n + c.settings.report)) e

pub reported_next : TimelinesKeep → (c : Contents) (t : ℕ) (tl : Timeline) → next_report c (fronted c t (ReportsDue t) tl) ≡ next_by c.settings.report t
reported_next keeping c t tl = ap (λ (es : List FrontEvent). if c.settings.report == 0 then None else Some (last_report es + c.settings.report)) (keeping.steps.reports_are c t tl)

taken_last : TimelinesKeep → (c : Contents) (t : ℕ) (e : FrontEvent) (tl : Timeline) → last_report (front (taken c t e tl)) ≡ last_report (e ∷ front tl)
taken_last keeping c t e tl =
    let there : Timeline = fronted c t e tl in
    keeping.ticks.last_is c (opened c there) t (is_touched (lane_count tl) (steps c (front tl) e)) (lane_count there) there
    ∙ ap last_report (keeping.steps.front_is c t (steps c (front tl) e) (Fronted t e ∷ tl))

-- ---- what is served

pub reports_at :
    TimelinesKeep
    → (c : Contents) (base : Base) (t : ℕ) (old new : Agenda) (before after : List BinLine) (tl : Timeline)
    → new.interval ≡ old.interval → new.next_report ≡ next_by old.interval t → new.latest ≡ max old.latest t
    → GoesOn old.stage new.stage before after (λ k. fronted k t (ReportsDue t))
    → Holds c base old before tl
    → Holds c base new after (fronted c t (ReportsDue t) tl)
reports_at keeping c base t old new before after tl same next_is last_is goes h =
    record {
      stage = goes c base tl h.stage;
      interval = same ∙ h.interval;
      next = next_is ∙ ap (λ (n : ℕ). next_by n t) h.interval ∙ sym (reported_next keeping c t tl);
      last = last_is ∙ ap (λ (n : ℕ). max n t) h.last
          ∙ sym (fronted_latest t (ReportsDue t) tl (fronted c t (ReportsDue t) tl) (keeping.adding.fronts c t (ReportsDue t) tl));
    }

pub turns_at :
    TimelinesKeep → LanesStandBeside
    → (c : Contents) (base : Base) (t n : ℕ) (old new : Agenda) (before after : List BinLine) (tl : Timeline)
    → new.interval ≡ old.interval → new.next_report ≡ old.next_report → new.latest ≡ max old.latest t
    → Ticks t n old.stage new.stage before after
    → Holds c base old before tl
    → Holds c base new after (ticked c (opened c tl) t n tl)
turns_at keeping beside_law c base t n old new before after tl same next_is last_is ticks h =
    let there : Timeline = ticked c (opened c tl) t n tl in
    record {
      stage = tells_fewer beside_law c base (resting_and n all_resting) all_resting new.stage after there (λ k lt e. and_other all_resting n k (λ ne. refl)) (ticks c base all_resting tl h.stage);
      interval = same ∙ h.interval;
      next = next_is ∙ h.next ∙ sym (keeping.ticks.report_is c (opened c tl) true t n tl);
      last = last_is ∙ ap (λ (m : ℕ). max m t) h.last ∙ max_comm (latest tl) t ∙ sym (keeping.ticks.latest_is c (opened c tl) t n tl);
    }

pub takes_at :
    TimelinesKeep
    → (c : Contents) (base : Base) (t : ℕ) (e : FrontEvent) (mid new : Agenda) (before after : List BinLine) (tl : Timeline)
    → last_report (e ∷ front tl) ≡ last_report (front tl)
    → new.interval ≡ mid.interval → new.next_report ≡ mid.next_report → new.latest ≡ max mid.latest t
    → GoesOn mid.stage new.stage before after (λ k. taken k t e)
    → Holds c base mid before tl
    → Holds c base new after (taken c t e tl)
takes_at keeping c base t e mid new before after tl no_report same next_is last_is goes h =
    record {
      stage = goes c base tl h.stage;
      interval = same ∙ h.interval;
      next = next_is ∙ h.next ∙ sym (next_same c tl (taken c t e tl) (taken_last keeping c t e tl ∙ no_report));
      last = last_is ∙ ap (λ (n : ℕ). max n t) h.last ∙ sym (fronted_latest t e tl (taken c t e tl) (keeping.adding.records c t e tl));
    }

-- ---- all that is due

abbrev pub Steps : Type 0
Steps =
    (c : Contents) (o : ℕ → Opening) (reports : Bool) (count limit : ℕ) (tl : Timeline) (d : Due)
    → first_due c o reports count limit tl ≡ Some d
    → serve c o reports count limit tl ≡ serve c o reports count limit (serve_one c o d tl)

abbrev pub Stops : Type 0
Stops =
    (c : Contents) (o : ℕ → Opening) (reports : Bool) (count limit : ℕ) (tl : Timeline)
    → first_due c o reports count limit tl ≡ None → serve c o reports count limit tl ≡ tl

-- one that is due first, and then the others
pub served_after : TimelinesKeep → Steps → (c : Contents) (reports : Bool) (limit : ℕ) (tl : Timeline) (d : Due) → due_first c reports limit tl ≡ Some d → all_served reports limit c (serve_one c (opened c tl) d tl) ≡ all_served reports limit c tl
served_after keeping step c reports limit tl d e =
    let new : Timeline = serve_one c (opened c tl) d tl in
    ap (λ (os : List Opening). serve c (λ l. opening_or c l (slice_get os l)) reports (length os) limit new) (keeping.serving.one c (opened c tl) d tl)
    ∙ sym (step c (opened c tl) reports (lane_count tl) limit tl d e)

-- on the way
pub record OnWay (reports : Bool) (limit : ℕ) (agenda : Agenda) (told : List BinLine) (c : Contents) (base : Base) (tl : Timeline) : Type 0 where
  pub now : Timeline
  pub holds : Holds c base agenda told now
  pub same : all_served reports limit c now ≡ all_served reports limit c tl

abbrev pub StaysOnWay : Bool → ℕ → Agenda → Agenda → List BinLine → List BinLine → Type 0
StaysOnWay reports limit old new before after =
    (c : Contents) (base : Base) (tl : Timeline) → Holds c base old before tl → OnWay reports limit new after c base tl

pub one_more :
    TimelinesKeep
    → (reports : Bool) (limit : ℕ) (s mid new : Agenda) (before between after : List BinLine)
    → Steps → ServesFirst reports limit mid new between after
    → StaysOnWay reports limit s mid before between → StaysOnWay reports limit s new before after
one_more keeping reports limit s mid new before between after step serves h c base tl holds =
    let way : OnWay reports limit mid between c base tl = h c base tl holds in
    let one : (d : Due) × (due_first c reports limit way.now ≡ Some d) × Holds c base new after (serve_one c (opened c way.now) d way.now) = serves c base way.now way.holds in
    record { now = serve_one c (opened c way.now) one.0 way.now; holds = one.2; same = served_after keeping step c reports limit way.now one.0 one.1 ∙ way.same }

pub none_more :
    (reports : Bool) (limit : ℕ) (s mid new : Agenda) (before between after : List BinLine)
    → Stops → ServesNothing reports limit mid new between after
    → StaysOnWay reports limit s mid before between
    → GoesTo s new before after (all_served reports limit)
none_more reports limit s mid new before between after stop serves h c base tl holds =
    let way : OnWay reports limit mid between c base tl = h c base tl holds in
    let none : (due_first c reports limit way.now ≡ None) × Holds c base new after way.now = serves c base way.now way.holds in
    subst (λ (x : Timeline). Holds c base new after x) (sym (stop c (opened c way.now) reports (lane_count way.now) limit way.now none.0) ∙ way.same) none.1

-- ---- the first report time

pub first_none : (c : Contents) (n : ℕ) (o : Option ℕ) → n ≡ c.settings.report → n ≡ 0 → o ≡ None → o ≡ next_report c []
first_none c n o same zero_is e =
    let none : (c.settings.report == 0) ≡ true = grind (arith, common_steps) in
    e ∙ sym (ap (λ (b : Bool). if b then None else Some (0 + c.settings.report)) none)

pub first_some : (c : Contents) (n : ℕ) (o : Option ℕ) → n ≡ c.settings.report → n ≢ 0 → o ≡ Some n → o ≡ next_report c []
first_some c n o same more e =
    let some : (c.settings.report == 0) ≡ false = grind (arith, common_steps) in
    let num : n ≡ 0 + c.settings.report = omega (arith, same) in
    e ∙ ap (λ (k : ℕ). Some k) num ∙ sym (ap (λ (b : Bool). if b then None else Some (0 + c.settings.report)) some)

-- ---- items

-- What adds an item isn't nothing.
some_added : (t : ℕ) (i : Item) (old new : Timeline) → Adds t old new → items new ≡ i ∷ items old → latest new ≡ max t (latest old)
some_added t i old new h e = go h.more h.is h.at
  where
    longer : (xs : List Item) → xs ≡ i ∷ xs → ⊥
    longer xs q = let long : length xs ≡ length xs + 1 = ap (λ (ys : List Item). length ys) q ∙ add_one (length xs) in omega (arith, long)
      where
        add_one : (n : ℕ) → suc n ≡ n + 1
        add_one n = omega arith

    same_max : (a b : ℕ) → max a (max a b) ≡ max a b
    same_max a b = omega arith

    raised : (xs : Timeline) (x : Event) → AreAt t (x ∷ xs) → latest ((x ∷ xs) ++ old) ≡ max t (latest old)
    raised [] x at = ap (λ (n : ℕ). max n (latest old)) at.0
    raised (y ∷ xs) x at =
        ap (λ (n : ℕ). max n (latest ((y ∷ xs) ++ old))) at.0 ∙ ap (max t) (raised xs y at.1) ∙ same_max t (latest old)

    go : (xs : Timeline) → new ≡ xs ++ old → AreAt t xs → latest new ≡ max t (latest old)
    go [] is at = absurd (longer (items old) (sym (ap items is) ∙ e))
    go (x ∷ xs) is at = ap latest is ∙ raised xs x at

item_items : TimelinesKeep → (c : Contents) (i : Item) (tl : Timeline) → items (with_item c i tl) ≡ i ∷ items tl
item_items keeping c i tl =
    where_items c (opened c tl) i.time (λ l. is_for i.action (opened c tl l).session) (lane_count tl) (all_acted (opened c tl) i.time (lane_count tl) i.action (Acted i ∷ tl))
    ∙ acted_items (opened c tl) i.time (lane_count tl) i.action (Acted i ∷ tl)
  where
    where_items : (c : Contents) (o : ℕ → Opening) (t : ℕ) (passes : ℕ → Bool) (count : ℕ) (tl : Timeline) → items (ticked_where c o t passes count tl) ≡ items tl
    where_items c o t passes zero tl = refl
    where_items c o t passes (suc k) tl =
        by_cases (passes k)
        (λ b. ap items (where_yes c o t passes k tl b) ∙ keeping.series.items_are c o t k (At t k (Clock t) ∷ ticked_where c o t passes k tl) ∙ where_items c o t passes k tl)
        (λ b. ap items (where_not c o t passes k tl b) ∙ where_items c o t passes k tl)

item_last : TimelinesKeep → (c : Contents) (i : Item) (tl : Timeline) → last_report (front (with_item c i tl)) ≡ last_report (front tl)
item_last keeping c i tl =
    keeping.ticks.last_is c (opened c tl) i.time (λ l. is_for i.action (opened c tl l).session) (lane_count tl) (all_acted (opened c tl) i.time (lane_count tl) i.action (Acted i ∷ tl))
    ∙ ap last_report (keeping.actions.front_is (opened c tl) i.time (lane_count tl) i.action (Acted i ∷ tl))

pub controls_at :
    TimelinesKeep
    → (c : Contents) (base : Base) (i : Item) (mid new : Agenda) (before after : List BinLine) (tl : Timeline)
    → new.interval ≡ mid.interval → new.next_report ≡ mid.next_report → new.latest ≡ max mid.latest i.time
    → GoesOn mid.stage new.stage before after (λ k. with_item k i)
    → Holds c base mid before tl
    → Holds c base new after (with_item c i tl)
controls_at keeping c base i mid new before after tl same next_is last_is goes h =
    record {
      stage = goes c base tl h.stage;
      interval = same ∙ h.interval;
      next = next_is ∙ h.next ∙ sym (next_same c tl (with_item c i tl) (item_last keeping c i tl));
      last = last_is ∙ ap (λ (n : ℕ). max n i.time) h.last ∙ max_comm (latest tl) i.time
          ∙ sym (some_added i.time i tl (with_item c i tl) (keeping.adding.items c (opened c tl) (lane_count tl) i tl) (item_items keeping c i tl));
    }

-- ---- the end

serve_opened : TimelinesKeep → (c : Contents) (tl : Timeline) → openings (all_served false END_OF_TIME c tl) ≡ openings tl
serve_opened keeping c tl = keeping.serving.all c (opened c tl) false (lane_count tl) END_OF_TIME tl

pub finishes_at :
    TimelinesKeep → LanesStandBeside
    → (c : Contents) (base : Base) (mid : Agenda) (start before after : List BinLine) (tl : Timeline)
    → Finishes mid.latest mid.stage before after
    → Holds c base mid before (all_served false END_OF_TIME c tl)
    → AddsLines base after (with_done (closed c tl))
finishes_at keeping beside_law c base mid start before after tl ends h =
    let last : Timeline = all_served false END_OF_TIME c tl in
    let lowered : StageTells c base none_resting mid.stage before last = tells_fewer beside_law c base all_resting none_resting mid.stage before last (λ k lt e. refl) h.stage in
    let all : AddsLines base after (with_done (all_ended c (opened c last) mid.latest (lane_count last) last)) = ends c base last lowered in
    let opens : openings last ≡ openings tl = serve_opened keeping c tl in
    subst (λ (t : ℕ). AddsLines base after (with_done (all_ended c (opened c tl) t (lane_count tl) last))) h.last
    (subst (λ (os : List Opening). AddsLines base after (with_done (all_ended c (λ l. opening_or c l (slice_get os l)) mid.latest (length os) last))) opens all)

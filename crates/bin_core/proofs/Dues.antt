-- What is due first, and that less is left behind it.
use Rattle.std.proofs.Common.{ℕ, zero, suc, ◌≡◌, ◌+◌, ◌<◌, ◌≤◌, Bool, true, false, refl, sym, ap, subst, ◌∙◌, List, length, Option, None, Some, arith}
use Rattle.std.specs.Prelude.{◌==◌, nat_le, if◌then◌else◌}
use Rattle.std.proofs.lemmas.Grind.{common_steps}
use Rattle.jitter_model.specs.Laws.{IsLater}
use Rattle.script_lang.specs.Contents.{Contents}
use Rattle.timeline.specs.declared.line.BinLine.{BinLine}
use Rattle.replay_model.specs.declared.Wake.{Wake}
use Rattle.replay_model.specs.declared.Due.{Due}
use Rattle.replay_model.specs.declared.Due.TheVariants as due
use Rattle.replay_model.specs.Events.{Timeline}
use Rattle.replay_model.specs.Lanes.{lane_count, opened}
use Rattle.replay_model.specs.Serving.{wake, first_wake, report_time, earlier, due_time, up_to, room, rooms}
use Rattle.bin_core.proofs.Cases.{by_cases}
use Rattle.bin_core.proofs.Falling.{some_first, rooms_same, room_falls, rooms_fall}
use Rattle.bin_core.proofs.Waking.{IsIn, first_in, first_same}
use Rattle.lane_core.specs.declared.lane.Lane.{Lane}
use Rattle.lane_core.specs.Lanes.{Base}
use Rattle.lane_core.specs.AllLanes.{wakes_in, wakes_left}
use Rattle.bin_core.specs.declared.agenda.Agenda.{Agenda}
use Rattle.bin_core.specs.Stages.{SameButOne, SameWakes}
use Rattle.bin_core.specs.Intervals.{next_by}
use Rattle.bin_core.specs.Agendas.{Holds, due_first, left_in}

-- the report time that is looked at
abbrev pub report_by : Bool → Option ℕ → Option ℕ
report_by true next = next
report_by false next = None

pub due_by :
    (c : Contents) (base : Base) (agenda : Agenda) (told : List BinLine) (tl : Timeline) (reports : Bool) (limit : ℕ)
    → Holds c base agenda told tl
    → due_first c reports limit tl ≡ up_to limit (earlier (report_by reports agenda.next_report) (first_wake (wakes_in agenda.stage.lanes.items) (length agenda.stage.lanes.items)))
due_by c base agenda told tl reports limit h =
    ap (λ (o : Option ℕ). up_to limit (earlier o (first_wake (wake (opened c tl) tl) (lane_count tl)))) (report_is reports)
    ∙ ap (λ (n : ℕ). up_to limit (earlier (report_by reports agenda.next_report) (first_wake (wake (opened c tl) tl) n))) (sym h.stage.count)
    ∙ ap (λ (w : Option Wake). up_to limit (earlier (report_by reports agenda.next_report) w)) (sym (first_same (wakes_in agenda.stage.lanes.items) (wake (opened c tl) tl) (length agenda.stage.lanes.items) (λ k lt. h.stage.lanes.wakes_are k lt refl)))
  where
    report_is : (b : Bool) → report_time c b tl ≡ report_by b agenda.next_report
    report_is true = sym h.next
    report_is false = refl

-- ---- what was found

up_le : (limit : ℕ) (d : Due) → up_to limit (Some d) ≡ Some d → due_time d ≤ limit
up_le limit d e =
    by_cases (nat_le (due_time d) limit)
    (λ q. grind (arith, common_steps))
    (λ q. absurd (nothing d (sym (ap (λ (b : Bool). if b then Some d else None) q) ∙ e)))
  where
    nothing : (d : Due) → None ≡ Some d → ⊥
    nothing d e = cc

turns_from : (report : Option ℕ) (first : Option Wake) (w : Wake) → earlier report first ≡ Some (due.Turns w) → first ≡ Some w
turns_from None None w e = cc
turns_from None (Some v) w e = cc
turns_from (Some t) None w e = cc
turns_from (Some t) (Some v) w e = by_either (nat_le t v.time) e
  where
    by_either : (b : Bool) → (if b then Some (due.Reports t) else Some (due.Turns v)) ≡ Some (due.Turns w) → Some v ≡ Some w
    by_either true q = cc
    by_either false q = cc

reports_from : (report : Option ℕ) (first : Option Wake) (t : ℕ) → earlier report first ≡ Some (due.Reports t) → report ≡ Some t
reports_from None None t e = cc
reports_from None (Some v) t e = cc
reports_from (Some r) None t e = cc
reports_from (Some r) (Some v) t e = by_either (nat_le r v.time) e
  where
    by_either : (b : Bool) → (if b then Some (due.Reports r) else Some (due.Turns v)) ≡ Some (due.Reports t) → Some r ≡ Some t
    by_either true q = cc
    by_either false q = cc

-- a wake that is due first is a lane's
pub record IsTurn (ls : List Lane) (limit : ℕ) (w : Wake) : Type 0 where
  pub below : w.lane < length ls
  pub is : wakes_in ls w.lane ≡ Some w.time
  pub le : w.time ≤ limit

pub turn_is : (report : Option ℕ) (ls : List Lane) (limit : ℕ) (w : Wake) → up_to limit (earlier report (first_wake (wakes_in ls) (length ls))) ≡ Some (due.Turns w) → IsTurn ls limit w
turn_is report ls limit w e =
    let found : earlier report (first_wake (wakes_in ls) (length ls)) ≡ Some (due.Turns w) = some_first limit (due.Turns w) (earlier report (first_wake (wakes_in ls) (length ls))) e in
    let first : first_wake (wakes_in ls) (length ls) ≡ Some w = turns_from report (first_wake (wakes_in ls) (length ls)) w found in
    let is : IsIn (wakes_in ls) (length ls) (Some w) = subst (IsIn (wakes_in ls) (length ls)) first (first_in (wakes_in ls) (length ls)) in
    record { below = is.0; is = is.1; le = up_le limit (due.Turns w) (sym (ap (up_to limit) found) ∙ e) }

-- a report time that is due first is the next one
pub record IsReport (reports : Bool) (next : Option ℕ) (limit t : ℕ) : Type 0 where
  pub is : next ≡ Some t
  pub le : t ≤ limit

pub report_is : (reports : Bool) (next : Option ℕ) (first : Option Wake) (limit t : ℕ) → up_to limit (earlier (report_by reports next) first) ≡ Some (due.Reports t) → IsReport reports next limit t
report_is reports next first limit t e =
    let found : earlier (report_by reports next) first ≡ Some (due.Reports t) = some_first limit (due.Reports t) (earlier (report_by reports next) first) e in
    record { is = by_either reports (reports_from (report_by reports next) first t found); le = up_le limit (due.Reports t) (sym (ap (up_to limit) found) ∙ e) }
  where
    by_either : (b : Bool) → report_by b next ≡ Some t → next ≡ Some t
    by_either true q = q
    by_either false q = cc

-- ---- what is left

pub turn_falls :
    (limit t n : ℕ) (old new : Agenda)
    → n < length old.stage.lanes.items → t ≤ limit → wakes_in old.stage.lanes.items n ≡ Some t
    → IsLater t (wakes_in new.stage.lanes.items n)
    → SameButOne n old.stage new.stage → new.next_report ≡ old.next_report
    → left_in limit new < left_in limit old
turn_falls limit t n old new lt le is later same next =
    let falls : rooms limit (wakes_in new.stage.lanes.items) (length old.stage.lanes.items) < wakes_left limit old.stage.lanes.items =
    rooms_fall limit t (wakes_in old.stage.lanes.items) (wakes_in new.stage.lanes.items) (length old.stage.lanes.items) n lt le is later same.wakes in
    let count : wakes_left limit new.stage.lanes.items ≡ rooms limit (wakes_in new.stage.lanes.items) (length old.stage.lanes.items) = ap (rooms limit (wakes_in new.stage.lanes.items)) same.count in
    let other : room limit new.next_report ≡ room limit old.next_report = ap (room limit) next in
    omega (arith, falls, count, other)

next_later : (interval t : ℕ) → IsLater t (next_by interval t)
next_later zero t = tt
next_later (suc n) t = by_either (suc n == 0) refl
  where
    by_either : (b : Bool) → (suc n == 0) ≡ b → IsLater t (if b then None else Some (t + suc n))
    by_either true e = tt
    by_either false e = omega arith

pub report_falls :
    (limit t : ℕ) (old new : Agenda)
    → t ≤ limit → old.next_report ≡ Some t
    → new.next_report ≡ next_by old.interval t
    → SameWakes old.stage new.stage
    → left_in limit new < left_in limit old
report_falls limit t old new le is next same =
    let falls : room limit (next_by old.interval t) < room limit (Some t) = room_falls limit t (next_by old.interval t) le (next_later old.interval t) in
    let new_is : room limit new.next_report ≡ room limit (next_by old.interval t) = ap (room limit) next in
    let old_is : room limit old.next_report ≡ room limit (Some t) = ap (room limit) is in
    let count : wakes_left limit new.stage.lanes.items ≡ rooms limit (wakes_in new.stage.lanes.items) (length old.stage.lanes.items) = ap (rooms limit (wakes_in new.stage.lanes.items)) same.count in
    let wakes : rooms limit (wakes_in new.stage.lanes.items) (length old.stage.lanes.items) ≡ wakes_left limit old.stage.lanes.items =
    rooms_same limit (wakes_in old.stage.lanes.items) (wakes_in new.stage.lanes.items) (length old.stage.lanes.items) (length old.stage.lanes.items) (omega arith) (λ k ne. same.wakes k) in
    omega (arith, falls, new_is, old_is, count, wakes)

-- What is due up to a limit is served until nothing is.
use Rattle.std.proofs.Common.{ℕ, zero, suc, ◌≡◌, ◌≢◌, ◌+◌, ◌≤◌, ◌<◌, ◌^◌, Bool, true, false, refl, sym, ap, subst, ◌∙◌, List, [], ◌∷◌, Option, None, Some, arith, max}
use Rattle.std.specs.Prelude.{⊤, ◌==◌, if◌then◌else◌, nat_lt, nat_le}
use Rattle.std.proofs.lemmas.Grind.{common_steps}
use Rattle.jitter_model.specs.History.{History}
use Rattle.jitter_model.specs.Turns.{turn, wake_of, left}
use Rattle.jitter_model.specs.Laws.{IsLater}
use Rattle.jitter_model.specs.declared.Entry.TheVariants.{Turned, Clock}
use Rattle.script_lang.specs.Contents.{Contents}
use Rattle.timeline.specs.declared.line.BinLine.TheVariants as told
use Rattle.front_model.specs.declared.Opening.{Opening}
use Rattle.front_model.specs.Events.{FrontEvent, ReportsDue, Requested}
use Rattle.front_model.specs.Reports.{nack_bytes}
use Rattle.replay_model.specs.declared.Wake.{Wake}
use Rattle.replay_model.specs.declared.Due.{Due}
use Rattle.replay_model.specs.declared.Due.TheVariants as due
use Rattle.replay_model.specs.Events.{Timeline, Fronted, Told, At, front, lane}
use Rattle.replay_model.specs.Turning.{turned, turns_up_to, all_turns, request, all_requested, sent, asked, ticked}
use Rattle.replay_model.specs.Taking.{fronted}
use Rattle.replay_model.specs.Serving.{wake, with_wake, first_wake, last_report, next_report, report_time, earlier, due_time, up_to, first_due, room, rooms, serve_one, serve_due, serve_up_to, serve}
use Rattle.replay_model.proofs.Lanes.{by_cases}
use Rattle.replay_model.proofs.Turning.{WakesLater, is_rest, turns_quiet, turns_more, ticked_later, ticked_other}
use Rattle.replay_model.proofs.Reporting.{reported_lane, reported_front}

-- ---- what is found first

-- a wake that was found is a lane's
abbrev pub IsIn : (ℕ → Option ℕ) → ℕ → Option Wake → Type 0
IsIn wakes count None = ⊤
IsIn wakes count (Some w) = (w.lane < count) × (wakes w.lane ≡ Some w.time)

in_more : (wakes : ℕ → Option ℕ) (count : ℕ) (o : Option Wake) → IsIn wakes count o → IsIn wakes (suc count) o
in_more wakes count None h = tt
in_more wakes count (Some w) h = (omega arith, h.1)

with_in : (wakes : ℕ → Option ℕ) (count : ℕ) (first : Option Wake) (o : Option ℕ) → o ≡ wakes count → IsIn wakes count first → IsIn wakes (suc count) (with_wake first count o)
with_in wakes count first None e h = in_more wakes count first h
with_in wakes count None (Some time) e h = (omega arith, sym e)
with_in wakes count (Some f) (Some time) e h =
    elim (nat_lt time f.time) as (λ b. IsIn wakes (suc count) (if b then Some (record { time = time; lane = count }) else Some f)) [
      | true ↦ (omega arith, sym e)
      | false ↦ in_more wakes count (Some f) h
    ]

pub first_in : (wakes : ℕ → Option ℕ) (count : ℕ) → IsIn wakes count (first_wake wakes count)
first_in wakes zero = tt
first_in wakes (suc l) = with_in wakes l (first_wake wakes l) (wakes l) refl (first_in wakes l)

-- a report time that is due, or a wake of one of the first lanes
abbrev pub IsFound : Option ℕ → (ℕ → Option ℕ) → ℕ → Due → Type 0
IsFound report wakes count (due.Reports time) = report ≡ Some time
IsFound report wakes count (due.Turns w) = (w.lane < count) × (wakes w.lane ≡ Some w.time)

abbrev IsFoundIn : Option ℕ → (ℕ → Option ℕ) → ℕ → Option Due → Type 0
IsFoundIn report wakes count None = ⊤
IsFoundIn report wakes count (Some d) = IsFound report wakes count d

found_first : (report : Option ℕ) (wakes : ℕ → Option ℕ) (count : ℕ) (first : Option Wake) → IsIn wakes count first → IsFoundIn report wakes count (earlier report first)
found_first None wakes count None h = tt
found_first None wakes count (Some w) h = h
found_first (Some time) wakes count None h = refl
found_first (Some time) wakes count (Some w) h =
    elim (nat_le time w.time) as (λ b. IsFoundIn (Some time) wakes count (if b then Some (due.Reports time) else Some (due.Turns w))) [
      | true ↦ refl
      | false ↦ h
    ]

-- what is due up to a limit
pub record IsDue (report : Option ℕ) (wakes : ℕ → Option ℕ) (count limit : ℕ) (d : Due) : Type 0 where
  pub found : IsFound report wakes count d
  pub le : due_time d ≤ limit

due_from : (report : Option ℕ) (wakes : ℕ → Option ℕ) (count limit : ℕ) (d : Due) (o : Option Due) → IsFoundIn report wakes count o → up_to limit o ≡ Some d → IsDue report wakes count limit d
due_from report wakes count limit d None h = λ e. cc
due_from report wakes count limit d (Some v) h =
    elim (nat_le (due_time v) limit) as (λ b. nat_le (due_time v) limit ≡ b → (if b then Some v else None) ≡ Some d → IsDue report wakes count limit d) [
      | true ↦ λ b e. let same : v ≡ d = some_same v d e in subst (IsDue report wakes count limit) same (record { found = h; le = grind (arith, common_steps) })
      | false ↦ λ b e. cc
    ] refl
  where
    some_same : (v d : Due) → Some v ≡ Some d → v ≡ d
    some_same v d e = cc

abbrev pub IsDueNow : Contents → (ℕ → Opening) → Bool → ℕ → ℕ → Timeline → Due → Type 0
IsDueNow c o reports count limit tl d = IsDue (report_time c reports tl) (wake o tl) count limit d

pub due_is : (c : Contents) (o : ℕ → Opening) (reports : Bool) (count limit : ℕ) (tl : Timeline) (d : Due) → first_due c o reports count limit tl ≡ Some d → IsDueNow c o reports count limit tl d
due_is c o reports count limit tl d e =
    due_from (report_time c reports tl) (wake o tl) count limit d (earlier (report_time c reports tl) (first_wake (wake o tl) count))
    (found_first (report_time c reports tl) (wake o tl) count (first_wake (wake o tl) count) (first_in (wake o tl) count)) e

-- ---- the room falls where one lane's wake comes to be later

pub rooms_same : (limit : ℕ) (old new : ℕ → Option ℕ) (count l : ℕ) → count ≤ l → ((k : ℕ) → k ≢ l → new k ≡ old k) → rooms limit new count ≡ rooms limit old count
rooms_same limit old new zero l le same = refl
rooms_same limit old new (suc k) l le same =
    ap (λ (n : ℕ). n + room limit (new k)) (rooms_same limit old new k l (omega arith) same) ∙ ap (λ (o : Option ℕ). rooms limit old k + room limit o) (same k (omega arith))

pub room_falls : (limit t : ℕ) (o : Option ℕ) → t ≤ limit → IsLater t o → room limit o < room limit (Some t)
room_falls limit t None le h = omega arith
room_falls limit t (Some w) le h = omega arith

pub rooms_fall : (limit t : ℕ) (old new : ℕ → Option ℕ) (count l : ℕ) → l < count → t ≤ limit → old l ≡ Some t → IsLater t (new l) → ((k : ℕ) → k ≢ l → new k ≡ old k) → rooms limit new count < rooms limit old count
rooms_fall limit t old new zero l lt le is later same = absurd (omega arith)
rooms_fall limit t old new (suc k) l lt le is later same =
    by_cases (k == l)
    (λ e. let eq : k ≡ l = grind (arith, common_steps) in at_top eq)
    (λ e. let ne : k ≢ l = grind (arith, common_steps) in
    let f : rooms limit new k < rooms limit old k = rooms_fall limit t old new k l (omega arith) le is later same in
    let r : room limit (new k) ≡ room limit (old k) = ap (room limit) (same k ne) in
    omega arith)
  where
    at_top : k ≡ l → rooms limit new (suc k) < rooms limit old (suc k)
    at_top eq =
        let below : rooms limit new k ≡ rooms limit old k = rooms_same limit old new k l (omega (arith, eq)) same in
        let is_k : old k ≡ Some t = ap old eq ∙ is in
        let later_k : IsLater t (new k) = subst (λ (n : ℕ). IsLater t (new n)) (sym eq) later in
        let f : room limit (new k) < room limit (Some t) = room_falls limit t (new k) le later_k in
        let r : room limit (old k) ≡ room limit (Some t) = ap (room limit) is_k in
        omega arith

-- ---- the last report time

pub turns_front : (n : ℕ) (o : ℕ → Opening) (t l : ℕ) (tl : Timeline) → front (turns_up_to n o t l tl) ≡ front tl
turns_front zero o t l tl = refl
turns_front (suc n) o t l tl =
    by_cases (is_rest o l tl)
    (λ i. ap front (turns_quiet (suc n) o t l tl i))
    (λ i. ap front (turns_more n o t l tl i) ∙ turns_front n o t l (turned o t l tl))

requested_last : (o : Opening) (t : ℕ) (xs : List ℕ) (tl : Timeline) → last_report (front (all_requested o t xs tl)) ≡ last_report (front tl)
requested_last o t [] tl = refl
requested_last o t (x ∷ xs) tl = requested_last o t xs (Fronted t (Requested (request o x)) ∷ tl)

sent_last : (c : Contents) (o : Opening) (t : ℕ) (xs : List ℕ) (tl : Timeline) → last_report (front (sent c o t xs tl)) ≡ last_report (front tl)
sent_last c o t [] tl = refl
sent_last c o t (x ∷ xs) tl =
    requested_last o t (x ∷ xs) (Told t (told.Nack t o.session (nack_bytes c.settings.ssrc o.ssrc (x ∷ xs))) ∷ tl)

pub ticked_last : (c : Contents) (o : ℕ → Opening) (t l : ℕ) (tl : Timeline) → last_report (front (ticked c o t l tl)) ≡ last_report (front tl)
ticked_last c o t l tl =
    sent_last c (o l) t (asked (lane l (all_turns o t l (At t l (Clock t) ∷ tl)))) (all_turns o t l (At t l (Clock t) ∷ tl))
    ∙ ap last_report (turns_front (left (o l).settings (lane l (At t l (Clock t) ∷ tl))) o t l (At t l (Clock t) ∷ tl))

abbrev pub next_by : Contents → ℕ → Option ℕ
next_by c last = if c.settings.report == 0 then None else Some (last + c.settings.report)

abbrev pub time_by : Contents → Bool → ℕ → Option ℕ
time_by c false last = None
time_by c true last = next_by c last

pub time_is : (c : Contents) (reports : Bool) (tl : Timeline) → report_time c reports tl ≡ time_by c reports (last_report (front tl))
time_is c false tl = refl
time_is c true tl = refl

pub ticked_reports : (c : Contents) (o : ℕ → Opening) (reports : Bool) (t l : ℕ) (tl : Timeline) → report_time c reports (ticked c o t l tl) ≡ report_time c reports tl
ticked_reports c o reports t l tl =
    time_is c reports (ticked c o t l tl) ∙ ap (time_by c reports) (ticked_last c o t l tl) ∙ sym (time_is c reports tl)

-- the next report time is later than one that was due
next_later : (c : Contents) (time : ℕ) → (c.settings.report == 0) ≡ false → IsLater time (next_by c time)
next_later c time e =
    subst (λ (b : Bool). IsLater time (if b then None else Some (time + c.settings.report))) (sym e) (more time (c.settings.report) e)
  where
    differ : true ≡ false → ⊥
    differ e = cc

    more : (time n : ℕ) → (n == 0) ≡ false → time < time + n
    more time zero e = absurd (differ e)
    more time (suc n) e = omega arith

pub reports_later : (c : Contents) (reports : Bool) (time : ℕ) (tl : Timeline) → report_time c reports tl ≡ Some time → IsLater time (report_time c reports (fronted c time (ReportsDue time) tl))
reports_later c false time tl is = tt
reports_later c true time tl is =
    let later : IsLater time (next_by c time) =
    by_cases (c.settings.report == 0)
    (λ e. absurd (nothing (last_report (front tl) + c.settings.report) time (sym (ap (λ (b : Bool). if b then None else Some (last_report (front tl) + c.settings.report)) e) ∙ is)))
    (λ e. next_later c time e) in
    subst (IsLater time) (sym (ap (λ (es : List FrontEvent). next_by c (last_report es)) (reported_front c time tl))) later
  where
    nothing : (n time : ℕ) → None ≡ Some time → ⊥
    nothing n time e = cc

-- ---- serving

abbrev pub left_to : Contents → (ℕ → Opening) → Bool → ℕ → ℕ → Timeline → ℕ
left_to c o reports count limit tl = rooms limit (wake o tl) count + room limit (report_time c reports tl)

less_right : (a b x y : ℕ) → a ≡ b → x < y → a + x < b + y
less_right a b x y e lt = omega arith

less_left : (a b x y : ℕ) → a < b → x ≡ y → a + x < b + y
less_left a b x y lt e = omega arith

pub one_falls : WakesLater → (c : Contents) (o : ℕ → Opening) (reports : Bool) (count limit : ℕ) (tl : Timeline) (d : Due) → IsDueNow c o reports count limit tl d → left_to c o reports count limit (serve_one c o d tl) < left_to c o reports count limit tl
one_falls rising c o reports count limit tl (due.Reports time) h =
    less_right (rooms limit (wake o (fronted c time (ReportsDue time) tl)) count) (rooms limit (wake o tl) count)
    (room limit (report_time c reports (fronted c time (ReportsDue time) tl))) (room limit (report_time c reports tl))
    (rooms_same limit (wake o tl) (wake o (fronted c time (ReportsDue time) tl)) count count (omega arith)
    (λ k ne. ap (λ (x : History). wake_of (turn (o k).settings x)) (reported_lane c time k tl)))
    (subst (λ (x : Option ℕ). room limit (report_time c reports (fronted c time (ReportsDue time) tl)) < room limit x) (sym h.found)
    (room_falls limit time (report_time c reports (fronted c time (ReportsDue time) tl)) h.le (reports_later c reports time tl h.found)))
one_falls rising c o reports count limit tl (due.Turns w) h =
    less_left (rooms limit (wake o (ticked c o w.time w.lane tl)) count) (rooms limit (wake o tl) count)
    (room limit (report_time c reports (ticked c o w.time w.lane tl))) (room limit (report_time c reports tl))
    (rooms_fall limit w.time (wake o tl) (wake o (ticked c o w.time w.lane tl)) count w.lane h.found.0 h.le h.found.1 (ticked_later rising c o w.time w.lane tl)
    (λ k ne. ap (λ (x : History). wake_of (turn (o k).settings x)) (ticked_other c o w.time w.lane k tl (λ e. ne (sym e)))))
    (ap (room limit) (ticked_reports c o reports w.time w.lane tl))

pub serve_none : (n : ℕ) (c : Contents) (o : ℕ → Opening) (reports : Bool) (count limit : ℕ) (tl : Timeline) → first_due c o reports count limit tl ≡ None → serve_up_to n c o reports count limit tl ≡ tl
serve_none zero c o reports count limit tl e = refl
serve_none (suc n) c o reports count limit tl e = ap (λ (d : Option Due). serve_due (serve_up_to n c o reports count limit) c o d tl) e

pub serve_some : (n : ℕ) (c : Contents) (o : ℕ → Opening) (reports : Bool) (count limit : ℕ) (tl : Timeline) (d : Due) → first_due c o reports count limit tl ≡ Some d → serve_up_to (suc n) c o reports count limit tl ≡ serve_up_to n c o reports count limit (serve_one c o d tl)
serve_some n c o reports count limit tl d e = ap (λ (d : Option Due). serve_due (serve_up_to n c o reports count limit) c o d tl) e

-- cases on an option that keep the equation
pub by_option : {A : Type 0} {P : Type 0} (o : Option A) → (o ≡ None → P) → ((x : A) → o ≡ Some x → P) → P
by_option None f g = f refl
by_option (Some x) f g = g x refl

no_room : WakesLater → (c : Contents) (o : ℕ → Opening) (reports : Bool) (count limit : ℕ) (tl : Timeline) → left_to c o reports count limit tl ≤ 0 → first_due c o reports count limit tl ≡ None
no_room rising c o reports count limit tl le =
    by_option (first_due c o reports count limit tl) (λ e. e)
    (λ d e. absurd (let f : left_to c o reports count limit (serve_one c o d tl) < left_to c o reports count limit tl = one_falls rising c o reports count limit tl d (due_is c o reports count limit tl d e) in omega arith))

serve_enough : WakesLater → (n m : ℕ) (c : Contents) (o : ℕ → Opening) (reports : Bool) (count limit : ℕ) (tl : Timeline) → left_to c o reports count limit tl ≤ n → left_to c o reports count limit tl ≤ m → serve_up_to n c o reports count limit tl ≡ serve_up_to m c o reports count limit tl
serve_enough rising zero m c o reports count limit tl a b = sym (serve_none m c o reports count limit tl (no_room rising c o reports count limit tl a))
serve_enough rising (suc n) zero c o reports count limit tl a b = serve_none (suc n) c o reports count limit tl (no_room rising c o reports count limit tl b)
serve_enough rising (suc n) (suc m) c o reports count limit tl a b =
    by_option (first_due c o reports count limit tl)
    (λ e. serve_none (suc n) c o reports count limit tl e ∙ sym (serve_none (suc m) c o reports count limit tl e))
    (λ d e. let f : left_to c o reports count limit (serve_one c o d tl) < left_to c o reports count limit tl = one_falls rising c o reports count limit tl d (due_is c o reports count limit tl d e) in
    serve_some n c o reports count limit tl d e ∙ serve_enough rising n m c o reports count limit (serve_one c o d tl) (omega arith) (omega arith)
    ∙ sym (serve_some m c o reports count limit tl d e))

pub served_none : (c : Contents) (o : ℕ → Opening) (reports : Bool) (count limit : ℕ) (tl : Timeline) → first_due c o reports count limit tl ≡ None → serve c o reports count limit tl ≡ tl
served_none c o reports count limit tl e = serve_none (left_to c o reports count limit tl) c o reports count limit tl e

pub served_step : WakesLater → (c : Contents) (o : ℕ → Opening) (reports : Bool) (count limit : ℕ) (tl : Timeline) (d : Due) → first_due c o reports count limit tl ≡ Some d → serve c o reports count limit tl ≡ serve c o reports count limit (serve_one c o d tl)
served_step rising c o reports count limit tl d e =
    let f : left_to c o reports count limit (serve_one c o d tl) < left_to c o reports count limit tl = one_falls rising c o reports count limit tl d (due_is c o reports count limit tl d e) in
    serve_enough rising (left_to c o reports count limit tl) (suc (left_to c o reports count limit tl)) c o reports count limit tl (omega arith) (omega arith)
    ∙ serve_some (left_to c o reports count limit tl) c o reports count limit tl d e
    ∙ serve_enough rising (left_to c o reports count limit tl) (left_to c o reports count limit (serve_one c o d tl)) c o reports count limit (serve_one c o d tl) (omega arith) (omega arith)

serve_ends : WakesLater → (n : ℕ) (c : Contents) (o : ℕ → Opening) (reports : Bool) (count limit : ℕ) (tl : Timeline) → left_to c o reports count limit tl ≤ n → first_due c o reports count limit (serve_up_to n c o reports count limit tl) ≡ None
serve_ends rising zero c o reports count limit tl a = no_room rising c o reports count limit tl a
serve_ends rising (suc n) c o reports count limit tl a =
    by_option (first_due c o reports count limit tl)
    (λ e. subst (λ (x : Timeline). first_due c o reports count limit x ≡ None) (sym (serve_none (suc n) c o reports count limit tl e)) e)
    (λ d e. let f : left_to c o reports count limit (serve_one c o d tl) < left_to c o reports count limit tl = one_falls rising c o reports count limit tl d (due_is c o reports count limit tl d e) in
    subst (λ (x : Timeline). first_due c o reports count limit x ≡ None) (sym (serve_some n c o reports count limit tl d e))
    (serve_ends rising n c o reports count limit (serve_one c o d tl) (omega arith)))

pub served_ends : WakesLater → (c : Contents) (o : ℕ → Opening) (reports : Bool) (count limit : ℕ) (tl : Timeline) → first_due c o reports count limit (serve c o reports count limit tl) ≡ None
served_ends rising c o reports count limit tl = serve_ends rising (left_to c o reports count limit tl) c o reports count limit tl (omega arith)

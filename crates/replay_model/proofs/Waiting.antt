-- The first of what is due is the least.
use Rattle.std.proofs.Common.{ℕ, zero, suc, ◌≡◌, ◌≢◌, ◌≤◌, ◌<◌, Bool, true, false, refl, sym, ap, subst, ◌∙◌, Option, None, Some, arith}
use Rattle.std.specs.Prelude.{⊤, ◌==◌, if◌then◌else◌, nat_lt, nat_le}
use Rattle.std.proofs.lemmas.Grind.{common_steps}
use Rattle.jitter_model.specs.Laws.{IsLater}
use Rattle.script_lang.specs.Contents.{Contents}
use Rattle.front_model.specs.declared.Opening.{Opening}
use Rattle.replay_model.specs.declared.Wake.{Wake}
use Rattle.replay_model.specs.declared.Due.{Due}
use Rattle.replay_model.specs.declared.Due.TheVariants as due
use Rattle.replay_model.specs.Events.{Timeline}
use Rattle.replay_model.specs.Serving.{wake, with_wake, first_wake, report_time, earlier, due_time, up_to, first_due}
use Rattle.replay_model.proofs.Lanes.{by_cases}

-- there is no such time, or it isn't earlier
abbrev pub IsFrom : ℕ → Option ℕ → Type 0
IsFrom t None = ⊤
IsFrom t (Some w) = t ≤ w

-- where there is a wake, the first one isn't later
abbrev pub IsFirst : Option Wake → Option ℕ → Type 0
IsFirst None None = ⊤
IsFirst None (Some t) = ⊥
IsFirst (Some w) x = IsFrom w.time x

pub from_later : (t : ℕ) (x : Option ℕ) → IsLater t x → IsFrom t x
from_later t None h = tt
from_later t (Some w) h = omega arith

pub from_less : (a b : ℕ) (x : Option ℕ) → a ≤ b → IsFrom b x → IsFrom a x
from_less a b None le h = tt
from_less a b (Some w) le h = omega arith

pub later_less : (a b : ℕ) (x : Option ℕ) → a < b → IsFrom b x → IsLater a x
later_less a b None lt h = tt
later_less a b (Some w) lt h = omega arith

first_now : (f : Option Wake) (l : ℕ) (x : Option ℕ) → IsFirst (with_wake f l x) x
first_now None l None = tt
first_now (Some g) l None = tt
first_now None l (Some t) = omega arith
first_now (Some g) l (Some t) =
    elim (nat_lt t g.time) as (λ b. nat_lt t g.time ≡ b → IsFirst (if b then Some (record { time = t; lane = l }) else Some g) (Some t)) [
      | true ↦ λ e. omega arith
      | false ↦ λ e. grind (arith, common_steps)
    ] refl

first_then : (f : Option Wake) (l : ℕ) (y x : Option ℕ) → IsFirst f x → IsFirst (with_wake f l y) x
first_then f l None x h = h
first_then None l (Some t) None h = tt
first_then None l (Some t) (Some u) h = absurd h
first_then (Some g) l (Some t) x h =
    elim (nat_lt t g.time) as (λ b. nat_lt t g.time ≡ b → IsFirst (if b then Some (record { time = t; lane = l }) else Some g) x) [
      | true ↦ λ e. from_less t g.time x (grind (arith, common_steps)) h
      | false ↦ λ e. h
    ] refl

first_least : (wakes : ℕ → Option ℕ) (count l : ℕ) → l < count → IsFirst (first_wake wakes count) (wakes l)
first_least wakes zero l lt = absurd (omega arith)
first_least wakes (suc k) l lt =
    by_cases (k == l)
    (λ e. let eq : k ≡ l = grind (arith, common_steps) in
    subst (λ (n : ℕ). IsFirst (with_wake (first_wake wakes k) k (wakes k)) (wakes n)) eq (first_now (first_wake wakes k) k (wakes k)))
    (λ e. let ne : k ≢ l = grind (arith, common_steps) in
    first_then (first_wake wakes k) k (wakes k) (wakes l) (first_least wakes k l (omega arith)))

-- ---- reports and wakes

-- there is no such thing, or it isn't earlier
abbrev AllFrom : Option Due → Option ℕ → Option Wake → Type 0
AllFrom None report first = (report ≡ None) × (first ≡ None)
AllFrom (Some d) report None = IsFrom (due_time d) report
AllFrom (Some d) report (Some w) = IsFrom (due_time d) report × (due_time d ≤ w.time)

all_from : (report : Option ℕ) (first : Option Wake) → AllFrom (earlier report first) report first
all_from None None = (refl, refl)
all_from None (Some w) = (tt, omega arith)
all_from (Some t) None = omega arith
all_from (Some t) (Some w) =
    elim (nat_le t w.time) as (λ b. nat_le t w.time ≡ b → AllFrom (if b then Some (due.Reports t) else Some (due.Turns w)) (Some t) (Some w)) [
      | true ↦ λ e. (omega arith, grind (arith, common_steps))
      | false ↦ λ e. (grind (arith, common_steps), omega arith)
    ] refl

-- what is first isn't later than the report time and than each wake
pub record IsLeast (d : ℕ) (report : Option ℕ) (wakes : ℕ → Option ℕ) (count : ℕ) : Type 0 where
  pub report_from : IsFrom d report
  pub wakes_from : (l : ℕ) → l < count → IsFrom d (wakes l)

least_with : (d : Due) (report : Option ℕ) (wakes : ℕ → Option ℕ) (count : ℕ) (first : Option Wake) → ((l : ℕ) → l < count → IsFirst first (wakes l)) → AllFrom (Some d) report first → IsLeast (due_time d) report wakes count
least_with d report wakes count None h a = record { report_from = a; wakes_from = λ l lt. no_wake (wakes l) (h l lt) }
  where
    no_wake : (x : Option ℕ) → IsFirst None x → IsFrom (due_time d) x
    no_wake None h = tt
    no_wake (Some t) h = absurd h
least_with d report wakes count (Some w) h a = record { report_from = a.0; wakes_from = λ l lt. from_less (due_time d) w.time (wakes l) a.1 (h l lt) }

least_of : (report : Option ℕ) (wakes : ℕ → Option ℕ) (count : ℕ) (d : Due) → earlier report (first_wake wakes count) ≡ Some d → IsLeast (due_time d) report wakes count
least_of report wakes count d e =
    least_with d report wakes count (first_wake wakes count) (λ l lt. first_least wakes count l lt)
    (subst (λ (o : Option Due). AllFrom o report (first_wake wakes count)) e (all_from report (first_wake wakes count)))

-- nothing is due up to a limit: the report time and each wake are later
pub record AreLater (limit : ℕ) (report : Option ℕ) (wakes : ℕ → Option ℕ) (count : ℕ) : Type 0 where
  pub report_later : IsLater limit report
  pub wakes_later : (l : ℕ) → l < count → IsLater limit (wakes l)

none_later : (limit : ℕ) (report : Option ℕ) (wakes : ℕ → Option ℕ) (count : ℕ) (first : Option Wake) → ((l : ℕ) → l < count → IsFirst first (wakes l)) → (report ≡ None) × (first ≡ None) → AreLater limit report wakes count
none_later limit report wakes count None h e =
    record { report_later = subst (IsLater limit) (sym e.0) tt; wakes_later = λ l lt. no_wake (wakes l) (h l lt) }
  where
    no_wake : (x : Option ℕ) → IsFirst None x → IsLater limit x
    no_wake None h = tt
    no_wake (Some t) h = absurd h
none_later limit report wakes count (Some w) h e = absurd (differ w e.1)
  where
    differ : (w : Wake) → Some w ≡ None → ⊥
    differ w e = cc

some_later : (limit : ℕ) (report : Option ℕ) (wakes : ℕ → Option ℕ) (count d : ℕ) → limit < d → IsLeast d report wakes count → AreLater limit report wakes count
some_later limit report wakes count d lt h =
    record { report_later = later_less limit d report lt h.report_from; wakes_later = λ l l_lt. later_less limit d (wakes l) lt (h.wakes_from l l_lt) }

later_by : (limit : ℕ) (report : Option ℕ) (wakes : ℕ → Option ℕ) (count : ℕ) (o : Option Due) → earlier report (first_wake wakes count) ≡ o → up_to limit o ≡ None → AreLater limit report wakes count
later_by limit report wakes count None is e =
    none_later limit report wakes count (first_wake wakes count) (λ l lt. first_least wakes count l lt)
    (subst (λ (o : Option Due). AllFrom o report (first_wake wakes count)) is (all_from report (first_wake wakes count)))
later_by limit report wakes count (Some d) is e =
    by_cases (nat_le (due_time d) limit)
    (λ b. absurd (differ d (sym (ap (λ (x : Bool). if x then Some d else None) b) ∙ e)))
    (λ b. some_later limit report wakes count (due_time d) (grind (arith, common_steps)) (least_of report wakes count d is))
  where
    differ : (d : Due) → Some d ≡ None → ⊥
    differ d e = cc

pub later_than : (c : Contents) (o : ℕ → Opening) (reports : Bool) (count limit : ℕ) (tl : Timeline) → first_due c o reports count limit tl ≡ None → AreLater limit (report_time c reports tl) (wake o tl) count
later_than c o reports count limit tl e = later_by limit (report_time c reports tl) (wake o tl) count (earlier (report_time c reports tl) (first_wake (wake o tl) count)) refl e

pub some_first : (limit : ℕ) (d : Due) (o : Option Due) → up_to limit o ≡ Some d → o ≡ Some d
some_first limit d None e = e
some_first limit d (Some v) e =
    by_cases (nat_le (due_time v) limit)
    (λ b. sym (ap (λ (x : Bool). if x then Some v else None) b) ∙ e)
    (λ b. absurd (differ d (sym (ap (λ (x : Bool). if x then Some v else None) b) ∙ e)))
  where
    differ : (d : Due) → None ≡ Some d → ⊥
    differ d e = cc

pub is_least : (c : Contents) (o : ℕ → Opening) (reports : Bool) (count limit : ℕ) (tl : Timeline) (d : Due) → first_due c o reports count limit tl ≡ Some d → IsLeast (due_time d) (report_time c reports tl) (wake o tl) count
is_least c o reports count limit tl d e =
    least_of (report_time c reports tl) (wake o tl) count d (some_first limit d (earlier (report_time c reports tl) (first_wake (wake o tl) count)) e)

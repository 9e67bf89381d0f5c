-- What is due up to one time and then up to a later one is what is due up to the later one.
use Rattle.std.proofs.Common.{ℕ, zero, suc, ◌≡◌, ◌≤◌, ◌<◌, Bool, true, false, refl, sym, ap, subst, ◌∙◌, List, length, Option, None, Some, arith}
use Rattle.std.specs.Prelude.{if◌then◌else◌, nat_le, slice_get}
use Rattle.std.proofs.lemmas.Grind.{common_steps}
use Rattle.script_lang.specs.Contents.{Contents}
use Rattle.front_model.specs.declared.Opening.{Opening}
use Rattle.replay_model.specs.declared.Due.{Due}
use Rattle.replay_model.specs.Events.{Timeline, openings}
use Rattle.replay_model.specs.Lanes.{lane_count, opening_or, opened}
use Rattle.replay_model.specs.Serving.{wake, first_wake, report_time, earlier, due_time, up_to, first_due, serve_one, serve}
use Rattle.replay_model.specs.Log.{served}
use Rattle.replay_model.proofs.Turning.{WakesLater}
use Rattle.replay_model.proofs.Serving.{IsDueNow, due_is, by_option, left_to, one_falls, served_none, served_step}
use Rattle.replay_model.proofs.Waiting.{some_first}
use Rattle.replay_model.proofs.Keeping.{serve_openings}

-- what is due up to a limit is due up to a later one
due_later : (c : Contents) (o : ℕ → Opening) (reports : Bool) (count limit t : ℕ) (tl : Timeline) (d : Due) → limit ≤ t → first_due c o reports count limit tl ≡ Some d → first_due c o reports count t tl ≡ Some d
due_later c o reports count limit t tl d le e =
    let now : IsDueNow c o reports count limit tl d = due_is c o reports count limit tl d e in
    let small : due_time d ≤ t = omega (arith, now.le) in
    let within : nat_le (due_time d) t ≡ true = grind (arith, common_steps) in
    ap (up_to t) (some_first limit d (earlier (report_time c reports tl) (first_wake (wake o tl) count)) e) ∙ ap (λ (b : Bool). if b then Some d else None) within

parts : WakesLater → (n : ℕ) (c : Contents) (o : ℕ → Opening) (reports : Bool) (count limit t : ℕ) (tl : Timeline) → limit ≤ t → left_to c o reports count limit tl ≤ n → serve c o reports count t (serve c o reports count limit tl) ≡ serve c o reports count t tl
parts rising zero c o reports count limit t tl le small =
    by_option (first_due c o reports count limit tl)
    (λ e. ap (serve c o reports count t) (served_none c o reports count limit tl e))
    (λ d e. absurd (let f : left_to c o reports count limit (serve_one c o d tl) < left_to c o reports count limit tl = one_falls rising c o reports count limit tl d (due_is c o reports count limit tl d e) in omega arith))
parts rising (suc n) c o reports count limit t tl le small =
    by_option (first_due c o reports count limit tl)
    (λ e. ap (serve c o reports count t) (served_none c o reports count limit tl e))
    (λ d e. let f : left_to c o reports count limit (serve_one c o d tl) < left_to c o reports count limit tl = one_falls rising c o reports count limit tl d (due_is c o reports count limit tl d e) in
    ap (serve c o reports count t) (served_step rising c o reports count limit tl d e)
    ∙ parts rising n c o reports count limit t (serve_one c o d tl) le (omega arith)
    ∙ sym (served_step rising c o reports count t tl d (due_later c o reports count limit t tl d le e)))

pub in_parts : WakesLater → (c : Contents) (limit t : ℕ) (tl : Timeline) → limit ≤ t → served c t (served c limit tl) ≡ served c t tl
in_parts rising c limit t tl le =
    let after : Timeline = served c limit tl in
    let same : openings after ≡ openings tl = serve_openings _ c (opened c tl) true (lane_count tl) limit tl in
    ap (λ (os : List Opening). serve c (λ l. opening_or c l (slice_get os l)) true (length os) t after) same
    ∙ parts rising (left_to c (opened c tl) true (lane_count tl) limit tl) c (opened c tl) true (lane_count tl) limit t tl le (omega arith)

-- The missing numbers and the pending requests by a state are those by its history.
use Rattle.std.proofs.Common.{ℕ, zero, suc, ◌≡◌, ◌+◌, ◌-◌, ◌≤◌, Bool, true, false, refl, ap, subst, ◌∙◌, Option, None, arith}
use Rattle.std.specs.Prelude.{nat_le, if◌then◌else◌}
use Rattle.std.proofs.lemmas.Grind.{common_steps}
use Rattle.jitter_model.specs.declared.Settings.{Settings}
use Rattle.jitter_model.specs.History.{History, is_flushing}
use Rattle.jitter_model.specs.Covered.{next}
use Rattle.jitter_model.specs.Turns.{Sight, low, wanted, request_wake, wake_of_wanted, sight, next_request}
use Rattle.jitter_model.specs.Requests.{Wanted}
use Rattle.jitter_core.specs.declared.state.State.{State}
use Rattle.jitter_core.specs.Scheduling.{missing_from, gaps_by, state_gaps, state_request}
use Rattle.jitter_core.specs.Stands.{StandsFor}
use Rattle.jitter_core.specs.Turning.{state_sight, state_turn, is_idle}
use Rattle.jitter_core.specs.Words.{gaps}
use Rattle.std.specs.FinMap as map
use Rattle.jitter_timers.specs.Timers.{Times}
use Rattle.jitter_model.specs.declared.Turn.{Turn}
use Rattle.jitter_model.specs.declared.Turn.TheVariants.{Flushing}
use Rattle.jitter_core.proofs.Agreeing.{Agree, agrees, wanted_same, wake_of_same, turn_is, flushing_turn}
use Rattle.jitter_core.proofs.Judging.{placed_now}
use Rattle.jitter_model.specs.Known.{RunsAreBounded}
use Rattle.jitter_model.specs.Known.{NumbersLieBetween}
use Rattle.jitter_model.specs.Known.{SearchesFindTheLeast}

missing_same : (s : Settings) (v w : Sight) (o : Option ℕ) (n count : ℕ) → Agree s v w o → low w o ≤ n → missing_from v.among n count ≡ missing_from w.among n count
missing_same s v w o n zero a le = refl
missing_same s v w o n (suc count) a le =
    ap (λ (b : Bool). (if b then 0 else 1) + missing_from v.among (n + 1) count) (a.among_is n le)
    ∙ ap (λ (x : ℕ). (if w.among n then 0 else 1) + x) (missing_same s v w o (n + 1) count a (omega arith))

pub gaps_is : RunsAreBounded → NumbersLieBetween → (s : State) (h : History) → StandsFor s h → is_flushing h ≡ false → state_gaps s ≡ gaps s.settings h
gaps_is runs numbers s h st e =
    let a : Agree s.settings (state_sight s) (sight s.settings h) (next h) = agrees runs numbers s h st e in
    ap (λ (o : Option ℕ). gaps_by (state_sight s) o) (placed_now s h e st.order.placed).next_is
    ∙ ap (λ (n : ℕ). missing_from (state_sight s).among n ((state_sight s).top - n)) a.low_is
    ∙ ap (λ (t : ℕ). missing_from (state_sight s).among (low (sight s.settings h) (next h)) (t - low (sight s.settings h) (next h))) a.top
    ∙ missing_same s.settings (state_sight s) (sight s.settings h) (next h) (low (sight s.settings h) (next h)) ((sight s.settings h).top - low (sight s.settings h) (next h)) a (omega arith)

wake_same : (s : Settings) (v w : Sight) (o : Option ℕ) (n : ℕ) → Agree s v w o → low w o ≤ n → request_wake s v n ≡ request_wake s w n
wake_same s v w o n a le =
    ap (λ (x : Option Wanted). wake_of_wanted s v (v.served n) x) (wanted_same s v w o n a le)
    ∙ wake_of_same s v w n (wanted s w n) a.time (a.served_is n le)

in_range_same : (s : State) (h : History) (n : ℕ) → Agree s.settings (state_sight s) (sight s.settings h) (next h) → (if nat_le (low (sight s.settings h) (next h)) n then request_wake s.settings (state_sight s) n else None) ≡ next_request s.settings h n
in_range_same s h n a =
    elim (nat_le (low (sight s.settings h) (next h)) n) as (λ b. nat_le (low (sight s.settings h) (next h)) n ≡ b → (if b then request_wake s.settings (state_sight s) n else None) ≡ (if b then request_wake s.settings (sight s.settings h) n else None)) [
      | true ↦ λ f. wake_same s.settings (state_sight s) (sight s.settings h) (next h) n a (grind (arith, common_steps))
      | false ↦ λ _. refl
    ] refl

pub request_of : RunsAreBounded → NumbersLieBetween → (s : State) (h : History) (n : ℕ) → StandsFor s h → is_flushing h ≡ false → state_request s n ≡ next_request s.settings h n
request_of runs numbers s h n st e =
    let a : Agree s.settings (state_sight s) (sight s.settings h) (next h) = agrees runs numbers s h st e in
    ap (λ (o : Option ℕ). if nat_le (low (state_sight s) o) n then request_wake s.settings (state_sight s) n else None) (placed_now s h e st.order.placed).next_is
    ∙ ap (λ (m : ℕ). if nat_le m n then request_wake s.settings (state_sight s) n else None) a.low_is
    ∙ in_range_same s h n a

no_gaps : (s : State) (h : History) → StandsFor s h → is_flushing h ≡ true → state_gaps s ≡ 0
no_gaps s h st e =
    let next : s.span.next ≡ None = st.order.placed.next_is ∙ rw e refl in
    let top : s.span.top ≡ None = st.order.placed.top_is ∙ rw e refl in
    let least : s.span.least ≡ None = st.order.placed.least_is ∙ rw e refl in
    rw (next, top, least) refl

pub gaps_le : RunsAreBounded → NumbersLieBetween → (s : State) (h : History) → StandsFor s h → state_gaps s ≤ gaps s.settings h
gaps_le runs numbers s h st =
    elim (is_flushing h) as (λ b. is_flushing h ≡ b → state_gaps s ≤ gaps s.settings h) [
      | true ↦ λ e. omega (arith, no_gaps s h st e)
      | false ↦ λ e. omega (arith, gaps_is runs numbers s h st e)
    ] refl

idle_open : RunsAreBounded → NumbersLieBetween → SearchesFindTheLeast → (s : State) (h : History) (r : Turn) → StandsFor s h → r ≡ state_turn s → is_idle r ≡ true → is_flushing h ≡ false
idle_open runs numbers searches s h r st is e =
    elim (is_flushing h) as (λ b. is_flushing h ≡ b → b ≡ false) [
      | true ↦ λ f. let flushes : r ≡ Flushing = is ∙ turn_is runs numbers searches s h st ∙ flushing_turn s.settings h f in let bad : is_idle Flushing ≡ true = subst (λ (x : Turn). is_idle x ≡ true) flushes e in cc
      | false ↦ λ _. refl
    ] refl

-- after an idle turn the timers are the requests to come
pub idle_timers : RunsAreBounded → NumbersLieBetween → SearchesFindTheLeast → (s : State) (h : History) (r : Turn) (m : Times) (n : ℕ) → StandsFor s h → r ≡ state_turn s → is_idle r ≡ true → map.get m n ≡ state_request s n → map.get m n ≡ next_request s.settings h n
idle_timers runs numbers searches s h r m n st is e f = f ∙ request_of runs numbers s h n st (idle_open runs numbers searches s h r st is e)

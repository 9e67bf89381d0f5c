-- The verdict by a state is the one by the history.
use Rattle.std.proofs.Common.{ℕ, ◌≡◌, Bool, true, false, ◌||◌, ◌&&◌, not, refl, ap, subst, ◌∙◌, List, [], Option, None}
use Rattle.std.specs.Prelude.{is_some, if◌then◌else◌}
use Rattle.std.specs.FinMap as map
use Rattle.jitter_model.specs.declared.Settings.{Settings}
use Rattle.jitter_model.specs.declared.Arrival.{Arrival}
use Rattle.jitter_model.specs.declared.Verdict.TheVariants.{Accepted, Late, Duplicate, Full, Stray, Flushing, Ended}
use Rattle.jitter_model.specs.History.{History, is_flushing, has_ended}
use Rattle.jitter_model.specs.Accepted.{has, is_original, number_from, aside, accepted}
use Rattle.jitter_model.specs.Covered.{next, is_out, served, held_count}
use Rattle.jitter_model.specs.Verdicts.{View, is_late, is_far, is_full, far_verdict, first_fit, view, verdict, number_of}
use Rattle.jitter_model.specs.Times.{found, held}
use Rattle.jitter_model.specs.Runs.{Run}
use Rattle.jitter_core.specs.declared.state.State.{State}
use Rattle.jitter_core.specs.Parts.{Placed, Clocked, Marked, Requested}
use Rattle.jitter_core.specs.Steps.{run_of, state_number}
use Rattle.jitter_core.specs.Pushing.{state_view, state_verdict}
use Rattle.jitter_core.specs.Stands.{live, live_next, live_out, live_served, live_aside, Order, StandsFor}
use Rattle.jitter_core.proofs.Asides.{run_is}
use Rattle.jitter_model.specs.Known.{RunsAreBounded}
use Rattle.jitter_model.specs.Known.{NumbersLieBetween}

-- ---- outside a flush

pub placed_now : (s : State) (h : History) → is_flushing h ≡ false → Placed s (live h) (live_next h) (live_out h) → Placed s (accepted h) (next h) (is_out h)
placed_now s h e p = subst (λ (b : Bool). Placed s (if b then [] else accepted h) (if b then None else next h) (λ n. not b && is_out h n)) e p

pub clocked_now : (s : State) (h : History) → is_flushing h ≡ false → Clocked s (live h) → Clocked s (accepted h)
clocked_now s h e c = rw e at c

pub marked_now : (s : State) (h : History) → is_flushing h ≡ false → Marked s (live h) (live_next h) → Marked s (accepted h) (next h)
marked_now s h e m = rw e at m

pub requested_now : (s : State) (h : History) → is_flushing h ≡ false → Requested s (live h) (live_next h) (live_served h) → Requested s (accepted h) (next h) (served h)
requested_now s h e q = subst (λ (b : Bool). Requested s (if b then [] else accepted h) (if b then None else next h) (λ n. if b then 0 else served h n)) e q

live_aside_now : (h : History) → is_flushing h ≡ false → live_aside h ≡ aside h
live_aside_now h e = rw e refl

pub run_now : (s : State) (h : History) → Order s h → is_flushing h ≡ false → run_of s ≡ aside h
run_now s h o e = run_is s.aside (live_aside h) o.aside_is ∙ live_aside_now h e

pub number_now : (s : State) (h : History) (a : Arrival) → Placed s (accepted h) (next h) (is_out h) → state_number s a ≡ number_of h a
number_now s h a p = ap (λ (t : Option ℕ). number_from t a.packet.seq) p.top_is

pub not_out : RunsAreBounded → (s : Settings) (h : History) (n : ℕ) → Run s h → is_late (next h) n ≡ false → is_out h n ≡ false
not_out runs s h n r e =
    elim (is_out h n) as (λ b. is_out h n ≡ b → is_out h n ≡ false) [
      | true ↦ λ o. let late : is_late (next h) n ≡ true = runs.late s h n r o in cc
      | false ↦ λ o. o
    ] refl

-- what isn't late is held exactly where it was accepted
pub held_has : RunsAreBounded → NumbersLieBetween → (s : State) (h : History) (n : ℕ) → Run s.settings h → Placed s (accepted h) (next h) (is_out h) → is_late (next h) n ≡ false → is_some (map.get s.held n) ≡ has (accepted h) n
held_has runs numbers s h n r p e = ap is_some (p.held_are n) ∙ rw (not_out runs s.settings h n r e) (numbers.found_is s.settings (accepted h) n)

-- ---- the verdict

fit_flushing : (s : Settings) (v w : View) (a : Arrival) → v.ended ≡ w.ended → v.flushing ≡ true → w.flushing ≡ true → first_fit s v a ≡ first_fit s w a
fit_flushing s v w a e f g = rw (e, f, g) refl

-- the verdict takes no notice of whether a late number was accepted before
fit_among : (s : Settings) (v : View) (b c : Bool) (a : Arrival) → (is_late v.next v.number ≡ false → b ≡ c) → first_fit s (record v { among = b }) a ≡ first_fit s (record v { among = c }) a
fit_among s v b c a same =
    elim (is_late v.next v.number) as (λ l. (l ≡ false → b ≡ c)
    → (if v.ended then Ended else if v.flushing then Flushing else if not (is_original a.origin) && not (is_some v.top) then Stray else if is_original a.origin && is_far s v.top v.next v.number then far_verdict v.run a v.held else if l then Late else if b then Duplicate else if is_full v.top v.least v.next v.number then Full else Accepted)
    ≡ (if v.ended then Ended else if v.flushing then Flushing else if not (is_original a.origin) && not (is_some v.top) then Stray else if is_original a.origin && is_far s v.top v.next v.number then far_verdict v.run a v.held else if l then Late else if c then Duplicate else if is_full v.top v.least v.next v.number then Full else Accepted)) [
      | true ↦ λ _. refl
      | false ↦ λ k. ap (λ (x : Bool). if v.ended then Ended else if v.flushing then Flushing else if not (is_original a.origin) && not (is_some v.top) then Stray else if is_original a.origin && is_far s v.top v.next v.number then far_verdict v.run a v.held else if x then Duplicate else if is_full v.top v.least v.next v.number then Full else Accepted) (k refl)
    ] same

view_now : (s : State) (h : History) (a : Arrival) → StandsFor s h → is_flushing h ≡ false → Placed s (accepted h) (next h) (is_out h) → state_view s a ≡ record (view h a) { among = is_some (map.get s.held (number_of h a)); held = s.span.held }
view_now s h a st e p =
    let v = view h a in
    ap (λ (x : Bool). record (state_view s a) { ended = x }) (st.order.ended_are a.pusher)
    ∙ ap (λ (x : Bool). record (state_view s a) { ended = has_ended h a.pusher; flushing = x }) st.order.flushing_is
    ∙ ap (λ (t : Option ℕ). record (state_view s a) { ended = has_ended h a.pusher; flushing = is_flushing h; top = t; number = number_from t a.packet.seq; among = is_some (map.get s.held (number_from t a.packet.seq)) }) p.top_is
    ∙ ap (λ (l : Option ℕ). record (view h a) { among = is_some (map.get s.held (number_of h a)); held = s.span.held; run = run_of s; next = s.span.next; least = l }) p.least_is
    ∙ ap (λ (x : Option ℕ). record (view h a) { among = is_some (map.get s.held (number_of h a)); held = s.span.held; run = run_of s; next = x }) p.next_is
    ∙ ap (λ (run : List Arrival). record (view h a) { among = is_some (map.get s.held (number_of h a)); held = s.span.held; run = run }) (run_now s h st.order e)

count_now : (s : State) (h : History) → is_flushing h ≡ false → Placed s (accepted h) (next h) (is_out h) → s.span.held ≡ held_count h
count_now s h e p = p.count_is ∙ rw e refl

verdict_now : RunsAreBounded → NumbersLieBetween → (s : State) (h : History) (a : Arrival) → StandsFor s h → is_flushing h ≡ false → state_verdict s a ≡ verdict s.settings h a
verdict_now runs numbers s h a st e =
    let p : Placed s (accepted h) (next h) (is_out h) = placed_now s h e st.order.placed in
    ap (λ (v : View). first_fit s.settings v a) (view_now s h a st e p)
    ∙ ap (λ (n : ℕ). first_fit s.settings (record (view h a) { among = is_some (map.get s.held (number_of h a)); held = n }) a) (count_now s h e p)
    ∙ fit_among s.settings (view h a) (is_some (map.get s.held (number_of h a))) (has (accepted h) (number_of h a)) a (held_has runs numbers s h (number_of h a) st.run p)

pub verdict_is : RunsAreBounded → NumbersLieBetween → (s : State) (h : History) (a : Arrival) → StandsFor s h → state_verdict s a ≡ verdict s.settings h a
verdict_is runs numbers s h a st =
    elim (is_flushing h) as (λ b. is_flushing h ≡ b → state_verdict s a ≡ verdict s.settings h a) [
      | true ↦ λ e. fit_flushing s.settings (state_view s a) (view h a) a (st.order.ended_are a.pusher) (st.order.flushing_is ∙ e) e
      | false ↦ λ e. verdict_now runs numbers s h a st e
    ] refl

-- ---- the held packets

pub held_of : (s : State) (h : History) (n : ℕ) → StandsFor s h → map.get s.held n ≡ held s.settings h n
held_of s h n st =
    st.order.placed.held_are n
    ∙ elim (is_flushing h) as (λ b. (if not b && is_out h n then None else found s.settings (if b then [] else accepted h) n) ≡ (if b || is_out h n then None else found s.settings (accepted h) n)) [
      | true ↦ refl
      | false ↦ refl
    ]

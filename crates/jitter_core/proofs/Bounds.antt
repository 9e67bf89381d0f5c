-- A state that has a segment leaves room for its next steps.
use Rattle.std.proofs.Common.{ℕ, suc, ◌≡◌, ◌+◌, ◌≤◌, ◌<◌, ◌^◌, ◌≢◌, ◌||◌, Bool, true, false, ◌&&◌, not, refl, sym, ap, subst, ◌∙◌, List, [], ◌∷◌, Option, None, Some, arith, length}
use Rattle.std.specs.Prelude.{unwrap_or, is_some, IsSome, ◌==◌, if◌then◌else◌}
use Rattle.std.proofs.lemmas.Grind.{common_steps}
use Rattle.std.specs.Option.{ForSome}
use Rattle.std.specs.FinMap as map
use Rattle.jitter_model.specs.declared.Settings.{Settings}
use Rattle.jitter_model.specs.declared.Arrival.{Arrival}
use Rattle.jitter_model.specs.declared.Held.{Held}
use Rattle.jitter_model.specs.History.{History, is_flushing}
use Rattle.jitter_model.specs.Accepted.{Taken, top, least, has, opened, accepted}
use Rattle.jitter_model.specs.Covered.{next, is_out, count_in}
use Rattle.jitter_model.specs.Verdicts.{is_late}
use Rattle.jitter_model.specs.Times.{found, heights}
use Rattle.jitter_model.specs.Runs.{Run}
use Rattle.jitter_model.specs.Laws.{IsRun}
use Rattle.jitter_core.specs.declared.state.State.{State}
use Rattle.jitter_core.specs.Parts.{Placed, Clocked, Marked, Requested}
use Rattle.jitter_core.specs.Steps.{IsTimely, IsBounded}
use Rattle.jitter_core.specs.Stands.{live, live_next, live_out}
use Rattle.jitter_core.proofs.Rooted.{IsRooted, rooted, opened_rooted, some_estimate, few_heights, length-skew}
use Rattle.jitter_core.proofs.Kept.{marks_bounded, two_to, marks_to, first_small, kept_order, kept_room}
use Rattle.jitter_core.proofs.Firsts.{peaks_bounded, peaks_order, peaks_room, peaks_reach}
use Rattle.jitter_core.proofs.Owed.{IsGiven, all_given}
use Rattle.jitter_model.specs.Numbered.{AreTops, InWindow, IsNumbered, IsOpened}
use Rattle.jitter_core.proofs.Cases.{split}
use Rattle.jitter_model.specs.Known.{RunsAreBounded}
use Rattle.jitter_model.specs.Known.{RepliesTell}
use Rattle.jitter_model.specs.Known.{NumbersLieBetween}

-- what is known of the accepted packets of a segment
pub record IsSegment (ps : List Taken) (o : Option ℕ) (out : ℕ → Bool) : Type 0 where
  pub numbered : IsNumbered ps
  pub rooted : IsRooted ps
  pub few : length ps ≤ 2147483648
  pub window : InWindow (top ps) (least ps) o
  pub late : (q : ℕ) → out q ≡ true → is_late o q ≡ true
  pub given : (q : ℕ) → IsGiven ps o out q

pub segment : RunsAreBounded → RepliesTell → NumbersLieBetween → (s : Settings) (h : History) → Run s h → IsSegment (live h) (live_next h) (live_out h)
segment runs replies numbers s h r =
    elim (is_flushing h) as (λ b. IsSegment (if b then [] else accepted h) (if b then None else next h) (λ n. not b && is_out h n)) [
      | true ↦ record { numbered = tt; rooted = tt; few = omega arith; window = record { fact = tt }; late = λ q e. cc; given = λ q. record { fact = λ e l. cc } }
      | false ↦ record { numbered = runs.numbered s h r; rooted = (rooted runs replies numbers s h r).fact; few = omega (arith, runs.few h, runs.pushes_are s h r); window = runs.window s h r; late = λ q e. runs.late s h q r e; given = λ q. record { fact = (all_given replies numbers s h q r).fact } }
    ]

length-opened : (run : List Arrival) → length (opened run) ≡ length run
length-opened [] = refl
length-opened (a ∷ run) = ap suc (length-opened run)

opened_in : NumbersLieBetween → (run : List Arrival) → IsRun run → length run ≤ 5 → InWindow (top (opened run)) (least (opened run)) None
opened_in numbers [] r few = record { fact = tt }
opened_in numbers (a ∷ run) r few =
    let x : IsOpened run a = numbers.opened_is run a r in
    let window : InWindow (Some (x.first + length run)) (Some x.first) None = record { fact = (omega arith, omega arith) } in
    let with_top : InWindow (top (opened (a ∷ run))) (Some x.first) None = subst (λ (t : Option ℕ). InWindow t (Some x.first) None) (sym x.top_is) window in
    subst (λ (l : Option ℕ). InWindow (top (opened (a ∷ run))) l None) (sym x.least_is) with_top

pub opened_segment : NumbersLieBetween → (run : List Arrival) → IsRun run → length run ≤ 5 → IsSegment (opened run) None (λ q. false)
opened_segment numbers run r few =
    record { numbered = numbers.opened_numbered run r; rooted = opened_rooted run r; few = omega (arith, length-opened run); window = opened_in numbers run r few; late = λ q e. cc; given = λ q. record { fact = λ e l. cc } }

-- ---- each bound

top_above : (n : ℕ) (t l : Option ℕ) → AreTops n t l → ForSome t (λ t. 32768 ≤ t)
top_above n None l h x e = cc
top_above n (Some t) None h x e = absurd h
top_above n (Some t) (Some l) h x e = let same : t ≡ x = cc in omega arith

top_below : (n : ℕ) (t l : Option ℕ) → AreTops n t l → n ≤ 2147483648 → ForSome t (λ t. t ≤ 2 ^ 61)
top_below n None l h few x e = cc
top_below n (Some t) None h few x e = absurd h
top_below n (Some t) (Some l) h few x e = let same : t ≡ x = cc in omega arith

least_below : (n : ℕ) (t l : Option ℕ) → AreTops n t l → n ≤ 2147483648 → ForSome l (λ l. l ≤ 2 ^ 61)
least_below n t None h few x e = cc
least_below n None (Some l) h few x e = absurd h
least_below n (Some t) (Some l) h few x e = let same : l ≡ x = cc in omega arith

next_below : (n : ℕ) (t l o : Option ℕ) → AreTops n t l → n ≤ 2147483648 → InWindow t l o → ForSome o (λ k. k ≤ 2 ^ 61)
next_below n t l None h few w x e = cc
next_below n None None (Some k) h few w x e = absurd w.fact
next_below n None (Some l) (Some k) h few w x e = absurd w.fact
next_below n (Some t) None (Some k) h few w x e = absurd w.fact
next_below n (Some t) (Some l) (Some k) h few w x e = let same : k ≡ x = cc in let le : k ≤ t + 1 = w.fact.1 in omega arith

top_under : (n : ℕ) (t l : Option ℕ) → AreTops n t l → n ≤ 2147483648 → unwrap_or t 0 ≤ 2 ^ 62
top_under n None l h few = omega arith
top_under n (Some t) None h few = absurd h
top_under n (Some t) (Some l) h few = omega arith

least_to : (n : ℕ) (t l : Option ℕ) → AreTops n t l → unwrap_or l 0 ≤ unwrap_or t 0
least_to n None None h = omega arith
least_to n None (Some l) h = absurd h
least_to n (Some t) None h = absurd h
least_to n (Some t) (Some l) h = omega arith

window_after : (t l o : Option ℕ) → InWindow t l o → ForSome o (λ n. unwrap_or t 0 < n + 8192)
window_after t l None w x e = cc
window_after None None (Some n) w x e = absurd w.fact
window_after None (Some l) (Some n) w x e = absurd w.fact
window_after (Some t) None (Some n) w x e = absurd w.fact
window_after (Some t) (Some l) (Some n) w x e = let same : n ≡ x = cc in let lt : t < n + 8192 = w.fact.0 in omega arith

first_after : (t l o : Option ℕ) → InWindow t l o → o ≡ None → unwrap_or t 0 < unwrap_or l 0 + 8192
first_after None None o w e = omega arith
first_after None (Some l) None w e = absurd w.fact
first_after None (Some l) (Some n) w e = absurd w.fact
first_after (Some t) None None w e = absurd w.fact
first_after (Some t) None (Some n) w e = absurd w.fact
first_after (Some t) (Some l) None w e = w.fact.0
first_after (Some t) (Some l) (Some n) w e = cc

least_with : (t l o : Option ℕ) → InWindow t l o → is_some l ≡ is_some t
least_with None None o w = refl
least_with (Some t) (Some l) o w = refl
least_with None (Some l) None w = absurd w.fact
least_with None (Some l) (Some n) w = absurd w.fact
least_with (Some t) None None w = absurd w.fact
least_with (Some t) None (Some n) w = absurd w.fact

next_with : (t l o : Option ℕ) → InWindow t l o → is_some o ≡ true → is_some t ≡ true
next_with t l None w e = cc
next_with (Some t) l (Some n) w e = refl
next_with None None (Some n) w e = absurd w.fact
next_with None (Some l) (Some n) w e = absurd w.fact

count_few : (out : ℕ → Bool) (ps : List Taken) → count_in out ps ≤ length ps
count_few out [] = omega arith
count_few out (p ∷ ps) = split (λ (n : ℕ). n ≤ length (p ∷ ps)) (out p.number) (count_in out ps) (count_in out ps + 1) (λ _. omega (arith, count_few out ps)) (λ _. omega (arith, count_few out ps))

-- a held packet was accepted and is not out
some_found : (b : Bool) (o : Option Held) → IsSome (if b then None else o) → (b ≡ false) × (is_some o ≡ true)
some_found true o e = cc
some_found false None e = cc
some_found false (Some x) e = (refl, refl)

pub held_facts : NumbersLieBetween → (s : State) (ps : List Taken) (o : Option ℕ) (out : ℕ → Bool) (q : ℕ) → Placed s ps o out → IsSome (map.get s.held q) → (out q ≡ false) × (has ps q ≡ true)
held_facts numbers s ps o out q p e =
    let x : (out q ≡ false) × (is_some (found s.settings ps q) ≡ true) = some_found (out q) (found s.settings ps q) (subst (λ (y : Option Held). IsSome y) (p.held_are q) e) in
    (x.0, sym (numbers.found_is s.settings ps q) ∙ x.1)

not_late : (ps : List Taken) (o : Option ℕ) (out : ℕ → Bool) (q : ℕ) → IsGiven ps o out q → out q ≡ false → has ps q ≡ true → is_late o q ≡ false
not_late ps o out q g not_out is =
    elim (is_late o q) as (λ b. is_late o q ≡ b → is_late o q ≡ false) [
      | true ↦ λ e. let bad : out q ≡ true = g.fact is e in cc
      | false ↦ λ e. e
    ] refl

has_some : (ps : List Taken) (q : ℕ) → has ps q ≡ true → is_some (top ps) ≡ true
has_some [] q e = cc
has_some (p ∷ ps) q e = refl

next_to : (t l o : Option ℕ) → InWindow t l o → ForSome o (λ n. n ≤ unwrap_or t 0 + 1)
next_to t l None w x e = cc
next_to None None (Some n) w x e = absurd w.fact
next_to None (Some l) (Some n) w x e = absurd w.fact
next_to (Some t) None (Some n) w x e = absurd w.fact
next_to (Some t) (Some l) (Some n) w x e = let same : n ≡ x = cc in let le : n ≤ t + 1 = w.fact.1 in omega arith

top_has : (ps : List Taken) (t : ℕ) → is_some (top ps) ≡ true → unwrap_or (top ps) 0 ≡ t → has ps t ≡ true
top_has [] t some e = cc
top_has (p ∷ []) t some e = let is : t ≡ p.number = omega arith in grind (arith, common_steps)
top_has (p ∷ q ∷ ps) t some e =
    elim (t == p.number) as (λ b. (t == p.number) ≡ b → (b || has (q ∷ ps) t) ≡ true) [
      | true ↦ λ _. refl
      | false ↦ λ f. let other : t ≢ p.number = grind (arith, common_steps) in top_has (q ∷ ps) t refl (omega arith)
    ] refl

-- the greatest accepted number is held, unless it is out
held_top : NumbersLieBetween → (s : State) (ps : List Taken) (o : Option ℕ) (out : ℕ → Bool) (t : ℕ) → Placed s ps o out → (out t ≡ true → is_late o t ≡ true) → top ps ≡ Some t → is_late o t ≡ false → is_some (map.get s.held t) ≡ true
held_top numbers s ps o out t p late e not_yet =
    let in_here : out t ≡ false = elim (out t) as (λ b. out t ≡ b → b ≡ false) [ true ↦ λ f. (let bad : is_late o t ≡ true = late f in cc) | false ↦ λ _. refl ] refl in
    ap is_some (p.held_are t) ∙ rw in_here (numbers.found_is s.settings ps t ∙ top_has ps t (ap is_some e) (ap (λ (x : Option ℕ). unwrap_or x 0) e))

-- a state that has a segment
pub segment_bounded : NumbersLieBetween → (s : State) (ps : List Taken) (o : Option ℕ) (out : ℕ → Bool) (served : ℕ → ℕ) → IsTimely s → Placed s ps o out → Clocked s ps → Marked s ps o → Requested s ps o served → IsSegment ps o out → IsBounded s
segment_bounded numbers s ps o out served timely p c m q g =
    let are : AreTops (length ps) (top ps) (least ps) = numbers.tops ps g.numbered in
    record {
      fitted = record { rate = c.rate_is; mode = c.mode_is };
      timely = timely;
      above = rw p.top_is (top_above _ _ _ are);
      below = rw p.top_is (top_below _ _ _ are g.few);
      least = rw p.least_is (least_below _ _ _ are g.few);
      next = rw p.next_is (next_below _ _ _ _ are g.few g.window);
      first = λ t e. first_small s.settings ps t (sym m.first_is ∙ e);
      window = rw (p.next_is, p.top_is) (window_after _ _ _ g.window);
      next_top = rw (p.next_is, p.top_is) (next_to _ _ _ g.window);
      first_window = rw (p.next_is, p.top_is, p.least_is) (first_after _ _ _ g.window);
      least_known = rw (p.least_is, p.top_is) (least_with _ _ o g.window);
      next_known = rw (p.next_is, p.top_is) (next_with _ _ _ g.window);
      count = omega (arith, p.count_is, count_few out ps, g.few);
      least_top = rw (p.least_is, p.top_is) (least_to _ _ _ are);
      started = λ e. ap is_some c.stands.estimated ∙ some_estimate s.skew.rate s.skew.mode ps g.rooted (sym (ap is_some p.top_is) ∙ e);
      few = omega (arith, c.stands.counts, length-skew (heights ps), few_heights ps, g.few);
      heights = rw m.marks_are (marks_bounded _ _ (top_under _ _ _ are g.few) (two_to _ o _ (marks_to s.settings ps)));
      falling = rw m.marks_are (kept_order s.settings o ps);
      room = rw m.marks_are (kept_room s.settings o ps g.window);
      stamps = rw q.peaks_are (peaks_bounded o ps g.numbered);
      rising = rw q.peaks_are (peaks_order o ps g.numbered);
      peaks_room = rw q.peaks_are (peaks_room o ps g.numbered g.window);
      places = q.places;
      reach = rw p.next_is (peaks_reach o s.span.top ps s.peaks q.peaks_are p.top_is);
      top_held = λ t e late. held_top numbers s ps o out t p (g.late t) (sym p.top_is ∙ e) (rw p.next_is at late);
      held_from = λ q e. let x : (out q ≡ false) × (has ps q ≡ true) = held_facts numbers s ps o out q p e in
          rw (p.next_is, p.least_is) (not_late ps o out q (g.given q) x.0 x.1, numbers.from ps q x.1);
      held_to = λ q e. let x : (out q ≡ false) × (has ps q ≡ true) = held_facts numbers s ps o out q p e in
          rw p.top_is (has_some ps q x.1, numbers.to ps q x.1);
    }

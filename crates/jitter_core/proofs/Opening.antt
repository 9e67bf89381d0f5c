-- A segment is opened by the packets of a run, one after another.
use Rattle.std.proofs.Common.{ℕ, ◌≡◌, ◌+◌, ◌≤◌, ◌<◌, true, false, refl, sym, ap, subst, ◌∙◌, List, [], ◌∷◌, ◌++◌, append_assoc, length-append, drop, Option, None, Some, arith, length, min}
use Rattle.std.specs.Prelude.{is_some, unwrap_or, option_map, slice_get}
use Rattle.std.specs.FinMap as map
use Rattle.std.proofs.lemmas.Grind.{common_steps}
use Rattle.jitter_model.specs.declared.Arrival.{Arrival}
use Rattle.jitter_model.specs.declared.Held.{Held}
use Rattle.jitter_model.specs.Accepted.{top, least, has, number_from, is_original, opened}
use Rattle.jitter_model.specs.Verdicts.{is_full, opened_number}
use Rattle.jitter_model.specs.Times.{found}
use Rattle.jitter_model.specs.Laws.{IsRun}
use Rattle.jitter_core.specs.declared.state.State.{State}
use Rattle.jitter_core.specs.Asides.{newest_first}
use Rattle.jitter_core.specs.Steps.{IsTimely, IsBounded, CanAccept, Accepts, state_number}
use Rattle.jitter_core.specs.Pushing.{IsOpenedBy}
use Rattle.jitter_core.proofs.Accepting.{placed_accept, clocked_accept, marked_accept, requested_accept}
use Rattle.jitter_core.proofs.Asides.{run_end}
use Rattle.jitter_core.proofs.Bounds.{opened_segment, segment_bounded}
use Rattle.jitter_model.specs.Numbered.{IsOpened}
use Rattle.jitter_core.proofs.Cases.{run_rest}
use Rattle.jitter_model.specs.Known.{NumbersLieBetween}

-- ---- what the next packet of a run finds

none_of : (o : Option Held) → is_some o ≡ false → o ≡ None
none_of None e = refl
none_of (Some x) e = cc

not_full : (t l : Option ℕ) (first count n : ℕ) → t ≡ Some (first + count) → l ≡ Some first → count ≤ 4 → n ≡ first + count + 1 → is_full t l None n ≡ false
not_full t l first count n et el few en = rw (et, el, en) (grind (arith, common_steps))

-- the first number stays
first_same : (done : List Arrival) (d a : Arrival) (x : IsOpened done d) (y : IsOpened (d ∷ done) a) → y.first ≡ x.first
first_same done d a x y =
    let least_is : Some y.first ≡ Some (min (opened_number (d ∷ done) a) x.first) = sym y.least_is ∙ ap (λ (l : Option ℕ). Some (min (opened_number (d ∷ done) a) (unwrap_or l (opened_number (d ∷ done) a)))) x.least_is in
    let is : y.first ≡ min (opened_number (d ∷ done) a) x.first = cc in
    let above : x.first + length done < opened_number (d ∷ done) a = omega (arith, y.above, ap (λ (o : Option ℕ). unwrap_or o 0) x.top_is) in
    omega arith

room_after : NumbersLieBetween → (done : List Arrival) (a : Arrival) → IsRun (a ∷ done) → length done ≤ 4 → is_full (top (opened done)) (least (opened done)) None (opened_number done a) ≡ false
room_after numbers [] a r few = refl
room_after numbers (d ∷ done) a r few =
    let x : IsOpened done d = numbers.opened_is done d (run_rest a (d ∷ done) r) in
    let y : IsOpened (d ∷ done) a = numbers.opened_is (d ∷ done) a r in
    let same : y.first ≡ x.first = first_same done d a x y in
    not_full (top (opened (d ∷ done))) (least (opened (d ∷ done))) x.first (length done) (opened_number (d ∷ done) a) x.top_is x.least_is (omega arith) (omega (arith, y.number_is, same))

run_original : (done : List Arrival) (a : Arrival) → IsRun (a ∷ done) → is_original a.origin ≡ true
run_original [] a r = r.1
run_original (d ∷ done) a r = r.1

pub can_accept : NumbersLieBetween → (s : State) (done : List Arrival) (a : Arrival) → IsOpenedBy s done → IsRun (a ∷ done) → length done ≤ 4 → CanAccept s a (state_number s a)
can_accept numbers s done a o r few =
    let number : state_number s a ≡ opened_number done a = ap (λ (t : Option ℕ). number_from t a.packet.seq) o.placed.top_is in
    let above : unwrap_or (top (opened done)) 0 < opened_number done a = (numbers.opened_is done a r).above in
    let absent : has (opened done) (opened_number done a) ≡ false = numbers.above (opened done) (opened_number done a) above in
    record {
      late = rw o.placed.next_is refl;
      full = rw (number, o.placed.next_is, o.placed.top_is, o.placed.least_is) (room_after numbers done a r few);
      fresh = ap (λ (n : ℕ). map.get s.held n) number ∙ o.placed.held_are (opened_number done a) ∙ none_of (found s.settings (opened done) (opened_number done a)) (numbers.found_is s.settings (opened done) (opened_number done a) ∙ absent);
      original = λ _. run_original done a r;
    }

pub opened_bounded : NumbersLieBetween → (s : State) (done : List Arrival) → IsTimely s → IsOpenedBy s done → IsRun done → length done ≤ 5 → IsBounded s
opened_bounded numbers s done timely o r few = segment_bounded numbers s (opened done) None (λ q. false) (λ q. 0) timely o.placed o.clocked o.marked o.requested (opened_segment numbers done r few)

-- ---- one step

pub next_opened : (old new : State) (done : List Arrival) (a : Arrival) → IsOpenedBy old done → new.settings ≡ old.settings → Accepts old new a (state_number old a) → IsOpenedBy new (a ∷ done)
next_opened old new done a o same r =
    record {
      placed = placed_accept old new (opened done) None (λ q. false) a same o.placed o.clocked o.marked r refl;
      clocked = clocked_accept old new (opened done) None a same o.placed.top_is o.clocked o.marked r;
      marked = marked_accept old new (opened done) None a same o.placed.next_is o.placed.top_is o.clocked o.marked r;
      requested = requested_accept old new (opened done) None (λ q. 0) a o.placed.next_is o.placed.top_is o.requested r;
    }

-- the packets that are left, one fewer, and those that are done, one more
pub one_less : (x : ℕ × Arrival) (xs : List (ℕ × Arrival)) (done all : List Arrival) → newest_first (x ∷ xs) ++ done ≡ all → newest_first xs ++ x.1 ∷ done ≡ all
one_less x xs done all e = sym (append_assoc (newest_first xs) (x.1 ∷ []) done) ∙ e

-- the list after its first packet was taken
abbrev pub first_of : List (ℕ × Arrival) → Option Arrival
first_of xs = option_map (λ x. x.1) (slice_get xs 0)

pub one_step : (xs : List (ℕ × Arrival)) (a : Arrival) (done all : List Arrival) → Some a ≡ first_of xs → newest_first xs ++ done ≡ all → newest_first (drop 1 xs) ++ a ∷ done ≡ all
one_step [] a done all e s = cc
one_step (x ∷ xs) a done all e s = let is : x.1 ≡ a = cc in subst (λ (b : Arrival). newest_first xs ++ b ∷ done ≡ all) is (one_less x xs done all s)

pub none_left : (xs : List (ℕ × Arrival)) (done all : List Arrival) → None ≡ first_of xs → newest_first xs ++ done ≡ all → done ≡ all
none_left [] done all e s = s
none_left (x ∷ xs) done all e s = cc

pub end_short : (newer older all : List Arrival) → newer ++ older ≡ all → length older ≤ length all
end_short newer older all e = omega (arith, length-append newer older, ap (λ (xs : List Arrival). length xs) e)

pub run_left : (newer older all : List Arrival) → newer ++ older ≡ all → IsRun all → IsRun older
run_left newer older all e r = run_end newer older (subst IsRun (sym e) r)

-- Lanes that pass tick, in order; the steps of a record.
use Rattle.std.proofs.Common.{ℕ, zero, suc, ◌≡◌, ◌≢◌, ◌+◌, ◌-◌, ◌<◌, ◌≤◌, Bool, true, false, not, refl, sym, ap, subst, ◌∙◌, List, [], ◌∷◌, ◌++◌, length, arith}
use Rattle.std.specs.Prelude.{◌==◌, ◌||◌, nat_lt, nat_le, slice_get, if◌then◌else◌}
use Rattle.std.specs.List.{list_any}
use Rattle.std.proofs.lemmas.Grind.{common_steps}
use Rattle.script_lang.specs.Contents.{Contents}
use Rattle.timeline.specs.declared.line.BinLine.{BinLine}
use Rattle.front_model.specs.declared.Opening.{Opening}
use Rattle.front_model.specs.declared.Step.{Step}
use Rattle.front_model.specs.Events.{FrontEvent}
use Rattle.front_model.specs.Steps.{steps}
use Rattle.rtp_front.specs.Standing.{StandsFor as FrontStandsFor}
use Rattle.replay_model.specs.Events.{Timeline, Fronted, front, openings}
use Rattle.replay_model.specs.Lanes.{lane_count, opening_or, opened}
use Rattle.replay_model.specs.Turning.{ticked}
use Rattle.replay_model.specs.Acting.{ticked_where}
use Rattle.replay_model.specs.Taking.{touches, is_touched, stepped, all_stepped, taken}
use Rattle.bin_core.proofs.Timelines.{where_yes, where_not}
use Rattle.lane_core.specs.Lanes.{Base}
use Rattle.lane_core.specs.AllLanes.{all_resting, resting_and}
use Rattle.bin_core.specs.declared.stage.Stage.{Stage}
use Rattle.bin_core.specs.Stages.{StageTells, AreApart, AreAllApart, Does, DoesAll, Ticks, TicksListed}
use Rattle.bin_core.specs.Touching.{is_listed, IsNextListed}
use Rattle.bin_core.proofs.Cases.{by_cases, any_then, first_not, second_not}
use Rattle.bin_core.proofs.Staging.{fronted_tells, tells_fewer}
use Rattle.replay_model.specs.Keeping.{TimelinesKeep}
use Rattle.lane_core.specs.Beside.{LanesStandBeside}

-- how lanes began is one function where the openings are the same
pub opened_same : (c : Contents) (old new : Timeline) → openings new ≡ openings old → opened c new ≡ opened c old
opened_same c old new e = ap (λ (os : List Opening). λ (l : ℕ). opening_or c l (slice_get os l)) e

-- those that don't tick, and those before a number
abbrev pub resting_below : (ℕ → Bool) → ℕ → ℕ → Bool
resting_below passes i k = not (passes k) || nat_lt k i

-- on the way
abbrev pub TicksBelow : ℕ → List ℕ → ℕ → Stage → Stage → List BinLine → List BinLine → Type 0
TicksBelow t touched i old new before after =
    (c : Contents) (base : Base) (tl : Timeline)
    → StageTells c base (λ k. not (is_listed touched k)) old before tl
    → StageTells c base (resting_below (is_listed touched) i) new after (ticked_where c (opened c tl) t (is_listed touched) i tl)

none_below : (a : Bool) (k : ℕ) → (a || nat_lt k 0) ≡ true → a ≡ true
none_below true k e = refl
none_below false k e = absurd (let lt : k < 0 = grind (arith, common_steps) in omega (arith, lt))

pub ticks_none : LanesStandBeside → (t : ℕ) (touched : List ℕ) (s : Stage) (before : List BinLine) → TicksBelow t touched 0 s s before before
ticks_none beside_law t touched s before c base tl h =
    tells_fewer beside_law c base (λ k. not (is_listed touched k)) (resting_below (is_listed touched) 0) s before tl
    (λ k lt e. none_below (not (is_listed touched k)) k e) h

below_next : (passes : ℕ → Bool) (i k : ℕ) → k ≢ i → resting_below passes (suc i) k ≡ true → resting_below passes i k ≡ true
below_next passes i k ne e = by_first (not (passes k)) e
  where
    by_first : (a : Bool) → (a || nat_lt k (suc i)) ≡ true → (a || nat_lt k i) ≡ true
    by_first true e = refl
    by_first false e = let lt : k < suc i = grind (arith, common_steps) in let lt : k < i = omega arith in grind (arith, common_steps)

pub and_other : (resting : ℕ → Bool) (n k : ℕ) → (k ≢ n → resting k ≡ true) → resting_and n resting k ≡ true
and_other resting n k other = by_both (k == n) refl
  where
    by_both : (b : Bool) → (k == n) ≡ b → (if b then true else resting k) ≡ true
    by_both true e = refl
    by_both false e = other (let ne : k ≢ n = grind (arith, common_steps) in ne)

pub ticks_yes :
    TimelinesKeep → LanesStandBeside
    → (t i j : ℕ) (touched : List ℕ) (s mid new : Stage) (before between after : List BinLine)
    → j ≡ i + 1 → is_listed touched i ≡ true
    → Ticks t i mid new between after
    → TicksBelow t touched i s mid before between
    → TicksBelow t touched j s new before after
ticks_yes keeping beside_law t i j touched s mid new before between after next hit tick h c base tl tells =
    let passes : ℕ → Bool = is_listed touched in
    let now : Timeline = ticked_where c (opened c tl) t passes i tl in
    let same : opened c now ≡ opened c tl = opened_same c tl now (keeping.ticks.openings_are c (opened c tl) t passes i tl) in
    let one : StageTells c base (resting_and i (resting_below passes i)) new after (ticked c (opened c now) t i now) = tick c base (resting_below passes i) now (h c base tl tells) in
    let there : StageTells c base (resting_and i (resting_below passes i)) new after (ticked_where c (opened c tl) t passes (suc i) tl) =
    subst (λ (x : Timeline). StageTells c base (resting_and i (resting_below passes i)) new after x)
    (ap (λ (o : ℕ → Opening). ticked c o t i now) same ∙ sym (where_yes c (opened c tl) t passes i tl hit)) one in
    let num : suc i ≡ j = omega (arith, next) in
    subst (λ (n : ℕ). StageTells c base (resting_below passes n) new after (ticked_where c (opened c tl) t passes n tl)) num
    (tells_fewer beside_law c base (resting_and i (resting_below passes i)) (resting_below passes (suc i)) new after (ticked_where c (opened c tl) t passes (suc i) tl)
    (λ k lt e. and_other (resting_below passes i) i k (λ ne. below_next passes i k ne e)) there)

pub ticks_not :
    LanesStandBeside
    → (t i j : ℕ) (touched : List ℕ) (s mid : Stage) (before between : List BinLine)
    → j ≡ i + 1 → is_listed touched i ≡ false
    → TicksBelow t touched i s mid before between
    → TicksBelow t touched j s mid before between
ticks_not beside_law t i j touched s mid before between next miss h c base tl tells =
    let passes : ℕ → Bool = is_listed touched in
    let num : suc i ≡ j = omega (arith, next) in
    subst (λ (n : ℕ). StageTells c base (resting_below passes n) mid between (ticked_where c (opened c tl) t passes n tl)) num
    (subst (λ (x : Timeline). StageTells c base (resting_below passes (suc i)) mid between x) (sym (where_not c (opened c tl) t passes i tl miss))
    (tells_fewer beside_law c base (resting_below passes i) (resting_below passes (suc i)) mid between (ticked_where c (opened c tl) t passes i tl)
    (λ k lt e. by_cases (k == i)
    (λ q. let at : k ≡ i = grind (arith, common_steps) in
    let out : passes k ≡ false = ap passes at ∙ miss in
    ap (λ (b : Bool). not b || nat_lt k i) out)
    (λ q. let ne : k ≢ i = grind (arith, common_steps) in below_next passes i k ne e))
    (h c base tl tells)))

-- none of these lanes is listed
pub ticks_gap :
    LanesStandBeside
    → (d t i j : ℕ) (touched : List ℕ) (s mid : Stage) (before between : List BinLine)
    → j ≡ i + d → ((k : ℕ) → i ≤ k → k < j → is_listed touched k ≡ false)
    → TicksBelow t touched i s mid before between
    → TicksBelow t touched j s mid before between
ticks_gap beside_law zero t i j touched s mid before between next none h =
    let same : i ≡ j = omega (arith, next) in
    subst (λ (n : ℕ). TicksBelow t touched n s mid before between) same h
ticks_gap beside_law (suc d) t i j touched s mid before between next none h =
    ticks_gap beside_law d t (i + 1) j touched s mid before between (omega (arith, next)) (λ k le lt. none k (omega (arith, le)) lt)
    (ticks_not beside_law t i (i + 1) touched s mid before between refl (none i (omega arith) (omega (arith, next))) h)

-- the next listed lane is found
pub ticks_to :
    LanesStandBeside
    → (t i j end : ℕ) (touched : List ℕ) (s mid : Stage) (before between : List BinLine)
    → IsNextListed touched i end j
    → TicksBelow t touched i s mid before between
    → TicksBelow t touched j s mid before between
ticks_to beside_law t i j end touched s mid before between found h =
    ticks_gap beside_law (j - i) t i j touched s mid before between (omega (arith, found.onward)) found.between h

pub ticks_all :
    LanesStandBeside
    → (t i : ℕ) (touched : List ℕ) (s new : Stage) (before after : List BinLine)
    → i ≡ length s.lanes.items → length new.lanes.items ≡ length s.lanes.items
    → TicksBelow t touched i s new before after
    → TicksListed t touched s new before after
ticks_all beside_law t i touched s new before after at same h c base tl tells =
    let passes : ℕ → Bool = is_listed touched in
    let num : i ≡ lane_count tl = at ∙ tells.count in
    subst (λ (n : ℕ). StageTells c base all_resting new after (ticked_where c (opened c tl) t passes n tl)) num
    (tells_fewer beside_law c base (resting_below passes i) all_resting new after (ticked_where c (opened c tl) t passes i tl)
    (λ k lt e. let below : k < i = omega (arith, lt, at, same) in
    let is : nat_lt k i ≡ true = grind (arith, common_steps) in
    either (not (passes k)) (nat_lt k i) is)
    (h c base tl tells))
  where
    either : (a b : Bool) → b ≡ true → (a || b) ≡ true
    either true b e = refl
    either false b e = e

-- ---- steps in order

pub does_none : (t : ℕ) (s : Stage) (before : List BinLine) → DoesAll t [] s s before before
does_none t s before c base resting tl apart h = h

stepped_then : (c : Contents) (t : ℕ) (xs : List Step) (x : Step) (tl : Timeline) → all_stepped c t (xs ++ x ∷ []) tl ≡ stepped c t x (all_stepped c t xs tl)
stepped_then c t [] x tl = refl
stepped_then c t (y ∷ xs) x tl = stepped_then c t xs x (stepped c t y tl)

pub apart_more : (resting : ℕ → Bool) (n m : ℕ) (x : Step) → n ≤ m → AreApart resting n x → AreApart resting m x
apart_more resting n m x le h k r = ((h k r).0, omega (arith, (h k r).1, le))

pub does_more :
    TimelinesKeep
    → (t : ℕ) (xs more : List Step) (x : Step) (s mid new : Stage) (before between after : List BinLine)
    → more ≡ xs ++ x ∷ []
    → Does t x mid new between after
    → DoesAll t xs s mid before between
    → DoesAll t more s new before after
does_more keeping t xs more x s mid new before between after is does h =
    subst (λ (ys : List Step). DoesAll t ys s new before after) (sym is) all
  where
    all : DoesAll t (xs ++ x ∷ []) s new before after
    all c base resting tl apart tells =
        let now : Timeline = all_stepped c t xs tl in
        let first : AreAllApart resting (length s.lanes.items) xs =
        λ k r. (first_not (list_any (touches k) xs) (touches k x) (sym (any_then (touches k) xs x) ∙ (apart k r).0), (apart k r).1) in
        let there : StageTells c base resting mid between now = h c base resting tl first tells in
        let grown : lane_count tl ≤ lane_count now = keeping.steps.lanes_stay c t xs tl in
        let last : AreApart resting (length mid.lanes.items) x =
        λ k r. (second_not (list_any (touches k) xs) (touches k x) (sym (any_then (touches k) xs x) ∙ (apart k r).0), let lt : k < length s.lanes.items = (apart k r).1 in omega (arith, lt, tells.count, there.count, grown)) in
        subst (λ (y : Timeline). StageTells c base resting new after y) (sym (stepped_then c t xs x tl)) (does c base resting now last there)

-- ---- a record

pub where_same : (c : Contents) (o : ℕ → Opening) (t count : ℕ) (f g : ℕ → Bool) (tl : Timeline) → ((k : ℕ) → k < count → f k ≡ g k) → ticked_where c o t f count tl ≡ ticked_where c o t g count tl
where_same c o t zero f g tl same = refl
where_same c o t (suc k) f g tl same =
    let at : f k ≡ g k = same k (omega arith) in
    let before : ticked_where c o t f k tl ≡ ticked_where c o t g k tl = where_same c o t k f g tl (λ n lt. same n (omega (arith, lt))) in
    by_cases (f k)
    (λ e. where_yes c o t f k tl e ∙ ap (ticked c o t k) before ∙ sym (where_yes c o t g k tl (sym at ∙ e)))
    (λ e. where_not c o t f k tl e ∙ before ∙ sym (where_not c o t g k tl (sym at ∙ e)))

pub not_true : (b : Bool) → not b ≡ true → b ≡ false
not_true true e = cc
not_true false e = refl

-- Something comes to the front, its steps are done, and the lanes that they touched tick.
pub takes :
    LanesStandBeside
    → (c : Contents) (base : Base) (s one two new : Stage) (t : ℕ) (e : FrontEvent) (xs : List Step) (touched : List ℕ) (before mid after : List BinLine) (tl : Timeline)
    → one.lanes.items ≡ s.lanes.items → one.sync ≡ s.sync → one.standings ≡ s.standings
    → FrontStandsFor one.front c (e ∷ front tl)
    → xs ≡ steps c (front tl) e
    → ((k : ℕ) → k < length two.lanes.items → is_listed touched k ≡ is_touched (length s.lanes.items) xs k)
    → DoesAll t xs one two before mid
    → TicksListed t touched two new mid after
    → StageTells c base all_resting s before tl
    → StageTells c base all_resting new after (taken c t e tl)
takes beside_law c base s one two new t e xs touched before mid after tl lanes_are sync_is standings_are fronts is passes does ticks h =
    subst (λ (x : Timeline). StageTells c base all_resting new after x) same (ticks c base there listed)
  where
    resting : ℕ → Bool
    resting = λ k. not (is_touched (length s.lanes.items) xs k)

    started : StageTells c base resting one before (Fronted t e ∷ tl)
    started =
        tells_fewer beside_law c base all_resting resting one before (Fronted t e ∷ tl) (λ k lt r. refl)
        (fronted_tells beside_law c base all_resting s one t e before tl lanes_are sync_is standings_are fronts h)

    there : Timeline
    there = all_stepped c t xs (Fronted t e ∷ tl)

    apart : AreAllApart resting (length one.lanes.items) xs
    apart k r =
        let out : is_touched (length s.lanes.items) xs k ≡ false = not_true (is_touched (length s.lanes.items) xs k) r in
        let below : nat_le (length s.lanes.items) k ≡ false = first_not (nat_le (length s.lanes.items) k) (list_any (touches k) xs) out in
        let lt : k < length s.lanes.items = grind (arith, common_steps) in
        (second_not (nat_le (length s.lanes.items) k) (list_any (touches k) xs) out, subst (λ (ls : ℕ). k < ls) (sym (ap (λ x. length x) lanes_are)) lt)

    done : StageTells c base resting two mid there
    done = does c base resting (Fronted t e ∷ tl) apart started

    listed : StageTells c base (λ k. not (is_listed touched k)) two mid there
    listed = tells_fewer beside_law c base resting (λ k. not (is_listed touched k)) two mid there (λ k lt r. ap not (sym (passes k lt)) ∙ r) done

    touched_is : (k : ℕ) → k < lane_count there → is_listed touched k ≡ is_touched (lane_count tl) xs k
    touched_is k lt = passes k (omega (arith, lt, done.count)) ∙ ap (λ (n : ℕ). is_touched n xs k) h.count

    same : ticked_where c (opened c there) t (is_listed touched) (lane_count there) there ≡ taken c t e tl
    same =
        where_same c (opened c there) t (lane_count there) (is_listed touched) (is_touched (lane_count tl) xs) there touched_is
        ∙ ap (λ (ys : List Step). ticked_where c (opened c (all_stepped c t ys (Fronted t e ∷ tl))) t (is_touched (lane_count tl) ys) (lane_count (all_stepped c t ys (Fronted t e ∷ tl))) (all_stepped c t ys (Fronted t e ∷ tl))) is

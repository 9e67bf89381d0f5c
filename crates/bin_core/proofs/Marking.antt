-- Lists of lanes, and lists of steps that only tell.
use Rattle.std.proofs.Common.{ℕ, zero, suc, ◌≡◌, ◌≢◌, ◌+◌, ◌<◌, ◌≤◌, Bool, true, false, refl, sym, ap, subst, ◌∙◌, List, [], ◌∷◌, ◌++◌, take, None, Some, length, arith}
use Rattle.std.specs.Prelude.{◌||◌, ◌==◌, get_or, nat_le}
use Rattle.std.specs.List.{list_any}
use Rattle.std.proofs.lemmas.Grind.{common_steps}
use Rattle.std.proofs.lemmas.List.{append_assoc, append-nil, take_all, take_more}
use Rattle.timeline.specs.declared.line.BinLine.{BinLine}
use Rattle.front_model.specs.declared.Step.{Step}
use Rattle.front_model.specs.declared.Step.TheVariants as step
use Rattle.replay_model.specs.Taking.{touches}
use Rattle.lane_core.specs.declared.lane.Lane.{Lane}
use Rattle.replay_sound.specs.Suited.{counts_none}
use Rattle.bin_core.specs.Touching.{is_listed, lane_given_by, IsNextListed}
use Rattle.bin_core.specs.Stages.{AreTold, TellsAll}
use Rattle.bin_core.proofs.Cases.{by_cases, any_then, or_false}

-- ---- lists

-- what a list says of a lane once one is added
pub listed_then : (touched more : List ℕ) (lane k : ℕ) → more ≡ touched ++ lane ∷ [] → is_listed more k ≡ (is_listed touched k || (lane == k))
listed_then touched more lane k e =
    ap (λ (xs : List ℕ). is_listed xs k) e ∙ any_then (λ (n : ℕ). n == k) touched lane

-- ---- the next one

-- the first listed lane of those that were looked at
pub next_first : (from end : ℕ) (touched : List ℕ) → from ≤ end → IsNextListed (take 0 touched) from end end
next_first from end touched le =
    record { onward = le; within = omega arith; listed = λ lt. absurd (omega (arith, lt)); between = λ k _ _. none touched k }
  where
    none : (xs : List ℕ) (k : ℕ) → is_listed (take 0 xs) k ≡ false
    none [] k = refl
    none (x ∷ xs) k = refl

next_then : (seen : List ℕ) (from end next lane k : ℕ) → from ≤ k → k < next → (lane ≡ k → ⊥) → IsNextListed seen from end next → is_listed (seen ++ lane ∷ []) k ≡ false
next_then seen from end next lane k le lt ne h =
    let other : (lane == k) ≡ false = by_cases (lane == k) (λ e. absurd (ne (let eq : lane ≡ k = grind (arith, common_steps) in eq))) (λ e. e) in
    any_then (λ (n : ℕ). n == k) seen lane ∙ ap (λ (b : Bool). b || (lane == k)) (h.between k le lt) ∙ other

pub next_nearer : (touched : List ℕ) (i from end next lane d : ℕ) → i < length touched → lane ≡ get_or touched i d → from ≤ lane → lane < next → IsNextListed (take i touched) from end next → IsNextListed (take (i + 1) touched) from end lane
next_nearer touched i from end next lane d lt is le nearer h =
    subst (λ (xs : List ℕ). IsNextListed xs from end lane) (sym (take_more touched i d lt ∙ ap (λ (x : ℕ). take i touched ++ x ∷ []) (sym is)))
    (record {
      onward = le;
      within = omega (arith, nearer, h.within);
      listed = λ _.
          let here : (lane == lane) ≡ true = grind (arith, common_steps) in
          any_then (λ (n : ℕ). n == lane) (take i touched) lane ∙ ap (λ (b : Bool). is_listed (take i touched) lane || b) here ∙ or_true (is_listed (take i touched) lane);
      between = λ k from_le below. next_then (take i touched) from end next lane k from_le (omega (arith, below, nearer)) (λ e. omega (arith, e, below)) h;
    })
  where
    or_true : (b : Bool) → (b || true) ≡ true
    or_true true = refl
    or_true false = refl

pub next_same : (touched : List ℕ) (i from end next lane d : ℕ) → i < length touched → lane ≡ get_or touched i d → ((from ≤ lane) → (lane < next) → ⊥) → IsNextListed (take i touched) from end next → IsNextListed (take (i + 1) touched) from end next
next_same touched i from end next lane d lt is farther h =
    subst (λ (xs : List ℕ). IsNextListed xs from end next) (sym (take_more touched i d lt ∙ ap (λ (x : ℕ). take i touched ++ x ∷ []) (sym is)))
    (record {
      onward = h.onward;
      within = h.within;
      listed = λ below. any_then (λ (n : ℕ). n == next) (take i touched) lane ∙ ap (λ (b : Bool). b || (lane == next)) (h.listed below);
      between = λ k from_le below. next_then (take i touched) from end next lane k from_le below (λ e. farther (omega (arith, e, from_le)) (omega (arith, e, below))) h;
    })

pub next_all : (touched : List ℕ) (i from end next : ℕ) → length touched ≤ i → IsNextListed (take i touched) from end next → IsNextListed touched from end next
next_all touched i from end next le h = subst (λ (xs : List ℕ). IsNextListed xs from end next) (take_all i touched le) h

-- ---- lanes that steps give something

pub given_is : (x : Step) (lane k : ℕ) → lane_given_by x ≡ Some lane → touches k x ≡ (lane == k)
given_is (step.Tell line) lane k e = absurd cc
given_is (step.Open o) lane k e = absurd cc
given_is (step.Push l a) lane k e = ap (λ (n : ℕ). n == k) (some_is e)
  where
    some_is : Some l ≡ Some lane → l ≡ lane
    some_is q = cc
given_is (step.Sync l r) lane k e = ap (λ (n : ℕ). n == k) (some_is e)
  where
    some_is : Some l ≡ Some lane → l ≡ lane
    some_is q = cc

pub given_none : (x : Step) (k : ℕ) → lane_given_by x ≡ None → touches k x ≡ false
given_none (step.Tell line) k e = refl
given_none (step.Open o) k e = refl
given_none (step.Push l a) k e = absurd cc
given_none (step.Sync l r) k e = absurd cc

-- the steps so far
abbrev pub Lists : List ℕ → List Step → ℕ → Type 0
Lists touched steps i = (k : ℕ) → is_listed touched k ≡ list_any (touches k) (take i steps)

pub lists_none : (touched : List ℕ) (steps : List Step) → touched ≡ [] → Lists touched steps 0
lists_none touched steps e k = ap (λ (xs : List ℕ). is_listed xs k) e ∙ none steps
  where
    none : (xs : List Step) → false ≡ list_any (touches k) (take 0 xs)
    none [] = refl
    none (x ∷ xs) = refl

any_next : (steps : List Step) (i k : ℕ) (x : Step) → i < length steps → x ≡ get_or steps i x → list_any (touches k) (take (i + 1) steps) ≡ (list_any (touches k) (take i steps) || touches k x)
any_next steps i k x lt is =
    ap (list_any (touches k)) (take_more steps i x lt ∙ ap (λ (y : Step). take i steps ++ y ∷ []) (sym is))
    ∙ any_then (touches k) (take i steps) x

pub lists_one : (touched more : List ℕ) (steps : List Step) (i lane : ℕ) (x : Step) → i < length steps → x ≡ get_or steps i x → lane_given_by x ≡ Some lane → more ≡ touched ++ lane ∷ [] → Lists touched steps i → Lists more steps (i + 1)
lists_one touched more steps i lane x lt is given added h k =
    listed_then touched more lane k added
    ∙ ap (λ (b : Bool). b || (lane == k)) (h k)
    ∙ ap (λ (b : Bool). list_any (touches k) (take i steps) || b) (sym (given_is x lane k given))
    ∙ sym (any_next steps i k x lt is)

pub lists_other : (touched : List ℕ) (steps : List Step) (i : ℕ) (x : Step) → i < length steps → x ≡ get_or steps i x → lane_given_by x ≡ None → Lists touched steps i → Lists touched steps (i + 1)
lists_other touched steps i x lt is none h k =
    h k ∙ sym (or_false (list_any (touches k) (take i steps)))
    ∙ ap (λ (b : Bool). list_any (touches k) (take i steps) || b) (sym (given_none x k none))
    ∙ sym (any_next steps i k x lt is)

pub lists_all : (touched : List ℕ) (steps : List Step) (i : ℕ) → length steps ≤ i → Lists touched steps i → (k : ℕ) → is_listed touched k ≡ list_any (touches k) steps
lists_all touched steps i le h k = h k ∙ ap (list_any (touches k)) (take_all i steps le)

-- ---- numbers in a row

pub row_none : (touched : List ℕ) (from k : ℕ) → k < from → is_listed touched k ≡ (nat_le from k || is_listed touched k)
row_none touched from k lt =
    let other : nat_le from k ≡ false = grind (arith, common_steps) in
    sym (ap (λ (b : Bool). b || is_listed touched k) other)

pub row_more : (old touched more : List ℕ) (from i k : ℕ) → from ≤ i → k < i + 1 → more ≡ touched ++ i ∷ [] → (k < i → is_listed touched k ≡ (nat_le from k || is_listed old k)) → is_listed more k ≡ (nat_le from k || is_listed old k)
row_more old touched more from i k le lt added h =
    by_cases (i == k)
    (λ e. let past : nat_le from k ≡ true = grind (arith, common_steps) in
    listed_then touched more i k added ∙ ap (λ (b : Bool). is_listed touched k || b) e ∙ or_true (is_listed touched k)
    ∙ sym (ap (λ (b : Bool). b || is_listed old k) past))
    (λ e. let ne : i ≢ k = grind (arith, common_steps) in
    listed_then touched more i k added ∙ ap (λ (b : Bool). is_listed touched k || b) e ∙ or_false (is_listed touched k)
    ∙ h (omega (arith, lt, ne)))
  where
    or_true : (b : Bool) → (b || true) ≡ true
    or_true true = refl
    or_true false = refl

-- ---- lanes of which something holds

-- among so many
pub record Meant (touched : List ℕ) (n : ℕ) (f : ℕ → Bool) : Type 0 where
  pub before : (k : ℕ) → k < n → is_listed touched k ≡ f k
  pub behind : (k : ℕ) → n ≤ k → is_listed touched k ≡ false

pub meant_none : (touched : List ℕ) (f : ℕ → Bool) → touched ≡ [] → Meant touched 0 f
meant_none touched f e = record { before = λ k lt. absurd (omega (arith, lt)); behind = λ k le. ap (λ (xs : List ℕ). is_listed xs k) e }

pub meant_one : (touched more : List ℕ) (n : ℕ) (f : ℕ → Bool) → f n ≡ true → more ≡ touched ++ n ∷ [] → Meant touched n f → Meant more (n + 1) f
meant_one touched more n f is added h =
    record {
      before = λ k lt.
          listed_then touched more n k added
          ∙ by_cases (n == k)
          (λ e. let eq : n ≡ k = grind (arith, common_steps) in
          ap (λ (b : Bool). is_listed touched k || b) e ∙ or_true (is_listed touched k) ∙ sym is ∙ ap f eq)
          (λ e. let ne : n ≢ k = grind (arith, common_steps) in
          ap (λ (b : Bool). is_listed touched k || b) e ∙ or_false (is_listed touched k) ∙ h.before k (omega (arith, lt, ne)));
      behind = λ k le.
          let other : (n == k) ≡ false = grind (arith, common_steps) in
          listed_then touched more n k added ∙ ap (λ (b : Bool). is_listed touched k || b) other ∙ or_false (is_listed touched k) ∙ h.behind k (omega (arith, le));
    }
  where
    or_true : (b : Bool) → (b || true) ≡ true
    or_true true = refl
    or_true false = refl

pub meant_not : (touched : List ℕ) (n : ℕ) (f : ℕ → Bool) → f n ≡ false → Meant touched n f → Meant touched (n + 1) f
meant_not touched n f is h =
    record {
      before = λ k lt.
          by_cases (n == k)
          (λ e. let eq : n ≡ k = grind (arith, common_steps) in h.behind k (omega (arith, eq)) ∙ sym is ∙ ap f eq)
          (λ e. let ne : n ≢ k = grind (arith, common_steps) in h.before k (omega (arith, lt, ne)));
      behind = λ k le. h.behind k (omega (arith, le));
    }

-- the value at a place doesn't hang on what stands for a missing one
pub get_any : (ls : List Lane) (n : ℕ) (d e : Lane) → n < length ls → get_or ls n d ≡ get_or ls n e
get_any [] n d e lt = absurd (omega arith)
get_any (l ∷ ls) zero d e lt = refl
get_any (l ∷ ls) (suc n) d e lt = get_any ls n d e (omega arith)

-- ---- steps that only tell

told_more : (xs : List Step) (ys : List BinLine) (x : BinLine) → counts_none x ≡ true → AreTold xs ys → AreTold (xs ++ step.Tell x ∷ []) (ys ++ x ∷ [])
told_more [] ys x none h = (none, ([], ap (λ (zs : List BinLine). zs ++ x ∷ []) h, refl))
told_more (step.Tell y ∷ xs) ys x none h =
    (h.0, (h.1.0 ++ x ∷ [], ap (λ (zs : List BinLine). zs ++ x ∷ []) h.1.1, told_more xs h.1.0 x none h.1.2))
told_more (step.Open o ∷ xs) ys x none h = absurd h
told_more (step.Push l a ∷ xs) ys x none h = absurd h
told_more (step.Sync l r ∷ xs) ys x none h = absurd h

pub tells_none : (before : List BinLine) → TellsAll [] before before
tells_none before = ([], sym (append-nil before), refl)

pub tells_more : (xs more : List Step) (s : Step) (x : BinLine) (before mid after : List BinLine) → more ≡ xs ++ s ∷ [] → s ≡ step.Tell x → counts_none x ≡ true → after ≡ mid ++ x ∷ [] → TellsAll xs before mid → TellsAll more before after
tells_more xs more s x before mid after e is none added h =
    let ys : List BinLine = h.0 in (
      ys ++ x ∷ [],
      added ∙ ap (λ (zs : List BinLine). zs ++ x ∷ []) h.1 ∙ append_assoc before ys (x ∷ []),
      subst (λ (zs : List Step). AreTold zs (ys ++ x ∷ [])) (sym (e ∙ ap (λ (z : Step). xs ++ z ∷ []) is)) (told_more xs ys x none h.2),
    )

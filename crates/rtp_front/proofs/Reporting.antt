-- The reports of the sessions, one after the other.
use Rattle.std.proofs.Common.{◌≡◌, ◌<◌, ◌||◌, ℕ, ◌+◌, Bool, true, false, cond, nat_eq, nat_lt, List, [], ◌∷◌, ◌++◌, map, Option, Some, None, refl, sym, ap, subst, ◌∙◌, arith}
use Rattle.std.specs.Prelude.{IsSome, IsSomeAnd}
use Rattle.std.specs.List.{filter, flat_map, range_with_len}
use Rattle.std.proofs.lemmas.Bool.Decides.{nat_tests}
use Rattle.std.proofs.lemmas.Grind.{flat_map-append}
use Rattle.std.proofs.lemmas.List.{append-nil, append_assoc}
use Rattle.std.proofs.lemmas.List.FromFn.{filter_of_map_range_with_len_more}
use Rattle.rtp_session.specs.Standing.{State}
use Rattle.script_lang.specs.Contents.{Contents}
use Rattle.front_model.specs.declared.Step.{Step}
use Rattle.script_lang.specs.Tests.{is_declared}
use Rattle.front_model.specs.Events.{FrontEvent}
use Rattle.front_model.specs.Given.{Given, Report}
use Rattle.front_model.specs.Moves.{moves}
use Rattle.front_model.specs.Notes.{Note, notes}
use Rattle.front_model.specs.Sessions.{given, setting}
use Rattle.front_model.specs.Steps.{notes_steps, report_time_steps}
use Rattle.rtp_front.specs.Sessions.{Sessions, session_at, IsSameBut, IsKept}

-- the numbers below one
abbrev pub numbers_to : ℕ → List ℕ
numbers_to n = map (λ (x : ℕ). x) (range_with_len 0 n)

one_by : (f : ℕ → List Step) (b : Bool) (n : ℕ)
    → flat_map f (cond b (n ∷ []) []) ≡ cond b (f n) []
one_by f true n = append-nil (f n)
one_by f false n = refl

-- the steps of one number more
pub one_reported : (p : ℕ → Bool) (f : ℕ → List Step) (n : ℕ) (b d e : List Step)
    → d ≡ b ++ flat_map f (filter p (numbers_to n)) → e ≡ d ++ cond (p n) (f n) []
    → e ≡ b ++ flat_map f (filter p (numbers_to (n + 1)))
one_reported p f n b d e before more =
    more
    ∙ ap (λ (l : List Step). l ++ cond (p n) (f n) []) before
    ∙ append_assoc b (flat_map f (filter p (numbers_to n))) (cond (p n) (f n) [])
    ∙ ap (λ (l : List Step). b ++ l)
    (ap (λ (l : List Step). flat_map f (filter p (numbers_to n)) ++ l) (sym (one_by f (p n) n))
    ∙ sym (flat_map-append f (filter p (numbers_to n)) (cond (p n) (n ∷ []) []))
    ∙ ap (flat_map f)
    (sym (filter_of_map_range_with_len_more p (λ (x : ℕ). x) 0 n n (omega arith))))

-- what a session was given once those below a number had their report time
abbrev pub given_to : ℕ → Given → (ℕ → List Given) → ℕ → List Given
given_to n x given q = cond (nat_lt q n) (x ∷ given q) (given q)

below : (n q : ℕ) → nat_eq n q ≡ false → nat_lt q n ≡ nat_lt q (n + 1)
below n q e = grind (arith, nat_tests)

not_below : (n : ℕ) → nat_lt n n ≡ false
not_below n = grind (arith, nat_tests)

just_below : (n q : ℕ) → nat_eq n q ≡ true → nat_lt q (n + 1) ≡ true
just_below n q e = grind (arith, nat_tests)

pub next_given : (c : Contents) (n : ℕ) (x : Given) (given : ℕ → List Given) (old new : Sessions)
    → ((q : ℕ) → IsKept c q (given_to n x given q) (session_at old q))
    → IsKept c n (x ∷ given n) (session_at new n) → IsSameBut n old new
    → (q : ℕ) → IsKept c q (given_to (n + 1) x given q) (session_at new q)
next_given c n x given old new kept at rest = λ q. by q (nat_eq n q) refl
  where
    by : (q : ℕ) (b : Bool) → nat_eq n q ≡ b
        → IsKept c q (given_to (n + 1) x given q) (session_at new q)
    by q true e =
        subst (λ (b : Bool). IsKept c q (cond b (x ∷ given q) (given q)) (session_at new q))
        (sym (just_below n q e))
        (subst (λ (p : ℕ). IsKept c p (x ∷ given p) (session_at new p)) (equal n q e) at)
      where
        equal : (a b : ℕ) → nat_eq a b ≡ true → a ≡ b
        equal a b e = grind (arith, nat_tests)
    by q false e =
        subst (λ (b : Bool). IsKept c q (cond b (x ∷ given q) (given q)) (session_at new q))
        (below n q e)
        (subst (IsKept c q (given_to n x given q)) (sym (rest q e)) (kept q))

-- the next one was given nothing yet
pub next_kept : (c : Contents) (n : ℕ) (x : Given) (given : ℕ → List Given) (old : Sessions)
    → ((q : ℕ) → IsKept c q (given_to n x given q) (session_at old q))
    → IsKept c n (given n) (session_at old n)
next_kept c n x given old kept =
    subst (λ (b : Bool). IsKept c n (cond b (x ∷ given n) (given n)) (session_at old n))
    (not_below n) (kept n)

pub none_yet : (c : Contents) (x : Given) (given : ℕ → List Given) (old : Sessions)
    → ((q : ℕ) → IsKept c q (given q) (session_at old q))
    → (q : ℕ) → IsKept c q (given_to 0 x given q) (session_at old q)
none_yet c x given old kept q =
    subst (λ (b : Bool). IsKept c q (cond b (x ∷ given q) (given q)) (session_at old q))
    (sym (none_below q)) (kept q)
  where
    none_below : (q : ℕ) → nat_lt q 0 ≡ false
    none_below q = grind (arith, nat_tests)

last_by : (c : Contents) (q : ℕ) (x : Given) (g : List Given) (b : Bool) (o : Option State)
    → (IsSome o → b ≡ true) → IsKept c q (cond b (x ∷ g) g) o → IsKept c q (x ∷ g) o
last_by c q x g b None small kept = kept
last_by c q x g b (Some y) small kept =
    subst (λ (d : Bool). IsKept c q (cond d (x ∷ g) g) (Some y)) (small refl) kept

is_below : (q n : ℕ) → q < n → nat_lt q n ≡ true
is_below q n lt = grind (arith, nat_tests)

pub all_given : (c : Contents) (n : ℕ) (x : Given) (given : ℕ → List Given) (new : Sessions)
    → ((q : ℕ) → IsSome (session_at new q) → q < n)
    → ((q : ℕ) → IsKept c q (given_to n x given q) (session_at new q))
    → (q : ℕ) → IsKept c q (x ∷ given q) (session_at new q)
all_given c n x given new small kept q =
    last_by c q x (given q) (nat_lt q n) (session_at new q)
    (λ some. is_below q n (small q some)) (kept q)

-- the report of one
pub reported_at : (c : Contents) (t timeout : ℕ) (older : List FrontEvent) (n : ℕ) (ns : List Note)
    (b d : List Step) → timeout ≡ c.settings.timeout → is_declared c.sessions n ≡ true
    → ns ≡ notes (setting c n) (given c n older) (Report t timeout)
    → d ≡ b ++ notes_steps c t (moves c older) n ns
    → d ≡ b ++ cond (is_declared c.sessions n) (report_time_steps c t older n) []
reported_at c t timeout older n ns b d same declared are steps =
    steps
    ∙ ap (λ (l : List Note). b ++ notes_steps c t (moves c older) n l)
    (are ∙ ap (λ (x : ℕ). notes (setting c n) (given c n older) (Report t x)) same)
    ∙ ap (λ (y : Bool). b ++ cond y (report_time_steps c t older n) []) (sym declared)

pub at_some : {X : Type 0} (o : Option X) (x : X) (P : X → Type 0) → o ≡ Some x → IsSomeAnd o P
    → P x
at_some {X = X} o x P e h = subst (λ (p : Option X). IsSomeAnd p P) e h

-- The sessions that are kept.
use Rattle.std.proofs.Common.{◌≡◌, ◌≤◌, ◌<◌, ◌||◌, ◌&&◌, ℕ, Bool, true, false, cond, nat_eq, List, [], ◌∷◌, ◌++◌, Option, Some, None, refl, sym, ap, subst, ◌∙◌, eqb-true, arith}
use Rattle.std.specs.Prelude.{is_some, find, IsSome, IfSome}
use Rattle.std.specs.List.{list_any, list_all}
use Rattle.std.proofs.lemmas.Bool.Decides.{nat_tests}
use Rattle.rtp_session.specs.Standing.{State, StandsFor}
use Rattle.script_lang.specs.Contents.{Contents}
use Rattle.script_lang.specs.Entries.{session_fits}
use Rattle.script_lang.specs.Tests.{is_declared}
use Rattle.script_lang.specs.declared.script.SessionLine.{SessionLine}
use Rattle.front_model.specs.Given.{Given}
use Rattle.front_model.specs.Records.{is_to}
use Rattle.front_model.specs.Sessions.{setting}
use Rattle.rtp_front.specs.Chosen.{Chosen}
use Rattle.rtp_front.specs.Sessions.{Sessions, session_at, StandsAt, IsSameBut, KeepsNumbers, HeardAtMost, IsKept}
use Rattle.rtp_front.specs.Standing.{HasScript}

-- ---- how many packets they heard

weaker_by : (n m : ℕ) (o : Option State) → n ≤ m → IfSome o (λ x. x.heard ≤ n)
    → IfSome o (λ x. x.heard ≤ m)
weaker_by n m None le h = tt
weaker_by n m (Some x) le h = omega arith

pub heard_less : (n m : ℕ) (s : Sessions) → n ≤ m → HeardAtMost n s → HeardAtMost m s
heard_less n m s le h = λ q. weaker_by n m (session_at s q) le (h q)

-- ---- what a script declares

either : (a b : Bool) → (a || b) ≡ true → a ≡ false → b ≡ true
either true b e f = absurd cc
either false b e f = e

or_right : (a : Bool) → (a || true) ≡ true
or_right true = refl
or_right false = refl

declared_more : (l : SessionLine) (ls : List SessionLine) (o : Option SessionLine)
    → IfSome o (λ x. is_declared ls x.session ≡ true)
    → IfSome o (λ x. is_declared (l ∷ ls) x.session ≡ true)
declared_more l ls None h = tt
declared_more l ls (Some x) h =
    ap (λ (b : Bool). nat_eq l.session x.session || b) h ∙ or_right (nat_eq l.session x.session)

same_number : (n : ℕ) → nat_eq n n ≡ true
same_number n = grind (arith, nat_tests)

found_by : (l : SessionLine) (ls : List SessionLine) (b : Bool) (o : Option SessionLine)
    → IfSome o (λ x. is_declared ls x.session ≡ true)
    → IfSome (cond b (Some l) o) (λ x. is_declared (l ∷ ls) x.session ≡ true)
found_by l ls true o h = ap (λ (b : Bool). b || is_declared ls l.session) (same_number l.session)
found_by l ls false o h = declared_more l ls o h

-- The session of a port is declared.
pub port_declared : (ls : List SessionLine) (port : ℕ)
    → IfSome (find (is_to port) ls) (λ l. is_declared ls l.session ≡ true)
port_declared [] port = tt
port_declared (l ∷ ls) port =
    found_by l ls (is_to port l) (find (is_to port) ls) (port_declared ls port)

first_of : (a b : Bool) → (a && b) ≡ true → a ≡ true
first_of true b e = refl
first_of false b e = e

last_of : (a b : Bool) → (a && b) ≡ true → b ≡ true
last_of true b e = e
last_of false b e = absurd cc

small_by : (l : SessionLine) (q : ℕ) → session_fits l ≡ true → nat_eq l.session q ≡ true → q < 8
small_by l q fits same = grind (arith, nat_tests)

pub declared_small : (ls : List SessionLine) (q : ℕ) → list_all session_fits ls ≡ true
    → is_declared ls q ≡ true → q < 8
declared_small [] q fits there = absurd cc
declared_small (l ∷ ls) q fits there =
    by (nat_eq l.session q) refl
    (declared_small ls q (last_of (session_fits l) (list_all session_fits ls) fits))
  where
    by : (b : Bool) → nat_eq l.session q ≡ b → (is_declared ls q ≡ true → q < 8) → q < 8
    by true e more = small_by l q (first_of (session_fits l) (list_all session_fits ls) fits) e
    by false e more = more (either (nat_eq l.session q) (is_declared ls q) there e)

-- ---- kept exactly where declared

kept_by : (c : Contents) (q : ℕ) (g : List Given) (s : Sessions) (o : Option State)
    → session_at s q ≡ o → IsKept c q g o → IsSome o
    → StandsAt s q (setting c q) g × (is_declared c.sessions q ≡ true)
kept_by c q g s None e kept some = absurd cc
kept_by c q g s (Some x) e kept some =
    (record { state = x; found = e; stands = kept.1 }, kept.0)

pub kept_at : (c : Contents) (q : ℕ) (g : List Given) (s : Sessions) → IsKept c q g (session_at s q)
    → IsSome (session_at s q) → StandsAt s q (setting c q) g × (is_declared c.sessions q ≡ true)
kept_at c q g s kept some = kept_by c q g s (session_at s q) refl kept some

pub not_kept : (c : Contents) (q : ℕ) (g : List Given) (o : Option State) → IsKept c q g o
    → is_some o ≡ false → is_declared c.sessions q ≡ false
not_kept c q g None kept none = kept
not_kept c q g (Some x) kept none = absurd cc

pub there : (c : Contents) (q : ℕ) (g : List Given) (o : Option State) → IsKept c q g o
    → is_declared c.sessions q ≡ true → IsSome o
there c q g None kept declared = absurd cc
there c q g (Some x) kept declared = refl

pub here : (c : Contents) (q : ℕ) (g : List Given) (o : Option State) → IsKept c q g o
    → IsSome o → is_declared c.sessions q ≡ true
here c q g None kept some = absurd cc
here c q g (Some x) kept some = kept.0

pub kept_again : (c : Contents) (q : ℕ) (g : List Given) (s : Sessions)
    → StandsAt s q (setting c q) g → is_declared c.sessions q ≡ true
    → IsKept c q g (session_at s q)
kept_again c q g s at declared =
    subst (IsKept c q g) (sym at.found) (declared, at.stands)

-- One of them was given something more.
pub one_given : (c : Contents) (number : ℕ) (x : Given) (given : ℕ → List Given)
    (old new : Sessions) → ((q : ℕ) → IsKept c q (given q) (session_at old q))
    → StandsAt new number (setting c number) (x ∷ given number)
    → is_declared c.sessions number ≡ true → IsSameBut number old new
    → (q : ℕ) → IsKept c q (cond (nat_eq number q) (x ∷ []) [] ++ given q) (session_at new q)
one_given c number x given old new kept at declared rest = λ q. by q (nat_eq number q) refl
  where
    by : (q : ℕ) (b : Bool) → nat_eq number q ≡ b
        → IsKept c q (cond b (x ∷ []) [] ++ given q) (session_at new q)
    by q true e =
        subst (λ (p : ℕ). IsKept c p (x ∷ given p) (session_at new p)) (eqb-true number q e)
        (kept_again c number (x ∷ given number) new at declared)
    by q false e = subst (IsKept c q (given q)) (sym (rest q e)) (kept q)

-- One of them was given nothing that counts.
pub none_given : (c : Contents) (number : ℕ) (given : ℕ → List Given) (old new : Sessions)
    → ((q : ℕ) → IsKept c q (given q) (session_at old q))
    → StandsAt new number (setting c number) (given number)
    → is_declared c.sessions number ≡ true → IsSameBut number old new
    → (q : ℕ) → IsKept c q (given q) (session_at new q)
none_given c number given old new kept at declared rest = λ q. by q (nat_eq number q) refl
  where
    by : (q : ℕ) (b : Bool) → nat_eq number q ≡ b → IsKept c q (given q) (session_at new q)
    by q true e =
        subst (λ (p : ℕ). IsKept c p (given p) (session_at new p)) (eqb-true number q e)
        (kept_again c number (given number) new at declared)
    by q false e = subst (IsKept c q (given q)) (sym (rest q e)) (kept q)

-- ---- the sessions of ports

port_by : (old new : Sessions) (o : Option SessionLine) → KeepsNumbers old new
    → IfSome o (λ l. IsSome (session_at old l.session))
    → IfSome o (λ l. IsSome (session_at new l.session))
port_by old new None keeps h = tt
port_by old new (Some l) keeps h = keeps l.session ∙ h

pub script_kept : (ch : Chosen) (old new : Sessions) → HasScript ch old → KeepsNumbers old new
    → HasScript ch new
script_kept ch old new has keeps = record {
  script = has.script;
  read = has.read;
  kept = λ port. port_by old new (find (is_to port) has.script.sessions) keeps (has.kept port);
  small = λ q some. has.small q (sym (keeps q) ∙ some);
}

made_by : (c : Contents) (s : Sessions) (o : Option SessionLine)
    → ((q : ℕ) → IsKept c q [] (session_at s q))
    → IfSome o (λ l. is_declared c.sessions l.session ≡ true)
    → IfSome o (λ l. IsSome (session_at s l.session))
made_by c s None kept h = tt
made_by c s (Some l) kept h = there c l.session [] (session_at s l.session) (kept l.session) h

pub ports_kept : (c : Contents) (s : Sessions) → ((q : ℕ) → IsKept c q [] (session_at s q))
    → (port : ℕ) → IfSome (find (is_to port) c.sessions) (λ l. IsSome (session_at s l.session))
ports_kept c s kept port =
    made_by c s (find (is_to port) c.sessions) kept (port_declared c.sessions port)

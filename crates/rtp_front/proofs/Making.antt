-- The sessions of a script, made one after the other.
use Rattle.std.proofs.Common.{◌≡◌, ◌≤◌, ◌||◌, ℕ, Bool, true, false, cond, nat_eq, List, [], Option, Some, None, refl, sym, ap, subst, ◌∙◌, eqb-true, arith}
use Rattle.std.specs.Prelude.{IfSome}
use Rattle.std.specs.List.{flat_map}
use Rattle.rtp_session.specs.Standing.{State, StandsFor, setting as made_with}
use Rattle.script_lang.specs.Contents.{Contents}
use Rattle.script_lang.specs.Tests.{is_declared}
use Rattle.front_model.specs.Given.{Setting}
use Rattle.front_model.specs.Sessions.{setting, fid_ssrcs}
use Rattle.rtp_front.specs.Sessions.{IsKept}

-- of the sessions that were made so far
abbrev pub IsMade : Contents → ℕ → Bool → Option State → Type 0
IsMade c q false None = Unit {0}
IsMade c q false (Some x) = ⊥
IsMade c q true None = ⊥
IsMade c q true (Some x) = StandsFor x (setting c q) [] × (x.heard ≡ 0)

or_true : (b : Bool) → true ≡ (b || true)
or_true true = refl
or_true false = refl

or_false : (b : Bool) → b ≡ (b || false)
or_false true = refl
or_false false = refl

made_by : (c : Contents) (q k : ℕ) (x : State) (b is : Bool) (o : Option State)
    → nat_eq k q ≡ is → StandsFor x (setting c k) [] → x.heard ≡ 0 → IsMade c q b o
    → IsMade c q (b || is) (cond is (Some x) o)
made_by c q k x b true o e stands none before =
    subst (λ (d : Bool). IsMade c q d (Some x)) (or_true b)
    (subst (λ (p : ℕ). StandsFor x (setting c p) []) (eqb-true k q e) stands, none)
made_by c q k x b false o e stands none before =
    subst (λ (d : Bool). IsMade c q d o) (or_false b) before

-- one more
pub made_more : (c : Contents) (q k : ℕ) (x : State) (b d : Bool) (o p : Option State)
    → d ≡ (b || nat_eq k q) → p ≡ cond (nat_eq k q) (Some x) o
    → StandsFor x (setting c k) [] → x.heard ≡ 0 → IsMade c q b o → IsMade c q d p
made_more c q k x b d o p known put stands none before =
    subst (λ (v : Bool). IsMade c q v p) (sym known)
    (subst (IsMade c q (b || nat_eq k q)) (sym put)
    (made_by c q k x b (nat_eq k q) o refl stands none before))

pub made_kept : (c : Contents) (q : ℕ) (b : Bool) (o : Option State)
    → is_declared c.sessions q ≡ b → IsMade c q b o → IsKept c q [] o
made_kept c q false None e made = e
made_kept c q false (Some x) e made = absurd made
made_kept c q true None e made = absurd made
made_kept c q true (Some x) e made = (e, made.0)

pub made_heard : (c : Contents) (q : ℕ) (b : Bool) (o : Option State) → IsMade c q b o
    → IfSome o (λ x. x.heard ≤ 0)
made_heard c q b None made = tt
made_heard c q true (Some x) made = omega (arith, made.1)
made_heard c q false (Some x) made = absurd made

pub made_so : (c : Contents) (k own probation : ℕ) (quick : List ℕ) (x : State)
    → own ≡ c.settings.ssrc → probation ≡ c.settings.probation
    → quick ≡ flat_map (fid_ssrcs k) c.fids
    → StandsFor x (made_with own probation quick) [] → StandsFor x (setting c k) []
made_so c k own probation quick x is_own is_probation is_quick stands =
    subst (λ (s : Setting). StandsFor x s [])
    (λ i. made_with (is_own i) (is_probation i) (is_quick i)) stands

-- A line behind others that passes its tests.
use Rattle.std.proofs.Common.{◌≡◌, ℕ, List, [], ◌∷◌, ◌++◌, Bool, true, false, ◌&&◌, refl, sym, ap}
use Rattle.std.proofs.Common.{subst, ◌∙◌, append_assoc, append-nil}
use Rattle.std.specs.List.{list_all}
use Rattle.std.proofs.lemmas.List.Folds.{list_all-append}
use Rattle.script_lang.specs.declared.script.SessionLine.{SessionLine}
use Rattle.script_lang.specs.declared.script.PtLine.{PtLine}
use Rattle.script_lang.specs.Entries.{session_fits, pt_fits}
use Rattle.script_lang.specs.Contents.{each_behind, is_new_session, is_new_pt}
use Rattle.rtp_scan.specs.Proposal.{AreSessions, ArePts, takes_session, takes_pt}

both_true : (a b : Bool) → (a && b) ≡ true → (a ≡ true) × (b ≡ true)
both_true true b h = (refl, h)
both_true false b h = absurd (cc)

true_both : (a b : Bool) → a ≡ true → b ≡ true → (a && b) ≡ true
true_both true b h k = k
true_both false b h k = absurd (cc)

each_onto : {A : Type 0} (test : List A → A → Bool) (before xs : List A) (x : A)
    → each_behind test before xs ≡ true → test (before ++ xs) x ≡ true
    → each_behind test before (xs ++ x ∷ []) ≡ true
each_onto test before [] x h k = true_both (test before x) true (rw append-nil at k) refl
each_onto test before (y ∷ ys) x h k =
    let e = both_true (test before y) (each_behind test (before ++ y ∷ []) ys) h in
    true_both (test before y) _ e.0 (each_onto test (before ++ y ∷ []) ys x e.1 (rw append_assoc k))

all_onto : {A : Type 0} (p : A → Bool) (xs : List A) (x : A) → list_all p xs ≡ true → p x ≡ true
    → list_all p (xs ++ x ∷ []) ≡ true
all_onto p [] x h k = true_both (p x) true k refl
all_onto p (y ∷ ys) x h k =
    let e = both_true (p y) (list_all p ys) h in
    true_both (p y) _ e.0 (all_onto p ys x e.1 k)

pub session_onto : (before : List SessionLine) (l : SessionLine) → AreSessions before
    → takes_session before l ≡ true → AreSessions (before ++ l ∷ [])
session_onto before l are takes =
    let e = both_true (session_fits l) (is_new_session before l) takes in
    record {
      fit = all_onto session_fits before l are.fit e.0;
      new =
          each_onto is_new_session [] before l are.new e.1;
    }

pub pt_onto : (sessions : List SessionLine) (before : List PtLine) (l : PtLine)
    → ArePts sessions before → takes_pt sessions before l ≡ true
    → ArePts sessions (before ++ l ∷ [])
pt_onto sessions before l are takes =
    let e = both_true (pt_fits l) (is_new_pt sessions before l) takes in
    record {
      fit = all_onto pt_fits before l are.fit e.0;
      new =
          each_onto (is_new_pt sessions) [] before l are.new e.1;
    }

pub session_pushed : (items shown new : List SessionLine) (l : SessionLine) (b : Bool) → new
    ≡ items ++ l ∷ [] → AreSessions items → shown ≡ items → b ≡ takes_session shown l → b ≡ true
    → AreSessions new
session_pushed items shown new l b is are same told passes =
    subst AreSessions (sym is)
    (session_onto items l are (ap (λ (xs : List SessionLine). takes_session xs l) (sym same)
    ∙ sym told ∙ passes))

pub pt_pushed : (sessions : List SessionLine) (items shown new : List PtLine) (l : PtLine)
    (b : Bool) → new ≡ items ++ l ∷ [] → ArePts sessions items → shown ≡ items → b
    ≡ takes_pt sessions shown l → b ≡ true → ArePts sessions new
pt_pushed sessions items shown new l b is are same told passes =
    subst (ArePts sessions) (sym is)
    (pt_onto sessions items l are (ap (λ (xs : List PtLine). takes_pt sessions xs l) (sym same)
    ∙ sym told ∙ passes))

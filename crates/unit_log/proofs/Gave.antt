-- What a call to one lane's joining changes.
use Rattle.std.proofs.Common.{◌≡◌, ◌∙◌, ◌<◌, ℕ, ◌+◌, List, ◌∷◌, length, get_or, set, Result, Ok, Err, sym, ap, subst}
use Rattle.std.specs.Prelude.{OnOk}
use Rattle.depay.specs.declared.outcome.Format.{Format}
use Rattle.depay.specs.declared.outcome.Outcome.{Outcome}
use Rattle.depay.specs.Fragments.{Call}
use Rattle.depay.specs.Joining.{Joining, StandsFor}
use Rattle.unit_log.specs.declared.log.UnitLog.{UnitLog}
use Rattle.unit_log.specs.Lines.{outcomes_by, unit_count, broken_count}
use Rattle.unit_log.specs.Standing.{WereGiven, Gave, calls_with}
use Rattle.unit_log.proofs.Lanes.{was_here, given_more}

-- what holds anyway holds where a call succeeded
pub always : {A B X : Type 0} (r : Result A B) → X → OnOk r X
always (Ok a) x = x
always (Err b) x = tt

-- the joining of this lane, before the call
stood : (format : Format) (xs : List Joining) (lane i : ℕ) (d : Joining) (calls : ℕ → List Call)
    → i ≡ lane → i < length xs → d ≡ get_or xs i d → WereGiven format calls xs
    → StandsFor d format (calls lane)
stood format xs lane i d calls at lt is were =
    subst (λ (x : Joining). StandsFor x format (calls lane)) (sym is)
    (subst (λ (n : ℕ). StandsFor (get_or xs i d) format (calls n)) at
    (was_here format calls xs i d lt were))

pub told_is : (format : Format) (xs : List Joining) (lane i : ℕ) (d : Joining) (call : Call)
    (outcomes : List Outcome) (calls : ℕ → List Call)
    → i ≡ lane → i < length xs → d ≡ get_or xs i d → WereGiven format calls xs
    → ((format : Format) (cs : List Call) → StandsFor d format cs
    → outcomes ≡ outcomes_by format cs call)
    → outcomes ≡ outcomes_by format (calls lane) call
told_is format xs lane i d call outcomes calls at lt is were told =
    told format (calls lane) (stood format xs lane i d calls at lt is were)

pub gave : (old new : UnitLog) (xs : List Joining) (lane i : ℕ) (d after : Joining) (call : Call)
    (outcomes : List Outcome) (calls : ℕ → List Call)
    → i ≡ lane → i < length xs → d ≡ get_or xs i d → WereGiven old.format calls xs
    → ((format : Format) (cs : List Call) → StandsFor d format cs
    → outcomes ≡ outcomes_by format cs call)
    → ((format : Format) (cs : List Call) → StandsFor d format cs
    → StandsFor after format (call ∷ cs))
    → new.lanes.items ≡ set xs i after
    → new.units ≡ old.units + unit_count outcomes
    → new.broken ≡ old.broken + broken_count outcomes
    → Gave old new lane calls call
gave old new xs lane i d after call outcomes calls at lt is were told stands lanes units broken =
    let here = stood old.format xs lane i d calls at lt is were in
    let same = told old.format (calls lane) here in
    let stays : StandsFor after old.format (call ∷ calls i) =
    subst (λ (n : ℕ). StandsFor after old.format (call ∷ calls n)) (sym at)
    (stands old.format (calls lane) here) in
    record {
      lanes = subst (λ (l : List Joining).
          WereGiven old.format (calls_with lane call calls) l) (sym lanes)
          (subst (λ (n : ℕ).
          WereGiven old.format (calls_with n call calls) (set xs i after)) at
          (given_more old.format call calls xs i after lt stays were));
      units = units ∙ ap (λ (o : List Outcome). old.units + unit_count o) same;
      broken = broken ∙ ap (λ (o : List Outcome). old.broken + broken_count o) same;
    }

-- A script is sound, where what its front gives is in its ranges, and few packets a record.
use Rattle.std.proofs.Common.{◌≤◌, sym, subst, List, [], ◌∷◌, arith}
use Rattle.script_lang.specs.Contents.{Contents, IsScript}
use Rattle.front_model.specs.declared.Opening.{Opening}
use Rattle.front_model.specs.declared.Step.{Step}
use Rattle.front_model.specs.declared.Step.TheVariants as step
use Rattle.front_model.specs.Events.{FrontEvent, records}
use Rattle.front_model.specs.Steps.{steps, all_steps}
use Rattle.replay_model.specs.Fitting.{AreComing, with_step, with_steps, IsFit, AreFit, IsSound}
use Rattle.replay_ranges.specs.Ranges.{IsRanged, AreRanged, StayInRange, AreFew}
use Rattle.replay_sound.specs.Suited.{IsSuited, AreSuited}
use Rattle.replay_sound.proofs.Choosing.{valid_settings}
use Rattle.replay_sound.proofs.Walking.{IsPlaced, ArePlaced, GoOn, event_leads, all_lead}

one_fits : (os : List Opening) (x : Step) → IsPlaced os x → IsRanged x → IsFit os x
one_fits os (step.Tell line) placed ranged = tt
one_fits os (step.Open o) placed ranged = placed.valid
one_fits os (step.Push l a) placed ranged =
    record { opening = placed.opening; is = placed.is; pusher = placed.pushes; ranges = ranged }
one_fits os (step.Sync l r) placed ranged = (placed, omega (arith, ranged.0), ranged.1)

all_fit : (os : List Opening) (xs : List Step) → ArePlaced os xs → AreRanged xs → AreFit os xs
all_fit os [] placed ranged = tt
all_fit os (x ∷ xs) placed ranged =
    (one_fits os x placed.0 ranged.0, all_fit (with_step os x) xs placed.1 ranged.1)

pub sound : GoOn → StayInRange → AreFew → (c : Contents) → IsScript c → IsSound c
sound laws ranges few c script =
    record {
      valid = valid_settings c 0 1 script (omega arith) (omega arith);
      fit = λ older e coming count.
          let before = all_lead laws c script older in
          let now = event_leads laws c script older e in
          all_fit (with_steps [] (all_steps c older)) (steps c older e)
          (subst (λ (os : List Opening). ArePlaced os (steps c older e)) (sym before.opens) now.placed)
          (ranges c older e script coming count);
      few = λ events coming. few c events script coming;
    }

-- ---- for a bin

one_suits : (os : List Opening) (x : Step) → IsPlaced os x → IsRanged x → IsSuited os x
one_suits os (step.Tell line) placed ranged = placed
one_suits os (step.Open o) placed ranged = placed
one_suits os (step.Push l a) placed ranged =
    record { opening = placed.opening; is = placed.is; pusher = placed.pushes; ranges = ranged }
one_suits os (step.Sync l r) placed ranged = (placed, ranged.0)

all_suit : (os : List Opening) (xs : List Step) → ArePlaced os xs → AreRanged xs → AreSuited os xs
all_suit os [] placed ranged = tt
all_suit os (x ∷ xs) placed ranged =
    (one_suits os x placed.0 ranged.0, all_suit (with_step os x) xs placed.1 ranged.1)

pub suited :
    GoOn → StayInRange → (c : Contents) (older : List FrontEvent) (e : FrontEvent)
    → IsScript c → AreComing (e ∷ older) → records (e ∷ older) ≤ 100000000
    → AreSuited (with_steps [] (all_steps c older)) (steps c older e)
suited laws ranges c older e script coming count =
    let before = all_lead laws c script older in
    let now = event_leads laws c script older e in
    all_suit (with_steps [] (all_steps c older)) (steps c older e)
    (subst (λ (os : List Opening). ArePlaced os (steps c older e)) (sym before.opens) now.placed)
    (ranges c older e script coming count)

-- Lanes of a plan under way.
use Rattle.std.specs.Prelude.{◌≡◌, ◌<◌, ◌≤◌, ℕ, ◌+◌, List, [], ◌∷◌, ◌++◌, length}
use Rattle.std.specs.Prelude.{map, filter_map, set, get_or, ⊤}
use Rattle.script_lang.specs.Facts.{session_numbers}
use Rattle.front_model.specs.declared.Opening.{Opening}
use Rattle.front_model.specs.declared.Step.{Step}
use Rattle.front_model.specs.Fates.{Way}
use Rattle.front_model.specs.Laws.{opened_by}
use Rattle.live_bin.specs.declared.plan.Delivery.{Delivery}
use Rattle.live_plan.specs.Deliveries.{deliveries, queues}

-- how a lane begins, and what the sessions brought to it so far
pub record Drafted : Type 0 where
  pub opening : Opening
  pub queues : List (List Delivery)

-- the lane of this opening after these steps
abbrev pub draft : List Step → Opening → Drafted
draft steps o = record { opening = o; queues = queues steps o.lane }

-- a queue with nothing in it for each session
abbrev pub no_queues : List (List Delivery)
no_queues = map (λ session. []) session_numbers

abbrev pub unbrought : Opening → Drafted
unbrought o = record { opening = o; queues = no_queues }

-- A session brings one thing more.
abbrev pub with_delivery : ℕ → Delivery → Drafted → Drafted
with_delivery session d x =
    record x { queues = set x.queues session (get_or x.queues session [] ++ d ∷ []) }

-- A session of a lane brings one thing more to this lane of those that are there.
pub record Brings (old new : List Drafted) (lane session : ℕ) (d : Delivery) : Type 0 where
  pub was : Drafted
  pub lane_is : lane < length old
  pub found : was ≡ get_or old lane was
  pub new_is : new ≡ set old lane (with_delivery session d was)
  pub session_is : session < length was.queues

-- Things have their numbers in order, from this one on.
abbrev pub AreNumbered : {A : Type 0} → (A → ℕ) → ℕ → List A → Type 0
AreNumbered number n [] = ⊤
AreNumbered number n (x ∷ xs) = (number x ≡ n) × AreNumbered number (n + 1) xs

abbrev pub lane_number : Opening → ℕ
lane_number o = o.lane

-- They are the lanes that these steps began, in order of their numbers, each with what was brought
-- to it. Nothing was brought to any other lane.
pub record AreDrafts (steps : List Step) (drafts : List Drafted) : Type 0 where
  pub drafts_are : drafts ≡ map (draft steps) (filter_map opened_by steps)
  pub numbered : AreNumbered lane_number 0 (filter_map opened_by steps)
  pub silent : (way : Way) → length drafts ≤ way.1 → deliveries steps way ≡ []

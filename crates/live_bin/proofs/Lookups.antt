-- What is looked up in a plan.
use Rattle.std.proofs.Common.{ℕ, zero, suc, ◌≡◌, List, [], ◌∷◌, Some}
use Rattle.std.specs.Prelude.{slice_get, slice_index_or}
use Rattle.live_bin.specs.declared.plan.Delivery.{Delivery}
use Rattle.live_bin.specs.declared.plan.PlanLane.{PlanLane}
use Rattle.live_bin.specs.Plans.{IsLane, AreRight, delivery}

pub queue_is : (queues : List (List Delivery)) (q : ℕ) (ds : List Delivery) → slice_get queues q ≡ Some ds → slice_index_or queues q [] ≡ ds
queue_is [] q ds e = absurd cc
queue_is (x ∷ xs) zero ds e = cc
queue_is (x ∷ xs) (suc q) ds e = queue_is xs q ds e

pub delivery_is : (l : PlanLane) (q k : ℕ) (ds : List Delivery) (d : Delivery) → slice_get l.queues q ≡ Some ds → slice_get ds k ≡ Some d → delivery l q k ≡ Some d
delivery_is l q k ds d e f = rw (queue_is l.queues q ds e) f

pub lane_right : (ls : List PlanLane) (n : ℕ) (l : PlanLane) → AreRight ls → slice_get ls n ≡ Some l → IsLane l
lane_right [] n l r e = absurd cc
lane_right (x ∷ xs) zero l r e = let is : x ≡ l = cc in rw (← is) r.0
lane_right (x ∷ xs) (suc n) l r e = lane_right xs n l r.1 e

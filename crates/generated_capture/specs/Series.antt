-- The deliveries of each kind, from a place on.
use Rattle.std.specs.Prelude.{ℕ, ◌-◌, Bool, true, false, List, [], ◌∷◌, map, filter}
use Rattle.std.specs.Prelude.{Option, Some, None}
use Rattle.std.specs.List.{range_with_len}
use Rattle.generated_capture.specs.declared.delivery.Delivery.{Delivery}
use Rattle.generated_capture.specs.declared.places.Kind.{Kind}
use Rattle.generated_capture.specs.declared.places.Kind.TheVariants as kind
use Rattle.generated_capture.specs.Deliveries.{is_in_time, is_late, is_repeated, is_ahead}
use Rattle.generated_capture.specs.Deliveries.{original, retransmission}

abbrev pub test_of : Kind → ℕ → Bool
test_of kind.InTime = is_in_time
test_of kind.Late = is_late
test_of kind.Repeated = is_repeated

abbrev pub delivery_of : Kind → ℕ → Delivery
delivery_of kind.InTime = original
delivery_of kind.Late = original
delivery_of kind.Repeated = retransmission

abbrev pub series_from : Kind → ℕ → ℕ → List Delivery
series_from k place count =
    map (delivery_of k) (filter (test_of k) (range_with_len place (count - place)))

-- ---- lists of deliveries

abbrev pub head_of : {A : Type 0} → List A → Option A
head_of [] = None
head_of (x ∷ xs) = Some x

abbrev pub tail_of : {A : Type 0} → List A → List A
tail_of [] = []
tail_of (x ∷ xs) = xs

-- The one is there, and the other isn't or comes later.
abbrev pub precedes : Option Delivery → Option Delivery → Bool
precedes None other = false
precedes (Some x) None = true
precedes (Some x) (Some y) = is_ahead x y

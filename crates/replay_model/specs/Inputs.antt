-- What comes: the records of a capture, and the items of a script.
use Rattle.std.specs.Prelude.{ℕ, List, [], ◌∷◌, ◌++◌, map, nat_le, if◌then◌else◌}
use Rattle.script_lang.specs.declared.script.Item.{Item}
use Rattle.timeline.specs.Times.{Timed}

pub data Input : Type 0 where
  OfCapture : Timed → Input
  OfScript : Item → Input

-- Items stand in order of time. Those up to a time:
abbrev pub items_to : ℕ → List Item → List Item
items_to t [] = []
items_to t (i ∷ is) = if nat_le i.time t then i ∷ items_to t is else []

-- and those behind it
abbrev pub items_behind : ℕ → List Item → List Item
items_behind t [] = []
items_behind t (i ∷ is) = if nat_le i.time t then items_behind t is else i ∷ is

-- each record comes after the items up to its time
abbrev pub inputs : List Item → List Timed → List Input
inputs items [] = []
inputs items (r ∷ rs) =
    map OfScript (items_to r.time items) ++ OfCapture r ∷ inputs (items_behind r.time items) rs

-- the items behind all records
abbrev pub items_left : List Item → List Timed → List Item
items_left items [] = items
items_left items (r ∷ rs) = items_left (items_behind r.time items) rs

-- the items behind all records come too
abbrev pub all_inputs : List Item → List Timed → List Input
all_inputs items rs = inputs items rs ++ map OfScript (items_left items rs)

-- the records among inputs
abbrev pub records_in : List Input → List Timed
records_in [] = []
records_in (OfCapture r ∷ xs) = r ∷ records_in xs
records_in (OfScript i ∷ xs) = records_in xs

-- the items among inputs
abbrev pub items_in : List Input → List Item
items_in [] = []
items_in (OfCapture r ∷ xs) = items_in xs
items_in (OfScript i ∷ xs) = i ∷ items_in xs

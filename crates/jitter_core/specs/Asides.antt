-- The packets that are put aside, as the store's list has them: the oldest first, each under its sequence number.
use Rattle.std.specs.Prelude.{ℕ, List, [], ◌∷◌, ◌++◌}
use Rattle.jitter_model.specs.declared.Arrival.{Arrival}

-- the list of these packets, which are the newest first
abbrev pub in_order : List Arrival → List (ℕ × Arrival)
in_order [] = []
in_order (a ∷ run) = in_order run ++ (a.packet.seq, a) ∷ []

-- the packets of a list, the newest first
abbrev pub newest_first : List (ℕ × Arrival) → List Arrival
newest_first [] = []
newest_first (x ∷ xs) = newest_first xs ++ x.1 ∷ []

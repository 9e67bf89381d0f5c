-- The packets that wait, by SSRC.
use Rattle.std.specs.Prelude.{ℕ, nat_eq, List, [], Vec, Option, Some, None}
use Rattle.std.specs.Map.{lookup}
use Rattle.std.specs.declared.alloc.Global.{Global}
use Rattle.front_model.specs.Probation.{Kept}

abbrev pub Runs : Type 0
Runs = List (ℕ × Vec Kept Global)

abbrev pub run_in : Option (Vec Kept Global) → List Kept
run_in None = []
run_in (Some packets) = packets.items

-- the packets of this SSRC that wait, the first one first
abbrev pub run_of : Runs → ℕ → List Kept
run_of held ssrc = run_in (lookup (nat_eq ssrc) held)

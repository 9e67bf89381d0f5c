use Rattle.std.proofs.Common.{◌≡◌, ℕ, nat_eq, take}
use Rattle.std.specs.Prelude.{find}
use Rattle.std.specs.Map.{lookup}
use Rattle.front_model.specs.Records.{is_to}
use Rattle.rtp_front.proofs.choices.ports_of.Given as goal

abbrev pub invariant-loop-line : goal.invariant-loop-line
invariant-loop-line l =
    (port : ℕ) → lookup (nat_eq port) l.ports.entries ≡ find (is_to port) (take l.line-index l.line-items)

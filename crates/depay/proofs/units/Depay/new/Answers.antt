use Rattle.std.proofs.Common.{ℕ, List, [], None, sym, subst}
use Rattle.depay.specs.Joining.{joining, StandsFor}
use Rattle.depay.proofs.Standing.{new_stands}
use Rattle.depay.proofs.units.Depay.new.Goals as goal

pub returns : goal.returns
returns c = subst (λ (bytes : List ℕ). StandsFor (joining c.args.format None bytes) c.args.format []) (sym c.in_ok-with_capacity.ensures.items) (new_stands c.args.format)

use Rattle.std.proofs.Common.{◌≡◌, length}
use Rattle.sdp_profile.specs.Text.{first_of}
use Rattle.sdp_profile.specs.Attributes.{apt_in, parameters_of}
use Rattle.sdp_profile.proofs.attribute.first_apt.Given as goal

-- the parameters that are left answer what all do
abbrev pub invariant-loop-parameter : goal.invariant-loop-parameter
invariant-loop-parameter l = first_of apt_in (parameters_of l.rest) ≡ first_of apt_in (parameters_of l.parameters)

abbrev pub decreases-loop-parameter : goal.decreases-loop-parameter
decreases-loop-parameter l = length l.rest

use Rattle.std.proofs.Common.{◌≡◌, drop}
use Rattle.sdp_profile.specs.Text.{first_of}
use Rattle.sdp_profile.specs.Formats.{as_apt}
use Rattle.sdp_profile.proofs.format.first_apt.Given as goal

-- the lines that are left answer what all lines do
abbrev pub invariant-loop-placed : goal.invariant-loop-placed
invariant-loop-placed l = first_of (as_apt l.pt) (drop l.placed-index l.lines) ≡ first_of (as_apt l.pt) l.lines

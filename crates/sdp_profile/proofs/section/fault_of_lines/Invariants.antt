use Rattle.std.proofs.Common.{◌≡◌, drop}
use Rattle.sdp_profile.specs.Text.{first_of}
use Rattle.sdp_profile.specs.Sections.{as_malformed}
use Rattle.sdp_profile.proofs.section.fault_of_lines.Given as goal

-- the lines that are left answer what all lines do
abbrev pub invariant-loop-placed : goal.invariant-loop-placed
invariant-loop-placed l = first_of as_malformed (drop l.placed-index l.lines) ≡ first_of as_malformed l.lines

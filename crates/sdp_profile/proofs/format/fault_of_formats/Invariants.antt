use Rattle.std.proofs.Common.{◌≡◌, drop, fold}
use Rattle.sdp_profile.specs.Causes.{sooner}
use Rattle.sdp_profile.specs.Formats.{fault_of_format, fault_of_formats}
use Rattle.sdp_profile.proofs.format.fault_of_formats.Given as goal

-- the formats that are left complete the answer
abbrev pub invariant-loop-format : goal.invariant-loop-format
invariant-loop-format l = fold (λ fault f. sooner fault (fault_of_format l.formats f)) l.fault (drop l.format-index l.formats) ≡ fault_of_formats l.formats

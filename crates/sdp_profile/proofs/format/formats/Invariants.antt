use Rattle.std.proofs.Common.{◌≡◌, ◌++◌, drop}
use Rattle.std.specs.List.{filter_map}
use Rattle.sdp_profile.specs.Formats.{format_in}
use Rattle.sdp_profile.proofs.format.formats.Given as goal

-- the types that are left complete the formats
abbrev pub invariant-loop-pt : goal.invariant-loop-pt
invariant-loop-pt l = l.formats.items ++ filter_map (format_in l.lines) (drop l.pt-index l.types) ≡ filter_map (format_in l.lines) l.types

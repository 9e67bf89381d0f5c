use Rattle.std.proofs.Common.{◌≡◌, ◌++◌, drop}
use Rattle.std.specs.List.{filter_map}
use Rattle.sdp_profile.specs.Formats.{as_pt}
use Rattle.sdp_profile.proofs.draft.add_pts.Given as goal

-- the formats that are left complete the lines
abbrev pub invariant-loop-format : goal.invariant-loop-format
invariant-loop-format l = l.pts.items ++ filter_map (as_pt l.session) (drop l.format-index l.formats) ≡ l.initial.pts.items ++ filter_map (as_pt l.session) l.formats

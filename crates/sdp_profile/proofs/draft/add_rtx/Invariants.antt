use Rattle.std.proofs.Common.{◌≡◌, ◌++◌, drop}
use Rattle.std.specs.List.{filter_map}
use Rattle.sdp_profile.specs.Formats.{as_rtx}
use Rattle.sdp_profile.proofs.draft.add_rtx.Given as goal

-- the formats that are left complete the lines
abbrev pub invariant-loop-format : goal.invariant-loop-format
invariant-loop-format l = l.rtx.items ++ filter_map (as_rtx l.session) (drop l.format-index l.formats) ≡ l.initial.rtx.items ++ filter_map (as_rtx l.session) l.formats

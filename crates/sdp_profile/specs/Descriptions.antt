-- The grammar of descriptions: what one gives for a script, or its first bad line and the first
-- cause that fits.
use Rattle.std.specs.Prelude.{ℕ, List, [], ◌∷◌, length, map, codes, bytes_eq, nat_lt, Result, Err}
use Rattle.std.specs.Prelude.{if◌then◌else◌}
use Rattle.script_lang.specs.Causes.{◌>>=◌}
use Rattle.sdp_profile.specs.declared.fault.Fault.{Fault}
use Rattle.sdp_profile.specs.declared.fault.SdpCause.TheVariants as cause
use Rattle.sdp_profile.specs.Text.{Line, filled_lines}
use Rattle.sdp_profile.specs.Attributes.{placed_of}
use Rattle.sdp_profile.specs.Sections.{Described, until_media, sections_of, fault_of_lines, unless}
use Rattle.sdp_profile.specs.Sections.{with_sections}

abbrev pub nothing : Described
nothing = record { sessions = []; pts = []; rtx = []; fids = [] }

-- the lines behind `v=0`: those before the first section, and the sections
unfoldable pub described : List Line → Result Described Fault
described lines =
    unless (fault_of_lines (map placed_of (until_media lines))) nothing
    >>= λ d. with_sections d (sections_of lines)

abbrev pub described_behind : List Line → Result Described Fault
described_behind [] = Err (record { line = 1; cause = cause.Version })
described_behind (l ∷ lines) =
    if bytes_eq l.text (codes "v=0") then described lines
    else Err (record { line = l.number; cause = cause.Version })

-- the most bytes of a description
abbrev pub max_description : ℕ
max_description = 1048576

unfoldable pub description_of : List ℕ → Result Described Fault
description_of bytes =
    if nat_lt max_description (length bytes) then Err (record { line = 0; cause = cause.Size })
    else described_behind (filled_lines bytes)

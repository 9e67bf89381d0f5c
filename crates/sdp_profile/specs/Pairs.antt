-- The pairs of an original and a retransmission SSRC in a section.
use Rattle.std.specs.Prelude.{ℕ, List, [], ◌∷◌, ◌++◌, length, ◌==◌, ◌||◌, nat_le, Option, Some}
use Rattle.std.specs.Prelude.{None, if◌then◌else◌}
use Rattle.std.specs.List.{filter_map, cons_option}
use Rattle.rtp_units.specs.declared.shared.Fid.{Fid}
use Rattle.script_lang.specs.Tests.{has_ssrc, max_fids}
use Rattle.sdp_profile.specs.declared.attribute.Attribute.{Attribute}
use Rattle.sdp_profile.specs.declared.attribute.Attribute.TheVariants as attribute
use Rattle.sdp_profile.specs.declared.attribute.Placed.{Placed}
use Rattle.sdp_profile.specs.declared.fault.Fault.{Fault}
use Rattle.sdp_profile.specs.declared.fault.SdpCause.{SdpCause}
use Rattle.sdp_profile.specs.declared.fault.SdpCause.TheVariants as cause

abbrev pub as_fid : ℕ → Attribute → Option Fid
as_fid session (attribute.Pair ssrc rtx_ssrc) =
    Some (record { session = session; ssrc = ssrc; rtx_ssrc = rtx_ssrc })
as_fid session a = None

abbrev pub fids_of : ℕ → List Placed → List Fid
fids_of session lines = filter_map (λ l. as_fid session l.attribute) lines

-- what a pair has against it behind earlier ones
abbrev pub cause_of_fid : List Fid → Fid → Option SdpCause
cause_of_fid earlier f =
    if f.ssrc == f.rtx_ssrc || has_ssrc earlier f.session f.ssrc
    || has_ssrc earlier f.session f.rtx_ssrc then Some cause.Ssrc
    else if nat_le max_fids (length earlier) then Some cause.Many
    else None

abbrev pub cause_of_pair : List Fid → ℕ → Attribute → Option SdpCause
cause_of_pair earlier session (attribute.Pair ssrc rtx_ssrc) =
    cause_of_fid earlier (record { session = session; ssrc = ssrc; rtx_ssrc = rtx_ssrc })
cause_of_pair earlier session attribute.BadPair = Some cause.Number
cause_of_pair earlier session a = None

abbrev pub refused : Option SdpCause → ℕ → Option Fault → Option Fault
refused (Some c) line others = Some (record { line = line; cause = c })
refused None line others = others

-- the first line that has something against it behind the pairs before it
unfoldable pub fault_of_pairs : List Fid → ℕ → List Placed → Option Fault
fault_of_pairs earlier session [] = None
fault_of_pairs earlier session (l ∷ lines) =
    refused (cause_of_pair earlier session l.attribute) l.line
    (fault_of_pairs (earlier ++ cons_option (as_fid session l.attribute) []) session lines)

-- What the lines of a section say of its payload types.
use Rattle.std.specs.Prelude.{ℕ, List, Bool, false, not, ◌==◌, ◌&&◌, ◌||◌, option_map, unwrap_or}
use Rattle.std.specs.Prelude.{is_some, Option, Some, None, fold, if◌then◌else◌}
use Rattle.std.specs.List.{list_any, filter_map}
use Rattle.rtp_units.specs.declared.shared.RtxLine.{RtxLine}
use Rattle.script_lang.specs.declared.script.PtLine.{PtLine}
use Rattle.sdp_profile.specs.declared.attribute.Attribute.{Attribute}
use Rattle.sdp_profile.specs.declared.attribute.Attribute.TheVariants as attribute
use Rattle.sdp_profile.specs.declared.attribute.Placed.{Placed}
use Rattle.sdp_profile.specs.declared.format.Mapping.{Mapping}
use Rattle.sdp_profile.specs.declared.format.Format.{Format}
use Rattle.sdp_profile.specs.declared.fault.Fault.{Fault}
use Rattle.sdp_profile.specs.declared.fault.SdpCause.TheVariants as cause
use Rattle.sdp_profile.specs.Text.{first_of}
use Rattle.sdp_profile.specs.Causes.{sooner}

-- ---- the first line of each kind

abbrev pub mapping_in : ℕ → ℕ → Attribute → Option Mapping
mapping_in pt line (attribute.Map type is_rtx rate) =
    if type == pt then Some (record { line = line; is_rtx = is_rtx; rate = rate }) else None
mapping_in pt line a = None

-- the mapping of a payload type
abbrev pub as_mapping : ℕ → Placed → Option Mapping
as_mapping pt l = mapping_in pt l.line l.attribute

abbrev pub mapping_of : List Placed → ℕ → Option Mapping
mapping_of lines pt = first_of (as_mapping pt) lines

abbrev pub apt_in : ℕ → Attribute → Option (Option ℕ)
apt_in pt (attribute.Apt type apt) = if type == pt then Some apt else None
apt_in pt a = None

-- what a line says of the original type of a payload type, and whether that is a number
abbrev pub as_apt : ℕ → Placed → Option (Option ℕ)
as_apt pt l = apt_in pt l.attribute

abbrev pub apt_of : List Placed → ℕ → Option ℕ
apt_of lines pt = unwrap_or (first_of (as_apt pt) lines) None

-- ---- the payload types

-- the clock rates of static payload types (RFC 3551, section 6), of those that this profile knows
abbrev pub static_rate : ℕ → Option ℕ
static_rate pt =
    if pt == 0 || pt == 3 || pt == 8 || pt == 9 then Some 8000
    else if pt == 14 || pt == 26 || pt == 31 || pt == 32 || pt == 33 || pt == 34 then Some 90000
    else None

abbrev pub static_format : ℕ → ℕ → Format
static_format pt rate =
    record { line = 0; pt = pt; rate = Some rate; is_rtx = false; apt = None }

-- a mapped type, or else a static one
abbrev pub mapped : List Placed → ℕ → Option Mapping → Option Format
mapped lines pt (Some m) =
    let apt = apt_of lines pt in
    Some (record { line = m.line; pt = pt; rate = m.rate; is_rtx = m.is_rtx; apt = apt })
mapped lines pt None = option_map (static_format pt) (static_rate pt)

abbrev pub format_in : List Placed → ℕ → Option Format
format_in lines pt = mapped lines pt (mapping_of lines pt)

unfoldable pub formats_in : List Placed → List ℕ → List Format
formats_in lines types = filter_map (format_in lines) types

-- ---- their faults

-- the type has a `pt` line
abbrev pub has_media : List Format → ℕ → Bool
has_media formats pt = list_any (λ f. f.pt == pt && not f.is_rtx) formats

abbrev pub knows_original : List Format → Option ℕ → Bool
knows_original formats None = false
knows_original formats (Some apt) = has_media formats apt

-- a rate out of range, and a retransmission of what has no `pt` line
abbrev pub fault_of_format : List Format → Format → Option Fault
fault_of_format formats f =
    if not (is_some f.rate) then Some (record { line = f.line; cause = cause.Number })
    else if f.is_rtx && not (knows_original formats f.apt)
    then Some (record { line = f.line; cause = cause.Apt })
    else None

abbrev pub fault_of_formats : List Format → Option Fault
fault_of_formats formats = fold (λ fault f. sooner fault (fault_of_format formats f)) None formats

-- ---- the lines that they give

abbrev pub as_pt : ℕ → Format → Option PtLine
as_pt session f =
    if f.is_rtx then None
    else option_map (λ rate. record { session = session; pt = f.pt; rate = rate }) f.rate

abbrev pub rtx_line : ℕ → ℕ → ℕ → RtxLine
rtx_line session pt apt = record { session = session; pt = pt; osession = session; apt = apt }

abbrev pub as_rtx : ℕ → Format → Option RtxLine
as_rtx session f =
    if f.is_rtx then option_map (rtx_line session f.pt) f.apt else None

-- Media sections: an `m=` line and the lines up to the next one.
use Rattle.std.specs.Prelude.{ℕ, ◌+◌, List, [], ◌∷◌, ◌++◌, map, codes, length, Bool, true, false}
use Rattle.std.specs.Prelude.{◌&&◌, ◌||◌, nat_lt, nat_le, take, drop, is_some, Option, Some, None}
use Rattle.std.specs.Prelude.{Result, Ok, Err, if◌then◌else◌}
use Rattle.std.specs.List.{list_any, filter_map, position_or_len}
use Rattle.rtp_units.specs.declared.shared.RtxLine.{RtxLine}
use Rattle.rtp_units.specs.declared.shared.Fid.{Fid}
use Rattle.script_lang.specs.declared.script.SessionLine.{SessionLine}
use Rattle.script_lang.specs.declared.script.PtLine.{PtLine}
use Rattle.script_lang.specs.Tests.{has_port}
use Rattle.script_lang.specs.Causes.{◌>>=◌}
use Rattle.sdp_profile.specs.declared.attribute.Attribute.{Attribute}
use Rattle.sdp_profile.specs.declared.attribute.Attribute.TheVariants as attribute
use Rattle.sdp_profile.specs.declared.attribute.Placed.{Placed}
use Rattle.sdp_profile.specs.declared.format.Format.{Format}
use Rattle.sdp_profile.specs.declared.fault.Fault.{Fault}
use Rattle.sdp_profile.specs.declared.fault.SdpCause.{SdpCause}
use Rattle.sdp_profile.specs.declared.fault.SdpCause.TheVariants as cause
use Rattle.sdp_profile.specs.Causes.{soonest}
use Rattle.sdp_profile.specs.Text.{Line, behind, words_of, first_of}
use Rattle.sdp_profile.specs.Attributes.{placed_of}
use Rattle.sdp_profile.specs.Media.{Media, media_of_words, is_kept, types_of}
use Rattle.sdp_profile.specs.Formats.{formats_in, fault_of_formats, as_pt, as_rtx}
use Rattle.sdp_profile.specs.Pairs.{fids_of, fault_of_pairs}

pub record Section : Type 0 where
  pub media : Line
  pub lines : List Line

-- what a line says behind `m=`, if it begins so
abbrev pub media_text : Line → Option (List ℕ)
media_text l = behind (codes "m=") l.text

abbrev pub is_media : Line → Bool
is_media l = is_some (media_text l)

-- the lines up to the first `m=` line
abbrev pub until_media : List Line → List Line
until_media lines = take (position_or_len is_media lines) lines

-- the lines from there on
abbrev pub from_media : List Line → List Line
from_media lines = drop (position_or_len is_media lines) lines

-- each `m=` line with the lines up to the next one
abbrev pub sections_of : List Line → List Section
sections_of [] = []
sections_of (l ∷ lines) =
    if is_media l then record { media = l; lines = until_media lines } ∷ sections_of lines
    else sections_of lines

-- ---- what a section's lines say of its ports

abbrev pub is_mux : Attribute → Bool
is_mux attribute.Mux = true
is_mux a = false

abbrev pub is_muxed : List Placed → Bool
is_muxed lines = list_any (λ l. is_mux l.attribute) lines

abbrev pub port_named : ℕ → Attribute → Option (ℕ × ℕ)
port_named line (attribute.Rtcp port) = Some (line, port)
port_named line a = None

-- a line and the port that it names
abbrev pub as_rtcp : Placed → Option (ℕ × ℕ)
as_rtcp l = port_named l.line l.attribute

abbrev pub rtcp_in : List Placed → Option (ℕ × ℕ)
rtcp_in lines = first_of as_rtcp lines

abbrev pub named_or : ℕ → Option (ℕ × ℕ) → ℕ
named_or port (Some named) = named.1
named_or port None = port

-- the port for RTCP of a section with this port
abbrev pub rtcp_port : List Placed → ℕ → ℕ
rtcp_port lines port = if is_muxed lines then port else named_or (port + 1) (rtcp_in lines)

-- ---- the faults behind an `m=` line

abbrev pub malformed_in : ℕ → Attribute → Option Fault
malformed_in line attribute.Malformed = Some (record { line = line; cause = cause.Line })
malformed_in line a = None

abbrev pub as_malformed : Placed → Option Fault
as_malformed l = malformed_in l.line l.attribute

-- the first line that is no statement
abbrev pub fault_of_lines : List Placed → Option Fault
fault_of_lines lines = first_of as_malformed lines

abbrev pub fault_of_port : Option (ℕ × ℕ) → Option Fault
fault_of_port None = None
fault_of_port (Some named) =
    if nat_le 1 named.1 && nat_le named.1 65535 then None
    else Some (record { line = named.0; cause = cause.Number })

-- ---- what kept sections give

-- the lines of a script that come from a description
pub record Described : Type 0 where
  pub sessions : List SessionLine
  pub pts : List PtLine
  pub rtx : List RtxLine
  pub fids : List Fid

-- a ninth session, and a port that is none or an earlier session's
abbrev pub cause_of_session : List SessionLine → ℕ → ℕ → Option SdpCause
cause_of_session sessions rtp rtcp =
    if nat_le 8 (length sessions) then Some cause.Session
    else if nat_lt 65535 rtcp || has_port sessions rtp || has_port sessions rtcp
    then Some cause.Port
    else None

abbrev pub unless : {A : Type 0} → Option Fault → A → Result A Fault
unless None value = Ok value
unless (Some fault) value = Err fault

abbrev pub in_line : {A : Type 0} → ℕ → Option SdpCause → Result A Fault → Result A Fault
in_line line None answer = answer
in_line line (Some c) answer = Err (record { line = line; cause = c })

-- with one session more, of these ports and payload types
abbrev pub with_session : Described → ℕ → ℕ → List Format → List Fid → Described
with_session d rtp rtcp formats fids = record {
  sessions = d.sessions ++ record { session = length d.sessions; rtp = rtp; rtcp = rtcp } ∷ [];
  pts = d.pts ++ filter_map (as_pt (length d.sessions)) formats;
  rtx = d.rtx ++ filter_map (as_rtx (length d.sessions)) formats;
  fids = d.fids ++ fids;
}

-- the soonest fault of the lines behind the `m=` line
abbrev pub fault_of_section : Described → List Placed → List Format → Option Fault
fault_of_section d lines formats =
    soonest (fault_of_lines lines ∷ fault_of_port (rtcp_in lines) ∷ fault_of_formats formats
    ∷ fault_of_pairs d.fids (length d.sessions) lines ∷ [])

-- with a kept section of these payload types
unfoldable pub with_types : Described → ℕ → ℕ → List Placed → List ℕ → Result Described Fault
with_types d line port lines types =
    in_line line (cause_of_session d.sessions port (rtcp_port lines port))
    (unless (fault_of_section d lines (formats_in lines types))
    (with_session d port (rtcp_port lines port) (formats_in lines types)
    (fids_of (length d.sessions) lines)))

abbrev pub with_optional_types : Described → ℕ → ℕ → List Placed → Option (List ℕ)
    → Result Described Fault
with_optional_types d line port lines None = Err (record { line = line; cause = cause.Number })
with_optional_types d line port lines (Some types) = with_types d line port lines types

-- with a section of this port, transport and words for payload types
unfoldable pub with_media : Described → ℕ → List Placed → Media → Result Described Fault
with_media d line lines m =
    if is_kept m then with_optional_types d line m.port lines (types_of m.types)
    else unless (fault_of_lines lines) d

abbrev pub words_behind : Option (List ℕ) → List (List ℕ)
words_behind None = []
words_behind (Some text) = words_of text

abbrev pub media_words : Line → List (List ℕ)
media_words l = words_behind (media_text l)

abbrev pub with_optional_media : Described → ℕ → List Placed → Option Media → Result Described Fault
with_optional_media d line lines None = Err (record { line = line; cause = cause.Media })
with_optional_media d line lines (Some m) = with_media d line lines m

-- with one section more
unfoldable pub with_section : Described → Section → Result Described Fault
with_section d s =
    with_optional_media d s.media.number (map placed_of s.lines)
    (media_of_words (media_words s.media))

-- with all sections, or the fault of the first that has one
unfoldable pub with_sections : Described → List Section → Result Described Fault
with_sections d [] = Ok d
with_sections d (s ∷ sections) = with_section d s >>= λ described. with_sections described sections

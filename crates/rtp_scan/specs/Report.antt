-- What is told of a capture: its streams, and the script.
use Rattle.std.specs.Prelude.{ℕ, ◌==◌, Bool, if◌then◌else◌, List, [], ◌++◌, codes}
use Rattle.std.specs.List.{flat_map}
use Rattle.std.specs.Fmt.{decimal}
use Rattle.script_lang.specs.Contents.{Contents}
use Rattle.script_lang.specs.Written.{script_text, ssrc_text}
use Rattle.rtp_scan.specs.declared.clock.Codec.{Codec}
use Rattle.rtp_scan.specs.declared.clock.Codec.TheVariants as codec
use Rattle.rtp_scan.specs.declared.clock.Clock.{Clock}
use Rattle.rtp_scan.specs.declared.stream.Stream.{Stream}
use Rattle.rtp_scan.specs.Clocks.{clock_of}
use Rattle.rtp_scan.specs.Streams.{Found, streams_in}
use Rattle.rtp_scan.specs.Proposal.{script_in, is_proposed}

-- the name of a codec in RFC 3551
abbrev pub codec_text : Codec → List ℕ
codec_text codec.Pcmu = codes "PCMU"
codec_text codec.Gsm = codes "GSM"
codec_text codec.G723 = codes "G723"
codec_text codec.Dvi4 = codes "DVI4"
codec_text codec.Lpc = codes "LPC"
codec_text codec.Pcma = codes "PCMA"
codec_text codec.G722 = codes "G722"
codec_text codec.L16 = codes "L16"
codec_text codec.Qcelp = codes "QCELP"
codec_text codec.Cn = codes "CN"
codec_text codec.Mpa = codes "MPA"
codec_text codec.G728 = codes "G728"
codec_text codec.G729 = codes "G729"
codec_text codec.CelB = codes "CelB"
codec_text codec.Jpeg = codes "JPEG"
codec_text codec.Nv = codes "nv"
codec_text codec.H261 = codes "H261"
codec_text codec.Mpv = codes "MPV"
codec_text codec.Mp2t = codes "MP2T"
codec_text codec.H263 = codes "H263"
codec_text codec.Guessed = codes "guessed"

-- port, SSRC and payload type
abbrev pub stream_text : Stream → List ℕ
stream_text s =
    decimal s.first.port ++ codes " " ++ ssrc_text s.first.ssrc ++ codes " " ++ decimal s.first.pt

abbrev pub clock_text : Clock → List ℕ
clock_text clock = decimal clock.rate ++ codes " " ++ codec_text clock.codec

-- packets, and the times of the first and the latest one in nanoseconds
abbrev pub counts_text : Stream → List ℕ
counts_text s =
    decimal s.packets ++ codes " " ++ decimal s.first.time ++ codes " " ++ decimal s.latest.time

abbrev pub stream_line : Stream → List ℕ
stream_line s =
    codes "stream " ++ stream_text s ++ codes " " ++ counts_text s ++ codes " "
    ++ clock_text (clock_of s) ++ codes "\n"

-- ---- comments of the script

abbrev pub unplaced_line : Stream → List ℕ
unplaced_line s =
    codes "# no place for stream " ++ stream_text s ++ codes " "
    ++ clock_text (clock_of s) ++ codes "\n"

-- nothing of a stream that has its place
abbrev pub unplaced_text : Contents → Stream → List ℕ
unplaced_text script s = if is_proposed script s then [] else unplaced_line s

abbrev pub left_out_line : ℕ → List ℕ
left_out_line count =
    if count == 0 then []
    else codes "# packets of further streams: " ++ decimal count ++ codes "\n"

-- of streams that have no place in a script, and of packets that were left out
abbrev pub comments_for : Contents → List Stream → ℕ → List ℕ
comments_for script streams left_out =
    flat_map (unplaced_text script) streams ++ left_out_line left_out

-- ---- all of it

abbrev pub lines_for : Bool → List Stream → List ℕ
lines_for script_only streams = if script_only then [] else flat_map stream_line streams

-- the lines of the streams, unless only the script is wanted, the script and its comments
unfoldable pub report_text : Bool → Found → List ℕ
report_text script_only found =
    lines_for script_only (streams_in found) ++ script_text (script_in found)
    ++ comments_for (script_in found) (streams_in found) found.left_out

-- The text of a log's lines: fields separated by one space, numbers in decimal.
use Rattle.std.specs.Prelude.{ℕ, ◌-◌, ◌^◌, if◌then◌else◌, List, [], ◌++◌, codes, Bool, true, false, Option, Some, None}
use Rattle.std.specs.Fmt.{decimal, digits, format_spec, padded_integral}
use Rattle.hex.specs.Hex.{encode_lower}
use Rattle.jitter_model.specs.declared.Origin.{Origin}
use Rattle.jitter_model.specs.declared.Origin.TheVariants.{Original, Retransmission}
use Rattle.timeline.specs.declared.line.BinLine.{BinLine}
use Rattle.timeline.specs.declared.line.BinLine.TheVariants.{Skip, Bad, RtcpBad, Hold, Drop, Pt, Lane, Unaside, Aside, Restart, Refuse, Out, Lost, Request, Nack, Flush, Flushed, Latency, Cname, Sr, RtcpStray, Bye, Sync, Offset, Gone, Report, End, Done}
use Rattle.timeline.specs.declared.line.Word.{Word}
use Rattle.timeline.specs.declared.line.Word.TheVariants as word

-- eight lower-case hexadecimal digits
abbrev pub ssrc_text : ℕ → List ℕ
ssrc_text n = padded_integral (format_spec 32 0 4 8 (2 ^ 64 - 1)) false [] (digits 16 false n)

abbrev pub word_text : Word → List ℕ
word_text word.Cut = codes "cut"
word_text word.NotIp = codes "not-ip"
word_text word.Fragment = codes "fragment"
word_text word.NotUdp = codes "not-udp"
word_text word.Malformed = codes "malformed"
word_text word.Big = codes "big"
word_text word.Port = codes "port"
word_text word.Short = codes "short"
word_text word.Version = codes "version"
word_text word.Csrc = codes "csrc"
word_text word.Extension = codes "extension"
word_text word.Padding = codes "padding"
word_text word.Late = codes "late"
word_text word.Duplicate = codes "duplicate"
word_text word.Full = codes "full"
word_text word.Stray = codes "stray"
word_text word.Flushing = codes "flushing"
word_text word.Length = codes "length"
word_text word.First = codes "first"
word_text word.Body = codes "body"
word_text word.Ended = codes "ended"
word_text word.Own = codes "own"
word_text word.Sources = codes "sources"
word_text word.Collision = codes "collision"
word_text word.Probation = codes "probation"
word_text word.Unmapped = codes "unmapped"
word_text word.Lanes = codes "lanes"
word_text word.Rate = codes "rate"
word_text word.RtxShort = codes "rtx-short"
word_text word.RtxSsrc = codes "rtx-ssrc"
word_text word.RtxAmbiguous = codes "rtx-ambiguous"

-- an original or a retransmission
abbrev pub kind_text : Origin → List ℕ
kind_text Original = codes "o"
kind_text Retransmission = codes "r"

abbrev pub marker_text : Bool → List ℕ
marker_text true = codes "1"
marker_text false = codes "0"

-- the type, marker and length of a packet
abbrev pub shape_text : ℕ → Bool → ℕ → List ℕ
shape_text pt marker len = decimal pt ++ codes " " ++ marker_text marker ++ codes " " ++ decimal len

-- packets given out, numbers lost, packets refused
abbrev pub fates_text : ℕ → ℕ → ℕ → List ℕ
fates_text out lost refused =
    decimal out ++ codes " " ++ decimal lost ++ codes " " ++ decimal refused

-- ---- the words of a line: what it is about, its own word, and its fields

-- what a line of a source is about: its session and its SSRC
abbrev pub source_text : ℕ → ℕ → List ℕ
source_text session ssrc = decimal session ++ codes " " ++ ssrc_text ssrc

-- a line's words, without its bytes and the newline
abbrev pub line_words : BinLine → List ℕ
line_words (Skip time record_number reason) =
    decimal time ++ codes " skip " ++ decimal record_number ++ codes " " ++ word_text reason
line_words (Bad time session why) =
    decimal time ++ codes " bad " ++ decimal session ++ codes " " ++ word_text why
line_words (RtcpBad time session why offset) =
    decimal time ++ codes " rtcp-bad " ++ decimal session ++ codes " " ++ word_text why
    ++ codes " " ++ decimal offset
line_words (Hold time session ssrc seq) =
    decimal time ++ codes " hold " ++ source_text session ssrc ++ codes " " ++ decimal seq
line_words (Drop time session ssrc seq cause) =
    decimal time ++ codes " drop " ++ source_text session ssrc ++ codes " " ++ decimal seq
    ++ codes " " ++ word_text cause
line_words (Pt time session pt rate) =
    decimal time ++ codes " pt " ++ decimal session ++ codes " " ++ decimal pt
    ++ codes " " ++ decimal rate
line_words (Lane time lane session ssrc) =
    decimal time ++ codes " lane " ++ decimal lane ++ codes " " ++ source_text session ssrc
line_words (Unaside time lane count) =
    decimal time ++ codes " unaside " ++ decimal lane ++ codes " " ++ decimal count
line_words (Aside time lane seq) =
    decimal time ++ codes " aside " ++ decimal lane ++ codes " " ++ decimal seq
line_words (Restart time lane seq discarded) =
    decimal time ++ codes " restart " ++ decimal lane ++ codes " " ++ decimal seq
    ++ codes " " ++ decimal discarded
line_words (Refuse time lane seq kind why) =
    decimal time ++ codes " refuse " ++ decimal lane ++ codes " " ++ decimal seq
    ++ codes " " ++ kind_text kind ++ codes " " ++ word_text why
line_words (Out time lane number pts pt marker len bytes) =
    decimal time ++ codes " out " ++ decimal lane ++ codes " " ++ decimal number
    ++ codes " " ++ decimal pts ++ codes " " ++ shape_text pt marker len
line_words (Lost time lane number count pts duration) =
    decimal time ++ codes " lost " ++ decimal lane ++ codes " " ++ decimal number
    ++ codes " " ++ decimal count ++ codes " " ++ decimal pts ++ codes " " ++ decimal duration
line_words (Request time lane number k) =
    decimal time ++ codes " request " ++ decimal lane ++ codes " " ++ decimal number
    ++ codes " " ++ decimal k
line_words (Nack time session bytes) = decimal time ++ codes " nack " ++ decimal session
line_words (Flush time lane count) =
    decimal time ++ codes " flush " ++ decimal lane ++ codes " " ++ decimal count
line_words (Flushed time lane) = decimal time ++ codes " flushed " ++ decimal lane
line_words (Latency time lane ns) =
    decimal time ++ codes " latency " ++ decimal lane ++ codes " " ++ decimal ns
line_words (Cname time session ssrc name) =
    decimal time ++ codes " cname " ++ source_text session ssrc
line_words (Sr time session ssrc ntp rtp) =
    decimal time ++ codes " sr " ++ source_text session ssrc ++ codes " " ++ decimal ntp
    ++ codes " " ++ decimal rtp
line_words (RtcpStray time session ssrc) =
    decimal time ++ codes " rtcp-stray " ++ source_text session ssrc
line_words (Bye time session ssrc) = decimal time ++ codes " bye " ++ source_text session ssrc
line_words (Sync time lane local) =
    decimal time ++ codes " sync " ++ decimal lane ++ codes " " ++ decimal local
line_words (Offset time lane ns) =
    decimal time ++ codes " offset " ++ decimal lane ++ codes " " ++ decimal ns
line_words (Gone time session ssrc) = decimal time ++ codes " gone " ++ source_text session ssrc
line_words (Report time session bytes) = decimal time ++ codes " report " ++ decimal session
line_words (End time lane) = decimal time ++ codes " end " ++ decimal lane
line_words (Done records lanes out lost refused) =
    codes "done " ++ decimal records ++ codes " " ++ decimal lanes
    ++ codes " " ++ fates_text out lost refused

-- ---- the bytes behind the words, in hexadecimal digits

-- the bytes that a line shows; those of a packet that leaves only where they are asked for
abbrev pub bytes_of : Bool → BinLine → Option (List ℕ)
bytes_of hex (Out time lane number pts pt marker len bytes) = if hex then Some bytes else None
bytes_of hex (Nack time session bytes) = Some bytes
bytes_of hex (Cname time session ssrc name) = Some name
bytes_of hex (Report time session bytes) = Some bytes
bytes_of hex line = None

-- behind a space, also where there are none of them, as in an empty CNAME
abbrev pub bytes_text : Option (List ℕ) → List ℕ
bytes_text (Some bytes) = codes " " ++ encode_lower bytes
bytes_text None = []

abbrev pub line_text : Bool → BinLine → List ℕ
line_text hex line = line_words line ++ bytes_text (bytes_of hex line) ++ codes "\n"

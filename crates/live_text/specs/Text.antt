-- The text of a journal's entries: fields separated by one space, numbers in decimal.
use Rattle.std.specs.Prelude.{ℕ, List, [], ◌++◌, codes, Bool, if◌then◌else◌, Option, Some, None}
use Rattle.std.specs.Fmt.{decimal}
use Rattle.jitter_model.specs.declared.Verdict.{Verdict}
use Rattle.jitter_model.specs.declared.Verdict.TheVariants as verdict
use Rattle.live_bin.specs.declared.entry.Entry.{Entry}
use Rattle.live_bin.specs.declared.entry.Entry.TheVariants.{Push, Report, Clock, FlushStart}
use Rattle.live_bin.specs.declared.entry.Entry.TheVariants.{FlushStop, Latency, Ends, Packet}
use Rattle.live_bin.specs.declared.entry.Entry.TheVariants.{Lost, Request, End}
use Rattle.log_text.specs.Text.{kind_text, shape_text, bytes_text}

-- a pusher, and which of what it brings
abbrev pub numbered_text : ℕ → ℕ → List ℕ
numbered_text pusher k = decimal pusher ++ codes " " ++ decimal k

-- what became of a packet
abbrev pub verdict_text : Verdict → List ℕ
verdict_text verdict.Accepted = codes "accepted"
verdict_text verdict.Aside = codes "aside"
verdict_text (verdict.Restart count) = codes "restart"
verdict_text verdict.Late = codes "late"
verdict_text verdict.Duplicate = codes "duplicate"
verdict_text verdict.Full = codes "full"
verdict_text verdict.Stray = codes "stray"
verdict_text verdict.Flushing = codes "flushing"
verdict_text verdict.Ended = codes "ended"

-- how many held packets were dropped
abbrev pub discarded_by : Verdict → ℕ
discarded_by (verdict.Restart count) = count
discarded_by v = 0

-- the verdict, the packet's number, and how many held ones and ones that had been put aside were
-- dropped
abbrev pub fate_text : Verdict → ℕ → ℕ → List ℕ
fate_text v number aside_dropped =
    verdict_text v ++ codes " " ++ decimal number ++ codes " " ++ decimal (discarded_by v)
    ++ codes " " ++ decimal aside_dropped

-- a time in the lane's timeline, where there is one
abbrev pub local_text : Option ℕ → List ℕ
local_text None = codes "none"
local_text (Some time) = decimal time

-- an entry's words behind its number, without its bytes and the newline
abbrev pub entry_words : ℕ → Entry → List ℕ
entry_words i (Push pusher k stamp seq origin v number aside_dropped) =
    decimal i ++ codes " push " ++ numbered_text pusher k
    ++ codes " " ++ decimal stamp ++ codes " " ++ decimal seq ++ codes " " ++ kind_text origin
    ++ codes " " ++ fate_text v number aside_dropped
entry_words i (Report pusher k ntp_ns rtp local) =
    decimal i ++ codes " report " ++ numbered_text pusher k
    ++ codes " " ++ decimal ntp_ns ++ codes " " ++ decimal rtp ++ codes " " ++ local_text local
entry_words i (Clock by t) =
    decimal i ++ codes " clock " ++ decimal by ++ codes " " ++ decimal t
entry_words i (FlushStart count) = decimal i ++ codes " flush " ++ decimal count
entry_words i FlushStop = decimal i ++ codes " flushed"
entry_words i (Latency ns) = decimal i ++ codes " latency " ++ decimal ns
entry_words i (Ends pusher) = decimal i ++ codes " ends " ++ decimal pusher
entry_words i (Packet number pts packet) =
    decimal i ++ codes " out " ++ decimal number ++ codes " " ++ decimal pts
    ++ codes " " ++ shape_text packet.pt packet.marker packet.payload
entry_words i (Lost number count pts duration) =
    decimal i ++ codes " lost " ++ decimal number ++ codes " " ++ decimal count
    ++ codes " " ++ decimal pts ++ codes " " ++ decimal duration
entry_words i (Request number k) =
    decimal i ++ codes " request " ++ decimal number ++ codes " " ++ decimal k
entry_words i End = decimal i ++ codes " end"

-- the bytes that an entry shows: those of a packet that leaves, where they are asked for
abbrev pub bytes_of : Bool → Entry → Option (List ℕ)
bytes_of hex (Packet number pts packet) = if hex then Some packet.bytes else None
bytes_of hex e = None

-- an entry's line; the bytes stand behind a space, in lower-case hexadecimal digits
abbrev pub entry_text : Bool → ℕ → Entry → List ℕ
entry_text hex i e = entry_words i e ++ bytes_text (bytes_of hex e) ++ codes "\n"

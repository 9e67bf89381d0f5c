-- What a history stands for: the packets that were sent and the requests that were answered, the latest first.
use Rattle.std.specs.Prelude.{◌≡◌, ◌<◌, ◌≤◌, ◌⊎◌, ℕ, ◌+◌, ◌%◌, ◌||◌, nat_lt, if◌then◌else◌, Bool, true, false, List, [], ◌∷◌, ◌++◌, length, take, Option, Some, None, IsSome, Result, Ok, Err, option_map, unwrap_or}
use Rattle.std.specs.Option.{option_and_then}
use Rattle.std.specs.List.{list_any}
use Rattle.std.specs.Map.{lookup}
use Rattle.circular_buffer.specs.Buffer.{Buffer, buffer}
use Rattle.rtp_units.specs.declared.memory.OutOfMemory.{OutOfMemory}
use Rattle.rtp_wire.specs.Packet.{Packet, IsPacket}
use Rattle.rtx.specs.declared.outlet.Outlet.{Outlet}
use Rattle.rtx.specs.declared.answers.Retransmission.{Retransmission}
use Rattle.rtx.specs.Sending.{Stream, is_stream, Setting, Sending, latest_in, outlet_of, retransmission_packet, retransmission_spelling}

-- a packet of a session that was to be remembered, or a request for a number of a stream of a session
pub data Call : Type 0 where
  Remembers : ℕ → Packet → Call
  Answers : ℕ → ℕ → ℕ → Call

-- ---- what is remembered

abbrev pub streams_next : List Stream → Stream → Bool → List Stream
streams_next streams stream true = streams
streams_next streams stream false = streams ++ stream ∷ []

-- the streams of all packets, in the order of first sight
abbrev pub streams_seen : List Call → List Stream
streams_seen [] = []
streams_seen (Remembers session p ∷ before) = streams_next (streams_seen before) (session, p.ssrc) (list_any (is_stream (session, p.ssrc)) (streams_seen before))
streams_seen (Answers session ssrc seq ∷ before) = streams_seen before

-- those that are remembered: the first 64
abbrev pub streams_of : List Call → List Stream
streams_of calls = take 64 (streams_seen calls)

abbrev pub is_remembered : List Call → Stream → Bool
is_remembered calls stream = list_any (is_stream stream) (streams_of calls)

-- all packets of a stream, the latest first
abbrev pub packets_of : List Call → Stream → List Packet
packets_of [] stream = []
packets_of (Remembers session p ∷ before) stream = if is_stream stream (session, p.ssrc) then p ∷ packets_of before stream else packets_of before stream
packets_of (Answers session ssrc seq ∷ before) stream = packets_of before stream

-- a remembered stream's last packets
abbrev pub kept_of : ℕ → List Call → Stream → Option (Buffer Packet)
kept_of per_stream calls stream = if is_remembered calls stream then Some (buffer (take per_stream (packets_of calls stream)) per_stream) else None

-- ---- what a request is answered with

abbrev pub latest_of : Setting → List Call → Stream → ℕ → Option Packet
latest_of s calls stream seq = option_and_then (λ b. latest_in b.items seq) (kept_of s.per_stream calls stream)

-- a packet and where it is retransmitted
abbrev pub paired : Packet → Outlet → Packet × Outlet
paired p o = (p, o)

abbrev pub sought_by : Setting → ℕ → ℕ → Option Packet → Option (Packet × Outlet)
sought_by s session ssrc None = None
sought_by s session ssrc (Some p) = option_map (paired p) (outlet_of s.lines s.fids session ssrc p.pt)

-- the latest remembered packet with this number, and where it is retransmitted
abbrev pub sought : Setting → List Call → ℕ → ℕ → ℕ → Option (Packet × Outlet)
sought s calls session ssrc seq = sought_by s session ssrc (latest_of s calls (session, ssrc) seq)

-- ---- the numbers of retransmission streams

abbrev pub goes_out : Stream → Option (Packet × Outlet) → Bool
goes_out stream None = false
goes_out stream (Some x) = is_stream (x.1.session, x.1.ssrc) stream

-- the next number of a retransmission stream: how many went out in it, modulo 2^16
abbrev pub number_of : Setting → List Call → Stream → ℕ
number_of s [] stream = 0
number_of s (Remembers session p ∷ before) stream = number_of s before stream
number_of s (Answers session ssrc seq ∷ before) stream = if goes_out stream (sought s before session ssrc seq) then (number_of s before stream + 1) % 65536 else number_of s before stream

-- ---- the history

-- A history with this setting went through these calls.
pub record StandsFor (h : Sending) (s : Setting) (calls : List Call) : Type 0 where
  pub setting : h.setting ≡ s
  pub streams : (stream : Stream) → lookup (is_stream stream) h.streams ≡ kept_of s.per_stream calls stream
  pub count : length h.streams ≡ length (streams_of calls)
  pub numbers : (stream : Stream) → unwrap_or (lookup (is_stream stream) h.numbers) 0 ≡ number_of s calls stream

-- What remembering a packet of this stream answers: false exactly where the stream is new and 64 are remembered.
abbrev pub IsRemembered : List Call → Stream → Bool → Type 0
IsRemembered calls stream true = (is_remembered calls stream ≡ true) ⊎ (length (streams_of calls) < 64)
IsRemembered calls stream false = (is_remembered calls stream ≡ false) × (64 ≤ length (streams_of calls))

-- What a request is answered with: a retransmission of the packet that is sought, under its
-- stream's next number.
abbrev pub IsAnswer : Setting → List Call → ℕ → ℕ → ℕ → Result (Option Retransmission) OutOfMemory → Type 0
IsAnswer s calls session ssrc seq (Ok None) = sought s calls session ssrc seq ≡ None
IsAnswer s calls session ssrc seq (Ok (Some x)) =
    (p : Packet) × (o : Outlet) × (sought s calls session ssrc seq ≡ Some (p, o)) × (x.session ≡ o.session)
    × (x.bytes ≡ retransmission_spelling o (number_of s calls (o.session, o.ssrc)) p)
    × IsPacket (retransmission_packet o (number_of s calls (o.session, o.ssrc)) p x.bytes)
IsAnswer s calls session ssrc seq (Err e) = IsSome (sought s calls session ssrc seq)

-- A call that memory was refused adds nothing.
abbrev pub calls_after : {X : Type 0} → Call → List Call → Result X OutOfMemory → List Call
calls_after call calls (Ok x) = call ∷ calls
calls_after call calls (Err e) = calls

-- ---- the same as functions

-- Its stream is remembered, or there is room for one more.
abbrev pub remembers : List Call → Stream → Bool
remembers calls stream = is_remembered calls stream || nat_lt (length (streams_of calls)) 64

abbrev pub answered_by : Setting → List Call → Option (Packet × Outlet) → Option Retransmission
answered_by s calls None = None
answered_by s calls (Some (p, o)) = Some (record {
  session = o.session;
  bytes = retransmission_spelling o (number_of s calls (o.session, o.ssrc)) p;
})

-- the retransmission that a request is answered with
abbrev pub answered : Setting → List Call → ℕ → ℕ → ℕ → Option Retransmission
answered s calls session ssrc seq = answered_by s calls (sought s calls session ssrc seq)

-- Remembering has one answer.
abbrev pub IsOneRemembering : Type 0
IsOneRemembering =
    (calls : List Call) (stream : Stream) (answer : Bool) → IsRemembered calls stream answer
    → answer ≡ remembers calls stream

-- A request has one answer but want of memory.
abbrev pub IsOneAnswer : Type 0
IsOneAnswer =
    (s : Setting) (calls : List Call) (session ssrc seq : ℕ) (answer : Option Retransmission)
    → IsAnswer s calls session ssrc seq (Ok answer) → answer ≡ answered s calls session ssrc seq

-- Lanes: streams in order of first sight.
use Rattle.std.specs.Prelude.{◌≡◌, ◌<◌, ◌≤◌, ℕ, ◌+◌, ◌==◌, ◌&&◌, nat_eq, nat_lt, if◌then◌else◌, Bool, List, [], ◌∷◌, ◌++◌, length, take, slice_get, Option, Some, None, option_map}
use Rattle.std.specs.Map.{lookup}
use Rattle.rtp_demux.specs.declared.lanes.LaneOf.{LaneOf}
use Rattle.rtp_demux.specs.declared.lanes.LaneOf.TheVariants.{New, Known, Rate, Full}

-- a session and an SSRC
abbrev pub Stream : Type 0
Stream = ℕ × ℕ

-- a packet's stream, and the clock rate of its payload type
abbrev pub Sight : Type 0
Sight = Stream × ℕ

abbrev pub sight : ℕ → ℕ → ℕ → Sight
sight session ssrc rate = ((session, ssrc), rate)

abbrev pub is_stream : Stream → Stream → Bool
is_stream a b = nat_eq a.0 b.0 && nat_eq a.1 b.1

-- the rate that goes with a stream
abbrev pub rate_of : List Sight → Stream → Option ℕ
rate_of sights stream = lookup (is_stream stream) sights

abbrev pub seen_next : List Sight → Sight → Option ℕ → List Sight
seen_next sights s None = sights ++ s ∷ []
seen_next sights s (Some rate) = sights

-- each stream of these calls at its first sight, in that order; the latest call stands first in the list of calls
abbrev pub first_sights : List Sight → List Sight
first_sights [] = []
first_sights (s ∷ before) = seen_next (first_sights before) s (rate_of (first_sights before) s.0)

-- the lanes that calls leave: the first 64 streams
abbrev pub lanes_of : List Sight → List Sight
lanes_of calls = take 64 (first_sights calls)

-- The demultiplexer went through these calls, the latest first.
abbrev pub StandsFor : List Sight → List Sight → Type 0
StandsFor lanes calls = lanes ≡ lanes_of calls

-- Which lane a stream is told, where these are the lanes.
abbrev pub IsLane : List Sight → Sight → LaneOf → Type 0
IsLane lanes s (New lane) = (rate_of lanes s.0 ≡ None) × (length lanes < 64) × (lane ≡ length lanes)
IsLane lanes s (Known lane) = slice_get lanes lane ≡ Some s
IsLane lanes s (Rate lane kept) = (slice_get lanes lane ≡ Some (s.0, kept)) × (kept ≡ s.1 → ⊥)
IsLane lanes s Full = (rate_of lanes s.0 ≡ None) × (64 ≤ length lanes)

-- Which lane a stream has, if it has one.
abbrev pub IsFound : List Sight → Stream → Option ℕ → Type 0
IsFound lanes stream None = rate_of lanes stream ≡ None
IsFound lanes stream (Some lane) = (rate : ℕ) × (slice_get lanes lane ≡ Some (stream, rate))

-- ---- the same as functions

-- a stream's number and rate, where numbers begin with this one
abbrev pub found_from : ℕ → Stream → List Sight → Option (ℕ × ℕ)
found_from n stream [] = None
found_from n stream (s ∷ more) =
    if is_stream stream s.0 then Some (n, s.1) else found_from (n + 1) stream more

-- the lane of a stream, if it has one
abbrev pub lane_of : List Sight → Stream → Option ℕ
lane_of lanes stream = option_map (λ e. e.0) (found_from 0 stream lanes)

abbrev pub lane_by : List Sight → ℕ → Option (ℕ × ℕ) → LaneOf
lane_by lanes rate None = if nat_lt (length lanes) 64 then New (length lanes) else Full
lane_by lanes rate (Some e) = if e.1 == rate then Known e.0 else Rate e.0 e.1

-- which lane a stream is told
abbrev pub lane_for : List Sight → Sight → LaneOf
lane_for lanes s = lane_by lanes s.1 (found_from 0 s.0 lanes)

-- ---- laws

-- A stream is told one lane.
abbrev pub IsOneLane : Type 0
IsOneLane =
    (calls : List Sight) (s : Sight) (answer : LaneOf) → IsLane (lanes_of calls) s answer
    → answer ≡ lane_for (lanes_of calls) s

-- A stream has one lane, or none.
abbrev pub IsOneFinding : Type 0
IsOneFinding =
    (calls : List Sight) (stream : Stream) (answer : Option ℕ)
    → IsFound (lanes_of calls) stream answer → answer ≡ lane_of (lanes_of calls) stream

-- A stream without a lane gets the next one, as long as there are fewer than 64.
abbrev pub IsNewLane : Type 0
IsNewLane =
    (before : List Sight) (s : Sight)
    → rate_of (lanes_of before) s.0 ≡ None → length (lanes_of before) < 64
    → lanes_of (s ∷ before) ≡ lanes_of before ++ s ∷ []

-- One that has a lane changes nothing.
abbrev pub IsKnownLane : Type 0
IsKnownLane =
    (before : List Sight) (s : Sight) (rate : ℕ)
    → rate_of (lanes_of before) s.0 ≡ Some rate → lanes_of (s ∷ before) ≡ lanes_of before

-- Where there are 64 lanes, nothing changes them.
abbrev pub StaysFull : Type 0
StaysFull =
    (before : List Sight) (s : Sight)
    → 64 ≤ length (lanes_of before) → lanes_of (s ∷ before) ≡ lanes_of before

-- No stream has two lanes, and a lane stays its stream's, with its rate, whatever call comes next.
abbrev pub IsNumberedOnce : Type 0
IsNumberedOnce =
    (calls : List Sight) (i j : ℕ) (stream : Stream) (p q : ℕ)
    → slice_get (lanes_of calls) i ≡ Some (stream, p) → slice_get (lanes_of calls) j ≡ Some (stream, q)
    → i ≡ j

abbrev pub StaysNumbered : Type 0
StaysNumbered =
    (calls : List Sight) (call : Sight) (lane : ℕ) (s : Sight)
    → slice_get (lanes_of calls) lane ≡ Some s → slice_get (lanes_of (call ∷ calls)) lane ≡ Some s

-- The clock rate of a stream: that of its payload type, or a guess.
use Rattle.std.specs.Prelude.{ℕ, ◌≤◌, ◌+◌, ◌-◌, ◌*◌, ◌/◌, ◌%◌, ◌^◌, ◌==◌, nat_lt, if◌then◌else◌}
use Rattle.std.specs.Prelude.{List, [], ◌∷◌, codes, Option, Some, None, find}
use Rattle.rtp_scan.specs.declared.clock.Codec.{Codec}
use Rattle.rtp_scan.specs.declared.clock.Codec.TheVariants as codec
use Rattle.rtp_scan.specs.declared.clock.Clock.{Clock}
use Rattle.rtp_scan.specs.declared.stream.Stream.{Stream}

-- a payload type, its rate and its codec
abbrev pub StaticType : Type 0
StaticType = ℕ × ℕ × Codec

-- the static types of RFC 3551, section 6, with their clock rates
abbrev pub static_types : List StaticType
static_types =
    (0, 8000, codec.Pcmu)
    ∷ (3, 8000, codec.Gsm)
    ∷ (4, 8000, codec.G723)
    ∷ (5, 8000, codec.Dvi4)
    ∷ (6, 16000, codec.Dvi4)
    ∷ (7, 8000, codec.Lpc)
    ∷ (8, 8000, codec.Pcma)
    ∷ (9, 8000, codec.G722)
    ∷ (10, 44100, codec.L16)
    ∷ (11, 44100, codec.L16)
    ∷ (12, 8000, codec.Qcelp)
    ∷ (13, 8000, codec.Cn)
    ∷ (14, 90000, codec.Mpa)
    ∷ (15, 8000, codec.G728)
    ∷ (16, 11025, codec.Dvi4)
    ∷ (17, 22050, codec.Dvi4)
    ∷ (18, 8000, codec.G729)
    ∷ (25, 90000, codec.CelB)
    ∷ (26, 90000, codec.Jpeg)
    ∷ (28, 90000, codec.Nv)
    ∷ (31, 90000, codec.H261)
    ∷ (32, 90000, codec.Mpv)
    ∷ (33, 90000, codec.Mp2t)
    ∷ (34, 90000, codec.H263)
    ∷ []

-- ---- a guess

-- The nearest of the rates of dynamic types. Halfway between two it is the greater one.
abbrev pub nearest_rate : ℕ → ℕ
nearest_rate n =
    if nat_lt n 12000 then 8000
    else if nat_lt n 24000 then 16000
    else if nat_lt n 38050 then 32000
    else if nat_lt n 46050 then 44100
    else if nat_lt n 69000 then 48000
    else 90000

abbrev pub distance : ℕ → ℕ → ℕ
distance a b = (a - b) + (b - a)

-- No other of the rates is nearer to n than this one.
pub record IsNearest (n rate : ℕ) : Type 0 where
  pub narrow : distance n rate ≤ distance n 8000
  pub wide : distance n rate ≤ distance n 16000
  pub super_wide : distance n rate ≤ distance n 32000
  pub disc : distance n rate ≤ distance n 44100
  pub full : distance n rate ≤ distance n 48000
  pub video : distance n rate ≤ distance n 90000

-- from the first packet to the latest one: ticks, modulo 2^32, and nanoseconds
abbrev pub ticks_of : Stream → ℕ
ticks_of s = (s.latest.timestamp + (2 ^ 32 - s.first.timestamp)) % 2 ^ 32

abbrev pub nanoseconds_of : Stream → ℕ
nanoseconds_of s = s.latest.time - s.first.time

-- by ticks and nanoseconds; where no time passed it is 90000
abbrev pub rate_by : ℕ → ℕ → ℕ
rate_by ticks ns = if ns == 0 then 90000 else nearest_rate (ticks * 1000000000 / ns)

abbrev pub clock_by : Option StaticType → Stream → Clock
clock_by (Some t) s = record { rate = t.1; codec = t.2 }
clock_by None s = record { rate = rate_by (ticks_of s) (nanoseconds_of s); codec = codec.Guessed }

-- The payload type of a stream is that of its first packet.
unfoldable pub clock_of : Stream → Clock
clock_of s = clock_by (find (λ t. t.0 == s.first.pt) static_types) s

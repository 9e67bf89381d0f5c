-- Probation, counts and jitter of a source (after RFC 3550, appendices A.1, A.3 and A.8).
use Rattle.std.specs.Prelude.{ℕ, ℤ, pos, ◌+◌, ◌-◌, ◌*◌, ◌/◌, ◌%◌, ◌==◌, ◌&&◌, not, nat_lt, nat_le, min, if◌then◌else◌, Bool, true, false, Option, Some, None}
use Rattle.std.specs.Prelude.{neg_ℤ}
use Rattle.source_table.specs.declared.run.Run.{Run}
use Rattle.source_table.specs.declared.counts.Counts.{Counts}
use Rattle.source_table.specs.declared.jitter.Jitter.{Jitter}

-- ---- probation

abbrev pub no_run : Run
no_run = record { last = 0; length = 0 }

-- the number is one above the last, modulo 2^16
abbrev pub follows : Run → ℕ → Bool
follows run seq = not (run.length == 0) && (seq == (run.last + 1) % 65536)

abbrev pub run_next : Run → ℕ → Run
run_next run seq = record { last = seq; length = if follows run seq then min (run.length + 1) 255 else 1 }

-- ---- counts

-- counts after a packet, and whether it was counted
pub record Counted : Type 0 where
  pub counts : Counts
  pub counted : Bool

-- The packet that makes a source valid begins the counts.
abbrev pub counts_begin : ℕ → Counts
counts_begin seq = record { base = seq; greatest = seq; received = 1; jump = None; prior_expected = 0; prior_received = 0 }

-- how far a number lies ahead of the greatest, modulo 2^16
abbrev pub ahead : Counts → ℕ → ℕ
ahead c seq = (seq + 65536 - c.greatest % 65536) % 65536

abbrev pub is_after : Option ℕ → ℕ → Bool
is_after None seq = false
is_after (Some last) seq = seq == (last + 1) % 65536

-- A jump is not counted, but one that follows the last jump begins the counts anew.
abbrev pub jump_next : Counts → ℕ → Counted
jump_next c seq =
    if is_after c.jump seq then record { counts = counts_begin seq; counted = true }
    else record { counts = record c { jump = Some seq }; counted = false }

-- Below 3000 ahead a packet is in order, from 65437 on it is late or repeated, and between the two it is a jump.
abbrev pub count_next : Counts → ℕ → Counted
count_next c seq =
    if nat_lt (ahead c seq) 3000 then record {
      counts = record c { greatest = c.greatest + ahead c seq; received = c.received + 1 };
      counted = true;
    }
    else if nat_lt 65436 (ahead c seq) then record {
      counts = record c { received = c.received + 1 };
      counted = true;
    }
    else jump_next c seq

abbrev pub expected_of : Counts → ℕ
expected_of c = c.greatest - c.base + 1

-- expected less received, held to 24 bits with a sign
abbrev pub lost_of : Counts → ℤ
lost_of c =
    if nat_le c.received (expected_of c) then pos (min (expected_of c - c.received) 8388607)
    else neg_ℤ (pos (min (c.received - expected_of c) 8388608))

-- lost in the interval * 256 / expected in the interval; 0 where nothing is expected or lost
abbrev pub fraction_of : Counts → ℕ
fraction_of c =
    if nat_le (expected_of c - c.prior_expected) (c.received - c.prior_received) then 0
    else ((expected_of c - c.prior_expected) - (c.received - c.prior_received)) * 256
    / (expected_of c - c.prior_expected)

abbrev pub counts_reported : Counts → Counts
counts_reported c = record c { prior_expected = expected_of c; prior_received = c.received }

-- ---- jitter

abbrev pub no_jitter : Jitter
no_jitter = record { transit = None; sixteenths = 0 }

-- the arrival in ticks, cut down, less the timestamp, modulo 2^32
abbrev pub transit_of : ℕ → ℕ → ℕ → ℕ
transit_of now timestamp rate = (now * rate / 1000000000 % 4294967296 + 4294967296 - timestamp) % 4294967296

-- how far two transits lie apart as signed numbers of 32 bits
abbrev pub apart : ℕ → ℕ → ℕ
apart here before = min ((here + 4294967296 - before) % 4294967296) (4294967296 - (here + 4294967296 - before) % 4294967296)

abbrev pub step_of : ℕ → ℕ → ℕ
step_of sixteenths distance = sixteenths + distance - (sixteenths + 8) / 16

abbrev pub sixteenths_next : ℕ → ℕ → Option ℕ → ℕ
sixteenths_next old here None = old
sixteenths_next old here (Some before) = step_of old (apart here before)

-- A packet without a rate changes nothing, and the first with one only sets the transit.
abbrev pub jitter_next : Jitter → ℕ → ℕ → Option ℕ → Jitter
jitter_next j now timestamp None = j
jitter_next j now timestamp (Some rate) =
    record { transit = Some (transit_of now timestamp rate); sixteenths = sixteenths_next j.sixteenths (transit_of now timestamp rate) j.transit }

-- When packets that did not come are requested again.
--
-- Two kinds of number have requests: those that are missing below the greatest accepted one, and the one after it, where the spacing of the last two heights says when it is due.
use Rattle.std.specs.Prelude.{ℕ, ◌+◌, ◌-◌, ◌*◌, ◌/◌, ◌==◌, ◌&&◌, Bool, List, [], ◌∷◌, min, Option, Some, None, nat_lt, nat_le, if◌then◌else◌}
use Rattle.jitter_model.specs.declared.Settings.{Settings}
use Rattle.jitter_model.specs.declared.Mark.{Mark}
use Rattle.jitter_model.specs.Accepted.{Taken}

-- the lesser of the times that there are
abbrev pub lesser : Option ℕ → Option ℕ → Option ℕ
lesser None o = o
lesser (Some x) None = Some x
lesser (Some x) (Some y) = Some (min x y)

-- the first one, where there is one, else the other
abbrev pub or_else : Option ℕ → Option ℕ → Option ℕ
or_else None o = o
or_else (Some x) o = Some x

-- a time put off
abbrev pub later : ℕ → Option ℕ → Option ℕ
later delay None = None
later delay (Some t) = Some (t + delay)

-- the stamp of the first accepted packet whose number is at least m
abbrev pub first_from : List Taken → ℕ → Option ℕ
first_from [] m = None
first_from (p ∷ ps) m = or_else (first_from ps m) (if nat_le m p.number then Some p.arrival.stamp else None)

-- when the first request for a missing number is due: a delay after the first packet above it came, or with the first packet that is reorder or more above it
abbrev pub first_due : Settings → List Taken → ℕ → Option ℕ
first_due s ps n = lesser (later s.rtx_delay (first_from ps (n + 1))) (if s.reorder == 0 then None else first_from ps (n + s.reorder))

-- the requests for a number: when the first is due, and the limit, from which on none is made
pub record Wanted : Type 0 where
  pub first : ℕ
  pub limit : ℕ

-- those of a missing number: up to its deadline
abbrev pub wanted_missing : Option ℕ → ℕ → Option Wanted
wanted_missing None deadline = None
wanted_missing (Some first) deadline = Some (record { first = first; limit = deadline })

-- the spacing of two neighbouring heights: the time from one number to the next, cut towards zero
abbrev pub spacing : Mark → Mark → ℕ
spacing a b = (b.pts - a.pts) / (b.number - a.number)

-- whether a spacing tells when a packet is due: from 1 nanosecond to 10 seconds
abbrev pub is_spacing : ℕ → Bool
is_spacing t = nat_le 1 t && nat_le t 10000000000

-- those of the number after the greatest, where that is the last height: a spacing after it, by the last two heights
abbrev pub wanted_next : Settings → ℕ → ℕ → List Mark → Option Wanted
wanted_next s latency top [] = None
wanted_next s latency top (b ∷ []) = None
wanted_next s latency top (b ∷ a ∷ ms) =
    if b.number == top && is_spacing (spacing a b)
    then Some (record { first = b.pts + spacing a b + s.rtx_delay; limit = b.pts + spacing a b + latency })
    else None

-- when request k is due, by when the first one is
abbrev pub due : Settings → ℕ → ℕ → ℕ
due s first k = first + k * s.rtx_retry

-- a request that is answered: when the first unserved one of its number was due, the number, and which request it is
pub record Asked : Type 0 where
  pub time : ℕ
  pub number : ℕ
  pub k : ℕ

-- the earlier one of two, and of two of one time the first
abbrev pub earlier : Option Asked → Option Asked → Option Asked
earlier None o = o
earlier (Some x) None = Some x
earlier (Some x) (Some y) = if nat_lt y.time x.time then Some y else Some x

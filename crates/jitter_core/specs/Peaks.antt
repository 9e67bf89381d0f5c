-- The peaks of a segment: the accepted packets that were greater than all accepted before them, the oldest first, each with its stamp. The first packet from a number on that was accepted is one of them.
use Rattle.std.specs.Prelude.{ℕ, ◌++◌, ◌^◌, ◌<◌, Bool, false, List, [], ◌∷◌, Option, Some, None, nat_le, length, slice_index_or, if◌then◌else◌}
use Rattle.jitter_model.specs.Accepted.{Taken, top}
use Rattle.jitter_model.specs.Times.{is_above}
use Rattle.jitter_core.specs.declared.peaks.Peak.{Peak}

-- the peaks of these packets
abbrev pub peaks : List Taken → List Peak
peaks [] = []
peaks (p ∷ ps) = if is_above (top ps) p.number then peaks ps ++ record { number = p.number; stamp = p.arrival.stamp } ∷ [] else peaks ps

-- these from the first one on that is above a number
abbrev pub above : ℕ → List Peak → List Peak
above n [] = []
above n (p ∷ ps) = if nat_le p.number n then above n ps else p ∷ ps

-- these from the first one on that is above the next number, where that is known
abbrev pub above_next : Option ℕ → List Peak → List Peak
above_next None ps = ps
above_next (Some next) ps = above next ps

-- those above the next number after one more packet, which may be one
abbrev pub with_peak : Option ℕ → Option ℕ → ℕ → ℕ → List Peak → List Peak
with_peak top next n stamp ps = if is_above top n then above_next next (ps ++ record { number = n; stamp = stamp } ∷ []) else ps

-- the stamp of the first one whose number is at least m
abbrev pub stamp_from : List Peak → ℕ → Option ℕ
stamp_from [] m = None
stamp_from (p ∷ ps) m = if nat_le m p.number then Some p.stamp else stamp_from ps m

-- peaks with stamps below 2^63
abbrev pub ArePeaksBounded : List Peak → Type 0
ArePeaksBounded ps = (i : ℕ) (d : Peak) → i < length ps → (slice_index_or ps i d).stamp < 2 ^ 63

-- peaks of which each is less than those after it
abbrev pub ArePeaksRising : List Peak → Type 0
ArePeaksRising ps = (i j : ℕ) (d : Peak) → i < j → j < length ps → (slice_index_or ps i d).number < (slice_index_or ps j d).number

-- whether the first of these isn't above a number
abbrev pub starts_past : ℕ → List Peak → Bool
starts_past n [] = false
starts_past n (p ∷ ps) = nat_le p.number n

-- Presentation times and expected times.
use Rattle.std.specs.Prelude.{ℕ, pos, ◌+◌, ◌-◌, ◌+ℤ◌, ◌-ℤ◌, ◌*ℤ◌, int_div, ◌==◌, ◌||◌, ◌&&◌, Bool, true, false, List, [], ◌∷◌, Option, Some, None, nat_lt, nat_le, if◌then◌else◌}
use Rattle.rtp_units.specs.Numbers.{hold}
use Rattle.skew_model.specs.Skew.{Height, Estimate, estimate, estimate_after, height_time, other_time}
use Rattle.jitter_model.specs.declared.Settings.{Settings}
use Rattle.jitter_model.specs.declared.Mark.{Mark}
use Rattle.jitter_model.specs.declared.Held.{Held}
use Rattle.jitter_model.specs.History.{History, is_flushing}
use Rattle.jitter_model.specs.Accepted.{Taken, top, is_original, accepted}
use Rattle.jitter_model.specs.Covered.{is_out}

-- whether a number is greater than the greatest of those before it, if there is one
abbrev pub is_above : Option ℕ → ℕ → Bool
is_above None n = true
is_above (Some t) n = nat_lt t n

-- whether a packet that is accepted after these is a height: an original that is greater than all of them
abbrev pub is_height : List Taken → Taken → Bool
is_height ps p = is_original p.arrival.origin && is_above (top ps) p.number

-- the heights among these packets, the newest first, which is the greatest first
abbrev pub heights : List Taken → List Taken
heights [] = []
heights (p ∷ ps) = if is_height ps p then p ∷ heights ps else heights ps

-- whether a number is one above the latest of these heights
abbrev pub is_next_height : List Taken → ℕ → Bool
is_next_height [] n = false
is_next_height (q ∷ qs) n = n == q.number + 1

-- what the skew's estimate goes by of a height that comes after these
abbrev pub height_after : List Taken → Taken → Height
height_after hs p = record { rtp = p.arrival.packet.rtp; stamp = p.arrival.stamp; is_next = is_next_height hs p.number }

-- what the skew's estimate goes by
abbrev pub skew_heights : List Taken → List Height
skew_heights [] = []
skew_heights (p ∷ hs) = height_after hs p ∷ skew_heights hs

-- the estimate of the sender's clock after these packets
abbrev pub estimate_of : Settings → List Taken → Option Estimate
estimate_of s ps = estimate s.rate s.mode (skew_heights (heights ps))

-- the presentation time of a timestamp that is no height's
abbrev pub time_of : ℕ → Option Estimate → ℕ → ℕ
time_of rate None rtp = 0
time_of rate (Some e) rtp = other_time rate e rtp

-- the presentation time of a packet that is accepted after these, by the estimate as it then stands
abbrev pub pts_after : Settings → List Taken → Taken → ℕ
pts_after s ps p =
    if is_height ps p
    then height_time s.rate (estimate_after s.rate s.mode (estimate_of s ps) (height_after (heights ps) p))
    else time_of s.rate (estimate_of s ps) p.arrival.packet.rtp

-- the heights with their presentation times, the greatest first
abbrev pub marks : Settings → List Taken → List Mark
marks s [] = []
marks s (p ∷ ps) = if is_height ps p then record { number = p.number; pts = pts_after s ps p } ∷ marks s ps else marks s ps

-- the accepted packet of this number with its presentation time
abbrev pub found : Settings → List Taken → ℕ → Option Held
found s [] n = None
found s (p ∷ ps) n = if n == p.number then Some (record { pts = pts_after s ps p; packet = p.arrival.packet }) else found s ps n

-- the packet of this number that is held: accepted and not given out. While a flush runs there is none
abbrev pub held : Settings → History → ℕ → Option Held
held s h n = if is_flushing h || is_out h n then None else found s (accepted h) n

-- the presentation time of the packet that was accepted first
abbrev pub first_pts : Settings → List Taken → Option ℕ
first_pts s [] = None
first_pts s (p ∷ []) = Some (pts_after s [] p)
first_pts s (p ∷ q ∷ ps) = first_pts s (q ∷ ps)

-- the time at n on the straight line between the neighbouring heights a and b, cut towards zero
abbrev pub between : Mark → Mark → ℕ → ℕ
between a b n = hold (pos a.pts +ℤ int_div ((pos b.pts -ℤ pos a.pts) *ℤ pos (n - a.number)) (pos (b.number - a.number)))

-- the expected time of n, which is less than the height b: on the line from the height before it, or b's time where that is the first
abbrev pub expected_below : Mark → List Mark → ℕ → ℕ
expected_below b [] n = b.pts
expected_below b (a ∷ ms) n = if nat_le a.number n then between a b n else expected_below a ms n

-- the expected time of n by the heights, the greatest first: the last height's time from that one on
abbrev pub expected : List Mark → ℕ → ℕ
expected [] n = 0
expected (b ∷ ms) n = if nat_le b.number n then b.pts else expected_below b ms n

-- The skew between the sender's clock and the arrivals, over the heights of a segment: the original
-- packets that were greater than all before them.
use Rattle.std.specs.Int.{int_min}
use Rattle.std.specs.Prelude.{◌≡◌, ⊤, ℕ, ℤ, pos, negsuc, ◌*◌, ◌/◌, ◌-◌, ◌+ℤ◌, ◌-ℤ◌, ◌*ℤ◌, int_div, int_le, int_lt, ◌||◌, ◌&&◌, Bool, true, false, List, [], ◌∷◌, take, length, max, Option, Some, None, nat_le, if◌then◌else◌}
use Rattle.rtp_units.specs.declared.Mode.{Mode}
use Rattle.rtp_units.specs.declared.Mode.TheVariants.{Plain, Slave}
use Rattle.rtp_units.specs.Numbers.{ext32, nanoseconds, hold}

-- a height: its timestamp of 32 bits, when it arrived, and whether its number is one above that of the height before it
pub record Height : Type 0 where
  pub rtp : ℕ
  pub stamp : ℕ
  pub is_next : Bool

-- what the estimator goes by: the arrival and the extended timestamp that it started at; the extended timestamp of the latest height; the skew; all differences since the start, the newest first; and the size of the window, once it is filled
pub record Estimate : Type 0 where
  pub base : ℕ
  pub start : ℤ
  pub latest : ℤ
  pub skew : ℤ
  pub differences : List ℤ
  pub size : Option ℕ

-- the least of x and these
abbrev pub least_with : ℤ → List ℤ → ℤ
least_with x [] = x
least_with x (y ∷ ys) = int_min x (least_with y ys)

-- the least of a list
abbrev pub least : List ℤ → ℤ
least [] = pos 0
least (x ∷ xs) = least_with x xs

-- the estimator starts at a height with this stamp and this extended timestamp: no skew, and one difference, 0
abbrev pub started : ℕ → ℤ → Estimate
started stamp t = record { base = stamp; start = t; latest = t; skew = pos 0; differences = pos 0 ∷ []; size = None }

-- the sender's time of an extended timestamp: its ticks since the start, in nanoseconds
abbrev pub sent_at : ℕ → Estimate → ℤ → ℤ
sent_at rate e t = nanoseconds (t -ℤ e.start) rate

-- how much later than the sender's time a packet arrived, both counted from the start
abbrev pub difference : Estimate → ℕ → ℤ → ℤ
difference e stamp sent = pos stamp -ℤ pos e.base -ℤ sent

-- whether a difference is more than a second away from the skew
abbrev pub is_apart : ℤ → ℤ → Bool
is_apart d skew = int_lt (pos 1000000000) (d -ℤ skew) || int_lt (pos 1000000000) (skew -ℤ d)

-- whether the window is filled: by 512 differences, or two seconds of the sender's time
abbrev pub fills : ℕ → ℤ → Bool
fills n sent = nat_le 512 n || int_le (pos 2000000000) sent

-- an integer, or 0 where it is below 0
abbrev pub at_least_0 : ℤ → ℕ
at_least_0 (pos n) = n
at_least_0 (negsuc n) = 0

-- how far the window is filled, of 100: by the sender's time or the count of differences, whichever is more
abbrev pub percent : ℕ → ℤ → ℕ
percent n sent = max (at_least_0 (int_div (sent *ℤ pos 100) (pos 2000000000))) (n * 100 / 512)

-- the mean of the least difference and the skew where the window is p of 100 filled, in which the least difference has the weight p * p of 10000
abbrev pub filling_mean : ℕ → ℤ → ℤ → ℤ
filling_mean p min skew = int_div (pos (p * p) *ℤ min +ℤ pos (10000 - p * p) *ℤ skew) (pos 10000)

-- the mean of the least difference and the skew where the window is filled, in which the least difference has the weight 1 of 125
abbrev pub filled_mean : ℤ → ℤ → ℤ
filled_mean min skew = int_div (min +ℤ pos 124 *ℤ skew) (pos 125)

-- the skew after a difference was put in front of those before it: of the last ones where the window was filled before, else of all
abbrev pub next_skew : Option ℕ → List ℤ → ℤ → ℤ → ℤ
next_skew (Some size) differences sent skew = filled_mean (least (take size differences)) skew
next_skew None differences sent skew =
    if fills (length differences) sent then least differences
    else filling_mean (percent (length differences) sent) (least differences) skew

-- the size of the window after that: fixed when it fills
abbrev pub next_size : Option ℕ → ℕ → ℤ → Option ℕ
next_size (Some size) n sent = Some size
next_size None n sent = if fills n sent then Some n else None

-- a height with this extended timestamp whose difference counts
abbrev pub with_difference : Estimate → ℤ → ℤ → ℤ → Estimate
with_difference e t sent d =
    record e {
      latest = t;
      skew = next_skew e.size (d ∷ e.differences) sent e.skew;
      differences = d ∷ e.differences;
      size = next_size e.size (length (d ∷ e.differences)) sent;
    }

-- a height one above the one before it: it starts the estimator anew where its difference is apart from the skew
abbrev pub in_order : ℕ → Estimate → ℕ → ℤ → Estimate
in_order rate e stamp t =
    if is_apart (difference e stamp (sent_at rate e t)) e.skew then started stamp t
    else with_difference e t (sent_at rate e t) (difference e stamp (sent_at rate e t))

-- whether the skew is estimated: in mode slave
abbrev pub is_slave : Mode → Bool
is_slave Plain = false
is_slave Slave = true

-- one height more: only one that is one above the height before it has a difference
abbrev pub estimate_after : ℕ → Mode → Option Estimate → Height → Estimate
estimate_after rate mode None p = started p.stamp (pos p.rtp)
estimate_after rate mode (Some e) p =
    if is_slave mode && p.is_next then in_order rate e p.stamp (ext32 e.latest p.rtp)
    else record e { latest = ext32 e.latest p.rtp }

-- what the estimator goes by after these heights, the newest first; nothing without one
abbrev pub estimate : ℕ → Mode → List Height → Option Estimate
estimate rate mode [] = None
estimate rate mode (p ∷ ps) = Some (estimate_after rate mode (estimate rate mode ps) p)

-- the presentation time of an extended timestamp
abbrev pub time_at : ℕ → Estimate → ℤ → ℕ
time_at rate e t = hold (pos e.base +ℤ sent_at rate e t +ℤ e.skew)

-- the presentation time of the latest height
abbrev pub height_time : ℕ → Estimate → ℕ
height_time rate e = time_at rate e e.latest

-- the presentation time of any other timestamp, which is extended from that of the latest height
abbrev pub other_time : ℕ → Estimate → ℕ → ℕ
other_time rate e rtp = time_at rate e (ext32 e.latest rtp)

-- where there is an estimate, its skew is 0
abbrev pub HasNoSkew : Option Estimate → Type 0
HasNoSkew None = ⊤
HasNoSkew (Some e) = e.skew ≡ pos 0

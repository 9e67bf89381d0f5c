-- The numbers of accepted packets: in their order, each once, within bounds.
use Rattle.std.specs.Prelude.{ℕ, ◌≡◌, ◌≤◌, false, length, ◌+◌, ◌<◌, List, [], ◌∷◌, Option, None, Some, ⊤, unwrap_or, ◌*◌, ◌%◌}
use Rattle.jitter_model.specs.declared.Arrival.{Arrival}
use Rattle.jitter_model.specs.Accepted.{least, Taken, has, top, number_from, opened}
use Rattle.jitter_model.specs.Verdicts.{opened_number}
use Rattle.jitter_model.specs.Runs.{IsInRange}
use Rattle.jitter_model.specs.Laws.{IsWindow}

-- each packet has the number that its sequence number has after those before it
abbrev pub IsNumbered : List Taken → Type 0
IsNumbered [] = ⊤
IsNumbered (p ∷ ps) =
    (p.number ≡ number_from (top ps) p.arrival.packet.seq) × IsInRange p.arrival × IsNumbered ps

-- no number stands twice
abbrev pub IsDistinct : List Taken → Type 0
IsDistinct [] = ⊤
IsDistinct (p ∷ ps) = (has ps p.number ≡ false) × IsDistinct ps

-- the segment that these packets open has consecutive numbers from the first one on
pub record IsOpened (run : List Arrival) (b : Arrival) : Type 0 where
  pub first : ℕ
  pub number_is : opened_number run b ≡ first + length run
  pub top_is : top (opened (b ∷ run)) ≡ Some (first + length run)
  pub least_is : least (opened (b ∷ run)) ≡ Some first
  pub low_bits : (first + length run) % 65536 ≡ b.packet.seq
  pub from : 65536 ≤ first
  pub to : first < 131072
  pub above : unwrap_or (top (opened run)) 0 < opened_number run b

-- a greatest number of so many packets
pub record IsTop (count t : ℕ) : Type 0 where
  pub above : 65536 ≤ t
  pub below : t ≤ 98304 + 32767 * count

-- the greatest and the least number of so many packets
abbrev pub AreTops : ℕ → Option ℕ → Option ℕ → Type 0
AreTops count None None = ⊤
AreTops count None (Some l) = ⊥
AreTops count (Some t) None = ⊥
AreTops count (Some t) (Some l) = IsTop count t × (l ≤ t) × (32768 ≤ l)

-- the greatest, the least and the next number lie in one window
pub record InWindow (t l o : Option ℕ) : Type 0 where
  pub fact : IsWindow t l o

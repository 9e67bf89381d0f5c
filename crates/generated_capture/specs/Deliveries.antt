-- A series of packets, one each millisecond, as it arrives: some are lost, some late, some come
-- again.
use Rattle.std.specs.Prelude.{ℕ, ◌+◌, ◌*◌, ◌%◌, ◌==◌, ◌&&◌, ◌||◌, not, nat_lt, if◌then◌else◌}
use Rattle.std.specs.Prelude.{Bool, true, false, List, [], ◌∷◌, map, filter}
use Rattle.std.specs.List.{range_with_len}
use Rattle.generated_capture.specs.declared.delivery.Delivery.{Delivery}

-- in nanoseconds
abbrev pub millisecond : ℕ
millisecond = 1000000

-- ---- by the places of packets in the series, from 0

abbrev pub is_lost : ℕ → Bool
is_lost i = i % 100 == 50

abbrev pub is_late : ℕ → Bool
is_late i = i % 100 == 70

-- neither lost nor late
abbrev pub is_in_time : ℕ → Bool
is_in_time i = not (is_lost i) && not (is_late i)

-- Each second lost one comes again.
abbrev pub is_repeated : ℕ → Bool
is_repeated i = i % 200 == 150

-- up to 899 microseconds behind its millisecond, and a late one five milliseconds later
abbrev pub arrival : ℕ → ℕ
arrival i = i * millisecond + 37 * i % 900 * 1000 + (if is_late i then 5 * millisecond else 0)

abbrev pub original : ℕ → Delivery
original i = record { time = arrival i; is_retransmission = false; index = i }

abbrev pub retransmission : ℕ → Delivery
retransmission i = record {
  time = (i + 40) * millisecond;
  is_retransmission = true;
  index = i;
}

-- ---- in order: by the time, then originals before retransmissions, then by the place

abbrev pub is_ahead : Delivery → Delivery → Bool
is_ahead a b =
    nat_lt a.time b.time
    || a.time == b.time && (not a.is_retransmission && b.is_retransmission
    || not (not b.is_retransmission && a.is_retransmission) && nat_lt a.index b.index)

-- one of a list, behind which comes the rest of it, in between these
abbrev pub merged_from : Delivery → (List Delivery → List Delivery) → List Delivery
    → List Delivery
merged_from x behind [] = x ∷ behind []
merged_from x behind (y ∷ ys) =
    if is_ahead y x then y ∷ merged_from x behind ys else x ∷ behind (y ∷ ys)

-- two lists in order, as one
abbrev pub merged : List Delivery → List Delivery → List Delivery
merged [] ys = ys
merged (x ∷ xs) ys = merged_from x (merged xs) ys

abbrev pub places : (ℕ → Bool) → ℕ → List ℕ
places test count = filter test (range_with_len 0 count)

-- what arrives of so many packets
abbrev pub deliveries : ℕ → List Delivery
deliveries count =
    merged (merged (map original (places is_in_time count)) (map original (places is_late count)))
    (map retransmission (places is_repeated count))

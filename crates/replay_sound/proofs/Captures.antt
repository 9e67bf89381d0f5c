-- The records of a capture are of bytes, early, and few.
use Rattle.std.proofs.Common.{ℕ, zero, suc, ◌≡◌, refl, ◌+◌, ◌*◌, ◌≤◌, ◌<◌, ◌^◌, Bool, true, false, List, [], ◌∷◌, length, take, drop, Some, Result, Ok, Err, arith}
use Rattle.std.specs.Prelude.{All, slice_index, nat_lt, nat_le, ◌==◌, if◌then◌else◌}
use Rattle.std.proofs.lemmas.Bool.{leb-false}
use Rattle.std.proofs.lemmas.List.Elements.{All-nil, All-cons, All-head, All-tail, All-drop, All-take}
use Rattle.rtp_io.specs.Outside.{AreBytes}
use Rattle.pcap_file.specs.declared.order.Order.{Order}
use Rattle.pcap_file.specs.declared.order.Order.TheVariants.{Little, Big}
use Rattle.pcap_file.specs.declared.header.Format.{Format}
use Rattle.pcap_file.specs.declared.fault.CaptureFault.{CaptureFault}
use Rattle.pcap_file.specs.declared.fault.CaptureFault.TheVariants.{CutHeader, TooMany, CutRecord, Length, Fraction}
use Rattle.pcap_file.specs.Numbers.{number_at}
use Rattle.pcap_file.specs.Capture.{Record, Capture, format_of, fraction_limit, fraction_unit, record_of, Head, AtEnd, AtFault, AtRecord, head, empty, step_from, walk, records_from, behind_header, capture_of}
use Rattle.replay_sound.specs.Stamped.{IsStamped, AreStamped}

abbrev IsByte : ℕ → Type 0
IsByte b = b < 256

-- what holds of both holds of the one that is picked
pick : {A : Type 0} (P : A → Type 0) (b : Bool) (x y : A) → (b ≡ true → P x) → (b ≡ false → P y) → P (if b then x else y)
pick P true x y f g = f refl
pick P false x y f g = g refl

-- ---- a record

index_small : (xs : List ℕ) (i : ℕ) → AreBytes xs → slice_index xs i < 256
index_small [] i h = omega arith
index_small (x ∷ xs) zero h = All-head IsByte x xs h
index_small (x ∷ xs) (suc i) h = index_small xs i (All-tail IsByte x xs h)

number_small : (order : Order) (place : ℕ) (bytes : List ℕ) → AreBytes bytes → number_at order 4 place bytes < 2 ^ 32
unfolding number_at
number_small Little place bytes h =
    let d : List ℕ = drop place bytes in
    let k = All-drop IsByte place bytes h in
    omega (arith, index_small d 0 k, index_small d 1 k, index_small d 2 k, index_small d 3 k)
number_small Big place bytes h =
    let d : List ℕ = drop place bytes in
    let k = All-drop IsByte place bytes h in
    omega (arith, index_small d 0 k, index_small d 1 k, index_small d 2 k, index_small d 3 k)

-- a fraction is less than a second
fraction_small : (format : Format) (n : ℕ) → n < fraction_limit format → n * fraction_unit format < 1000000000
fraction_small format n = by format.nanoseconds
  where
    by : (nano : Bool) → n < (if nano then 1000000000 else 1000000) → n * (if nano then 1 else 1000) < 1000000000
    by true lt = omega (arith, lt)
    by false lt = omega (arith, lt)

stamped : (format : Format) (offset : ℕ) (bytes : List ℕ) → AreBytes bytes → number_at format.order 4 4 bytes < fraction_limit format → IsStamped (record_of format offset bytes)
stamped format offset bytes h lt =
    record {
      early = omega (arith, number_small format.order 0 bytes h, fraction_small format (number_at format.order 4 4 bytes) lt);
      bytes = All-take IsByte (number_at format.order 4 8 bytes) (drop 16 bytes) (All-drop IsByte 16 bytes h);
    }

-- ---- what stands at a border

abbrev IsGoodHead : ℕ → Head → Type 0
IsGoodHead count AtEnd = Unit {0}
IsGoodHead count (AtFault fault) = Unit {0}
IsGoodHead count (AtRecord r) = (count < 100000000) × IsStamped r

record GoodHead (count : ℕ) (at : Head) : Type 0 where
  fact : IsGoodHead count at

bad : (count : ℕ) (fault : CaptureFault) → GoodHead count (AtFault fault)
bad count fault = record { fact = tt }

good_head : (format : Format) (count offset : ℕ) (bytes : List ℕ) → AreBytes bytes → GoodHead count (head format count offset bytes)
unfolding head
good_head format count offset bytes h =
    pick (GoodHead count) (length bytes == 0) _ _ (λ _. record { fact = tt }) (λ _.
    pick (GoodHead count) (nat_le 100000000 count) _ _ (λ _. bad count (TooMany offset)) (λ few.
    pick (GoodHead count) (nat_lt (length bytes) 16) _ _ (λ _. bad count (CutRecord offset)) (λ _.
    pick (GoodHead count) (nat_lt 262144 (number_at format.order 4 8 bytes)) _ _ (λ _. bad count (Length offset)) (λ _.
    pick (GoodHead count) (nat_le (fraction_limit format) (number_at format.order 4 4 bytes)) _ _ (λ _. bad count (Fraction offset)) (λ low.
    pick (GoodHead count) (nat_lt (length bytes) (16 + number_at format.order 4 8 bytes)) _ _ (λ _. bad count (CutRecord offset)) (λ _.
    record {
      fact = (leb-false 100000000 count few, stamped format offset bytes h (leb-false (fraction_limit format) (number_at format.order 4 4 bytes) low));
    }))))))

-- ---- the records from a border on

-- with those before them
record AreGood (count : ℕ) (rs : List Record) : Type 0 where
  few : count + length rs ≤ 100000000
  each : All IsStamped rs

none : (count : ℕ) → count ≤ 100000000 → AreGood count []
none count le = record { few = omega (arith, le); each = All-nil IsStamped }

good_step : (behind : ℕ → ℕ → List ℕ → Capture) (count offset : ℕ) (bytes : List ℕ) (at : Head) → AreBytes bytes → count ≤ 100000000 → GoodHead count at
    → ((n place : ℕ) (rest : List ℕ) → AreBytes rest → n ≤ 100000000 → AreGood n (behind n place rest).records) → AreGood count (step_from behind count offset bytes at).records
good_step behind count offset bytes AtEnd h le good rest = none count le
good_step behind count offset bytes (AtFault fault) h le good rest = none count le
good_step behind count offset bytes (AtRecord r) h le good rest =
    let size : ℕ = 16 + length r.bytes in
    let more = rest (count + 1) (offset + size) (drop size bytes) (All-drop IsByte size bytes h) (omega (arith, good.fact.0)) in
    record { few = omega (arith, more.few); each = All-cons IsStamped r (behind (count + 1) (offset + size) (drop size bytes)).records good.fact.1 more.each }

good_walk : (format : Format) (steps count offset : ℕ) (bytes : List ℕ) → AreBytes bytes → count ≤ 100000000 → AreGood count (walk format steps count offset bytes).records
unfolding walk
good_walk format zero count offset bytes h le = none count le
good_walk format (suc steps) count offset bytes h le =
    good_step (walk format steps) count offset bytes (head format count offset bytes) h le (good_head format count offset bytes h)
    (λ n place rest. good_walk format steps n place rest)

-- ---- the whole capture

good_behind : (format : Result Format CaptureFault) (bytes : List ℕ) → AreBytes bytes → AreGood 0 (behind_header format bytes).records
unfolding records_from
good_behind (Err fault) bytes h = none 0 (omega arith)
good_behind (Ok format) bytes h = good_walk format (length bytes + 1) 0 24 bytes h (omega arith)

good_capture : (bytes : List ℕ) → AreBytes bytes → AreGood 0 (capture_of bytes).records
unfolding capture_of
good_capture bytes h =
    pick (λ (c : Capture). AreGood 0 c.records) (nat_lt (length bytes) 24) (empty (Some CutHeader)) (behind_header (format_of (take 24 bytes)) (drop 24 bytes))
    (λ _. none 0 (omega arith))
    (λ _. good_behind (format_of (take 24 bytes)) (drop 24 bytes) (All-drop IsByte 24 bytes h))

pub capture_stamped : (bytes : List ℕ) → AreBytes bytes → AreStamped (capture_of bytes).records
capture_stamped bytes h = let good = good_capture bytes h in record { few = omega (arith, good.few); each = good.each }

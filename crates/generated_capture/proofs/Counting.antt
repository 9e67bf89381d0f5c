-- How many deliveries there are.
use Rattle.std.proofs.Common.{◌≡◌, ◌≤◌, ℕ, ◌+◌, ◌*◌, Bool, true, false, cond, List, [], ◌∷◌, length, map, suc, refl, ap, ◌∙◌, arith}
use Rattle.std.specs.List.{filter, range_with_len}
use Rattle.std.proofs.lemmas.List.{length-map}
use Rattle.std.proofs.lemmas.List.FromFn.{length-range_with_len}
use Rattle.generated_capture.specs.declared.delivery.Delivery.{Delivery}
use Rattle.generated_capture.specs.Deliveries.{is_in_time, is_late, is_repeated, original, retransmission, merged, places, deliveries}
use Rattle.pcap_file.specs.Writing.{Frame, records_at}
use Rattle.generated_capture.specs.Generated.{frame_in}
use Rattle.generated_capture.proofs.Merging.{length-merged}

filter_by : (b : Bool) (x : ℕ) (ys : List ℕ) (n : ℕ) → length ys ≤ n
    → length (cond b (x ∷ ys) ys) ≤ suc n
filter_by true x ys n h = omega (arith, h)
filter_by false x ys n h = omega (arith, h)

filter_le : (test : ℕ → Bool) (xs : List ℕ) → length (filter test xs) ≤ length xs
filter_le test [] = omega arith
filter_le test (x ∷ xs) = filter_by (test x) x (filter test xs) (length xs) (filter_le test xs)

places_le : (f : ℕ → Delivery) (test : ℕ → Bool) (count : ℕ)
    → length (map f (places test count)) ≤ count
places_le f test count =
    let few = filter_le test (range_with_len 0 count) in
    omega (arith, few, length-map (places test count) f, length-range_with_len 0 count)

deliveries_le : (count : ℕ) → length (deliveries count) ≤ 3 * count
deliveries_le count =
    let xs = map original (places is_in_time count) in
    let ys = map original (places is_late count) in
    let zs = map retransmission (places is_repeated count) in
    let a = places_le original is_in_time count in
    let b = places_le original is_late count in
    let c = places_le retransmission is_repeated count in
    omega (arith, a, b, c, length-merged xs ys, length-merged (merged xs ys) zs)

-- of the two lists that they are merged of
pub merged_le : (count : ℕ) (xs ys : List Delivery)
    → xs ≡ merged (map original (places is_in_time count)) (map original (places is_late count))
    → ys ≡ map retransmission (places is_repeated count) → length (merged xs ys) ≤ 3 * count
merged_le count xs ys e f =
    let zs = merged (map original (places is_in_time count)) (map original (places is_late count)) in
    let whole : merged xs ys ≡ deliveries count =
    ap (λ (l : List Delivery). merged l ys) e ∙ ap (merged zs) f in
    let few = deliveries_le count in
    let long : length (merged xs ys) ≡ length (deliveries count) =
    ap (λ (l : List Delivery). length l) whole in
    omega (arith, few, long)

length-records_at : (link offset : ℕ) (frames : List Frame)
    → length (records_at link offset frames) ≡ length frames
length-records_at link offset [] = refl
length-records_at link offset (f ∷ fs) =
    ap (λ (n : ℕ). suc n) (length-records_at link (offset + (16 + length f.bytes)) fs)

pub records_le : (first offset bound : ℕ) (ds : List Delivery) → length ds ≤ bound
    → length (records_at 101 offset (map (frame_in first) ds)) ≤ bound
records_le first offset bound ds h =
    omega (arith, h, length-records_at 101 offset (map (frame_in first) ds), length-map ds (frame_in first))

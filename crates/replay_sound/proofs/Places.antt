-- Where a lane stands in the list of lanes, and in that of how they began.
use Rattle.std.proofs.Common.{ℕ, zero, suc, ◌+◌, ◌≡◌, ◌<◌, Bool, true, false, refl, sym, ap, ◌∙◌, arith, List, [], ◌∷◌, ◌++◌, length, Option, Some, option_map, slice_get, nat_eq, eqb-true}
use Rattle.std.specs.Prelude.{if◌then◌else◌}
use Rattle.std.proofs.lemmas.Bool.{and_parts}
use Rattle.rtp_demux.specs.Lanes.{Stream, Sight, is_stream, found_from, rate_of}
use Rattle.script_lang.specs.Contents.{Contents}
use Rattle.front_model.specs.declared.Opening.{Opening}
use Rattle.front_model.specs.Laws.{opening, openings}

-- ---- places

-- the lane with this number began with the stream and the rate at this place
pub opening_at : (c : Contents) (n : ℕ) (a : List Sight) (k : ℕ) (s : Sight) → slice_get a k ≡ Some s → slice_get (openings c n a) k ≡ Some (opening c (n + k) s)
opening_at c n [] k s e = absurd cc
opening_at c n (x ∷ a) zero s e = ap (option_map (opening c n)) e ∙ ap (λ (m : ℕ). Some (opening c m s)) (omega arith)
opening_at c n (x ∷ a) (suc k) s e = opening_at c (n + 1) a k s e ∙ ap (λ (m : ℕ). Some (opening c m s)) (omega arith)

pub place_below : (c : Contents) (n : ℕ) (a : List Sight) (k : ℕ) (s : Sight) → slice_get a k ≡ Some s → k < length (openings c n a)
place_below c n [] k s e = absurd cc
place_below c n (x ∷ a) zero s e = omega arith
place_below c n (x ∷ a) (suc k) s e = omega (arith, place_below c (n + 1) a k s e)

-- one opening for each lane
pub as_many : (c : Contents) (n : ℕ) (a : List Sight) → length (openings c n a) ≡ length a
as_many c n [] = refl
as_many c n (x ∷ a) = omega (arith, as_many c (n + 1) a)

-- what is put behind all stands at their count
pub last_at : (a : List Sight) (s : Sight) → slice_get (a ++ s ∷ []) (length a) ≡ Some s
last_at [] s = refl
last_at (x ∷ a) s = last_at a s

-- one lane more
pub one_from : (c : Contents) (n k : ℕ) (a : List Sight) (s : Sight) → k ≡ n + length a → openings c n (a ++ s ∷ []) ≡ openings c n a ++ opening c k s ∷ []
one_from c n k [] s e = ap (λ (x : ℕ). opening c x s ∷ []) (omega (arith, e))
one_from c n k (x ∷ a) s e = ap (λ (l : List Opening). opening c n x ∷ l) (one_from c (n + 1) k a s (omega (arith, e)))

-- ---- streams

same_stream : (a b : Stream) → is_stream a b ≡ true → b ≡ a
same_stream a b e =
    let parts = and_parts (nat_eq a.0 b.0) (nat_eq a.1 b.1) e in
    λ i. (sym (eqb-true a.0 b.0 parts.0) i, sym (eqb-true a.1 b.1 parts.1) i)

-- a stream's number is its place, and its rate stands there with it
pub record IsPlace (n : ℕ) (stream : Stream) (a : List Sight) (e : ℕ × ℕ) : Type 0 where
  pub place : ℕ
  pub number : e.0 ≡ n + place
  pub here : slice_get a place ≡ Some (stream, e.1)

pub found_place : (n : ℕ) (stream : Stream) (a : List Sight) (e : ℕ × ℕ) → found_from n stream a ≡ Some e → IsPlace n stream a e
found_place n stream [] e found = absurd cc
found_place n stream (s ∷ a) e found = by (is_stream stream s.0) refl (found_place (n + 1) stream a e) found
  where
    by : (b : Bool) → is_stream stream s.0 ≡ b → (found_from (n + 1) stream a ≡ Some e → IsPlace (n + 1) stream a e) → (if b then Some (n, s.1) else found_from (n + 1) stream a) ≡ Some e → IsPlace n stream (s ∷ a) e
    by true is rest found =
        let same : (n, s.1) ≡ e = cc in
        record {
          place = 0;
          number = ap (λ (x : ℕ × ℕ). x.0) (sym same) ∙ omega arith;
          here = λ i. Some (same_stream stream s.0 is i, ap (λ (x : ℕ × ℕ). x.1) same i);
        }
    by false is rest found =
        let at : IsPlace (n + 1) stream a e = rest found in
        record { place = suc at.place; number = omega (arith, at.number); here = at.here }

pub lane_at : (stream : Stream) (a : List Sight) (e : ℕ × ℕ) → found_from 0 stream a ≡ Some e → slice_get a e.0 ≡ Some (stream, e.1)
lane_at stream a e found =
    let at : IsPlace 0 stream a e = found_place 0 stream a e found in
    ap (slice_get a) (at.number ∙ omega arith) ∙ at.here

rate_if : (b : Bool) (n v : ℕ) (o : Option ℕ) (f : Option (ℕ × ℕ)) → o ≡ option_map (λ e. e.1) f → (if b then Some v else o) ≡ option_map (λ e. e.1) (if b then Some (n, v) else f)
rate_if true n v o f e = refl
rate_if false n v o f e = e

pub rate_found : (n : ℕ) (stream : Stream) (es : List Sight) → rate_of es stream ≡ option_map (λ e. e.1) (found_from n stream es)
rate_found n stream [] = refl
rate_found n stream (s ∷ es) = rate_if (is_stream stream s.0) n s.1 (rate_of es stream) (found_from (n + 1) stream es) (rate_found (n + 1) stream es)

-- A stream is told one lane.
use Rattle.std.proofs.Common.{ℕ, zero, suc, ◌+◌, ◌≡◌, refl, sym, ap, subst, ◌∙◌, arith, Bool, true, false, List, [], ◌∷◌, Option, None, Some, eq-eqb}
use Rattle.std.specs.Prelude.{if◌then◌else◌, nat_eq, nat_lt, length, slice_get, option_map}
use Rattle.std.proofs.lemmas.Bool.{lt-ltb, le-ltb, ne_eqb}
use Rattle.rtp_demux.specs.declared.lanes.LaneOf.{LaneOf}
use Rattle.rtp_demux.specs.declared.lanes.LaneOf.TheVariants.{New, Known, Rate, Full}
use Rattle.rtp_demux.specs.Lanes.{Stream, Sight, is_stream, rate_of, lanes_of, found_from, lane_by, lane_for, IsOneLane, IsOneFinding}
use Rattle.rtp_demux.proofs.Sights.{same_stream, is_itself, numbered_once}

rate_if : (b : Bool) (n v : ℕ) (o : Option ℕ) (f : Option (ℕ × ℕ)) → o ≡ option_map (λ e. e.1) f → (if b then Some v else o) ≡ option_map (λ e. e.1) (if b then Some (n, v) else f)
rate_if true n v o f e = refl
rate_if false n v o f e = e

rate_found : (n : ℕ) (stream : Stream) (es : List Sight) → rate_of es stream ≡ option_map (λ e. e.1) (found_from n stream es)
rate_found n stream [] = refl
rate_found n stream (s ∷ es) = rate_if (is_stream stream s.0) n s.1 (rate_of es stream) (found_from (n + 1) stream es) (rate_found (n + 1) stream es)

-- what is at a place is found, there or before
record Found (n : ℕ) (stream : Stream) (es : List Sight) : Type 0 where
  place : ℕ
  rate : ℕ
  found : found_from n stream es ≡ Some (n + place, rate)
  there : slice_get es place ≡ Some (stream, rate)

found_here : (n : ℕ) (stream : Stream) (e : Sight) (es : List Sight) → is_stream stream e.0 ≡ true → Found n stream (e ∷ es)
found_here n stream e es same = record {
  place = 0;
  rate = e.1;
  found = rw same (ap (λ (k : ℕ). Some (k, e.1)) (omega arith));
  there = ap (λ (x : Stream). Some (x, e.1)) (sym (same_stream stream e.0 same));
}

found_later : (n : ℕ) (stream : Stream) (e : Sight) (es : List Sight) → is_stream stream e.0 ≡ false → Found (n + 1) stream es → Found n stream (e ∷ es)
found_later n stream e es other f = record {
  place = suc f.place;
  rate = f.rate;
  found = rw other (f.found ∙ ap (λ (k : ℕ). Some (k, f.rate)) (omega arith));
  there = f.there;
}

found_by : (n : ℕ) (stream : Stream) (e : Sight) (es : List Sight) (b : Bool) → is_stream stream e.0 ≡ b → Found (n + 1) stream es → Found n stream (e ∷ es)
found_by n stream e es true same f = found_here n stream e es same
found_by n stream e es false other f = found_later n stream e es other f

abbrev IsThere : Option Sight → Type 0
IsThere None = ⊥
IsThere (Some s) = Unit {0}

abbrev stream_in : Stream → Option Sight → Stream
stream_in default None = default
stream_in default (Some s) = s.0

find_at : (n : ℕ) (stream : Stream) (v i : ℕ) (es : List Sight) → slice_get es i ≡ Some (stream, v) → Found n stream es
find_at n stream v i [] at = absurd (subst IsThere (sym at) tt)
find_at n stream v zero (e ∷ es) at =
    found_here n stream e es (subst (λ (x : Stream). is_stream stream x ≡ true) (sym (ap (stream_in stream) at)) (is_itself stream))
find_at n stream v (suc i) (e ∷ es) at = found_by n stream e es (is_stream stream e.0) refl (find_at (n + 1) stream v i es at)

-- two entries at one place
abbrev rate_in : Option Sight → ℕ
rate_in None = 0
rate_in (Some s) = s.1

found_is : (calls : List Sight) (stream : Stream) (v i : ℕ) → slice_get (lanes_of calls) i ≡ Some (stream, v) → found_from 0 stream (lanes_of calls) ≡ Some (i, v)
found_is calls stream v i at =
    let f = find_at 0 stream v i (lanes_of calls) at in
    let same : f.place ≡ i = numbered_once calls f.place i stream f.rate v f.there at in
    let rate : f.rate ≡ v = ap rate_in (sym f.there ∙ ap (slice_get (lanes_of calls)) same ∙ at) in
    let counted : 0 + f.place ≡ i = omega (arith, same) in
    f.found ∙ ap (λ (k : ℕ). Some (k, f.rate)) counted ∙ ap (λ (r : ℕ). Some (i, r)) rate

abbrev IsAbsent : Option ℕ → Type 0
IsAbsent None = Unit {0}
IsAbsent (Some y) = ⊥

absent : (o : Option (ℕ × ℕ)) → None ≡ option_map (λ e. e.1) o → o ≡ None
absent None e = refl
absent (Some x) e = absurd (subst IsAbsent e tt)

not_found : (lanes : List Sight) (stream : Stream) → rate_of lanes stream ≡ None → found_from 0 stream lanes ≡ None
not_found lanes stream e = absent (found_from 0 stream lanes) (sym e ∙ rate_found 0 stream lanes)

told : (lanes : List Sight) (s : Sight) (f : Option (ℕ × ℕ)) (answer : LaneOf) → found_from 0 s.0 lanes ≡ f → answer ≡ lane_by lanes s.1 f → answer ≡ lane_for lanes s
told lanes s f answer e a = a ∙ ap (lane_by lanes s.1) (sym e)

yes : (b : Bool) (x y : LaneOf) → b ≡ true → x ≡ (if b then x else y)
yes b x y e = rw e refl

no : (b : Bool) (x y : LaneOf) → b ≡ false → y ≡ (if b then x else y)
no b x y e = rw e refl

pub one_lane : IsOneLane
one_lane calls s (New lane) (new, room, is) =
    told (lanes_of calls) s None (New lane) (not_found (lanes_of calls) s.0 new)
    (ap New is ∙ yes (nat_lt (length (lanes_of calls)) 64) (New (length (lanes_of calls))) Full (lt-ltb (length (lanes_of calls)) 64 room))
one_lane calls s (Known lane) at =
    told (lanes_of calls) s (Some (lane, s.1)) (Known lane) (found_is calls s.0 s.1 lane at)
    (yes (nat_eq s.1 s.1) (Known lane) (Rate lane s.1) (eq-eqb s.1 s.1 refl))
one_lane calls s (Rate lane kept) (at, other) =
    told (lanes_of calls) s (Some (lane, kept)) (Rate lane kept) (found_is calls s.0 kept lane at)
    (no (nat_eq kept s.1) (Known lane) (Rate lane kept) (ne_eqb kept s.1 other))
one_lane calls s Full (new, full) =
    told (lanes_of calls) s None Full (not_found (lanes_of calls) s.0 new)
    (no (nat_lt (length (lanes_of calls)) 64) (New (length (lanes_of calls))) Full (le-ltb (length (lanes_of calls)) 64 full))

pub one_finding : IsOneFinding
one_finding calls stream None none = sym (ap (option_map (λ e. e.0)) (not_found (lanes_of calls) stream none))
one_finding calls stream (Some lane) (rate, at) = sym (ap (option_map (λ e. e.0)) (found_is calls stream rate lane at))

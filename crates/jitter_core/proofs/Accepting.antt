-- A packet that is accepted keeps each part of a segment.
use Rattle.std.proofs.Common.{ℕ, ◌≡◌, ◌+◌, Bool, true, false, refl, sym, ap, subst, ◌∙◌, List, [], ◌∷◌, Option, None, Some, max, min}
use Rattle.std.specs.Prelude.{is_some, unwrap_or, ◌==◌, if◌then◌else◌}
use Rattle.std.proofs.lemmas.Bool.{eqb-true}
use Rattle.std.specs.FinMap as map
use Rattle.std.specs.Cmp.{nat_cmp_total, unsigned_tied}
use Rattle.std.specs.Ordering.{nat_cmp}
use Rattle.rtp_units.specs.declared.Mode.{Mode}
use Rattle.skew_model.specs.Skew.{Height}
use Rattle.skew_estimator.specs.Estimator.{StandsFor}
use Rattle.jitter_model.specs.declared.Settings.{Settings}
use Rattle.jitter_model.specs.declared.Arrival.{Arrival}
use Rattle.jitter_model.specs.declared.Held.{Held}
use Rattle.jitter_model.specs.declared.Mark.{Mark}
use Rattle.jitter_model.specs.Accepted.{Taken, top, number_from, with_taken}
use Rattle.jitter_model.specs.Covered.{count_in}
use Rattle.jitter_model.specs.Times.{is_height, heights, is_next_height, height_after, skew_heights, pts_after, marks, found, first_pts}
use Rattle.jitter_core.specs.declared.state.Span.{Span}
use Rattle.jitter_core.specs.declared.state.State.{State}
use Rattle.jitter_core.specs.Marks.{kept_two, with_mark, is_next_mark}
use Rattle.jitter_core.specs.Parts.{Placed, Clocked, Marked, Requested}
use Rattle.jitter_core.specs.Steps.{Accepts, is_height_by, heights_after, time_after, mark_with, state_number}
use Rattle.jitter_core.proofs.Kept.{is_next_is, two_after}
use Rattle.jitter_core.specs.declared.peaks.Peak.{Peak}
use Rattle.jitter_core.specs.Peaks.{with_peak}
use Rattle.jitter_core.proofs.Firsts.{with_peak_is}
use Rattle.jitter_core.proofs.Rooted.{no_heights}

-- the packet that is accepted, with its number
abbrev pub taken : List Taken → Arrival → Taken
taken ps a = record { number = number_from (top ps) a.packet.seq; arrival = a }

number_is : (s : State) (ps : List Taken) (a : Arrival) → s.span.top ≡ top ps → state_number s a ≡ number_from (top ps) a.packet.seq
number_is s ps a e = ap (λ (t : Option ℕ). number_from t a.packet.seq) e

next_is : (s : State) (ps : List Taken) (o : Option ℕ) (n : ℕ) → Marked s ps o → is_next_mark s.heights n ≡ is_next_height (heights ps) n
next_is s ps o n m = ap (λ (ms : List Mark). is_next_mark ms n) m.marks_are ∙ is_next_is s.settings o ps n

-- its presentation time
pub pts_is : (old new : State) (ps : List Taken) (o : Option ℕ) (a : Arrival) → old.span.top ≡ top ps → Clocked old ps → Marked old ps o → (r : Accepts old new a (state_number old a)) → r.pts ≡ pts_after old.settings ps (taken ps a)
pts_is old new ps o a t c m r =
    r.timed.time (skew_heights (heights ps)) (λ e. no_heights ps (sym (ap is_some t) ∙ e)) c.stands
    ∙ ap (λ (x : ℕ). time_after x old.skew.mode (skew_heights (heights ps)) old.span.top (is_next_mark old.heights (state_number old a)) a (state_number old a)) c.rate_is
    ∙ ap (λ (x : Mode). time_after old.settings.rate x (skew_heights (heights ps)) old.span.top (is_next_mark old.heights (state_number old a)) a (state_number old a)) c.mode_is
    ∙ ap (λ (x : Option ℕ). time_after old.settings.rate old.settings.mode (skew_heights (heights ps)) x (is_next_mark old.heights (number_from x a.packet.seq)) a (number_from x a.packet.seq)) t
    ∙ ap (λ (b : Bool). time_after old.settings.rate old.settings.mode (skew_heights (heights ps)) (top ps) b a (number_from (top ps) a.packet.seq)) (next_is old ps o (number_from (top ps) a.packet.seq) m)

-- ---- the numbers and the held packets

swap_ifs : {A : Type 0} (b o : Bool) (x y z : A) → (b ≡ true → o ≡ false) → (if b then x else if o then y else z) ≡ (if o then y else if b then x else z)
swap_ifs true true x y z h = absurd (let bad : true ≡ false = h refl in cc)
swap_ifs true false x y z h = refl
swap_ifs false o x y z h = refl

-- what is held after it
held_after : (s : Settings) (ps : List Taken) (out : ℕ → Bool) (p : Taken) (m : map.FinMap nat_cmp Held) (q : ℕ) → ((n : ℕ) → map.get m n ≡ (if out n then None else found s ps n)) → out p.number ≡ false
    → map.get (map.insert m p.number (record { pts = pts_after s ps p; packet = p.arrival.packet })) q ≡ (if out q then None else found s (p ∷ ps) q)
held_after s ps out p m q are not_out =
    let x : Held = record { pts = pts_after s ps p; packet = p.arrival.packet } in
    map.get-insert nat_cmp_total m p.number x q
    ∙ ap (λ (b : Bool). if b then Some x else map.get m q) (unsigned_tied q p.number)
    ∙ ap (λ (o : Option Held). if q == p.number then Some x else o) (are q)
    ∙ swap_ifs (q == p.number) (out q) (Some x) None (found s ps q) (λ e. rw (eqb-true q p.number e) not_out)

count_more : (out : ℕ → Bool) (p : Taken) (ps : List Taken) → out p.number ≡ false → count_in out ps + 1 ≡ count_in out (p ∷ ps)
count_more out p ps e = rw e refl

pub placed_accept : (old new : State) (ps : List Taken) (o : Option ℕ) (out : ℕ → Bool) (a : Arrival) → new.settings ≡ old.settings → Placed old ps o out → Clocked old ps → Marked old ps o → Accepts old new a (state_number old a) → out (number_from (top ps) a.packet.seq) ≡ false → Placed new (with_taken ps a) o out
placed_accept old new ps o out a same p c m r not_out =
    let n : ℕ = number_from (top ps) a.packet.seq in
    let number : state_number old a ≡ number_from (top ps) a.packet.seq = number_is old ps a p.top_is in
    let pts : r.pts ≡ pts_after old.settings ps (taken ps a) = pts_is old new ps o a p.top_is c m r in
    record {
      next_is = ap (λ (x : Span). x.next) r.span ∙ p.next_is;
      top_is = ap (λ (x : Span). x.top) r.span ∙ ap (λ (t : Option ℕ). Some (max (number_from t a.packet.seq) (unwrap_or t 0))) p.top_is;
      least_is = ap (λ (x : Span). x.least) r.span
          ∙ ap (λ (k : ℕ). Some (min k (unwrap_or old.span.least k))) number
          ∙ ap (λ (l : Option ℕ). Some (min (number_from (top ps) a.packet.seq) (unwrap_or l (number_from (top ps) a.packet.seq)))) p.least_is;
      held_are = λ q. subst (λ (x : Settings). map.get new.held q ≡ (if out q then None else found x (taken ps a ∷ ps) q)) (sym same)
          (ap (λ (x : map.FinMap nat_cmp Held). map.get x q) r.held
          ∙ ap (λ (y : ℕ). map.get (map.insert old.held (state_number old a) (record { pts = y; packet = a.packet })) q) pts
          ∙ ap (λ (k : ℕ). map.get (map.insert old.held k (record { pts = pts_after old.settings ps (taken ps a); packet = a.packet })) q) number
          ∙ held_after old.settings ps out (taken ps a) old.held q p.held_are not_out);
      count_is = ap (λ (x : Span). x.held) r.span ∙ ap (λ (k : ℕ). k + 1) p.count_is ∙ count_more out (taken ps a) ps not_out;
    }

-- ---- the skew

-- the heights after a packet, by whether its number is one above the latest one
abbrev heights_with : List Height → Option ℕ → Bool → Arrival → ℕ → List Height
heights_with hs t b a n = if is_height_by t a n then record { rtp = a.packet.rtp; stamp = a.stamp; is_next = b } ∷ hs else hs

heights_are : (ps : List Taken) (p : Taken) → heights_with (skew_heights (heights ps)) (top ps) (is_next_height (heights ps) p.number) p.arrival p.number ≡ skew_heights (heights (p ∷ ps))
heights_are ps p =
    elim (is_height ps p) as (λ b. (if b then height_after (heights ps) p ∷ skew_heights (heights ps) else skew_heights (heights ps)) ≡ skew_heights (if b then p ∷ heights ps else heights ps)) [
      | true ↦ refl
      | false ↦ refl
    ]

stands_after : (old new : State) (ps : List Taken) (o : Option ℕ) (a : Arrival) → old.span.top ≡ top ps → Marked old ps o → heights_after (skew_heights (heights ps)) old.span.top old.heights a (state_number old a) ≡ skew_heights (heights (with_taken ps a))
stands_after old new ps o a t m =
    ap (λ (x : Option ℕ). heights_after (skew_heights (heights ps)) x old.heights a (number_from x a.packet.seq)) t
    ∙ ap (λ (b : Bool). heights_with (skew_heights (heights ps)) (top ps) b a (number_from (top ps) a.packet.seq)) (next_is old ps o (number_from (top ps) a.packet.seq) m)
    ∙ heights_are ps (taken ps a)

pub clocked_accept : (old new : State) (ps : List Taken) (o : Option ℕ) (a : Arrival) → new.settings ≡ old.settings → old.span.top ≡ top ps → Clocked old ps → Marked old ps o → Accepts old new a (state_number old a) → Clocked new (with_taken ps a)
clocked_accept old new ps o a same t c m r =
    record {
      rate_is = r.timed.rate ∙ c.rate_is ∙ ap (λ (x : Settings). x.rate) (sym same);
      mode_is = r.timed.mode ∙ c.mode_is ∙ ap (λ (x : Settings). x.mode) (sym same);
      stands = subst (λ (hs : List Height). StandsFor new.skew hs) (stands_after old new ps o a t m) (r.timed.stands (skew_heights (heights ps)) (λ e. no_heights ps (sym (ap is_some t) ∙ e)) c.stands);
    }

-- ---- the heights

some_first : (s : Settings) (ps : List Taken) (q : Taken) (y : ℕ) → Some (unwrap_or (first_pts s (q ∷ ps)) y) ≡ first_pts s (q ∷ ps)
some_first s [] q y = refl
some_first s (p ∷ ps) q y = some_first s ps p y

first_after : (s : Settings) (ps : List Taken) (p : Taken) → Some (unwrap_or (first_pts s ps) (pts_after s ps p)) ≡ first_pts s (p ∷ ps)
first_after s [] p = refl
first_after s (q ∷ ps) p = some_first s ps q (pts_after s (q ∷ ps) p)

-- its mark
abbrev mark_of : Settings → List Taken → Taken → Mark
mark_of s ps p = record { number = p.number; pts = pts_after s ps p }

marks_after : (s : Settings) (o : Option ℕ) (ps : List Taken) (p : Taken) → with_mark o (mark_with (top ps) p.arrival p.number (pts_after s ps p)) (kept_two o (marks s ps)) ≡ kept_two o (marks s (p ∷ ps))
marks_after s o ps p =
    elim (is_height ps p) as (λ b. with_mark o (if b then Some (record { number = p.number; pts = pts_after s ps p }) else None) (kept_two o (marks s ps)) ≡ kept_two o (if b then record { number = p.number; pts = pts_after s ps p } ∷ marks s ps else marks s ps)) [
      | true ↦ ap (λ (ms : List Mark). mark_of s ps p ∷ ms) (two_after o (marks s ps))
      | false ↦ refl
    ]

pub marked_accept : (old new : State) (ps : List Taken) (o : Option ℕ) (a : Arrival) → new.settings ≡ old.settings → old.span.next ≡ o → old.span.top ≡ top ps → Clocked old ps → Marked old ps o → Accepts old new a (state_number old a) → Marked new (with_taken ps a) o
marked_accept old new ps o a same nx t c m r =
    let pts : r.pts ≡ pts_after old.settings ps (taken ps a) = pts_is old new ps o a t c m r in
    record {
      first_is = subst (λ (x : Settings). new.span.first_pts ≡ first_pts x (taken ps a ∷ ps)) (sym same)
          (ap (λ (x : Span). x.first_pts) r.span
          ∙ ap (λ (y : ℕ). Some (unwrap_or old.span.first_pts y)) pts
          ∙ ap (λ (f : Option ℕ). Some (unwrap_or f (pts_after old.settings ps (taken ps a)))) m.first_is
          ∙ first_after old.settings ps (taken ps a));
      marks_are = subst (λ (x : Settings). new.heights ≡ kept_two o (marks x (taken ps a ∷ ps))) (sym same)
          (r.heights
          ∙ ap (λ (y : ℕ). with_mark old.span.next (mark_with old.span.top a (state_number old a) y) old.heights) pts
          ∙ ap (λ (x : Option ℕ). with_mark old.span.next (mark_with x a (number_from x a.packet.seq) (pts_after old.settings ps (taken ps a))) old.heights) t
          ∙ ap (λ (x : Option ℕ). with_mark x (mark_with (top ps) a (number_from (top ps) a.packet.seq) (pts_after old.settings ps (taken ps a))) old.heights) nx
          ∙ ap (λ (ms : List Mark). with_mark o (mark_with (top ps) a (number_from (top ps) a.packet.seq) (pts_after old.settings ps (taken ps a))) ms) m.marks_are
          ∙ marks_after old.settings o ps (taken ps a));
    }

-- ---- the requests

pub requested_accept : (old new : State) (ps : List Taken) (o : Option ℕ) (served : ℕ → ℕ) (a : Arrival) → old.span.next ≡ o → old.span.top ≡ top ps → Requested old ps o served → Accepts old new a (state_number old a) → Requested new (with_taken ps a) o served
requested_accept old new ps o served a nx t q r =
    record {
      peaks_are = r.peaks
          ∙ ap (λ (x : Option ℕ). with_peak x old.span.next (number_from x a.packet.seq) a.stamp old.peaks) t
          ∙ ap (λ (x : Option ℕ). with_peak (top ps) x (number_from (top ps) a.packet.seq) a.stamp old.peaks) nx
          ∙ ap (λ (xs : List Peak). with_peak (top ps) o (number_from (top ps) a.packet.seq) a.stamp xs) q.peaks_are
          ∙ with_peak_is o ps (taken ps a);
      places = rw r.served q.places;
      served_are = λ k e. rw r.served (q.served_are k e);
    }

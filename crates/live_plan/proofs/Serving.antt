-- What the front of a script gives its lanes is for lanes that began, from their own pushers.
use Rattle.std.proofs.Common.{ℕ, zero, suc, ◌≡◌, ◌+◌, ◌*◌, ◌≤◌, ◌<◌, ◌^◌, Bool, true, false, refl, sym, ap, subst, ◌∙◌, List, [], ◌∷◌, ◌++◌, length, map, reverse, Option, Some, None, option_map, slice_get, nat_eq, eqb-true, arith}
use Rattle.std.specs.Prelude.{All, filter_map, max, ◌-◌, ◌&&◌, if◌then◌else◌}
use Rattle.std.specs.List.{AllByRecursion}
use Rattle.std.proofs.lemmas.Bool.{and_parts}
use Rattle.std.proofs.lemmas.List.{append_assoc, append-nil, length-append, length_push, reverse-append}
use Rattle.std.proofs.lemmas.List.Elements.{recursion_from_All}
use Rattle.rtp_demux.specs.Lanes.{Stream, Sight, is_stream, found_from}
use Rattle.pcap_file.specs.Capture.{Record}
use Rattle.jitter_model.specs.declared.Arrival.{Arrival}
use Rattle.jitter_model.specs.History.{is_pusher}
use Rattle.jitter_model.specs.Runs.{IsValid}
use Rattle.timeline.specs.Times.{Timed, first_stamp, greatest_since, at_times_after, at_times}
use Rattle.script_lang.specs.Contents.{Contents, IsScript}
use Rattle.front_model.specs.declared.Opening.{Opening}
use Rattle.front_model.specs.declared.SenderReport.{SenderReport}
use Rattle.front_model.specs.declared.Step.{Step}
use Rattle.front_model.specs.declared.Step.TheVariants as step
use Rattle.front_model.specs.Events.{FrontEvent, Came, ReportsDue, Requested, records}
use Rattle.front_model.specs.Laws.{opened_by, opening, openings, OpenInOrder}
use Rattle.front_model.specs.Lanes.{lanes}
use Rattle.front_model.specs.Moves.{Move, moves}
use Rattle.front_model.specs.Plan.{coming, captured}
use Rattle.front_model.specs.Steps.{pushers, steps, all_steps}
use Rattle.replay_model.specs.Fitting.{IsCaptured, AreComing, IsFitting, with_step, with_steps}
use Rattle.replay_sound.specs.Stamped.{IsStamped, AreStamped}
use Rattle.replay_sound.specs.Suited.{IsNext, IsSuited, AreSuited}
use Rattle.live_plan.proofs.Choices.{own_pushes}
use Rattle.live_plan.proofs.Senders.{HasLane, IsSent, AreSent}

-- ---- the records of a capture as they come

each_append : {A : Type 0} (P : A → Type 0) (xs ys : List A) → AllByRecursion P xs → AllByRecursion P ys → AllByRecursion P (xs ++ ys)
each_append P [] ys h k = k
each_append P (x ∷ xs) ys h k = (h.0, each_append P xs ys h.1 k)

abbrev IsTimed : Timed → Type 0
IsTimed r = IsCaptured r.time r.captured

greatest_early : (first : ℕ) (rs : List Record) → AllByRecursion IsStamped rs → greatest_since first rs < 2 ^ 63
greatest_early first [] h = omega arith
greatest_early first (r ∷ rs) h = omega (arith, h.0.early, greatest_early first rs h.1)

times_early : (before rs : List Record) → AllByRecursion IsStamped before → AllByRecursion IsStamped rs → AllByRecursion IsTimed (at_times_after before rs)
times_early before [] passed h = tt
times_early before (r ∷ rs) passed h =
    let now : List Record = before ++ r ∷ [] in
    let all : AllByRecursion IsStamped now = each_append IsStamped before (r ∷ []) passed (h.0, tt) in
    (record { early = greatest_early (first_stamp now) now all; bytes = h.0.bytes }, times_early now rs all h.1)

times_count : (before rs : List Record) → length (at_times_after before rs) ≡ length rs
times_count before [] = omega arith
times_count before (r ∷ rs) = omega (arith, times_count (before ++ r ∷ []) rs)

both_coming : (xs ys : List FrontEvent) → AreComing xs → AreComing ys → AreComing (xs ++ ys)
both_coming [] ys f g = g
both_coming (x ∷ xs) ys f g = (f.0, both_coming xs ys f.1 g)

times_come : (ts : List Timed) → AllByRecursion IsTimed ts → AreComing (reverse (map coming ts))
times_come [] h = tt
times_come (t ∷ ts) h =
    subst AreComing (sym (reverse-append (coming t ∷ []) (map coming ts)))
    (both_coming (reverse (map coming ts)) (coming t ∷ []) (times_come ts h.1) (h.0, tt))

both_records : (xs ys : List FrontEvent) → records (xs ++ ys) ≡ records xs + records ys
both_records [] ys = omega arith
both_records (Came time r ∷ xs) ys = omega (arith, both_records xs ys)
both_records (ReportsDue time ∷ xs) ys = both_records xs ys
both_records (Requested r ∷ xs) ys = both_records xs ys

times_records : (ts : List Timed) → records (reverse (map coming ts)) ≡ length ts
times_records [] = refl
times_records (t ∷ ts) =
    ap records (reverse-append (coming t ∷ []) (map coming ts)) ∙ omega (arith, both_records (reverse (map coming ts)) (coming t ∷ []), times_records ts)

pub captured_come : (rs : List Record) → AreStamped rs → AreComing (captured rs)
captured_come rs h = times_come (at_times rs) (times_early [] rs tt (recursion_from_All IsStamped rs h.each))

pub captured_count : (rs : List Record) → records (captured rs) ≡ length rs
captured_count rs = times_records (at_times rs) ∙ times_count [] rs

-- ---- all steps suit a bin

-- the laws that this stands on
pub record FrontLaws : Type 0 where
  pub suits : (c : Contents) (older : List FrontEvent) (e : FrontEvent)
      → IsScript c → AreComing (e ∷ older) → records (e ∷ older) ≤ 100000000
      → AreSuited (with_steps [] (all_steps c older)) (steps c older e)
  pub opened : OpenInOrder

-- how lanes began by steps
pub begun : (os : List Opening) (xs : List Step) → with_steps os xs ≡ os ++ filter_map opened_by xs
begun os [] = sym (append-nil os)
begun os (step.Tell line ∷ xs) = begun os xs
begun os (step.Open o ∷ xs) = begun (os ++ o ∷ []) xs ∙ append_assoc os (o ∷ []) (filter_map opened_by xs)
begun os (step.Push l a ∷ xs) = begun os xs
begun os (step.Sync l r ∷ xs) = begun os xs

suits_both : (os : List Opening) (xs ys : List Step) → AreSuited os xs → AreSuited (with_steps os xs) ys → AreSuited os (xs ++ ys)
suits_both os [] ys f g = g
suits_both os (x ∷ xs) ys f g = (f.0, suits_both (with_step os x) xs ys f.1 g)

fewer : (e : FrontEvent) (older : List FrontEvent) → records (e ∷ older) ≤ 100000000 → records older ≤ 100000000
fewer (Came time r) older le = omega (arith, le)
fewer (ReportsDue time) older le = le
fewer (Requested r) older le = le

pub all_suited : FrontLaws → (c : Contents) → IsScript c → (events : List FrontEvent) → AreComing events → records events ≤ 100000000 → AreSuited [] (all_steps c events)
all_suited laws c script [] coming few = tt
all_suited laws c script (e ∷ older) coming few =
    suits_both [] (all_steps c older) (steps c older e) (all_suited laws c script older coming.1 (fewer e older few)) (laws.suits c older e script coming few)

-- ---- how lanes began

pub record IsBegun (o : Opening) : Type 0 where
  pub session : o.session < 8
  pub valid : IsValid o.settings

pub all_begun : (os : List Opening) (xs : List Step) → AreSuited os xs → AllByRecursion IsBegun (filter_map opened_by xs)
all_begun os [] h = tt
all_begun os (step.Tell line ∷ xs) h = all_begun os xs h.1
all_begun os (step.Open o ∷ xs) h = (record { session = h.0.session; valid = h.0.valid }, all_begun (os ++ o ∷ []) xs h.1)
all_begun os (step.Push l a ∷ xs) h = all_begun os xs h.1
all_begun os (step.Sync l r ∷ xs) h = all_begun os xs h.1

-- ---- places of lanes

-- the lane with this number began with the stream and the rate at this place
pub opening_at : (c : Contents) (n : ℕ) (a : List Sight) (k : ℕ) (s : Sight) → slice_get a k ≡ Some s → slice_get (openings c n a) k ≡ Some (opening c (n + k) s)
opening_at c n [] k s e = absurd cc
opening_at c n (x ∷ a) zero s e = ap (option_map (opening c n)) e ∙ ap (λ (m : ℕ). Some (opening c m s)) (omega arith)
opening_at c n (x ∷ a) (suc k) s e = opening_at c (n + 1) a k s e ∙ ap (λ (m : ℕ). Some (opening c m s)) (omega arith)

same_stream : (a b : Stream) → is_stream a b ≡ true → b ≡ a
same_stream a b e =
    let parts = and_parts (nat_eq a.0 b.0) (nat_eq a.1 b.1) e in
    λ i. (sym (eqb-true a.0 b.0 parts.0) i, sym (eqb-true a.1 b.1 parts.1) i)

-- a stream's number is its place, and its rate stands there with it
record IsPlace (n : ℕ) (stream : Stream) (a : List Sight) (e : ℕ × ℕ) : Type 0 where
  place : ℕ
  number : e.0 ≡ n + place
  here : slice_get a place ≡ Some (stream, e.1)

found_place : (n : ℕ) (stream : Stream) (a : List Sight) (e : ℕ × ℕ) → found_from n stream a ≡ Some e → IsPlace n stream a e
found_place n stream [] e found = absurd cc
found_place n stream (s ∷ a) e found = by (is_stream stream s.0) refl (found_place (n + 1) stream a e) found
  where
    by : (b : Bool) → is_stream stream s.0 ≡ b → (found_from (n + 1) stream a ≡ Some e → IsPlace (n + 1) stream a e) → (if b then Some (n, s.1) else found_from (n + 1) stream a) ≡ Some e → IsPlace n stream (s ∷ a) e
    by true is rest found =
        let same : (n, s.1) ≡ e = cc in
        record {
          place = 0;
          number = ap (λ (x : ℕ × ℕ). x.0) (sym same) ∙ omega arith;
          here = λ i. Some (same_stream stream s.0 is i, ap (λ (x : ℕ × ℕ). x.1) same i);
        }
    by false is rest found =
        let at : IsPlace (n + 1) stream a e = rest found in
        record { place = suc at.place; number = omega (arith, at.number); here = at.here }

lane_at : (stream : Stream) (a : List Sight) (e : ℕ × ℕ) → found_from 0 stream a ≡ Some e → slice_get a e.0 ≡ Some (stream, e.1)
lane_at stream a e found =
    let at : IsPlace 0 stream a e = found_place 0 stream a e found in
    ap (slice_get a) (at.number ∙ omega arith) ∙ at.here

-- ---- what lanes are given

-- for one of these lanes, one of whose pushers it comes from
pub record IsServed (all : List Opening) (l pusher : ℕ) : Type 0 where
  pub opening : Opening
  pub is : slice_get all l ≡ Some opening
  pub pushes : is_pusher opening.settings.pushers pusher ≡ true

abbrev pub Serves : List Opening → Step → Type 0
Serves all (step.Tell line) = Unit {0}
Serves all (step.Open o) = Unit {0}
Serves all (step.Push l a) = IsServed all l a.pusher × (a.stamp < 2 ^ 63)
Serves all (step.Sync l r) = IsServed all l r.pusher

abbrev pub AllServe : List Opening → List Step → Type 0
AllServe all [] = Unit {0}
AllServe all (x ∷ xs) = Serves all x × AllServe all xs

get_front : {A : Type 0} (xs ys : List A) (k : ℕ) (x : A) → slice_get xs k ≡ Some x → slice_get (xs ++ ys) k ≡ Some x
get_front [] ys k x e = absurd cc
get_front (z ∷ xs) ys zero x e = e
get_front (z ∷ xs) ys (suc k) x e = get_front xs ys k x e

push_serves : (all os : List Opening) (xs : List Step) (l : ℕ) (a : Arrival) → all ≡ with_steps os xs → IsFitting os l a → Serves all (step.Push l a)
push_serves all os xs l a is fits = (
  record {
    opening = fits.opening;
    is = ap (λ (ys : List Opening). slice_get ys l) (is ∙ begun os xs) ∙ get_front os (filter_map opened_by xs) l fits.opening fits.is;
    pushes = fits.pusher;
  },
  fits.ranges.stamp,
)

sync_serves : (c : Contents) (ms : List Move) (all : List Opening) (l : ℕ) (r : SenderReport) → all ≡ openings c 0 (lanes c ms) → IsSent c ms (step.Sync l r) → Serves all (step.Sync l r)
sync_serves c ms all l r is sent =
    let of : Sight = ((r.pusher, sent.1.ssrc), sent.1.rate) in
    record {
      opening = opening c l of;
      is = ap (λ (ys : List Opening). slice_get ys l) is
          ∙ opening_at c 0 (lanes c ms) l of (lane_at (r.pusher, sent.1.ssrc) (lanes c ms) (l, sent.1.rate) sent.1.found)
          ∙ ap (λ (k : ℕ). Some (opening c k of)) (omega arith);
      pushes = own_pushes c r.pusher sent.0;
    }

all_serve : (c : Contents) (ms : List Move) (all os : List Opening) (xs : List Step) → all ≡ openings c 0 (lanes c ms) → all ≡ with_steps os xs → AreSuited os xs → AreSent c ms xs → AllServe all xs
all_serve c ms all os [] is ends suited sent = tt
all_serve c ms all os (step.Tell line ∷ xs) is ends suited sent = (tt, all_serve c ms all os xs is ends suited.1 sent.1)
all_serve c ms all os (step.Open o ∷ xs) is ends suited sent = (tt, all_serve c ms all (os ++ o ∷ []) xs is ends suited.1 sent.1)
all_serve c ms all os (step.Push l a ∷ xs) is ends suited sent = (push_serves all os xs l a ends suited.0, all_serve c ms all os xs is ends suited.1 sent.1)
all_serve c ms all os (step.Sync l r ∷ xs) is ends suited sent = (sync_serves c ms all l r is sent.0, all_serve c ms all os xs is ends suited.1 sent.1)

pub steps_serve : FrontLaws → (c : Contents) (events : List FrontEvent) → AreSuited [] (all_steps c events) → AreSent c (moves c events) (all_steps c events)
    → AllServe (openings c 0 (lanes c (moves c events))) (all_steps c events)
steps_serve laws c events suited sent =
    all_serve c (moves c events) (openings c 0 (lanes c (moves c events))) [] (all_steps c events) refl
    (sym (laws.opened c events) ∙ sym (begun [] (all_steps c events))) suited sent

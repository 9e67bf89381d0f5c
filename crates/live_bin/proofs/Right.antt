-- What is right of a plan meets the conditions of the buffer's calls.
use Rattle.std.proofs.Common.{ℕ, zero, suc, ◌≡◌, ◌≢◌, ◌+◌, ◌<◌, ◌≤◌, ◌==◌, true, false, refl, sym, ap, subst, ◌∙◌, List, [], ◌∷◌, length, Some, arith, drop, if◌then◌else◌}
use Rattle.std.specs.Prelude.{slice_get, slice_index_or}
use Rattle.std.proofs.lemmas.Grind.{common_steps}
use Rattle.std.proofs.Math.Logic.{∥∥₁_elim}
use Rattle.std.proofs.Props.{props}
use Rattle.jitter_model.specs.declared.Arrival.{Arrival}
use Rattle.jitter_model.specs.declared.Settings.{Settings}
use Rattle.jitter_model.specs.History.{pushes}
use Rattle.live_bin.specs.declared.plan.Delivery.{Delivery}
use Rattle.live_bin.specs.declared.plan.Delivery.TheVariants as brought
use Rattle.live_bin.specs.declared.plan.ControlEvent.{ControlEvent}
use Rattle.live_bin.specs.declared.plan.ControlEvent.TheVariants as control
use Rattle.live_bin.specs.declared.plan.Plan.{Plan}
use Rattle.live_bin.specs.declared.plan.PlanLane.{PlanLane}
use Rattle.live_bin.specs.declared.entry.Entry.{Entry}
use Rattle.live_bin.specs.declared.entry.Entry.TheVariants.{Push, Report}
use Rattle.live_bin.specs.declared.lane.Lane.{Lane}
use Rattle.live_bin.specs.Plans.{IsLane, IsDelivery, AreDeliveries, AreQueues, IsEvent, AreEvents, delivery, event, packets, packets_in}
use Rattle.live_bin.specs.Journals.{past, given, InOrder}
use Rattle.live_bin.specs.Steps.{CanPush, next_delivery, given_of}
use Rattle.live_bin.specs.Words.{newest, lane_in}
use Rattle.live_bin.specs.Kept.{Keeps, IsKept}
use Rattle.live_bin.proofs.Keeping.{CanTake}

-- ---- one delivery of a plan

deliveries_at : (s : Settings) (q k j i : ℕ) (ds : List Delivery) (d : Delivery) → AreDeliveries s q k ds → slice_get ds i ≡ Some d → j ≡ k + i → IsDelivery s q j d
deliveries_at s q k j i [] d r e is = absurd cc
deliveries_at s q k j zero (x ∷ xs) d r e is =
    let same : x ≡ d = cc in
    let number : k ≡ j = omega (arith, is) in
    subst (λ (n : ℕ). IsDelivery s q n d) number (subst (IsDelivery s q k) same r.0)
deliveries_at s q k j (suc i) (x ∷ xs) d r e is = deliveries_at s q (k + 1) j i xs d r.1 e (omega (arith, is))

queues_at : (s : Settings) (q r i k : ℕ) (queues : List (List Delivery)) (d : Delivery) → AreQueues s q queues → slice_get (slice_index_or queues i []) k ≡ Some d → r ≡ q + i → IsDelivery s r k d
queues_at s q r i k [] d a e is = absurd cc
queues_at s q r zero k (ds ∷ queues) d a e is =
    let same : q ≡ r = omega (arith, is) in
    subst (λ (n : ℕ). IsDelivery s n k d) same (deliveries_at s q 0 k k ds d a.0 e (omega arith))
queues_at s q r (suc i) k (ds ∷ queues) d a e is = queues_at s (q + 1) r i k queues d a.1 e (omega (arith, is))

pub delivery_right : (l : PlanLane) (q k : ℕ) (d : Delivery) → IsLane l → delivery l q k ≡ Some d → IsDelivery l.settings q k d
delivery_right l q k d r e = queues_at l.settings 0 q q k l.queues d r.deliveries e (omega arith)

among : (queues : List (List Delivery)) (q k : ℕ) (d : Delivery) → slice_get (slice_index_or queues q []) k ≡ Some d → q < length queues
among [] q k d e = absurd cc
among (ds ∷ queues) zero k d e = omega arith
among (ds ∷ queues) (suc q) k d e = let less = among queues q k d e in omega (arith, less)

events_at : (xs : List ControlEvent) (k : ℕ) (x : ControlEvent) → AreEvents xs → slice_get xs k ≡ Some x → IsEvent x
events_at [] k x r e = absurd cc
events_at (y ∷ xs) zero x r e = let same : y ≡ x = cc in subst IsEvent same r.0
events_at (y ∷ xs) (suc k) x r e = events_at xs k x r.1 e

pub event_right : (l : PlanLane) (k : ℕ) (x : ControlEvent) → IsLane l → event l k ≡ Some x → IsEvent x
event_right l k x r e = events_at l.events k x r.events e

-- ---- how many packets came, and are left

abbrev weight : Delivery → ℕ
weight (brought.Packet a) = 1
weight (brought.Report q k ntp_ns rtp) = 0

-- the packets that are left of each queue from q on, where so many deliveries of each were given
abbrev left_in : List (List Delivery) → ℕ → (ℕ → ℕ) → ℕ
left_in [] q g = 0
left_in (ds ∷ queues) q g = packets (drop (g q) ds) + left_in queues (q + 1) g

packets_first : (d : Delivery) (ds : List Delivery) → packets (d ∷ ds) ≡ packets ds + weight d
packets_first (brought.Packet a) ds = refl
packets_first (brought.Report q k ntp_ns rtp) ds = omega arith

drop_one : (ds : List Delivery) (k : ℕ) (d : Delivery) → slice_get ds k ≡ Some d → packets (drop k ds) ≡ packets (drop (suc k) ds) + weight d
drop_one [] k d e = absurd cc
drop_one (x ∷ xs) zero d e = let same : x ≡ d = cc in rw (← same) (packets_first x xs)
drop_one (x ∷ xs) (suc k) d e = drop_one xs k d e

drop_next : (ds : List Delivery) (k n : ℕ) (d : Delivery) → slice_get ds k ≡ Some d → n ≡ k + 1 → packets (drop k ds) ≡ packets (drop n ds) + weight d
drop_next ds k n d e is = let next : suc k ≡ n = omega (arith, is) in subst (λ (i : ℕ). packets (drop k ds) ≡ packets (drop i ds) + weight d) next (drop_one ds k d e)

left_same : (queues : List (List Delivery)) (q r : ℕ) (g g' : ℕ → ℕ) → r < q → ((x : ℕ) → x ≢ r → g' x ≡ g x) → left_in queues q g' ≡ left_in queues q g
left_same [] q r g g' less same = refl
left_same (ds ∷ queues) q r g g' less same =
    let other : q ≢ r = omega (arith, less) in
    let rest = left_same queues (q + 1) r g g' (omega (arith, less)) same in
    rw (same q other, rest) refl

left_step : (queues : List (List Delivery)) (q i r : ℕ) (g g' : ℕ → ℕ) (d : Delivery) → r ≡ q + i → slice_get (slice_index_or queues i []) (g r) ≡ Some d
    → g' r ≡ g r + 1 → ((x : ℕ) → x ≢ r → g' x ≡ g x) → left_in queues q g ≡ left_in queues q g' + weight d
left_step [] q i r g g' d is e next same = absurd cc
left_step (ds ∷ queues) q zero r g g' d is e next same =
    let here : r ≡ q = omega (arith, is) in
    let one : packets (drop (g r) ds) ≡ packets (drop (g' r) ds) + weight d = drop_next ds (g r) (g' r) d e next in
    let one_here : packets (drop (g q) ds) ≡ packets (drop (g' q) ds) + weight d = subst (λ (x : ℕ). packets (drop (g x) ds) ≡ packets (drop (g' x) ds) + weight d) here one in
    let rest = left_same queues (q + 1) r g g' (omega (arith, here)) same in
    omega (arith, one_here, rest)
left_step (ds ∷ queues) q (suc i) r g g' d is e next same =
    let other : q ≢ r = omega (arith, is) in
    let rest = left_step queues (q + 1) i r g g' d (omega (arith, is)) e next same in
    rw (same q other) (omega (arith, rest))

left_all : (queues : List (List Delivery)) (q : ℕ) → left_in queues q (λ x. 0) ≡ packets_in queues
left_all [] q = refl
left_all (ds ∷ queues) q = ap (λ (n : ℕ). packets ds + n) (left_all queues (q + 1))

abbrev more : ℕ → (ℕ → ℕ) → ℕ → ℕ
more r g q = if r == q then g q + 1 else g q

more_here : (r : ℕ) (g : ℕ → ℕ) → more r g r ≡ g r + 1
more_here r g = let same : (r == r) ≡ true = grind (arith, common_steps) in rw same refl

more_other : (r : ℕ) (g : ℕ → ℕ) (x : ℕ) → x ≢ r → more r g x ≡ g x
more_other r g x other = let is : (r == x) ≡ false = grind (arith, common_steps) in rw is refl

one_less : (l : PlanLane) (es : List Entry) (r : ℕ) (d : Delivery) → delivery l r (given r es) ≡ Some d
    → left_in l.queues 0 (λ q. given q es) ≡ left_in l.queues 0 (more r (λ q. given q es)) + weight d
one_less l es r d e = left_step l.queues 0 r r (λ q. given q es) (more r (λ q. given q es)) d (omega arith) e (more_here r (λ q. given q es)) (more_other r (λ q. given q es))

-- the packets that came, and those that are left, are all packets of the plan
counted : (l : PlanLane) (es : List Entry) → InOrder l es → pushes (past l es) + left_in l.queues 0 (λ q. given q es) ≡ packets_in l.queues
counted l [] f = let all = left_all l.queues 0 in omega (arith, all)
counted l (Push r k stamp seq kind v n dropped ∷ es) (f, fs) =
    let all = counted l es fs in
    let one = one_less l es r (brought.Packet f.arrival) (ap (delivery l r) (sym f.order) ∙ f.delivery_is) in
    omega (arith, all, one)
counted l (Report r k ntp_ns rtp local ∷ es) (f, fs) =
    let all = counted l es fs in
    let one = one_less l es r (brought.Report r k ntp_ns rtp) (ap (delivery l r) (sym f.order) ∙ f.delivery_is) in
    omega (arith, all, one)
counted l (e ∷ es) (f, fs) = counted l es fs

few_pushes : (l : PlanLane) (es : List Entry) (q : ℕ) (a : Arrival) → IsLane l → InOrder l es → delivery l q (given q es) ≡ Some (brought.Packet a) → pushes (past l es) < 2147483648
few_pushes l es q a right f e =
    let all = counted l es f in
    let one = one_less l es q (brought.Packet a) e in
    omega (arith, all, one, right.few)

-- ---- what the code asks

can_push : (l : PlanLane) (s : Lane) (q : ℕ) (a : Arrival) → IsLane l → Keeps l s.buffer s.progress (newest s) → next_delivery l s.progress q ≡ Some (brought.Packet a) → CanPush s.buffer a
can_push l s q a right k e =
    let r = delivery_right l q (given_of s.progress q) (brought.Packet a) right e in
    record {
      pusher = rw (k.settings, r.pusher) r.allowed;
      stamp = r.stamp;
      few = rw k.stands.order.pushes_are (few_pushes l (newest s) q a right k.in_order (ap (delivery l q) (sym (k.counts.given_are q)) ∙ e));
    }

pub may_push : (p : Plan) (s : Lane) (q : ℕ) → ∥ IsLane (lane_in p s) ∥₁ → IsKept p s → (a : Arrival) → next_delivery (lane_in p s) s.progress q ≡ Some (brought.Packet a) → CanPush s.buffer a
may_push p s q right kept a e = ∥∥₁_elim right (hlevel props) (λ r. ∥∥₁_elim kept (hlevel props) (λ k. can_push (lane_in p s) s q a r k e))

numbered_by : (l : PlanLane) (s : Lane) (q r j ntp_ns rtp : ℕ) → IsLane l → next_delivery l s.progress q ≡ Some (brought.Report r j ntp_ns rtp) → (r ≡ q) × (j ≡ given_of s.progress q)
numbered_by l s q r j ntp_ns rtp right e = let is = delivery_right l q (given_of s.progress q) (brought.Report r j ntp_ns rtp) right e in (is.pusher, is.number)

pub can_take : (l : PlanLane) (s : Lane) (q : ℕ) → ∥ IsLane l ∥₁ → CanTake l s q
can_take l s q right =
    record {
      session = λ d e. ∥∥₁_elim right (hlevel props) (λ r. let less = among l.queues q (given_of s.progress q) d e in omega (arith, less, r.sessions));
      numbered = λ r j ntp_ns rtp e. ∥∥₁_elim right (hlevel props) (λ x. numbered_by l s q r j ntp_ns rtp x e);
    }

pub few_queues : (l : PlanLane) → ∥ IsLane l ∥₁ → length l.queues ≤ 8
few_queues l right = ∥∥₁_elim right (hlevel props) (λ r. r.sessions)

pub few_pushers : (l : PlanLane) → ∥ IsLane l ∥₁ → l.settings.pushers < 512
few_pushers l right = ∥∥₁_elim right (hlevel props) (λ r. r.settings.pushers_to)

is_event_prop : (x : ControlEvent) → IsProp (IsEvent x)
is_event_prop (control.Clock t) = hlevel props
is_event_prop control.FlushStart = hlevel props
is_event_prop control.FlushStop = hlevel props
is_event_prop (control.Latency ns) = hlevel props

pub may_control : (l : PlanLane) (k : ℕ) → ∥ IsLane l ∥₁ → (x : ControlEvent) → event l k ≡ Some x → IsEvent x
may_control l k right x e = ∥∥₁_elim right (is_event_prop x) (λ r. event_right l k x r e)

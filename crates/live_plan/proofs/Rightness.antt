-- The lanes of a plan are right.
use Rattle.std.proofs.Common.{ℕ, zero, suc, ◌≡◌, ◌+◌, ◌*◌, ◌≤◌, ◌<◌, ◌^◌, Bool, true, false, refl, sym, ap, subst, ◌∙◌, List, [], ◌∷◌, ◌++◌, length, map, Option, Some, None, slice_get, nat_eq, eqb-true, arith}
use Rattle.std.specs.Prelude.{filter_map, flat_map, ◌&&◌, if◌then◌else◌}
use Rattle.std.specs.List.{AllByRecursion, cons_option, range_with_len}
use Rattle.std.proofs.lemmas.Bool.{and_parts, ne_eqb}
use Rattle.std.proofs.lemmas.List.{append-nil, length-append, length_push}
use Rattle.rtp_demux.specs.Lanes.{Sight}
use Rattle.pcap_file.specs.Capture.{Record}
use Rattle.jitter_model.specs.declared.Arrival.{Arrival}
use Rattle.jitter_model.specs.declared.Settings.{Settings}
use Rattle.jitter_model.specs.History.{is_pusher}
use Rattle.script_lang.specs.Contents.{Contents, IsScript}
use Rattle.script_lang.specs.Facts.{session_numbers}
use Rattle.script_lang.specs.declared.script.Item.{Item}
use Rattle.front_model.specs.declared.Opening.{Opening}
use Rattle.front_model.specs.declared.SenderReport.{SenderReport}
use Rattle.front_model.specs.declared.Step.{Step}
use Rattle.front_model.specs.declared.Step.TheVariants as step
use Rattle.front_model.specs.Events.{FrontEvent, Came, records}
use Rattle.front_model.specs.Fates.{Way, is_way, count}
use Rattle.front_model.specs.Lanes.{lanes}
use Rattle.front_model.specs.Laws.{opened_by, opening, openings, number_on, numbers_on, CountUp}
use Rattle.front_model.specs.Moves.{Move, moves}
use Rattle.front_model.specs.Plan.{captured, plan}
use Rattle.front_model.specs.Steps.{steps, all_steps}
use Rattle.replay_model.specs.Fitting.{AreComing, IsItem, IsSound, given_by, given, with_step, with_steps}
use Rattle.replay_sound.specs.Stamped.{AreStamped}
use Rattle.replay_sound.specs.Suited.{AreSuited}
use Rattle.live_bin.specs.declared.plan.Delivery.{Delivery}
use Rattle.live_bin.specs.declared.plan.Delivery.TheVariants.{Packet, Report}
use Rattle.live_bin.specs.declared.plan.PlanLane.{PlanLane}
use Rattle.live_bin.specs.Plans.{packets, packets_in, IsDelivery, AreDeliveries, AreQueues, IsLane, AreRight}
use Rattle.live_plan.specs.Deliveries.{delivery_on, deliveries, queues}
use Rattle.live_plan.specs.Fitting.{IsFit, count_after, AreFit}
use Rattle.live_plan.specs.Planned.{lane, lanes as planned}
use Rattle.live_plan.proofs.Choices.{script_pushes, events_right, flushes_close}
use Rattle.live_plan.proofs.Senders.{IsSent, AreSent, SendLaws, all_sent, event_sent}
use Rattle.live_plan.proofs.Serving.{FrontLaws, begun, all_suited, IsBegun, all_begun, opening_at, IsServed, Serves, AllServe, steps_serve, captured_come, captured_count}

-- ---- deliveries of a way

way_parts : (a b : Way) → is_way a b ≡ true → (b.0 ≡ a.0) × (b.1 ≡ a.1)
way_parts a b e =
    let parts = and_parts (nat_eq a.0 b.0) (nat_eq a.1 b.1) e in
    (sym (eqb-true a.0 b.0 parts.0), sym (eqb-true a.1 b.1 parts.1))

-- it is the lane's own pusher
lane_lets : (all : List Opening) (o : Opening) (q l pusher : ℕ) → slice_get all o.lane ≡ Some o → l ≡ o.lane → pusher ≡ q → IsServed all l pusher → is_pusher o.settings.pushers q ≡ true
lane_lets all o q l pusher here at by served =
    let same : served.opening ≡ o = some_one (sym served.is ∙ ap (slice_get all) at ∙ here) in
    subst (λ (k : ℕ). is_pusher o.settings.pushers k ≡ true) by
    (subst (λ (x : Opening). is_pusher x.settings.pushers pusher ≡ true) same served.pushes)
  where
    some_one : {x y : Opening} → Some x ≡ Some y → x ≡ y
    some_one e = cc

module _ (all : List Opening) (o : Opening) (here : slice_get all o.lane ≡ Some o) (q : ℕ) where
  -- the numbers of what is brought on this way go up from k
  next : (d : Delivery) (j k n : ℕ) (numbers : List ℕ) (ds : List Delivery) → (j ≡ k → IsDelivery o.settings q k d)
      → ((m : ℕ) → numbers ≡ range_with_len (k + 1) m → AreDeliveries o.settings q (k + 1) ds)
      → j ∷ numbers ≡ range_with_len k n → AreDeliveries o.settings q k (d ∷ ds)
  next d j k zero numbers ds one rest e = absurd cc
  next d j k (suc n) numbers ds one rest e =
      let first : j ≡ k = cc in
      let more : numbers ≡ range_with_len (k + 1) n = cc in
      (one first, rest n more)

  maybe : (b : Bool) (d : Delivery) (j k n : ℕ) (numbers : List ℕ) (ds : List Delivery) → (b ≡ true → j ≡ k → IsDelivery o.settings q k d)
      → ((i m : ℕ) → numbers ≡ range_with_len i m → AreDeliveries o.settings q i ds)
      → cons_option (if b then Some j else None) numbers ≡ range_with_len k n → AreDeliveries o.settings q k (cons_option (if b then Some d else None) ds)
  maybe true d j k n numbers ds one rest e = next d j k n numbers ds (one refl) (rest (k + 1)) e
  maybe false d j k n numbers ds one rest e = rest k n e

  deliveries_right : (xs : List Step) → AllServe all xs → (k n : ℕ) → numbers_on (q, o.lane) xs ≡ range_with_len k n → AreDeliveries o.settings q k (deliveries xs (q, o.lane))
  deliveries_right [] serve k n e = tt
  deliveries_right (step.Tell line ∷ xs) serve k n e = deliveries_right xs serve.1 k n e
  deliveries_right (step.Open p ∷ xs) serve k n e = deliveries_right xs serve.1 k n e
  deliveries_right (step.Push l a ∷ xs) serve k n e =
      maybe (is_way (q, o.lane) (a.pusher, l)) (Packet a) a.k k n (numbers_on (q, o.lane) xs) (deliveries xs (q, o.lane))
      (λ on at.
      let parts = way_parts (q, o.lane) (a.pusher, l) on in
      record { pusher = parts.0; number = at; stamp = serve.0.1; allowed = lane_lets all o q l a.pusher here parts.1 parts.0 serve.0.0 })
      (deliveries_right xs serve.1) e
  deliveries_right (step.Sync l r ∷ xs) serve k n e =
      maybe (is_way (q, o.lane) (r.pusher, l)) (Report r.pusher r.k r.ntp_ns r.rtp) r.k k n (numbers_on (q, o.lane) xs) (deliveries xs (q, o.lane))
      (λ on at.
      let parts = way_parts (q, o.lane) (r.pusher, l) on in
      record { pusher = parts.0; number = at; allowed = lane_lets all o q l r.pusher here parts.1 parts.0 serve.0 })
      (deliveries_right xs serve.1) e

-- ---- how many packets

abbrev bit : Bool → ℕ
bit b = if b then 1 else 0

no_session : (q p : ℕ) → q < p → bit (nat_eq q p) ≡ 0
no_session q p lt = ap bit (ne_eqb q p (λ e. absurd (omega (arith, e, lt))))

-- one at most of eight sessions
one_session : (p : ℕ) → bit (nat_eq 0 p) + (bit (nat_eq 1 p) + (bit (nat_eq 2 p) + (bit (nat_eq 3 p) + (bit (nat_eq 4 p) + (bit (nat_eq 5 p) + (bit (nat_eq 6 p) + bit (nat_eq 7 p))))))) ≤ 1
one_session zero = omega arith
one_session (suc zero) = omega arith
one_session (suc (suc zero)) = omega arith
one_session (suc (suc (suc zero))) = omega arith
one_session (suc (suc (suc (suc zero)))) = omega arith
one_session (suc (suc (suc (suc (suc zero))))) = omega arith
one_session (suc (suc (suc (suc (suc (suc zero)))))) = omega arith
one_session (suc (suc (suc (suc (suc (suc (suc zero))))))) = omega arith
one_session (suc (suc (suc (suc (suc (suc (suc (suc n)))))))) =
    let p : ℕ = suc (suc (suc (suc (suc (suc (suc (suc n))))))) in
    omega (
      arith,
      no_session 0 p (omega arith),
      no_session 1 p (omega arith),
      no_session 2 p (omega arith),
      no_session 3 p (omega arith),
      no_session 4 p (omega arith),
      no_session 5 p (omega arith),
      no_session 6 p (omega arith),
      no_session 7 p (omega arith),
    )

less : (a b : Bool) (d : Delivery) (ds : List Delivery) → packets (d ∷ []) ≤ 1 → packets (cons_option (if a && b then Some d else None) ds) ≤ bit a + packets ds
less true true (Packet a) ds le = omega arith
less true true (Report q k ntp_ns rtp) ds le = omega arith
less true false d ds le = omega arith
less false b d ds le = omega arith

none : (b : Bool) (q k ntp_ns rtp : ℕ) (ds : List Delivery) → packets (cons_option (if b then Some (Report q k ntp_ns rtp) else None) ds) ≡ packets ds
none true q k ntp_ns rtp ds = refl
none false q k ntp_ns rtp ds = refl

and_none : (number : ℕ) (xs : List Step) → packets_in (queues xs number) ≤ given xs → packets_in (queues xs number) ≤ 0 + given xs
and_none number xs le = omega (arith, le)

pub few_packets : (number : ℕ) (xs : List Step) → packets_in (queues xs number) ≤ given xs
few_packets number [] = omega arith
few_packets number (step.Tell line ∷ xs) = and_none number xs (few_packets number xs)
few_packets number (step.Open o ∷ xs) = and_none number xs (few_packets number xs)
few_packets number (step.Push l a ∷ xs) =
    let one : (s : ℕ) → packets (deliveries (step.Push l a ∷ xs) (s, number)) ≤ bit (nat_eq s a.pusher) + packets (deliveries xs (s, number)) =
    λ s. less (nat_eq s a.pusher) (nat_eq number l) (Packet a) (deliveries xs (s, number)) (omega arith) in
    omega (arith, one 0, one 1, one 2, one 3, one 4, one 5, one 6, one 7, one_session a.pusher, few_packets number xs)
few_packets number (step.Sync l r ∷ xs) =
    let one : (s : ℕ) → packets (deliveries (step.Sync l r ∷ xs) (s, number)) ≡ packets (deliveries xs (s, number)) =
    λ s. none (is_way (s, number) (r.pusher, l)) r.pusher r.k r.ntp_ns r.rtp (deliveries xs (s, number)) in
    omega (arith, one 0, one 1, one 2, one 3, one 4, one 5, one 6, one 7, few_packets number xs)

-- ---- a lane

-- what all lanes of a plan hang on
record Known (c : Contents) (events : List FrontEvent) : Type 0 where
  script : IsScript c
  items : AllByRecursion IsItem c.items
  numbers : (way : Way) → numbers_on way (all_steps c events) ≡ range_with_len 0 (count c (moves c events) way)
  serve : AllServe (openings c 0 (lanes c (moves c events))) (all_steps c events)
  few : given (all_steps c events) < 2147483648

lane_right : (c : Contents) (events : List FrontEvent) → Known c events → (k : ℕ) (s : Sight) → slice_get (openings c 0 (lanes c (moves c events))) k ≡ Some (opening c k s) → IsBegun (opening c k s)
    → IsLane (lane c events (opening c k s))
lane_right c events known k s here begins =
    let o : Opening = opening c k s in
    let d : (q : ℕ) → AreDeliveries o.settings q 0 (deliveries (all_steps c events) (q, k)) =
    λ q. deliveries_right (openings c 0 (lanes c (moves c events))) o here q (all_steps c events) known.serve 0 (count c (moves c events) (q, k)) (known.numbers (q, k)) in
    record {
      settings = begins.valid;
      control = script_pushes c o.session;
      sessions = omega arith;
      deliveries = (d 0, (d 1, (d 2, (d 3, (d 4, (d 5, (d 6, (d 7, tt))))))));
      few = omega (arith, few_packets k (all_steps c events), known.few);
      events = events_right o.session c.items known.items;
      flushes = flushes_close c o.session known.script begins.session;
    }

-- from this number on
lanes_right : (c : Contents) (events : List FrontEvent) → Known c events → (n : ℕ) (ss : List Sight)
    → ((k : ℕ) (s : Sight) → slice_get ss k ≡ Some s → slice_get (openings c 0 (lanes c (moves c events))) (n + k) ≡ Some (opening c (n + k) s))
    → AllByRecursion IsBegun (openings c n ss) → AreRight (map (lane c events) (openings c n ss))
lanes_right c events known n [] at begins = tt
lanes_right c events known n (s ∷ ss) at begins =
    let same : n + 0 ≡ n = omega arith in (
      lane_right c events known n s (subst (λ (m : ℕ). slice_get (openings c 0 (lanes c (moves c events))) m ≡ Some (opening c m s)) same (at 0 s refl)) begins.0,
      lanes_right c events known (n + 1) ss
          (λ k x e.
          let next : n + suc k ≡ n + 1 + k = omega arith in
          subst (λ (m : ℕ). slice_get (openings c 0 (lanes c (moves c events))) m ≡ Some (opening c m x)) next (at (suc k) x e))
          begins.1,
    )

-- ---- all lanes

-- the laws that this stands on
pub record PlanLaws : Type 0 where
  pub front : FrontLaws
  pub send : SendLaws
  pub count : CountUp
  pub sound : (c : Contents) → IsScript c → IsSound c
  pub items : (c : Contents) → IsScript c → AllByRecursion IsItem c.items

pub plan_right : PlanLaws → (c : Contents) (rs : List Record) → IsScript c → AreStamped rs → AreRight (planned c rs)
plan_right laws c rs script stamped =
    let events : List FrontEvent = captured rs in
    let come : AreComing events = captured_come rs stamped in
    let number : records events ≡ length rs = captured_count rs in
    let most : length rs ≤ 100000000 = stamped.few in
    let suited : AreSuited [] (all_steps c events) = all_suited laws.front c script events come (omega (arith, number, most)) in
    let known : Known c events = record {
      script = script;
      items = laws.items c script;
      numbers = laws.count c events;
      serve = steps_serve laws.front c events suited (all_sent laws.send c script events);
      few = omega (arith, (laws.sound c script).few events come, number, most);
    } in
    let is : filter_map opened_by (all_steps c events) ≡ openings c 0 (lanes c (moves c events)) = laws.front.opened c events in
    subst (λ (os : List Opening). AreRight (map (lane c events) os)) (sym is)
    (lanes_right c events known 0 (lanes c (moves c events))
    (λ k s e. subst (λ (m : ℕ). slice_get (openings c 0 (lanes c (moves c events))) m ≡ Some (opening c m s)) (zero_more k) (opening_here c events k s e))
    (subst (AllByRecursion IsBegun) is (all_begun [] (all_steps c events) suited)))
  where
    zero_more : (k : ℕ) → k ≡ 0 + k
    zero_more k = omega arith

    opening_here : (c : Contents) (events : List FrontEvent) (k : ℕ) (s : Sight) → slice_get (lanes c (moves c events)) k ≡ Some s → slice_get (openings c 0 (lanes c (moves c events))) k ≡ Some (opening c k s)
    opening_here c events k s e = opening_at c 0 (lanes c (moves c events)) k s e ∙ ap (λ (m : ℕ). Some (opening c m s)) (sym (zero_more k))

-- ---- steps that fit

below : {A : Type 0} (xs : List A) (k : ℕ) (x : A) → slice_get xs k ≡ Some x → k < length xs
below [] k x e = absurd cc
below (z ∷ xs) zero x e = omega arith
below (z ∷ xs) (suc k) x e = omega (arith, below xs k x e)

steps_fit : (c : Contents) (os : List Opening) (xs : List Step) (n : ℕ) (ms : List Move) → n ≡ length os → AreSuited os xs → AreSent c ms xs → AreFit n xs
steps_fit c os [] n ms e suited sent = tt
steps_fit c os (step.Tell line ∷ xs) n ms e suited sent = (tt, steps_fit c os xs n ms e suited.1 sent.1)
steps_fit c os (step.Open o ∷ xs) n ms e suited sent =
    (suited.0.number ∙ sym e, steps_fit c (os ++ o ∷ []) xs (n + 1) ms (omega (arith, e, length_push os o)) suited.1 sent.1)
steps_fit c os (step.Push l a ∷ xs) n ms e suited sent =
    ((omega (arith, e, below os l suited.0.opening suited.0.is), sent.0), steps_fit c os xs n ms e suited.1 sent.1)
steps_fit c os (step.Sync l r ∷ xs) n ms e suited sent =
    ((omega (arith, e, suited.0.0), sent.0.0), steps_fit c os xs n ms e suited.1 sent.1)

pub event_fits : FrontLaws → SendLaws → (c : Contents) (older : List FrontEvent) (e : FrontEvent) → IsScript c → AreComing (e ∷ older) → records (e ∷ older) ≤ 100000000
    → AreFit (length (filter_map opened_by (all_steps c older))) (steps c older e)
event_fits laws send c older e script coming few =
    steps_fit c (with_steps [] (all_steps c older)) (steps c older e) (length (filter_map opened_by (all_steps c older))) (moves c (e ∷ older))
    (sym (ap length (begun [] (all_steps c older)))) (laws.suits c older e script coming few) (event_sent send c script older e)

-- Lists that are looked through from the front.
use Rattle.std.proofs.Common.{ℕ, zero, suc, ◌≡◌, ◌+◌, ◌<◌, ◌≤◌, Bool, true, false, not, refl, sym, ap, subst, ◌∙◌, List, [], ◌∷◌, length, Some, arith, drop}
use Rattle.std.specs.Prelude.{◌↔◌, IsTrue, slice_get}
use Rattle.jitter_model.specs.declared.Settings.{Settings}
use Rattle.live_bin.specs.declared.plan.Delivery.{Delivery}
use Rattle.live_bin.specs.declared.plan.ControlEvent.{ControlEvent}
use Rattle.live_bin.specs.declared.plan.ControlEvent.TheVariants.{Clock, FlushStart, FlushStop, Latency}
use Rattle.live_bin.specs.declared.plan.PlanLane.{PlanLane}
use Rattle.live_bin.specs.Plans.{IsDelivery, AreDeliveries, AreQueues, IsEvent, AreEvents, AreRight, IsLane, packets, packets_in, flushes_after}
use Rattle.live_bin.specs.Checked.{weight}
use Rattle.live_bin.proofs.Pushers.{clash}
use Rattle.live_bin.specs.declared.plan.Delivery.TheVariants as brought

pub drop_get : {A : Type 0} (xs : List A) (k : ℕ) (x : A) → slice_get xs k ≡ Some x → drop k xs ≡ x ∷ drop (suc k) xs
drop_get [] k x e = absurd cc
drop_get (y ∷ xs) zero x e = let same : y ≡ x = cc in rw same refl
drop_get (y ∷ xs) (suc k) x e = drop_get xs k x e

pub drop_at : {A : Type 0} (xs : List A) (k : ℕ) (x : A) → slice_get xs k ≡ Some x → drop k xs ≡ x ∷ drop (k + 1) xs
drop_at xs k x e = let next : suc k ≡ k + 1 = omega arith in drop_get xs k x e ∙ ap (λ (i : ℕ). x ∷ drop i xs) next

pub drop_all : {A : Type 0} (xs : List A) (k : ℕ) → length xs ≤ k → drop k xs ≡ []
drop_all [] zero le = refl
drop_all [] (suc k) le = refl
drop_all (x ∷ xs) zero le = absurd (omega (arith, le))
drop_all (x ∷ xs) (suc k) le = drop_all xs k (omega (arith, le))

-- a test that failed, or passed
pub not_so : {P : Type 0} → (P → ⊥) → IsTrue false ↔ P
not_so wrong = (λ e. clash (sym e), λ p. absurd (wrong p))

pub so_it_is : {P : Type 0} → P → IsTrue true ↔ P
so_it_is p = (λ e. p, λ q. refl)

-- what a failed test says
pub refuted : {P : Type 0} (b : Bool) → (IsTrue b ↔ P) → b ≡ false → P → ⊥
refuted b all off p = clash (sym (all.1 p) ∙ off)

abbrev pub ManyDeliveries : Settings → ℕ → ℕ → List Delivery → Type 0
ManyDeliveries s q k ds = AreDeliveries s q k (drop k ds) ↔ AreDeliveries s q 0 ds

pub deliveries_step : (s : Settings) (q k : ℕ) (ds : List Delivery) (d : Delivery) → ManyDeliveries s q k ds → slice_get ds k ≡ Some d → IsDelivery s q k d → ManyDeliveries s q (k + 1) ds
deliveries_step s q k ds d all e is = (λ rest. all.0 (rw (drop_at ds k d e) (is, rest)), λ whole. (subst (AreDeliveries s q k) (drop_at ds k d e) (all.1 whole)).1)

pub deliveries_stop : (s : Settings) (q k : ℕ) (ds : List Delivery) (d : Delivery) → ManyDeliveries s q k ds → slice_get ds k ≡ Some d → (IsDelivery s q k d → ⊥) → IsTrue false ↔ AreDeliveries s q 0 ds
deliveries_stop s q k ds d all e wrong = not_so (λ whole. wrong (subst (AreDeliveries s q k) (drop_at ds k d e) (all.1 whole)).0)

pub deliveries_end : (s : Settings) (q k : ℕ) (ds : List Delivery) → ManyDeliveries s q k ds → length ds ≤ k → IsTrue true ↔ AreDeliveries s q 0 ds
deliveries_end s q k ds all le = so_it_is (all.0 (rw (drop_all ds k le) tt))

abbrev pub ManyQueues : Settings → ℕ → List (List Delivery) → Type 0
ManyQueues s q qs = AreQueues s q (drop q qs) ↔ AreQueues s 0 qs

pub queues_step : (s : Settings) (q : ℕ) (qs : List (List Delivery)) (ds : List Delivery) → ManyQueues s q qs → slice_get qs q ≡ Some ds → AreDeliveries s q 0 ds → ManyQueues s (q + 1) qs
queues_step s q qs ds all e is = (λ rest. all.0 (rw (drop_at qs q ds e) (is, rest)), λ whole. (subst (AreQueues s q) (drop_at qs q ds e) (all.1 whole)).1)

pub queues_stop : (s : Settings) (q : ℕ) (qs : List (List Delivery)) (ds : List Delivery) → ManyQueues s q qs → slice_get qs q ≡ Some ds → (AreDeliveries s q 0 ds → ⊥) → IsTrue false ↔ AreQueues s 0 qs
queues_stop s q qs ds all e wrong = not_so (λ whole. wrong (subst (AreQueues s q) (drop_at qs q ds e) (all.1 whole)).0)

pub queues_end : (s : Settings) (q : ℕ) (qs : List (List Delivery)) → ManyQueues s q qs → length qs ≤ q → IsTrue true ↔ AreQueues s 0 qs
queues_end s q qs all le = so_it_is (all.0 (rw (drop_all qs q le) tt))

abbrev pub ManyLanes : ℕ → List PlanLane → Type 0
ManyLanes n ls = AreRight (drop n ls) ↔ AreRight ls

pub lanes_step : (n : ℕ) (ls : List PlanLane) (l : PlanLane) → ManyLanes n ls → slice_get ls n ≡ Some l → IsLane l → ManyLanes (n + 1) ls
lanes_step n ls l all e is = (λ rest. all.0 (rw (drop_at ls n l e) (is, rest)), λ whole. (subst AreRight (drop_at ls n l e) (all.1 whole)).1)

pub lanes_stop : (n : ℕ) (ls : List PlanLane) (l : PlanLane) → ManyLanes n ls → slice_get ls n ≡ Some l → (IsLane l → ⊥) → IsTrue false ↔ AreRight ls
lanes_stop n ls l all e wrong = not_so (λ whole. wrong (subst AreRight (drop_at ls n l e) (all.1 whole)).0)

pub lanes_end : (n : ℕ) (ls : List PlanLane) → ManyLanes n ls → length ls ≤ n → IsTrue true ↔ AreRight ls
lanes_end n ls all le = so_it_is (all.0 (rw (drop_all ls n le) tt))

abbrev pub ManyEvents : ℕ → List ControlEvent → Type 0
ManyEvents n xs = AreEvents (drop n xs) ↔ AreEvents xs

pub events_step : (n : ℕ) (xs : List ControlEvent) (x : ControlEvent) → ManyEvents n xs → slice_get xs n ≡ Some x → IsEvent x → ManyEvents (n + 1) xs
events_step n xs x all e is = (λ rest. all.0 (rw (drop_at xs n x e) (is, rest)), λ whole. (subst AreEvents (drop_at xs n x e) (all.1 whole)).1)

pub events_stop : (n : ℕ) (xs : List ControlEvent) (x : ControlEvent) (Q : Type 0) → ManyEvents n xs → slice_get xs n ≡ Some x → (IsEvent x → ⊥) → IsTrue false ↔ (AreEvents xs × Q)
events_stop n xs x Q all e wrong = not_so (λ whole. wrong (subst AreEvents (drop_at xs n x e) (all.1 whole.0)).0)

flushes_more : (b : Bool) (x : ControlEvent) (xs : List ControlEvent) → flushes_after b (x ∷ xs) ≡ flushes_after (flushes_after b (x ∷ [])) xs
flushes_more b (Clock t) xs = refl
flushes_more b FlushStart xs = refl
flushes_more b FlushStop xs = refl
flushes_more b (Latency ns) xs = refl

pub flushes_step : (n : ℕ) (b c : Bool) (xs : List ControlEvent) (x : ControlEvent) → flushes_after b (drop n xs) ≡ flushes_after false xs → slice_get xs n ≡ Some x → c ≡ flushes_after b (x ∷ [])
    → flushes_after c (drop (n + 1) xs) ≡ flushes_after false xs
flushes_step n b c xs x all e is = ap (λ (y : Bool). flushes_after y (drop (n + 1) xs)) is ∙ (sym (flushes_more b x (drop (n + 1) xs)) ∙ (ap (flushes_after b) (sym (drop_at xs n x e)) ∙ all))

pub flushes_end : (n : ℕ) (b : Bool) (xs : List ControlEvent) → flushes_after b (drop n xs) ≡ flushes_after false xs → length xs ≤ n → flushes_after false xs ≡ b
flushes_end n b xs all le = sym all ∙ ap (flushes_after b) (drop_all xs n le)

-- a test of whether no flush runs
flag_off : (b f : Bool) → f ≡ b → IsTrue (not b) ↔ (f ≡ false)
flag_off true f e = (λ x. clash (sym x), λ off. sym off ∙ e)
flag_off false f e = (λ x. e, λ off. refl)

pub events_end : (n : ℕ) (b : Bool) (xs : List ControlEvent) → ManyEvents n xs → flushes_after b (drop n xs) ≡ flushes_after false xs → length xs ≤ n
    → IsTrue (not b) ↔ (AreEvents xs × (flushes_after false xs ≡ false))
events_end n b xs all run le =
    let off = flag_off b (flushes_after false xs) (flushes_end n b xs run le) in
    let whole : AreEvents xs = all.0 (rw (drop_all xs n le) tt) in
    (λ e. (whole, off.0 e), λ both. off.1 both.1)

weight_first : (d : Delivery) (ds : List Delivery) → packets (d ∷ ds) ≡ weight d + packets ds
weight_first (brought.Packet a) ds = omega arith
weight_first (brought.Report q k ntp_ns rtp) ds = omega arith

pub packets_at : (n : ℕ) (ds : List Delivery) (d : Delivery) → slice_get ds n ≡ Some d → packets (drop n ds) ≡ weight d + packets (drop (n + 1) ds)
packets_at n ds d e = ap packets (drop_at ds n d e) ∙ weight_first d (drop (n + 1) ds)

pub weight_small : (d : Delivery) → weight d ≤ 1
weight_small (brought.Packet a) = omega arith
weight_small (brought.Report q k ntp_ns rtp) = omega arith

packets_in_at : (q : ℕ) (qs : List (List Delivery)) (ds : List Delivery) → slice_get qs q ≡ Some ds → packets_in (drop q qs) ≡ packets ds + packets_in (drop (q + 1) qs)
packets_in_at q qs ds e = ap packets_in (drop_at qs q ds e)

pub few_stop : (total q : ℕ) (qs : List (List Delivery)) (ds : List Delivery) → total + packets_in (drop q qs) ≡ packets_in qs → slice_get qs q ≡ Some ds → 2147483648 ≤ total + packets ds
    → IsTrue false ↔ (packets_in qs < 2147483648)
few_stop total q qs ds all e many = let one = packets_in_at q qs ds e in not_so (λ few. omega (arith, all, one, many, few))

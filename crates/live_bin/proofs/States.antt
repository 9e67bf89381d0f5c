-- The calls on a lane's state, under the plan that its type names.
use Rattle.std.proofs.Common.{ℕ, zero, suc, ◌≡◌, ◌<◌, ◌⊎◌, Bool, true, false, refl, sym, ap, subst, ◌∙◌, List, [], ◌∷◌, ◌++◌, length, Option, None, Some, is_some, arith}
use Rattle.std.specs.Prelude.{reverse, slice_index_or}
use Rattle.std.proofs.Math.Logic.{∥∥₁_elim}
use Rattle.std.proofs.Props.{props}
use Rattle.jitter_model.specs.declared.Arrival.{Arrival}
use Rattle.jitter_model.specs.declared.Settings.{Settings}
use Rattle.jitter_model.specs.declared.Turn.TheVariants as reply
use Rattle.jitter_model.specs.declared.Held.{Held}
use Rattle.jitter_model.specs.History.{History, all_ended}
use Rattle.jitter_model.specs.Times.{held}
use Rattle.jitter_model.specs.Turns.{turn, wake_of}
use Rattle.jitter_model.specs.Runs.{Run}
use Rattle.jitter_model.specs.Laws.{IsBelow}
use Rattle.jitter_core.specs.declared.buffer.Buffer.{Buffer}
use Rattle.jitter_core.specs.Words.{Stands, settings_of}
use Rattle.live_bin.specs.declared.plan.Delivery.TheVariants as brought
use Rattle.live_bin.specs.declared.plan.Plan.{Plan}
use Rattle.live_bin.specs.declared.plan.PlanLane.{PlanLane}
use Rattle.live_bin.specs.declared.entry.Entry.{Entry}
use Rattle.live_bin.specs.declared.lane.Progress.{Progress}
use Rattle.live_bin.specs.declared.lane.Lane.{Lane}
use Rattle.live_bin.specs.Plans.{IsLane, event}
use Rattle.live_bin.specs.Lookup.{lane_of}
use Rattle.live_bin.specs.Steps.{IsSame, CanPush, DeliversNext, ControlsNext, next_delivery, can_end}
use Rattle.live_bin.specs.Words.{newest, lane_in, history, delivery_of, event_of, delivered, controlled, may_end, ended}
use Rattle.live_bin.specs.Kept.{Counts, Keeps, IsKept}
use Rattle.live_bin.proofs.Keeping.{under, deliver_kept, deliver_added, next_is, control_kept, control_added, event_is}
use Rattle.live_bin.proofs.Calls.{EndsIt, ends_kept, ends_added, may_end_is}
use Rattle.live_bin.proofs.Right.{can_take, may_push, few_pushers}

-- the lane of a state in the plan that its type names, as a call has looked it up
pub record LooksUp (p p' : Plan) (s : Lane) (l : PlanLane) : Type 0 where
  pub same : p ≡ p'
  pub is : lane_in p s ≡ l
  pub right : ∥ IsLane l ∥₁
  pub kept : IsKept p' s

pub kept_here : (p p' : Plan) (s : Lane) (l : PlanLane) → LooksUp p p' s l → IsKept p s
kept_here p p' s l u = subst (λ (x : Plan). IsKept x s) (sym u.same) u.kept

pub right_here : (p p' : Plan) (s : Lane) (l : PlanLane) → LooksUp p p' s l → ∥ IsLane (lane_in p s) ∥₁
right_here p p' s l u = subst (λ (x : PlanLane). ∥ IsLane x ∥₁) (sym u.is) u.right

-- ---- deliveries

pub push_state : (p p' : Plan) (s : Lane) (q : ℕ) (l : PlanLane) → LooksUp p p' s l → (a : Arrival) → next_delivery l s.progress q ≡ Some (brought.Packet a) → CanPush s.buffer a
push_state p p' s q l u a e =
    may_push p s q (right_here p p' s l u) (kept_here p p' s l u) a (subst (λ (x : PlanLane). next_delivery x s.progress q ≡ Some (brought.Packet a)) (sym u.is) e)

pub deliver_state : (p p' : Plan) (s t : Lane) (q : ℕ) (l : PlanLane) → LooksUp p p' s l → DeliversNext l s t q ⊎ IsSame s t → IsKept p' t
deliver_state p p' s t q l u out =
    under p p' s t u.same u.kept (λ k. deliver_kept p s t q k (can_take (lane_in p s) s q (right_here p p' s l u)) (subst (λ (x : PlanLane). DeliversNext x s t q ⊎ IsSame s t) (sym u.is) out))

pub next_state : (p p' : Plan) (s : Lane) (q : ℕ) (l : PlanLane) → LooksUp p p' s l → next_delivery l s.progress q ≡ delivery_of p s q
next_state p p' s q l u = ap (λ (x : PlanLane). next_delivery x s.progress q) (sym u.is) ∙ next_is p s q (kept_here p p' s l u)

pub added_state : (p p' : Plan) (s t : Lane) (q : ℕ) (l : PlanLane) → LooksUp p p' s l
    → (b : Bool) → b ≡ is_some (next_delivery l s.progress q) → (b ≡ true → DeliversNext l s t q) → (b ≡ false → IsSame s t) → t.journal.items ≡ s.journal.items ++ delivered p s q
added_state p p' s t q l u b is does none =
    deliver_added p s t q (kept_here p p' s l u) b (subst (λ (x : PlanLane). b ≡ is_some (next_delivery x s.progress q)) (sym u.is) is)
    (λ e. subst (λ (x : PlanLane). DeliversNext x s t q) (sym u.is) (does e)) none

-- ---- control events

pub control_state : (p p' : Plan) (s t : Lane) (l : PlanLane) → LooksUp p p' s l → ControlsNext l s t ⊎ IsSame s t → IsKept p' t
control_state p p' s t l u out =
    under p p' s t u.same u.kept (λ k. control_kept p s t k (subst (λ (x : PlanLane). ControlsNext x s t ⊎ IsSame s t) (sym u.is) out))

pub event_state : (p p' : Plan) (s : Lane) (l : PlanLane) → LooksUp p p' s l → event l s.progress.controls ≡ event_of p s
event_state p p' s l u = ap (λ (x : PlanLane). event x s.progress.controls) (sym u.is) ∙ event_is p s (kept_here p p' s l u)

pub controlled_state : (p p' : Plan) (s t : Lane) (l : PlanLane) → LooksUp p p' s l
    → (b : Bool) → b ≡ is_some (event l s.progress.controls) → (b ≡ true → ControlsNext l s t) → (b ≡ false → IsSame s t) → t.journal.items ≡ s.journal.items ++ controlled p s
controlled_state p p' s t l u b is does none =
    control_added p s t (kept_here p p' s l u) b (subst (λ (x : PlanLane). b ≡ is_some (event x s.progress.controls)) (sym u.is) is)
    (λ e. subst (λ (x : PlanLane). ControlsNext x s t) (sym u.is) (does e)) none

-- ---- ends

few_here : (p p' : Plan) (s : Lane) (l : PlanLane) → LooksUp p p' s l → (lane_in p s).settings.pushers < 512
few_here p p' s l u = few_pushers (lane_in p s) (right_here p p' s l u)

pub settings_state : (p p' : Plan) (s : Lane) (l : PlanLane) → LooksUp p p' s l → settings_of s.buffer ≡ l.settings
settings_state p p' s l u = ∥∥₁_elim (kept_here p p' s l u) (hlevel props) (λ k. k.settings) ∙ ap (λ (x : PlanLane). x.settings) u.is

pub may_end_state : (p p' : Plan) (s : Lane) (q : ℕ) (l : PlanLane) → LooksUp p p' s l → can_end l s.progress q ≡ may_end p s q
may_end_state p p' s q l u = ap (λ (x : PlanLane). can_end x s.progress q) (sym u.is) ∙ may_end_is p s q (few_here p p' s l u) (kept_here p p' s l u)

pub ends_state : (p p' : Plan) (s t : Lane) (q : ℕ) (l : PlanLane) → LooksUp p p' s l
    → (b : Bool) → b ≡ can_end l s.progress q → (b ≡ true → EndsIt s t q) → (b ≡ false → IsSame s t) → IsKept p' t
ends_state p p' s t q l u b is does none =
    under p p' s t u.same u.kept (λ k. ends_kept p s t q (few_here p p' s l u) k b (subst (λ (x : PlanLane). b ≡ can_end x s.progress q) (sym u.is) is) does none)

pub ended_state : (p p' : Plan) (s t : Lane) (q : ℕ) (l : PlanLane) → LooksUp p p' s l
    → (b : Bool) → b ≡ can_end l s.progress q → (b ≡ true → EndsIt s t q) → (b ≡ false → IsSame s t) → t.journal.items ≡ s.journal.items ++ ended (may_end p s q) q
ended_state p p' s t q l u b is does none =
    ends_added p s t q (few_here p p' s l u) (kept_here p p' s l u) b (subst (λ (x : PlanLane). b ≡ can_end x s.progress q) (sym u.is) is) does none

-- ---- the buffer

pub run_of : (p : Plan) (s : Lane) → Keeps (lane_in p s) s.buffer s.progress (newest s) → Run (lane_in p s).settings (history p s)
run_of p s k = subst (λ (x : Settings). Run x (history p s)) k.settings k.stands.run

below_by : (t limit : ℕ) (o : Option ℕ) → IsBelow limit o → o ≡ Some t → t < limit
below_by t limit None b e = absurd cc
below_by t limit (Some w) b e = let same : w ≡ t = cc in subst (λ (x : ℕ). x < limit) same b

pub wake_small : (p : Plan) (s : Lane) (t : ℕ) → ((x : Settings) (h : History) → Run x h → IsBelow 9223372646854775808 (wake_of (turn x h))) → IsKept p s
    → turn (lane_in p s).settings (history p s) ≡ reply.Idle (Some t) → t < 9223372646854775808
wake_small p s t law kept e =
    ∥∥₁_elim kept (hlevel props) (λ k. below_by t 9223372646854775808 _ (law (lane_in p s).settings (history p s) (run_of p s k)) (ap wake_of e))

pub all_ended_state : (p : Plan) (s : Lane) (b : Bool) → IsKept p s → ((h : History) → Stands s.buffer h → b ≡ all_ended (settings_of s.buffer) h) → b ≡ all_ended (lane_in p s).settings (history p s)
all_ended_state p s b kept law = ∥∥₁_elim kept (hlevel props) (λ k. law (history p s) k.stands ∙ ap (λ (x : Settings). all_ended x (history p s)) k.settings)

pub store_state : (p : Plan) (s : Lane) (get : ℕ → Option Held) → IsKept p s
    → ((h : History) → Stands s.buffer h → (n : ℕ) → get n ≡ held (settings_of s.buffer) h n)
    → (n : ℕ) → get n ≡ held (lane_in p s).settings (history p s) n
store_state p s get kept law n =
    ∥∥₁_elim kept (hlevel props) (λ k. law (history p s) k.stands n
    ∙ ap (λ (x : Settings). held x (history p s) n) k.settings)

-- ---- a new lane

abbrev pub zeros : List ℕ
zeros = 0 ∷ 0 ∷ 0 ∷ 0 ∷ 0 ∷ 0 ∷ 0 ∷ 0 ∷ []

no_given : (q : ℕ) → slice_index_or zeros q 0 ≡ 0
no_given zero = refl
no_given (suc zero) = refl
no_given (suc (suc zero)) = refl
no_given (suc (suc (suc zero))) = refl
no_given (suc (suc (suc (suc zero)))) = refl
no_given (suc (suc (suc (suc (suc zero))))) = refl
no_given (suc (suc (suc (suc (suc (suc zero)))))) = refl
no_given (suc (suc (suc (suc (suc (suc (suc zero))))))) = refl
no_given (suc (suc (suc (suc (suc (suc (suc (suc q)))))))) = refl

none_ended : (p : ℕ) → slice_index_or (false ∷ false ∷ false ∷ false ∷ false ∷ false ∷ false ∷ false ∷ false ∷ []) p false ≡ false
none_ended zero = refl
none_ended (suc zero) = refl
none_ended (suc (suc zero)) = refl
none_ended (suc (suc (suc zero))) = refl
none_ended (suc (suc (suc (suc zero)))) = refl
none_ended (suc (suc (suc (suc (suc zero))))) = refl
none_ended (suc (suc (suc (suc (suc (suc zero)))))) = refl
none_ended (suc (suc (suc (suc (suc (suc (suc zero))))))) = refl
none_ended (suc (suc (suc (suc (suc (suc (suc (suc zero)))))))) = refl
none_ended (suc (suc (suc (suc (suc (suc (suc (suc (suc p))))))))) = refl

pub new_counts : (l : PlanLane) (g : Progress)
    → g.given ≡ zeros → g.controls ≡ 0 → g.ended ≡ false ∷ false ∷ false ∷ false ∷ false ∷ false ∷ false ∷ false ∷ false ∷ [] → g.told ≡ false
    → Counts l g []
new_counts l g given controls ended told =
    record {
      given_long = ap length given;
      given_are = λ q. ap (λ (xs : List ℕ). slice_index_or xs q 0) given ∙ no_given q;
      controls_are = controls;
      ended_long = ap length ended;
      ended_are = λ q. ap (λ (xs : List Bool). slice_index_or xs q false) ended ∙ none_ended q;
      told_is = told;
    }

pub named_after : (n m k : ℕ) → m ≡ n → n < k → m < k
named_after n m k e less = omega (arith, e, less)

pub new_kept : (p p' : Plan) (n : ℕ) (l : PlanLane) (b : Buffer) (g : Progress) → p ≡ p' → lane_of p n ≡ l → Stands b [] → settings_of b ≡ l.settings
    → g.given ≡ zeros → g.controls ≡ 0 → g.ended ≡ false ∷ false ∷ false ∷ false ∷ false ∷ false ∷ false ∷ false ∷ false ∷ [] → g.told ≡ false
    → Keeps (lane_of p' n) b g []
new_kept p p' n l b g same is stands settings given controls ended told =
    subst (λ (x : Plan). Keeps (lane_of x n) b g []) same
    (record { in_order = tt; stands = stands; settings = settings ∙ ap (λ (x : PlanLane). x.settings) (sym is); counts = new_counts (lane_of p n) g given controls ended told })

pub named_under : (p p' : Plan) (n : ℕ) → p ≡ p' → n < length p.lanes → n < length p'.lanes
named_under p p' n same less = subst (λ (x : Plan). n < length x.lanes) same less

pub kept_empty : (l : PlanLane) (b : Buffer) (g : Progress) (items : List Entry) → items ≡ [] → Keeps l b g [] → ∥ Keeps l b g (reverse items) ∥₁
kept_empty l b g items none k = rw none (∣ k ∣₁)

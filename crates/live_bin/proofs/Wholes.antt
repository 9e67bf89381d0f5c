-- A journal with an End is complete.
use Rattle.std.proofs.Common.{ℕ, zero, suc, ◌≡◌, ◌+◌, ◌<◌, ◌==◌, ◌⊎◌, inl, inr, Bool, true, false, not, ◌&&◌, ◌||◌, refl, sym, ap, subst, ◌∙◌, List, [], ◌∷◌, None, Some, is_some, arith, drop}
use Rattle.std.specs.Prelude.{slice_get}
use Rattle.std.proofs.lemmas.Grind.{common_steps}
use Rattle.jitter_model.specs.declared.Settings.{Settings}
use Rattle.jitter_model.specs.declared.Turn.TheVariants as reply
use Rattle.jitter_model.specs.History.{History, is_pusher, has_ended, all_below, all_ended, end_told, is_flushing, pusher_count}
use Rattle.jitter_model.specs.Turns.{turn}
use Rattle.jitter_model.specs.Runs.{Run}
use Rattle.live_bin.specs.declared.plan.ControlEvent.{ControlEvent}
use Rattle.live_bin.specs.declared.plan.ControlEvent.TheVariants as control
use Rattle.live_bin.specs.declared.plan.PlanLane.{PlanLane}
use Rattle.live_bin.specs.declared.entry.Entry.{Entry}
use Rattle.live_bin.specs.declared.entry.Entry.TheVariants.{Push, Report, Clock, FlushStart, FlushStop, Latency, Ends, Packet, Lost, Request, End}
use Rattle.live_bin.specs.Plans.{IsLane, event, flushes_after}
use Rattle.live_bin.specs.Journals.{past, controls, InOrder, Fits}
use Rattle.live_bin.specs.Whole.{IsComplete}
use Rattle.live_bin.proofs.Machine.{end_turn}
use Rattle.live_bin.proofs.Pushers.{clash, pusher_small, ended_none}
use Rattle.live_bin.proofs.Right.{delivery_right}

-- ---- all ended

below_at : (P : ℕ → Bool) (n q : ℕ) → all_below P n ≡ true → q < n → P q ≡ true
below_at P zero q all less = absurd (omega (arith, less))
below_at P (suc n) q all less =
    let both : all_below P n && P n ≡ true = all in
    elim (q == n) as (λ b. (q == n) ≡ b → P q ≡ true) [
      | true ↦ λ e. let same : q ≡ n = grind (arith, common_steps) in subst (λ (x : ℕ). P x ≡ true) (sym same) (grind (arith, common_steps))
      | false ↦ λ e. let other : q < n = grind (arith, common_steps) in below_at P n q (grind (arith, common_steps)) other
    ] refl

of_or : (a b : Bool) → (not a || b) ≡ true → a ≡ true → b ≡ true
of_or true b e is = e
of_or false b e is = clash (sym is)

pub each_ended : (s : Settings) (h : History) (q : ℕ) → s.pushers < 512 → all_ended s h ≡ true → is_pusher s.pushers q ≡ true → has_ended h q ≡ true
unfolding pusher_count
each_ended s h q few all is = of_or _ _ (below_at (λ p. not (is_pusher s.pushers p) || has_ended h p) 9 q all (pusher_small s.pushers q few is)) is

below_each : (P : ℕ → Bool) (n : ℕ) → ((q : ℕ) → P q ≡ true) → all_below P n ≡ true
below_each P zero each = refl
below_each P (suc n) each = rw (below_each P n each, each n) refl

to_or : (a b : Bool) → (a ≡ true → b ≡ true) → (not a || b) ≡ true
to_or true b f = f refl
to_or false b f = refl

pub all_each : (s : Settings) (h : History) → ((q : ℕ) → is_pusher s.pushers q ≡ true → has_ended h q ≡ true) → all_ended s h ≡ true
all_each s h each = below_each (λ p. not (is_pusher s.pushers p) || has_ended h p) pusher_count (λ q. to_or _ _ (each q))

-- ---- nothing follows an End

-- all that an End leaves
record Over (l : PlanLane) (es : List Entry) : Type 0 where
  whole : IsComplete l es
  calm : is_flushing (past l es) ≡ false

abbrev pub RestsAfter : Type 0
RestsAfter = (s : Settings) (h : History) → Run s h → end_told h ≡ true → is_flushing h ≡ false → turn s h ≡ reply.Idle None

ended_clash : {A : Type 0} (l : PlanLane) (es : List Entry) (q : ℕ) → IsLane l → Over l es → is_pusher l.settings.pushers q ≡ true → has_ended (past l es) q ≡ false → A
ended_clash l es q right o is goes = clash (sym (each_ended l.settings (past l es) q right.settings.pushers_to o.whole.ended is) ∙ goes)

over : (law : RestsAfter) (l : PlanLane) (es : List Entry) → IsLane l → Run l.settings (past l es) → InOrder l es → end_told (past l es) ≡ true → Over l es
over law l [] right run f t = clash (sym t)
over law l (Push q k stamp seq kind v n dropped ∷ es) right run (x, f) t =
    ended_clash l es q right (over law l es right run.1 f t) (delivery_right l q k _ right x.delivery_is).allowed x.goes_on
over law l (Report q k ntp_ns rtp local ∷ es) right run (x, f) t =
    ended_clash l es q right (over law l es right run.1 f t) (delivery_right l q k _ right x.delivery_is).allowed x.goes_on
over law l (Clock by at ∷ es) right run (inl (is, x), f) t = ended_clash l es 8 right (over law l es right run.1 f t) right.control x.goes_on
over law l (Clock by at ∷ es) right run (inr (is, x), f) t =
    let o = over law l es right run.1 f t in
    let e : reply.Idle None ≡ reply.Idle (Some at) = sym (law l.settings (past l es) run.1 t o.calm) ∙ x.wake in
    absurd cc
over law l (FlushStart count ∷ es) right run (x, f) t = ended_clash l es 8 right (over law l es right run.1 f t) right.control x.goes_on
over law l (FlushStop ∷ es) right run (x, f) t = ended_clash l es 8 right (over law l es right run f t) right.control x.goes_on
over law l (Latency ns ∷ es) right run (x, f) t = ended_clash l es 8 right (over law l es right run.1 f t) right.control x.goes_on
over law l (Ends q ∷ es) right run (x, f) t = ended_clash l es q right (over law l es right run.1 f t) x.pusher x.goes_on
over law l (Packet n pts p ∷ es) right run (x, f) t =
    let o = over law l es right run.1 f t in
    let e : reply.Packet n pts p ≡ reply.Idle None = run.0 ∙ law l.settings (past l es) run.1 t o.calm in
    absurd cc
over law l (Lost n count pts duration ∷ es) right run (x, f) t =
    let o = over law l es right run.1 f t in
    let e : reply.Lost n count pts duration ≡ reply.Idle None = run.0 ∙ law l.settings (past l es) run.1 t o.calm in
    absurd cc
over law l (Request n k ∷ es) right run (x, f) t =
    let o = over law l es right run.1 f t in
    let e : reply.Request n k ≡ reply.Idle None = run.0 ∙ law l.settings (past l es) run.1 t o.calm in
    absurd cc
over law l (End ∷ es) right run (x, f) t =
    let is = end_turn l.settings (past l es) (sym run.0) in
    record {
      whole = record { last = refl; once = is.told; ended = is.ended; nothing = λ q p. ended_none l q es f (each_ended l.settings (past l es) q right.settings.pushers_to is.ended p) };
      calm = is.calm;
    }

-- a journal that fits and has an End is complete
pub whole : (law : RestsAfter) (l : PlanLane) (es : List Entry) → IsLane l → Fits l es → end_told (past l es) ≡ true → IsComplete l es
whole law l es right f t = (over law l es right f.run f.in_order t).whole

-- ---- flushes

none_drop : (xs : List ControlEvent) (k : ℕ) → is_some (slice_get xs k) ≡ false → drop k xs ≡ []
none_drop [] zero e = refl
none_drop [] (suc k) e = refl
none_drop (x ∷ xs) zero e = clash e
none_drop (x ∷ xs) (suc k) e = none_drop xs k e

drop_event : (xs : List ControlEvent) (k : ℕ) (x : ControlEvent) → slice_get xs k ≡ Some x → drop k xs ≡ x ∷ drop (suc k) xs
drop_event [] k x e = absurd cc
drop_event (y ∷ xs) zero x e = let same : y ≡ x = cc in rw same refl
drop_event (y ∷ xs) (suc k) x e = drop_event xs k x e

next_event : (xs : List ControlEvent) (k n : ℕ) (b : Bool) (x : ControlEvent) → slice_get xs k ≡ Some x → n ≡ k + 1 → flushes_after b (drop k xs) ≡ flushes_after b (x ∷ drop n xs)
next_event xs k n b x e is = let after : suc k ≡ n = omega (arith, is) in ap (flushes_after b) (drop_event xs k x e ∙ ap (λ (i : ℕ). x ∷ drop i xs) after)

flush_clock : (l : PlanLane) (by t : ℕ) (es : List Entry) (b : Bool) {B : Type 0} → ((by ≡ 8) × (event l (controls es) ≡ Some (control.Clock t))) ⊎ ((by ≡ 9) × B)
    → flushes_after b (drop (controls (Clock by t ∷ es)) l.events) ≡ flushes_after b (drop (controls es) l.events)
flush_clock l by t es b (inl (is, e)) = rw is (sym (next_event l.events (controls es) (controls es + 1) b (control.Clock t) e refl))
flush_clock l by t es b (inr (is, x)) = rw is refl

-- the flush that runs, and the events that are left, come to what all events come to
flush_left : (l : PlanLane) (es : List Entry) → InOrder l es → flushes_after (is_flushing (past l es)) (drop (controls es) l.events) ≡ flushes_after false l.events
flush_left l [] f = refl
flush_left l (Clock by t ∷ es) (inl (is, x), f) = flush_clock l by t es (is_flushing (past l es)) {B = ℕ} (inl (is, x.order)) ∙ flush_left l es f
flush_left l (Clock by t ∷ es) (inr (is, x), f) = flush_clock l by t es (is_flushing (past l es)) {B = ℕ} (inr (is, 0)) ∙ flush_left l es f
flush_left l (FlushStart count ∷ es) (x, f) = sym (next_event l.events (controls es) (controls es + 1) (is_flushing (past l es)) control.FlushStart x.order refl) ∙ flush_left l es f
flush_left l (FlushStop ∷ es) (x, f) = sym (next_event l.events (controls es) (controls es + 1) (is_flushing (past l es)) control.FlushStop x.order refl) ∙ flush_left l es f
flush_left l (Latency ns ∷ es) (x, f) = sym (next_event l.events (controls es) (controls es + 1) (is_flushing (past l es)) (control.Latency ns) x.order refl) ∙ flush_left l es f
flush_left l (e ∷ es) (x, f) = flush_left l es f

-- where control ended, no flush runs
pub no_flush : (l : PlanLane) (es : List Entry) → IsLane l → InOrder l es → has_ended (past l es) 8 ≡ true → is_flushing (past l es) ≡ false
no_flush l es right f e =
    let none : drop (controls es) l.events ≡ [] = none_drop l.events (controls es) (ended_none l 8 es f e) in
    let all = flush_left l es f in
    ap (flushes_after (is_flushing (past l es))) (sym none) ∙ (all ∙ right.flushes)

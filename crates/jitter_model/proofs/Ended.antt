-- After End every turn is idle without a wake, unless a flush runs.
use Rattle.std.proofs.Common.{ℕ, zero, suc, ◌≡◌, ◌+◌, ◌-◌, ◌/◌, ◌%◌, ◌^◌, ◌≤◌, ◌<◌, Bool, true, false, ◌&&◌, ◌||◌, not, refl, sym, ap, subst, ◌∙◌, List, [], ◌∷◌, Option, None, Some, arith}
use Rattle.std.specs.Prelude.{unwrap_or, is_some, nat_lt, ◌==◌, if◌then◌else◌}
use Rattle.std.proofs.Math.Nat.{div-eq_of_lt}
use Rattle.std.proofs.Math.Pow.{pow_mono}
use Rattle.std.proofs.lemmas.Grind.{common_steps}
use Rattle.jitter_model.specs.declared.Settings.{Settings}
use Rattle.jitter_model.specs.declared.Arrival.{Arrival}
use Rattle.jitter_model.specs.declared.Verdict.TheVariants.{Ended}
use Rattle.jitter_model.specs.declared.Turn.{Turn}
use Rattle.jitter_model.specs.declared.Turn.TheVariants.{Packet, Lost, Request, End, Idle, Flushing as Flushes}
use Rattle.jitter_model.specs.declared.Entry.TheVariants.{Push, Clock, FlushStart, FlushStop, Latency, Report, Ends, Turned}
use Rattle.jitter_model.specs.History.{History, latency, is_flushing, has_ended, is_pusher, all_below, pusher_count, all_ended, is_end, end_told}
use Rattle.jitter_model.specs.Accepted.{Taken, top, has, accepted}
use Rattle.jitter_model.specs.Covered.{next, next_after}
use Rattle.jitter_model.specs.Verdicts.{verdict}
use Rattle.jitter_model.specs.Requests.{lesser, Wanted}
use Rattle.jitter_model.specs.Turns.{Sight, low, wanted, asked_from, asked, may_start, may_give, is_lost, is_done, output_wake, request_wake_from, start_time, turn_by, sight, turn}
use Rattle.jitter_model.specs.Runs.{IsValid, Run}
use Rattle.jitter_model.proofs.Chain.{split, by_turn, has-le}
use Rattle.jitter_model.proofs.Numbered.{valid_of}
use Rattle.jitter_model.proofs.Window.{start_some}
use Rattle.jitter_model.proofs.Ending.{end_facts}

-- ---- pushers

-- a set of pushers has none from 9 on
pub pusher_below : (pushers p : ℕ) → pushers < 512 → is_pusher pushers p ≡ true → p < pusher_count
unfolding pusher_count
pusher_below pushers p small e =
    elim (nat_lt p 9) as (λ b. nat_lt p 9 ≡ b → p < 9) [
      | true ↦ λ less. grind (arith, common_steps)
      | false ↦ λ more. let from : 9 ≤ p = grind (arith, common_steps) in
          let power : 2 ^ 9 ≤ 2 ^ p = pow_mono from in
          let below : pushers < 2 ^ p = omega arith in
          let none : pushers / 2 ^ p ≡ zero = div-eq_of_lt below in
          let no : is_pusher pushers p ≡ false = ap (λ n. n % 2 == 1) none in
          cc
    ] refl

and-parts : (a b : Bool) → (a && b) ≡ true → (a ≡ true) × (b ≡ true)
and-parts true b e = (refl, e)
and-parts false b e = cc

pub all_below-at : (passes : ℕ → Bool) (n p : ℕ) → all_below passes n ≡ true → p < n → passes p ≡ true
all_below-at passes zero p e less = absurd (omega arith)
all_below-at passes (suc n) p e less =
    let x : (all_below passes n ≡ true) × (passes n ≡ true) = and-parts (all_below passes n) (passes n) e in
    elim (p == n) as (λ b. (p == n) ≡ b → passes p ≡ true) [
      | true ↦ λ same. let is : p ≡ n = grind (arith, common_steps) in ap passes is ∙ x.1
      | false ↦ λ other. all_below-at passes n p x.0 (grind (arith, common_steps))
    ] refl

both : (a b : Bool) → a ≡ true → b ≡ true → (a && b) ≡ true
both a b x y = rw (x, y) refl

pub all_below-more : (passes others : ℕ → Bool) (n : ℕ) → ((p : ℕ) → passes p ≡ true → others p ≡ true) → all_below passes n ≡ true → all_below others n ≡ true
all_below-more passes others zero more e = refl
all_below-more passes others (suc n) more e =
    let x : (all_below passes n ≡ true) × (passes n ≡ true) = and-parts (all_below passes n) (passes n) e in
    both (all_below others n) (others n) (all_below-more passes others n more x.0) (more n x.1)

or_of : (a b : Bool) → (not a || b) ≡ true → a ≡ true → b ≡ true
or_of true b e x = e
or_of false b e x = cc

-- where all ended, each pusher of the settings did
pub ended_one : (s : Settings) (h : History) (p : ℕ) → IsValid s → all_ended s h ≡ true → is_pusher s.pushers p ≡ true → has_ended h p ≡ true
ended_one s h p valid e i =
    or_of (is_pusher s.pushers p) (has_ended h p)
    (all_below-at (λ p. not (is_pusher s.pushers p) || has_ended h p) pusher_count p e (pusher_below s.pushers p valid.pushers_to i)) i

more_ended : (a b c : Bool) → (not a || b) ≡ true → (not a || (c || b)) ≡ true
more_ended true true true e = refl
more_ended true true false e = refl
more_ended true false c e = cc
more_ended false b c e = refl

pub ends_more : (s : Settings) (h : History) (q : ℕ) → all_ended s h ≡ true → all_ended s (Ends q ∷ h) ≡ true
ends_more s h q e =
    all_below-more (λ p. not (is_pusher s.pushers p) || has_ended h p) (λ p. not (is_pusher s.pushers p) || (p == q || has_ended h p)) pusher_count
    (λ p x. more_ended (is_pusher s.pushers p) (has_ended h p) (p == q) x) e

-- ---- nothing is left

abbrev pub IsFinished : List Taken → Option ℕ → Type 0
IsFinished ps None = is_some (top ps) ≡ false
IsFinished ps (Some k) = unwrap_or (top ps) 0 < k

pub record AtEnd (s : Settings) (h : History) : Type 0 where
  pub ended : all_ended s h ≡ true
  pub finished : IsFinished (accepted h) (next h)

-- no number from the greatest on has requests any more
none_wanted : (s : Settings) (v : Sight) (n : ℕ) → v.ended ≡ true → v.top ≤ n → wanted s v n ≡ None
none_wanted s v n e le =
    split (λ (o : Option Wanted). o ≡ None) (not s.rtx) _ _ (λ _. refl)
    (λ _. split (λ (o : Option Wanted). o ≡ None) (nat_lt n v.top && not (v.among n)) _ _
    (λ f. let less : nat_lt n v.top ≡ true = (and-parts (nat_lt n v.top) (not (v.among n)) f).0 in absurd (let x : n < v.top = grind (arith, common_steps) in omega arith))
    (λ _. split (λ (o : Option Wanted). o ≡ None) (n == v.top + 1 && not v.ended) _ _
    (λ f. let still : not v.ended ≡ true = (and-parts (n == v.top + 1) (not v.ended) f).1 in let no : not true ≡ true = ap not (sym e) ∙ still in cc)
    (λ _. refl)))

none_asked : (s : Settings) (v : Sight) (n count : ℕ) → v.ended ≡ true → v.top ≤ n → asked_from s v n count ≡ None
none_asked s v n zero e le = refl
none_asked s v n (suc count) e le = rw (none_wanted s v n e le) (none_asked s v (n + 1) count e (omega arith))

none_wakes : (s : Settings) (v : Sight) (n count : ℕ) → v.ended ≡ true → v.top ≤ n → request_wake_from s v n count ≡ None
none_wakes s v n zero e le = refl
none_wakes s v n (suc count) e le = rw (none_wanted s v n e le) (none_wakes s v (n + 1) count e (omega arith))

-- ---- turns at the end

-- a sight with nothing left
pub record AllGone (v : Sight) (o : Option ℕ) : Type 0 where
  pub ended : v.ended ≡ true
  pub told : v.told ≡ true
  pub low_is : v.top ≤ low v o
  pub gives : may_give v o ≡ false
  pub loses : is_lost v o ≡ false
  pub wake : output_wake v o ≡ None

pub record IdleOnly (v : Sight) (r : Turn) : Type 0 where
  pub fact : v.flushing ≡ false → r ≡ Idle None

none_some : {A : Type 0} (o : Option A) → o ≡ None → is_some o ≡ true → ⊥
none_some o e f = let no : is_some o ≡ false = ap is_some e in cc

no_two : (b : Bool) → b ≡ true → b ≡ false → ⊥
no_two b e f = cc

turn_gone : (s : Settings) (v : Sight) (o : Option ℕ) → AllGone v o → IdleOnly v (turn_by s v o)
turn_gone s v o x =
    by_turn (IdleOnly v) s v o
    (λ f. record { fact = λ e. absurd (no_two v.flushing f e) })
    (λ _ a. absurd (none_some (asked s v o) (none_asked s v (low v o) (v.top + 2 - low v o) x.ended x.low_is) a))
    (λ _ _ g. absurd (no_two (may_give v o) g x.gives))
    (λ _ _ _ l. absurd (no_two (is_lost v o) l x.loses))
    (λ _ _ _ _ e. let y : not v.told ≡ true = (and-parts (v.ended && is_done v o) (not v.told) (assoc v.ended (is_done v o) (not v.told) e)).1 in let no : not true ≡ true = ap not (sym x.told) ∙ y in cc)
    (λ _ _ _ _ _. record { fact = λ _. ap Idle (ap (λ (w : Option ℕ). lesser w (request_wake_from s v (low v o) (v.top + 2 - low v o))) x.wake ∙ none_wakes s v (low v o) (v.top + 2 - low v o) x.ended x.low_is) })
  where
    assoc : (a b c : Bool) → (a && b && c) ≡ true → ((a && b) && c) ≡ true
    assoc a b c e = e

none_of : (o : Option ℕ) → is_some o ≡ false → o ≡ None
none_of None e = refl
none_of (Some x) e = cc

not_start : (v : Sight) (o : Option ℕ) → o ≡ None → may_start v o ≡ false
not_start v o e = rw e refl

top_zero : (o : Option ℕ) → is_some o ≡ false → unwrap_or o 0 ≡ 0
top_zero None e = refl
top_zero (Some x) e = cc

not_among : (ps : List Taken) (k : ℕ) → unwrap_or (top ps) 0 < k → has ps k ≡ false
not_among ps k less =
    elim (has ps k) as (λ b. has ps k ≡ b → has ps k ≡ false) [
      | true ↦ λ e. absurd (let le : k ≤ unwrap_or (top ps) 0 = has-le ps k e in omega arith)
      | false ↦ λ e. e
    ] refl

gone : (s : Settings) (h : History) (o : Option ℕ) → all_ended s h ≡ true → end_told h ≡ true → IsFinished (accepted h) o → AllGone (sight s h) o
gone s h None e t f =
    let start : start_time s (latency s h) (accepted h) ≡ None = none_of (start_time s (latency s h) (accepted h)) (start_some s (latency s h) (accepted h) ∙ f) in
    record {
      ended = e;
      told = t;
      low_is = omega (arith, top_zero (top (accepted h)) f);
      gives = not_start (sight s h) (start_time s (latency s h) (accepted h)) start;
      loses = refl;
      wake = start;
    }
gone s h (Some k) e t f =
    let past : nat_lt k (unwrap_or (top (accepted h)) 0) ≡ false = grind (arith, common_steps) in
    record {
      ended = e;
      told = t;
      low_is = omega arith;
      gives = not_among (accepted h) k f;
      loses = rw past refl;
      wake = rw past refl;
    }

pub idle_at_end : (s : Settings) (h : History) → AtEnd s h → end_told h ≡ true → is_flushing h ≡ false → turn s h ≡ Idle None
idle_at_end s h x t f = (turn_gone s (sight s h) (next h) (gone s h (next h) x.ended t x.finished)).fact f

-- ---- the end stays

flushes : (s : Settings) (v : Sight) (o : Option ℕ) → v.flushing ≡ true → turn_by s v o ≡ Flushes
flushes s v o e = rw e refl

push_ended : (s : Settings) (h : History) (a : Arrival) → has_ended h a.pusher ≡ true → verdict s h a ≡ Ended
push_ended s h a e = rw e refl

finished_of : (s : Settings) (h : History) (o : Option ℕ) → is_done (sight s h) o ≡ true → IsFinished (accepted h) o
finished_of s h None e = sym (start_some s (latency s h) (accepted h)) ∙ not_of (is_some (start_time s (latency s h) (accepted h))) e
  where
    not_of : (b : Bool) → not b ≡ true → b ≡ false
    not_of true e = cc
    not_of false e = refl
finished_of s h (Some k) e = grind (arith, common_steps)

flush_finished : (b : Bool) (ps : List Taken) (o : Option ℕ) → IsFinished ps o → IsFinished (if b then [] else ps) (if b then None else o)
flush_finished true ps o f = refl
flush_finished false ps o f = f

end_of : (r : Turn) → (is_end r || false) ≡ true → r ≡ End
end_of End e = refl
end_of (Packet n pts p) e = cc
end_of (Lost n count pts d) e = cc
end_of (Request n k) e = cc
end_of (Idle w) e = cc
end_of Flushes e = cc

turned_end : (s : Settings) (h : History) (r : Turn) → r ≡ turn s h → (end_told h ≡ true → AtEnd s h) → (is_end r || end_told h) ≡ true → AtEnd s (Turned r ∷ h)
turned_end s h r e x t =
    elim (end_told h) as (λ b. end_told h ≡ b → (is_end r || b) ≡ true → AtEnd s (Turned r ∷ h)) [
      | true ↦ λ was _. let y : AtEnd s h = x was in
          record { ended = y.ended; finished = subst (IsFinished (accepted h)) (sym (same_next y was (is_flushing h) refl)) y.finished }
      | false ↦ λ was now_told. let is : r ≡ End = end_of r now_told in
          let y : (all_ended s h ≡ true) × (is_done (sight s h) (next h) ≡ true) × (not (end_told h) ≡ true) = end_facts s h (sym e ∙ is) in
          record { ended = y.0; finished = subst (λ r. IsFinished (accepted h) (next_after (next h) r)) (sym is) (finished_of s h (next h) y.1) }
    ] refl t
  where
    same_next : AtEnd s h → end_told h ≡ true → (b : Bool) → is_flushing h ≡ b → next_after (next h) r ≡ next h
    same_next y was true f = ap (next_after (next h)) (e ∙ flushes s (sight s h) (next h) f)
    same_next y was false f = ap (next_after (next h)) (e ∙ idle_at_end s h y was f)

pub at_end : (s : Settings) (h : History) → Run s h → end_told h ≡ true → AtEnd s h
at_end s [] r t = cc
at_end s (Push a v n d ∷ h) r t =
    let x : AtEnd s h = at_end s h r.1 t in
    let is : v ≡ Ended = r.0.verdict_is ∙ push_ended s h a (ended_one s h a.pusher (valid_of s h r.1) x.ended r.0.pusher) in
    subst (λ v. AtEnd s (Push a v n d ∷ h)) (sym is) (record { ended = x.ended; finished = x.finished })
at_end s (Clock time ∷ h) r t = let x : AtEnd s h = at_end s h r.1 t in record { ended = x.ended; finished = x.finished }
at_end s (FlushStart d ∷ h) r t = let x : AtEnd s h = at_end s h r.1 t in record { ended = x.ended; finished = x.finished }
at_end s (FlushStop ∷ h) r t = let x : AtEnd s h = at_end s h r t in record { ended = x.ended; finished = flush_finished (is_flushing h) (accepted h) (next h) x.finished }
at_end s (Latency ns ∷ h) r t = let x : AtEnd s h = at_end s h r.1 t in record { ended = x.ended; finished = x.finished }
at_end s (Report ntp rtp reply ∷ h) r t = let x : AtEnd s h = at_end s h r.1 t in record { ended = x.ended; finished = x.finished }
at_end s (Ends p ∷ h) r t = let x : AtEnd s h = at_end s h r.1 t in record { ended = ends_more s h p x.ended; finished = x.finished }
at_end s (Turned u ∷ h) r t = turned_end s h u r.0 (at_end s h r.1) t

pub idle_after_end : (s : Settings) (h : History) → Run s h → end_told h ≡ true → is_flushing h ≡ false → turn s h ≡ Idle None
idle_after_end s h r t f = idle_at_end s h (at_end s h r t) t f

-- The timers from a number on are set anew, from the greatest number down.
use Rattle.std.proofs.Common.{ℕ, zero, suc, ◌≡◌, ◌≢◌, ◌+◌, ◌-◌, ◌*◌, ◌≤◌, ◌<◌, max, Bool, true, false}
use Rattle.std.proofs.Common.{refl, sym, ap, subst, ◌∙◌, Option, None, Some, arith}
use Rattle.std.specs.Prelude.{nat_lt, nat_le, ◌==◌, IsSome, is_some, unwrap_or, if◌then◌else◌}
use Rattle.std.proofs.lemmas.Grind.{common_steps}
use Rattle.std.specs.FinMap as map
use Rattle.std.specs.Ordering.{nat_cmp}
use Rattle.jitter_timers.specs.Timers.{Timers, Times, HasRoom}
use Rattle.jitter_model.specs.declared.Settings.{Settings}
use Rattle.jitter_model.specs.Turns.{Sight, low}
use Rattle.jitter_core.proofs.Cases.{split}
use Rattle.jitter_core.specs.declared.state.State.{State}
use Rattle.jitter_core.specs.Steps.{IsBounded}
use Rattle.jitter_core.specs.Scheduling.{pending, with_timer, IsTimer, AreTimers, AreTimersBelow}
use Rattle.jitter_core.specs.Scheduling.{AreInRange, missing_from, state_gaps}
use Rattle.jitter_core.specs.Turning.{state_sight}
use Rattle.jitter_core.proofs.Carrying.{get_with, set_timer}
use Rattle.jitter_core.proofs.Following.{within_with, none_below}
use Rattle.jitter_core.proofs.Leaving.{near}
use Rattle.jitter_core.proofs.Timers.{no_keys, none_of, get_other, len_one, low_top, has_room}
use Rattle.jitter_core.proofs.Timers.{missing_most, pending_above, pending_held}

-- ---- how many there are

len_range : (m : Times) (n count : ℕ) → ((q : ℕ) → IsSome (map.get m q) → n ≤ q)
    → ((q : ℕ) → IsSome (map.get m q) → q < n + count) → map.len m ≤ count
len_range m n zero from to =
    let none : map.len m ≡ 0 = no_keys m (λ q. none_of (map.get m q)
    (λ e. omega (arith, from q e, to q e))) in omega arith
len_range m n (suc count) from to =
    let rest : map.len (map.remove m n) ≤ count = len_range (map.remove m n) (n + 1) count
    (λ q e. let x : (q ≢ n) × IsSome (map.get m q) = get_other m n q e in
    omega (arith, x.0, from q x.1))
    (λ q e. let x : (q ≢ n) × IsSome (map.get m q) = get_other m n q e in omega (arith, to q x.1)) in
    split (λ (k : ℕ). map.len m ≤ k + map.len (map.remove m n) → map.len m ≤ suc count)
    (is_some (map.get m n)) 1 0 (λ _ le. omega arith) (λ _ le. omega arith) (len_one m n)

pub few_within : (s : State) (m : Times) → IsBounded s → AreInRange s m → map.len m ≤ 8194
few_within s m b w =
    let most = len_range m (low (state_sight s) s.span.next)
    (unwrap_or s.span.top 0 + 2 - low (state_sight s) s.span.next) (λ q e. (w q e).0)
    (λ q e. omega (arith, (w q e).1, (w q e).0)) in
    omega (arith, most, near s b)

-- ---- how many are missing

missing_tail : (among : ℕ → Bool) (n d count : ℕ)
    → missing_from among (n + d) count ≤ missing_from among n (d + count)
missing_tail among n zero count =
    let at : n ≡ n + 0 = omega arith in
    let same : count ≡ 0 + count = omega arith in
    subst (λ (k : ℕ). missing_from among k count ≤ missing_from among n (0 + count)) at
    (subst (λ (k : ℕ). missing_from among n count ≤ missing_from among n k) same (omega arith))
missing_tail among n (suc d) count =
    let at : n + 1 + d ≡ n + suc d = omega arith in
    let more : suc (d + count) ≡ suc d + count = omega arith in
    let rest : missing_from among (n + suc d) count ≤ missing_from among (n + 1) (d + count) =
    subst (λ (k : ℕ). missing_from among k count ≤ missing_from among (n + 1) (d + count)) at
    (missing_tail among (n + 1) d count) in
    subst (λ (k : ℕ). missing_from among (n + suc d) count ≤ missing_from among n k) more
    (split (λ (k : ℕ). missing_from among (n + suc d) count
    ≤ k + missing_from among (n + 1) (d + count))
    (among n) 0 1 (λ _. omega (arith, rest)) (λ _. omega (arith, rest)))

missing_end : (among : ℕ → Bool) (n count : ℕ)
    → missing_from among n (count + 2) ≤ missing_from among n count + 2
missing_end among n zero = missing_most among n 2
missing_end among n (suc count) =
    let more : suc count + 2 ≡ suc (count + 2) = omega arith in
    rw more (omega (arith, missing_end among (n + 1) count))

missing_gaps : (s : State) (n : ℕ) → IsBounded s → low (state_sight s) s.span.next ≤ n
    → n ≤ unwrap_or s.span.top 0 + 2
    → missing_from (state_sight s).among n (unwrap_or s.span.top 0 + 2 - n) ≤ state_gaps s + 2
missing_gaps s n b from to =
    let at : (low (state_sight s) s.span.next) + (n - (low (state_sight s) s.span.next)) ≡ n = omega arith in
    let tail : missing_from (state_sight s).among n ((unwrap_or s.span.top 0) + 2 - n)
    ≤ missing_from (state_sight s).among (low (state_sight s) s.span.next) (n - (low (state_sight s) s.span.next) + ((unwrap_or s.span.top 0) + 2 - n)) =
    subst (λ (k : ℕ). missing_from (state_sight s).among k ((unwrap_or s.span.top 0) + 2 - n)
    ≤ missing_from (state_sight s).among (low (state_sight s) s.span.next) (n - (low (state_sight s) s.span.next) + ((unwrap_or s.span.top 0) + 2 - n))) at
    (missing_tail (state_sight s).among (low (state_sight s) s.span.next) (n - (low (state_sight s) s.span.next)) ((unwrap_or s.span.top 0) + 2 - n)) in
    elim (nat_le (low (state_sight s) s.span.next) (unwrap_or s.span.top 0)) as (λ c. nat_le (low (state_sight s) s.span.next) (unwrap_or s.span.top 0) ≡ c
    → missing_from (state_sight s).among n ((unwrap_or s.span.top 0) + 2 - n) ≤ state_gaps s + 2) [
      | true ↦ λ e.
          let le : (low (state_sight s) s.span.next) ≤ (unwrap_or s.span.top 0) = grind (arith, common_steps) in
          let count : n - (low (state_sight s) s.span.next) + ((unwrap_or s.span.top 0) + 2 - n) ≡ ((unwrap_or s.span.top 0) - (low (state_sight s) s.span.next)) + 2 = omega arith in
          let all : missing_from (state_sight s).among (low (state_sight s) s.span.next) (n - (low (state_sight s) s.span.next) + ((unwrap_or s.span.top 0) + 2 - n)) ≤ state_gaps s + 2 =
          rw count (missing_end (state_sight s).among (low (state_sight s) s.span.next) ((unwrap_or s.span.top 0) - (low (state_sight s) s.span.next))) in
          omega (arith, tail, all)
      | false ↦ λ e.
          let past : (unwrap_or s.span.top 0) < (low (state_sight s) s.span.next) = grind (arith, common_steps) in
          omega (arith, low_top s b, missing_most (state_sight s).among n ((unwrap_or s.span.top 0) + 2 - n))
    ] refl

abbrev few_by : Bool → ℕ
few_by c = if c then 0 else 1

one_by : (c : Bool) → c ≡ false → few_by c ≡ 1
one_by true e = absurd cc
one_by false e = refl

none_by : (c : Bool) → c ≡ true → few_by c ≡ 0
none_by true e = refl
none_by false e = absurd cc

missing_down : (among : ℕ → Bool) (n end : ℕ) → 0 < n → n ≤ end
    → missing_from among (n - 1) (end - (n - 1))
    ≡ few_by (among (n - 1)) + missing_from among n (end - n)
missing_down among n end some le =
    let count : end - (n - 1) ≡ suc (end - n) = omega arith in
    let next : n - 1 + 1 ≡ n = omega arith in
    rw count (ap (λ (m : ℕ). few_by (among (n - 1)) + missing_from among m (end - n)) next)

-- ---- while they are set

no_timer : (s : Settings) (v : Sight) (from q : ℕ) (o : Option ℕ) → o ≡ None → pending s v q ≡ None
    → IsTimer s v from q o
no_timer s v from q o none is = record { some = λ t e. absurd cc; none = λ _ _ _. is }

-- where there are no timers, all may be set
pub none_below_none : (s : State) (m : Times) → s.settings.rtx ≡ true → m ≡ map.empty
    → AreTimersBelow s 0 m
none_below_none s m on is =
    record {
      requests = on;
      right = λ n lt. absurd (omega arith);
      above = λ n e. absurd (empty n e);
      below = λ n e. absurd (empty n e);
      missing = λ n e. absurd (empty n e);
    }
  where
    empty : (n : ℕ) → IsSome (map.get m n) → ⊥
    empty n e =
        let none : map.get m n ≡ None = ap (λ (x : Times). map.get x n) is ∙ map.get-empty nat_cmp n in
        cc

-- those from n on are set, and those below are as they were
pub record Resetting (s : State) (from n : ℕ) (q : Timers) (before after : ℕ) : Type 0 where
  pub low_is : low (state_sight s) s.span.next ≤ n
  pub to : n ≤ unwrap_or s.span.top 0 + 2
  pub room : q.room ≡ 16384
  pub within : AreInRange s q.times
  pub below : (k : ℕ) → k < from
      → IsTimer s.settings (state_sight s) (low (state_sight s) s.span.next) k (map.get q.times k)
  pub set : (k : ℕ) → n ≤ k
      → IsTimer s.settings (state_sight s) (low (state_sight s) s.span.next) k (map.get q.times k)
  pub missing : (k : ℕ) → k < n → IsSome (map.get q.times k) → is_some (map.get s.held k) ≡ false
  pub quick : after
      ≤ before + 14 * missing_from (state_sight s).among n (unwrap_or s.span.top 0 + 2 - n)

pub resetting_first : (s : State) (from n before : ℕ) (q : Timers) → IsBounded s
    → n ≡ unwrap_or s.span.top 0 + 2 → q.room ≡ 16384 → AreTimersBelow s from q.times
    → Resetting s from n q before before
resetting_first s from n before q b is room h =
    record {
      low_is = omega (arith, low_top s b);
      to = omega arith;
      room = room;
      within = λ k e. (h.above k e, omega (arith, h.below k e));
      below = h.right;
      set = λ k le. no_timer s.settings (state_sight s) (low (state_sight s) s.span.next) k
          (map.get q.times k)
          (none_of (map.get q.times k) (λ e. omega (arith, h.below k e, le, is)))
          (pending_above s.settings (state_sight s) k (omega (arith, le, is)));
      missing = λ k _ e. h.missing k e;
      quick = omega arith;
    }

pub resetting_room : (s : State) (from n before after : ℕ) (q : Timers) → IsBounded s
    → low (state_sight s) s.span.next ≤ n - 1 → 0 < n → Resetting s from n q before after
    → HasRoom q (n - 1)
resetting_room s from n before after q b le some x =
    has_room s q (n - 1) b x.room x.within le (omega (arith, x.to))

pub resetting_set : (s : State) (from n before between after : ℕ) (q r : Timers) → IsBounded s
    → low (state_sight s) s.span.next ≤ n - 1 → 0 < n → is_some (map.get s.held (n - 1)) ≡ false
    → Resetting s from n q before between
    → r ≡ record {
      room = q.room;
      times = with_timer q.times (n - 1) (pending s.settings (state_sight s) (n - 1));
      heap = r.heap;
    }
    → after ≤ between + 14 → Resetting s from (n - 1) r before after
resetting_set s from n before between after q r b le some free x e step =
    let times : r.times ≡ with_timer q.times (n - 1) (pending s.settings (state_sight s) (n - 1)) =
    ap (λ (z : Timers). z.times) e in
    let all = missing_down (state_sight s).among n (unwrap_or s.span.top 0 + 2) some x.to in
    let one : few_by ((state_sight s).among (n - 1)) ≡ 1 = one_by ((state_sight s).among (n - 1)) free in
    record {
      low_is = le;
      to = omega (arith, x.to);
      room = ap (λ (z : Timers). z.room) e ∙ x.room;
      within = λ k is. within_with s q.times (n - 1) k (pending s.settings (state_sight s) (n - 1))
          x.within le (omega (arith, x.to)) (subst (λ (m : Times). IsSome (map.get m k)) times is);
      below = λ k lt. subst (λ (m : Times). IsTimer s.settings (state_sight s)
          (low (state_sight s) s.span.next) k (map.get m k)) (sym times)
          (set_timer s.settings (state_sight s) (low (state_sight s) s.span.next) (n - 1) k q.times le
          (λ other. x.below k lt));
      set = λ k to. subst (λ (m : Times). IsTimer s.settings (state_sight s)
          (low (state_sight s) s.span.next) k (map.get m k)) (sym times)
          (set_timer s.settings (state_sight s) (low (state_sight s) s.span.next) (n - 1) k q.times le
          (λ other. x.set k (omega (arith, other, to, some))));
      missing = λ k lt is. x.missing k (omega (arith, lt))
          (other_some q.times (n - 1) k (pending s.settings (state_sight s) (n - 1)) (omega (arith, lt))
          (subst (λ (m : Times). IsSome (map.get m k)) times is));
      quick = omega (arith, all, one, step, x.quick);
    }
  where
    other_some : (m : Times) (n k : ℕ) (p : Option ℕ) → k ≢ n
        → IsSome (map.get (with_timer m n p) k) → IsSome (map.get m k)
    other_some m n k p other is =
        let apart : (k == n) ≡ false = grind (arith, common_steps) in
        subst (λ (o : Option ℕ). IsSome o)
        (get_with m n k p ∙ ap (λ (c : Bool). if c then p else map.get m k) apart) is

pub resetting_skip : (s : State) (from n before after : ℕ) (q : Timers) → IsBounded s
    → low (state_sight s) s.span.next ≤ n - 1 → 0 < n → is_some (map.get s.held (n - 1)) ≡ true
    → Resetting s from n q before after → Resetting s from (n - 1) q before after
resetting_skip s from n before after q b le some there x =
    let all = missing_down (state_sight s).among n (unwrap_or s.span.top 0 + 2) some x.to in
    let one : few_by ((state_sight s).among (n - 1)) ≡ 0 = none_by ((state_sight s).among (n - 1)) there in
    record {
      low_is = le;
      to = omega (arith, x.to);
      room = x.room;
      within = x.within;
      below = x.below;
      set = λ k to.
          elim (k == n - 1) as (λ c. (k == n - 1) ≡ c → IsTimer s.settings (state_sight s)
          (low (state_sight s) s.span.next) k (map.get q.times k)) [
            | true ↦ λ e. let same : n - 1 ≡ k = grind (arith, common_steps) in
                subst (λ (j : ℕ). IsTimer s.settings (state_sight s)
                (low (state_sight s) s.span.next) j (map.get q.times j)) same
                (no_timer s.settings (state_sight s) (low (state_sight s) s.span.next) (n - 1)
                (map.get q.times (n - 1))
                (none_of (map.get q.times (n - 1)) (λ is.
                let free = x.missing (n - 1) (omega (arith, some)) is in cc))
                (pending_held s.settings (state_sight s) (n - 1) (b.held_to (n - 1) there).1 there))
            | false ↦ λ e. let other : k ≢ n - 1 = grind (arith, common_steps) in
                x.set k (omega (arith, other, to, some))
          ] refl;
      missing = λ k lt is. x.missing k (omega (arith, lt)) is;
      quick = omega (arith, all, one, x.quick);
    }

pub resetting_last : (s : State) (from n before after start : ℕ) (q : Timers) → IsBounded s
    → start ≡ max (low (state_sight s) s.span.next) from → n ≤ start
    → Resetting s from n q before after
    → AreTimers s q.times × (after ≤ before + 14 * (state_gaps s + 2))
resetting_last s from n before after start q b is le x = (
  λ k. elim (nat_lt k from) as (λ c. nat_lt k from ≡ c → IsTimer s.settings (state_sight s)
      (low (state_sight s) s.span.next) k (map.get q.times k)) [
        | true ↦ λ e. x.below k (grind (arith, common_steps))
        | false ↦ λ e. elim (nat_lt k (low (state_sight s) s.span.next)) as (λ c.
            nat_lt k (low (state_sight s) s.span.next) ≡ c → IsTimer s.settings (state_sight s)
            (low (state_sight s) s.span.next) k (map.get q.times k)) [
              | true ↦ λ f. none_below s q.times k (map.get q.times k) refl x.within
                  (grind (arith, common_steps))
              | false ↦ λ f.
                  let past : from ≤ k = grind (arith, common_steps) in
                  let reach : low (state_sight s) s.span.next ≤ k = grind (arith, common_steps) in
                  x.set k (omega arith)
            ] refl
      ] refl,
  omega (arith, x.quick, missing_gaps s n b x.low_is x.to),
)

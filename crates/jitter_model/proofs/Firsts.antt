-- The first packets above a number, and when the first request for it is due, as packets are accepted.
use Rattle.std.proofs.Common.{ℕ, ◌≡◌, ◌+◌, ◌≤◌, ◌<◌, Bool, true, false, refl, sym, ap, ◌∙◌, List, [], ◌∷◌, Option, None, Some, arith}
use Rattle.std.specs.Prelude.{unwrap_or, is_some, nat_lt, nat_le, ◌==◌, if◌then◌else◌}
use Rattle.std.proofs.lemmas.Grind.{common_steps}
use Rattle.jitter_model.specs.declared.Settings.{Settings}
use Rattle.jitter_model.specs.Accepted.{Taken, top}
use Rattle.jitter_model.specs.Times.{is_above}
use Rattle.jitter_model.specs.Requests.{lesser, or_else, later, first_from, first_due}

-- none is that great
pub first_from-none : (ps : List Taken) (m : ℕ) → unwrap_or (top ps) 0 < m → first_from ps m ≡ None
first_from-none [] m h = refl
first_from-none (p ∷ ps) m h =
    let rest : first_from ps m ≡ None = first_from-none ps m (omega arith) in
    let less : nat_le m p.number ≡ false = (let lt : p.number < m = omega arith in grind (arith, common_steps)) in
    rw (rest, less) refl

or_some : (o : Option ℕ) (p : Option ℕ) → is_some o ≡ true → is_some (or_else o p) ≡ true
or_some None p e = cc
or_some (Some x) p e = refl

or_last : (o : Option ℕ) (p : Option ℕ) → is_some p ≡ true → is_some (or_else o p) ≡ true
or_last None p e = e
or_last (Some x) p e = refl

-- one is that great
pub first_from-some : (ps : List Taken) (m : ℕ) → is_some (top ps) ≡ true → m ≤ unwrap_or (top ps) 0 → is_some (first_from ps m) ≡ true
first_from-some [] m e h = cc
first_from-some (p ∷ []) m e h = let le : nat_le m p.number ≡ true = (let x : m ≤ p.number = omega arith in grind (arith, common_steps)) in rw le refl
first_from-some (p ∷ q ∷ ps) m e h =
    elim (nat_le m p.number) as (λ b. nat_le m p.number ≡ b → is_some (or_else (first_from (q ∷ ps) m) (if b then Some p.arrival.stamp else None)) ≡ true) [
      | true ↦ λ _. or_last (first_from (q ∷ ps) m) (Some p.arrival.stamp) refl
      | false ↦ λ f. let less : p.number < m = grind (arith, common_steps) in
          or_some (first_from (q ∷ ps) m) None (first_from-some (q ∷ ps) m refl (omega arith))
    ] refl

or_first : (o : Option ℕ) (p : Option ℕ) → is_some o ≡ true → or_else o p ≡ o
or_first None p e = cc
or_first (Some x) p e = refl

or_none : (o : Option ℕ) → or_else o None ≡ o
or_none None = refl
or_none (Some x) = refl

-- a packet that isn't above all others changes nothing
pub first_from-same : (p : Taken) (ps : List Taken) (m : ℕ) → is_some (top ps) ≡ true → p.number ≤ unwrap_or (top ps) 0 → first_from (p ∷ ps) m ≡ first_from ps m
first_from-same p ps m e le =
    elim (nat_le m p.number) as (λ b. nat_le m p.number ≡ b → or_else (first_from ps m) (if b then Some p.arrival.stamp else None) ≡ first_from ps m) [
      | true ↦ λ t. let small : m ≤ p.number = grind (arith, common_steps) in or_first (first_from ps m) (Some p.arrival.stamp) (first_from-some ps m e (omega arith))
      | false ↦ λ f. or_none (first_from ps m)
    ] refl

pub first_due-same : (s : Settings) (p : Taken) (ps : List Taken) (n : ℕ) → is_some (top ps) ≡ true → p.number ≤ unwrap_or (top ps) 0 → first_due s (p ∷ ps) n ≡ first_due s ps n
first_due-same s p ps n e le =
    ap (λ (o : Option ℕ). lesser (later s.rtx_delay o) (if s.reorder == 0 then None else first_from (p ∷ ps) (n + s.reorder))) (first_from-same p ps (n + 1) e le)
    ∙ ap (λ (o : Option ℕ). lesser (later s.rtx_delay (first_from ps (n + 1))) (if s.reorder == 0 then None else o)) (first_from-same p ps (n + s.reorder) e le)

-- the stamp of a packet, for a number that it is so far above that it is no reordering
abbrev pub reordered_by : Settings → Taken → ℕ → Option ℕ
reordered_by s p n = if s.reorder == 0 then None else if nat_le (n + s.reorder) p.number then Some p.arrival.stamp else None

or_given : (o p : Option ℕ) → o ≡ None → or_else o p ≡ p
or_given o p e = rw e refl

over_new : (p : Taken) (ps : List Taken) (n r : ℕ) → unwrap_or (top ps) 0 ≤ n → (if r == 0 then None else first_from (p ∷ ps) (n + r)) ≡ (if r == 0 then None else if nat_le (n + r) p.number then Some p.arrival.stamp else None)
over_new p ps n r above =
    elim (r == 0) as (λ b. (r == 0) ≡ b → (if b then None else first_from (p ∷ ps) (n + r)) ≡ (if b then None else if nat_le (n + r) p.number then Some p.arrival.stamp else None)) [
      | true ↦ λ _. refl
      | false ↦ λ f. let some : 0 < r = grind (arith, common_steps) in
          or_given (first_from ps (n + r)) (if nat_le (n + r) p.number then Some p.arrival.stamp else None) (first_from-none ps (n + r) (omega arith))
    ] refl

-- the first packet above a number that none was above brings its first request
pub first_due-new : (s : Settings) (p : Taken) (ps : List Taken) (n : ℕ) → unwrap_or (top ps) 0 ≤ n → n < p.number → first_due s (p ∷ ps) n ≡ lesser (Some (p.arrival.stamp + s.rtx_delay)) (reordered_by s p n)
first_due-new s p ps n above below =
    let le : nat_le (n + 1) p.number ≡ true = (let x : n + 1 ≤ p.number = omega arith in grind (arith, common_steps)) in
    let first : first_from (p ∷ ps) (n + 1) ≡ Some p.arrival.stamp = rw (first_from-none ps (n + 1) (omega arith), le) refl in
    ap (λ (o : Option ℕ). lesser (later s.rtx_delay o) (if s.reorder == 0 then None else first_from (p ∷ ps) (n + s.reorder))) first
    ∙ ap (λ (o : Option ℕ). lesser (Some (p.arrival.stamp + s.rtx_delay)) o) (over_new p ps n s.reorder above)

-- a later packet, above all others, can only bring it forward: where it is the first that is so far above the number that it is no reordering
abbrev pub brought_by : Settings → Taken → List Taken → ℕ → Option ℕ
brought_by s p ps n = if nat_lt (unwrap_or (top ps) 0) (n + s.reorder) then reordered_by s p n else None

lesser_none : (o : Option ℕ) → lesser o None ≡ o
lesser_none None = refl
lesser_none (Some x) = refl

lesser_assoc : (x y z : Option ℕ) → lesser (lesser x y) z ≡ lesser x (lesser y z)
lesser_assoc None y z = refl
lesser_assoc (Some x) None z = refl
lesser_assoc (Some x) (Some y) None = refl
lesser_assoc (Some x) (Some y) (Some z) = ap Some (omega arith)

over_old : (p : Taken) (ps : List Taken) (n r : ℕ) → is_some (top ps) ≡ true → (if r == 0 then None else first_from (p ∷ ps) (n + r)) ≡ lesser (if r == 0 then None else first_from ps (n + r)) (if nat_lt (unwrap_or (top ps) 0) (n + r) then (if r == 0 then None else if nat_le (n + r) p.number then Some p.arrival.stamp else None) else None)
over_old p ps n r e =
    elim (r == 0) as (λ b. (if b then None else first_from (p ∷ ps) (n + r)) ≡ lesser (if b then None else first_from ps (n + r)) (if nat_lt (unwrap_or (top ps) 0) (n + r) then (if b then None else if nat_le (n + r) p.number then Some p.arrival.stamp else None) else None)) [
      | true ↦ none_either (nat_lt (unwrap_or (top ps) 0) (n + r))
      | false ↦ elim (nat_lt (unwrap_or (top ps) 0) (n + r)) as (λ c. nat_lt (unwrap_or (top ps) 0) (n + r) ≡ c → or_else (first_from ps (n + r)) (if nat_le (n + r) p.number then Some p.arrival.stamp else None) ≡ lesser (first_from ps (n + r)) (if c then (if nat_le (n + r) p.number then Some p.arrival.stamp else None) else None)) [
        | true ↦ λ t. let none : first_from ps (n + r) ≡ None = first_from-none ps (n + r) (grind (arith, common_steps)) in rw none refl
        | false ↦ λ f. let some : is_some (first_from ps (n + r)) ≡ true = first_from-some ps (n + r) e (grind (arith, common_steps)) in
            or_first (first_from ps (n + r)) (if nat_le (n + r) p.number then Some p.arrival.stamp else None) some ∙ sym (lesser_none (first_from ps (n + r)))
      ] refl
    ]
  where
    none_either : (c : Bool) → None ≡ lesser None (if c then None else None)
    none_either true = refl
    none_either false = refl

pub first_due-old : (s : Settings) (p : Taken) (ps : List Taken) (n : ℕ) → is_some (top ps) ≡ true → n < unwrap_or (top ps) 0 → first_due s (p ∷ ps) n ≡ lesser (first_due s ps n) (brought_by s p ps n)
first_due-old s p ps n e below =
    let first : first_from (p ∷ ps) (n + 1) ≡ first_from ps (n + 1) = or_first (first_from ps (n + 1)) (if nat_le (n + 1) p.number then Some p.arrival.stamp else None) (first_from-some ps (n + 1) e (omega arith)) in
    ap (λ (o : Option ℕ). lesser (later s.rtx_delay o) (if s.reorder == 0 then None else first_from (p ∷ ps) (n + s.reorder))) first
    ∙ ap (λ (o : Option ℕ). lesser (later s.rtx_delay (first_from ps (n + 1))) o) (over_old p ps n s.reorder e)
    ∙ sym (lesser_assoc (later s.rtx_delay (first_from ps (n + 1))) (if s.reorder == 0 then None else first_from ps (n + s.reorder)) (brought_by s p ps n))

-- ---- the packets that were greater than all before them serve as well as all

abbrev pub records : List Taken → List Taken
records [] = []
records (p ∷ ps) = if is_above (top ps) p.number then p ∷ records ps else records ps

same_by_record : (p : Taken) (ps qs : List Taken) (m : ℕ) → first_from qs m ≡ first_from ps m → first_from (if is_above (top ps) p.number then p ∷ qs else qs) m ≡ first_from (p ∷ ps) m
same_by_record p ps qs m e =
    elim (is_above (top ps) p.number) as (λ b. is_above (top ps) p.number ≡ b → first_from (if b then p ∷ qs else qs) m ≡ first_from (p ∷ ps) m) [
      | true ↦ λ _. rw e refl
      | false ↦ λ f. e ∙ sym (first_from-same p ps m (some_if (top ps) p.number f) (not_above (top ps) p.number f))
    ] refl
  where
    some_if : (o : Option ℕ) (n : ℕ) → is_above o n ≡ false → is_some o ≡ true
    some_if None n f = cc
    some_if (Some t) n f = refl

    not_above : (o : Option ℕ) (n : ℕ) → is_above o n ≡ false → n ≤ unwrap_or o 0
    not_above None n f = cc
    not_above (Some t) n f = grind (arith, common_steps)

pub first_from-records : (ps : List Taken) (m : ℕ) → first_from (records ps) m ≡ first_from ps m
first_from-records [] m = refl
first_from-records (p ∷ ps) m = same_by_record p ps (records ps) m (first_from-records ps m)

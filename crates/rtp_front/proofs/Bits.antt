-- Bits of pushers as sums.
use Rattle.std.proofs.Common.{add-one, ◌≡◌, ◌<◌, ◌+◌, ◌*◌, ◌^◌, ◌⊎◌, inl, inr, ⊎_elim, ℕ, zero, suc}
use Rattle.std.proofs.Common.{Bool, true, false, cond, [], ◌∷◌, get_or, take, refl}
use Rattle.std.proofs.Common.{ap, subst, ◌∙◌, arith}
use Rattle.std.specs.Prelude.{sum_by, bit_or, nat_eq}
use Rattle.std.proofs.lemmas.List.{take_more}
use Rattle.std.proofs.lemmas.List.Sums.{sum_by-append}
use Rattle.std.proofs.lemmas.Nat.{or_comm, or_shifted}
use Rattle.std.proofs.Math.Nat.{pow-suc}
use Rattle.std.specs.Int.Bits.{or_zero_r}
use Rattle.script_lang.specs.Contents.{Contents}
use Rattle.script_lang.specs.Facts.{session_numbers}
use Rattle.front_model.specs.Steps.{pusher_bit, pushers, repeats_for}

-- a number is the session of its place
number_at : (n : ℕ) → n < 8 → get_or session_numbers n 0 ≡ n
number_at zero h = refl
number_at (suc zero) h = refl
number_at (suc (suc zero)) h = refl
number_at (suc (suc (suc zero))) h = refl
number_at (suc (suc (suc (suc zero)))) h = refl
number_at (suc (suc (suc (suc (suc zero))))) h = refl
number_at (suc (suc (suc (suc (suc (suc zero)))))) h = refl
number_at (suc (suc (suc (suc (suc (suc (suc zero))))))) h = refl
number_at (suc (suc (suc (suc (suc (suc (suc (suc n)))))))) h = absurd (omega arith)

-- a bit above all those of a number is added to it
pub or_above : (n k : ℕ) → n < 2 ^ k → bit_or n (2 ^ k) ≡ n + 2 ^ k
or_above n k h =
    let e = or_shifted 1 k n h in
    let one : 1 * 2 ^ k ≡ 2 ^ k = omega arith in
    or_comm n (2 ^ k) ∙ subst (λ (x : ℕ). bit_or x n ≡ x + n) one e ∙ omega arith

bit_by : (a b : Bool) (k : ℕ) → (cond a (2 ^ k) (cond b (2 ^ k) 0) ≡ 2 ^ k) ⊎ (cond a (2 ^ k) (cond b (2 ^ k) 0) ≡ 0)
bit_by true b k = inl refl
bit_by false true k = inl refl
bit_by false false k = inr refl

-- the sum of the bits of the first sessions
abbrev pub bits_of : Contents → ℕ → ℕ → ℕ
bits_of c session n = sum_by (pusher_bit c session) (take n session_numbers)

sum_more : (c : Contents) (session n : ℕ) → n < 8
    → bits_of c session (n + 1) ≡ bits_of c session n + pusher_bit c session n
sum_more c session n h =
    let f = pusher_bit c session in
    let x = get_or session_numbers n 0 in
    let split : bits_of c session (n + 1) ≡ bits_of c session n + sum_by f (x ∷ []) =
    ap (sum_by f) (take_more session_numbers n 0 h)
    ∙ sum_by-append f (take n session_numbers) (x ∷ []) in
    let at : f x ≡ f n = ap f (number_at n h) in
    omega (arith, split, at)

double : (n : ℕ) → 2 ^ (n + 1) ≡ 2 ^ n + 2 ^ n
double n = ap (λ (k : ℕ). 2 ^ k) (add-one n) ∙ pow-suc 2 n ∙ omega arith

-- one session more
pub bits_more : (c : Contents) (session n old new : ℕ) → n < 8 → old ≡ bits_of c session n
    → old < 2 ^ n → new ≡ bit_or old (pusher_bit c session n)
    → (new ≡ bits_of c session (n + 1)) × (new < 2 ^ (n + 1))
bits_more c session n old new h is lt e =
    ⊎_elim
    (λ bit.
    let added : new ≡ old + 2 ^ n = e ∙ ap (bit_or old) bit ∙ or_above old n lt in
    (omega (arith, added, sum_more c session n h, is, bit), omega (arith, added, double n, lt)))
    (λ none.
    let added : new ≡ old = e ∙ ap (bit_or old) none ∙ or_zero_r old in
    (omega (arith, added, sum_more c session n h, is, none), omega (arith, added, double n, lt)))
    (bit_by (nat_eq n session) (repeats_for c session n) n)

-- all sessions, and the script
pub all_bits : (c : Contents) (session n old : ℕ) → n ≡ 8 → old ≡ bits_of c session n → old < 2 ^ n
    → bit_or old 256 ≡ pushers c session
all_bits c session n old at is lt =
    let small : old < 2 ^ 8 = subst (λ (k : ℕ). old < 2 ^ k) at lt in
    let all : old ≡ bits_of c session 8 = is ∙ ap (bits_of c session) at in
    or_above old 8 small ∙ ap (λ (x : ℕ). x + 256) all

-- What a script chooses for its lanes is in the ranges of settings, and who gives to a lane is one of its pushers.
use Rattle.std.proofs.Common.{ℕ, zero, suc, ◌≡◌, ◌+◌, ◌*◌, ◌/◌, ◌%◌, ◌≤◌, ◌<◌, Bool, true, false, refl, ap, ◌∙◌, arith}
use Rattle.std.specs.Prelude.{◌==◌, ◌&&◌, ◌||◌, nat_le, nat_lt, ◌^◌, if◌then◌else◌}
use Rattle.std.proofs.lemmas.Bool.{and_parts, eqb-true, leb-true}
use Rattle.std.proofs.lemmas.Grind.{common_steps}
use Rattle.jitter_model.specs.History.{is_pusher}
use Rattle.jitter_model.specs.Runs.{IsValid}
use Rattle.script_lang.specs.Contents.{Contents, IsScript}
use Rattle.script_lang.specs.Settings.{is_within, is_time_within}
use Rattle.front_model.specs.Steps.{repeats_for, pusher_bit, pushers, opening_settings}

-- ---- settings

pub within : (least most n : ℕ) → is_within least most n ≡ true → (least ≤ n) × (n ≤ most)
within least most n h = let both = and_parts (nat_le least n) (nat_le n most) h in (leb-true least n both.0, leb-true n most both.1)

-- in nanoseconds
pub time_within : (least most ns : ℕ) → is_time_within least most ns ≡ true → (1000000 * least ≤ ns) × (ns ≤ 1000000 * most)
time_within least most ns h =
    let both = and_parts (ns % 1000000 == 0) (is_within least most (ns / 1000000)) h in
    let rest : ns % 1000000 ≡ 0 = eqb-true (ns % 1000000) 0 both.0 in
    let range = within least most (ns / 1000000) both.1 in
    (omega (arith, rest, range.0), omega (arith, rest, range.1))

-- ---- pushers

abbrev bit : Bool → ℕ
bit true = 1
bit false = 0

abbrev gives : Contents → ℕ → ℕ → Bool
gives c session other = other == session || repeats_for c session other

bit_small : (b : Bool) → bit b ≤ 1
bit_small true = omega arith
bit_small false = omega arith

bit_is : (c : Contents) (session other : ℕ) → pusher_bit c session other ≡ 2 ^ other * bit (gives c session other)
bit_is c session other = by_two (other == session) (repeats_for c session other) (2 ^ other)
  where
    by_two : (a b : Bool) (n : ℕ) → (if a then n else if b then n else 0) ≡ n * bit (a || b)
    by_two true b n = omega arith
    by_two false true n = omega arith
    by_two false false n = omega arith

-- eight bits and the script's
abbrev sum_of : (ℕ → ℕ) → ℕ
sum_of y = 1 * y 0 + 2 * y 1 + 4 * y 2 + 8 * y 3 + 16 * y 4 + 32 * y 5 + 64 * y 6 + 128 * y 7 + 256

pushers_are : (c : Contents) (session : ℕ) → pushers c session ≡ sum_of (λ k. bit (gives c session k))
pushers_are c session =
    omega (arith, bit_is c session 0, bit_is c session 1, bit_is c session 2, bit_is c session 3, bit_is c session 4, bit_is c session 5, bit_is c session 6, bit_is c session 7)

few_pushers : (c : Contents) (session : ℕ) → pushers c session < 512
few_pushers c session =
    omega (
      arith,
      pushers_are c session,
      bit_small (gives c session 0),
      bit_small (gives c session 1),
      bit_small (gives c session 2),
      bit_small (gives c session 3),
      bit_small (gives c session 4),
      bit_small (gives c session 5),
      bit_small (gives c session 6),
      bit_small (gives c session 7),
    )

one_of : (y : ℕ → ℕ) (p : ℕ) → ((k : ℕ) → y k ≤ 1) → p < 8 → y p ≡ 1 → sum_of y / 2 ^ p % 2 ≡ 1
one_of y zero small lt is = omega (arith, small 0, small 1, small 2, small 3, small 4, small 5, small 6, small 7, is)
one_of y (suc zero) small lt is = omega (arith, small 0, small 1, small 2, small 3, small 4, small 5, small 6, small 7, is)
one_of y (suc (suc zero)) small lt is = omega (arith, small 0, small 1, small 2, small 3, small 4, small 5, small 6, small 7, is)
one_of y (suc (suc (suc zero))) small lt is = omega (arith, small 0, small 1, small 2, small 3, small 4, small 5, small 6, small 7, is)
one_of y (suc (suc (suc (suc zero)))) small lt is = omega (arith, small 0, small 1, small 2, small 3, small 4, small 5, small 6, small 7, is)
one_of y (suc (suc (suc (suc (suc zero))))) small lt is = omega (arith, small 0, small 1, small 2, small 3, small 4, small 5, small 6, small 7, is)
one_of y (suc (suc (suc (suc (suc (suc zero)))))) small lt is = omega (arith, small 0, small 1, small 2, small 3, small 4, small 5, small 6, small 7, is)
one_of y (suc (suc (suc (suc (suc (suc (suc zero))))))) small lt is = omega (arith, small 0, small 1, small 2, small 3, small 4, small 5, small 6, small 7, is)
one_of y (suc (suc (suc (suc (suc (suc (suc (suc n)))))))) small lt is = absurd (omega arith)

eq_true : (n : ℕ) → n ≡ 1 → (n == 1) ≡ true
eq_true n e = grind (arith, common_steps)

gives_pushes : (c : Contents) (session other : ℕ) → other < 8 → gives c session other ≡ true → is_pusher (pushers c session) other ≡ true
gives_pushes c session other lt e =
    eq_true (pushers c session / 2 ^ other % 2)
    (ap (λ (n : ℕ). n / 2 ^ other % 2) (pushers_are c session) ∙ one_of (λ k. bit (gives c session k)) other (λ k. bit_small (gives c session k)) lt (ap bit e))

-- a session gives to its own lanes
pub own_pushes : (c : Contents) (session : ℕ) → session < 8 → is_pusher (pushers c session) session ≡ true
own_pushes c session lt =
    gives_pushes c session session lt (ap (λ (b : Bool). b || repeats_for c session session) (same session))
  where
    same : (n : ℕ) → (n == n) ≡ true
    same n = grind (arith, common_steps)

-- and one that repeats its packets
pub repeats_push : (c : Contents) (session other : ℕ) → other < 8 → repeats_for c session other ≡ true → is_pusher (pushers c session) other ≡ true
repeats_push c session other lt e = gives_pushes c session other lt (ap (λ (b : Bool). other == session || b) e ∙ or_true (other == session))
  where
    or_true : (b : Bool) → (b || true) ≡ true
    or_true true = refl
    or_true false = refl

-- ---- all settings

pub valid_settings : (c : Contents) (session rate : ℕ) → IsScript c → 1 ≤ rate → rate ≤ 1000000 → IsValid (opening_settings c session rate)
valid_settings c session rate script from to =
    let s = c.settings in
    let others = is_time_within 0 600000 s.report && (is_time_within 1 600000 s.timeout && (is_within 1 4096 s.history && (nat_lt s.ssrc (2 ^ 32) && true))) in
    let latency = and_parts (is_time_within 0 600000 s.latency) _ script.settings_fit in
    let delay = and_parts (is_time_within 0 60000 s.rtx_delay) _ latency.1 in
    let retry = and_parts (is_time_within 1 60000 s.rtx_retry) _ delay.1 in
    let most = and_parts (is_within 0 255 s.rtx_max) _ retry.1 in
    let reorder = and_parts (is_within 0 100 s.reorder) _ most.1 in
    let dropout = and_parts (is_within 1 30000 s.dropout) _ reorder.1 in
    let misorder = and_parts (is_within 0 1000 s.misorder) _ dropout.1 in
    let probation = and_parts (is_within 0 16 s.probation) _ misorder.1 in
    let faststart = and_parts (is_within 0 1000 s.faststart) others probation.1 in
    record {
      rate_from = from;
      rate_to = to;
      latency_to = (time_within 0 600000 s.latency latency.0).1;
      rtx_delay_to = (time_within 0 60000 s.rtx_delay delay.0).1;
      rtx_retry_from = (time_within 1 60000 s.rtx_retry retry.0).0;
      rtx_retry_to = (time_within 1 60000 s.rtx_retry retry.0).1;
      rtx_max_to = (within 0 255 s.rtx_max most.0).1;
      reorder_to = (within 0 100 s.reorder reorder.0).1;
      dropout_from = (within 1 30000 s.dropout dropout.0).0;
      dropout_to = (within 1 30000 s.dropout dropout.0).1;
      misorder_to = (within 0 1000 s.misorder misorder.0).1;
      faststart_to = (within 0 1000 s.faststart faststart.0).1;
      pushers_to = few_pushers c session;
    }

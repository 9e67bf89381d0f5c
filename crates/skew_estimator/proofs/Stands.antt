-- One height more, where the estimator knows only the differences that count.
use Rattle.std.proofs.Common.{◌≡◌, ℕ, zero, suc, ◌+◌, Bool, true, false, ◌&&◌, if◌then◌else◌, List, [], ◌∷◌, take, Option, Some, None, refl, sym, ap, ◌∙◌, inl, inr, ◌⊎◌, arith}
use Rattle.std.specs.Prelude.{ℤ, pos, ◌+ℤ◌, ◌≤ℤ◌}
use Rattle.std.proofs.lemmas.Int.{ints}
use Rattle.rtp_units.specs.declared.Mode.{Mode}
use Rattle.rtp_units.specs.declared.Mode.TheVariants.{Plain, Slave}
use Rattle.rtp_units.specs.Numbers.{ext32}
use Rattle.skew_model.specs.Skew.{Estimate, Height, started, sent_at, difference, is_apart, in_order, with_difference, is_slave, estimate, estimate_after, height_time, least, filled_mean}
use Rattle.skew_estimator.specs.declared.segment.Segment.{Segment}
use Rattle.skew_estimator.specs.Estimator.{Estimator, StandsFor, IsHeightTime, counted, cut, height}
use Rattle.skew_estimator.specs.Segment.{estimate_of, in_mode, IsFitted, IsWithin}
use Rattle.skew_estimator.proofs.Least.{take-whole, take-within}

-- ---- the differences that don't count are never looked at
twice : (n : Option ℕ) (ds : List ℤ) → counted n (counted n ds) ≡ counted n ds
twice None ds = refl
twice (Some n) ds = take-within n n ds (omega arith)

in_front : (n : ℕ) (d : ℤ) (ds : List ℤ) → take n (d ∷ ds) ≡ take n (d ∷ take n ds)
in_front zero d ds = refl
in_front (suc n) d ds = ap (λ l. d ∷ l) (sym (take-within n (suc n) ds (omega arith)))

-- what comes of an estimate where its difference counts, by the differences that count after it
abbrev after_difference : Estimate → ℤ → ℕ → List ℤ → Estimate
after_difference e t n l = record { base = e.base; start = e.start; latest = t; skew = filled_mean (least l) e.skew; differences = l; size = Some n }

with-part : (e : Estimate) (size : Option ℕ) (t sent d : ℤ) → e.size ≡ size → cut (with_difference e t sent d) ≡ cut (with_difference (cut e) t sent d)
with-part e None t sent d is = ap (λ l. cut (with_difference (record e { differences = l }) t sent d)) (ap (λ z. counted None e.differences) is ∙ sym (ap (λ z. counted z e.differences) is))
with-part e (Some n) t sent d is =
    let all : (l : List ℤ) → cut (with_difference (record e { differences = l }) t sent d) ≡ after_difference e t n (take n (d ∷ l)) = λ l.
    ap (λ z. cut (with_difference (record e { differences = l; size = z }) t sent d)) is
    ∙ ap (λ z. record { base = e.base; start = e.start; latest = t; skew = filled_mean (least (take n (d ∷ l))) e.skew; differences = take n (d ∷ l); size = z }) refl in
    all e.differences ∙ ap (after_difference e t n) (in_front n d e.differences ∙ ap (λ l. take n (d ∷ l)) (sym (ap (λ z. counted z e.differences) is))) ∙ sym (all (counted e.size e.differences))

either : (b : Bool) (x y z : Estimate) → cut y ≡ cut z → cut (if b then x else y) ≡ cut (if b then x else z)
either true x y z e = refl
either false x y z e = e

in_order-part : (rate : ℕ) (e : Estimate) (stamp : ℕ) (t : ℤ) → cut (in_order rate e stamp t) ≡ cut (in_order rate (cut e) stamp t)
in_order-part rate e stamp t =
    let sent = sent_at rate e t in let d = difference e stamp sent in
    either (is_apart d e.skew) (started stamp t) (with_difference e t sent d) (with_difference (cut e) t sent d) (with-part e e.size t sent d refl)

latest-part : (e : Estimate) (t : ℤ) → cut (record e { latest = t }) ≡ cut (record (cut e) { latest = t })
latest-part e t = ap (λ l. record { base = e.base; start = e.start; latest = t; skew = e.skew; differences = l; size = e.size }) (sym (twice e.size e.differences))

choose : (b : Bool) (x y x' y' : Estimate) → cut x ≡ cut x' → cut y ≡ cut y' → cut (if b then x else y) ≡ cut (if b then x' else y')
choose true x y x' y' p q = p
choose false x y x' y' p q = q

pub after-part : (rate : ℕ) (mode : Mode) (e : Estimate) (h : Height) → cut (estimate_after rate mode (Some e) h) ≡ cut (estimate_after rate mode (Some (cut e)) h)
after-part rate mode e h =
    let t = ext32 e.latest h.rtp in
    choose (is_slave mode && h.is_next) (in_order rate e h.stamp t) (record e { latest = t }) (in_order rate (cut e) h.stamp t) (record (cut e) { latest = t }) (in_order-part rate e h.stamp t) (latest-part e t)

-- ---- one height more
some_of : (o : Option Estimate) → (o ≡ None) ⊎ ((e : Estimate) × (o ≡ Some e))
some_of None = inl refl
some_of (Some e) = inr (e, refl)

not_none : (n : ℕ) (e : Estimate) → None ≡ Some e → ⊥
not_none n e is = cc

pub stands-step : (old new : Estimator) (e after : Estimate) (h : Height) (heights : List Height) → old.estimated ≡ Some e → new.estimated ≡ Some after
    → after ≡ cut (estimate_after old.rate old.mode (Some e) h) → new.rate ≡ old.rate → new.mode ≡ old.mode → new.heights ≡ old.heights + 1 → StandsFor old heights → StandsFor new (h ∷ heights)
stands-step old new e after h [] was now step rate mode count stands = absurd (not_none 0 e (sym stands.estimated ∙ was))
stands-step old new e after h (p ∷ ps) was now step rate mode count stands =
    let x = estimate_after old.rate old.mode (estimate old.rate old.mode ps) p in
    let same : Some (cut x) ≡ Some e = sym stands.estimated ∙ was in let one : cut x ≡ e = cc in
    let next : after ≡ cut (estimate_after old.rate old.mode (Some x) h) = step ∙ ap (λ z. cut (estimate_after old.rate old.mode (Some z) h)) (sym one) ∙ sym (after-part old.rate old.mode x h) in
    record {
      estimated = now ∙ ap Some next ∙ (λ k. Some (cut (estimate_after (sym rate k) (sym mode k) (Some (estimate_after (sym rate k) (sym mode k) (estimate (sym rate k) (sym mode k) ps) p)) h)));
      counts = let counts = stands.counts in omega arith;
    }

pub time-step : (old new : Estimator) (e after : Estimate) (h : Height) (heights : List Height) (time : ℕ) → old.estimated ≡ Some e
    → after ≡ cut (estimate_after old.rate old.mode (Some e) h) → new.rate ≡ old.rate → new.mode ≡ old.mode → time ≡ height_time old.rate after → StandsFor old heights → IsHeightTime new (h ∷ heights) time
time-step old new e after h [] time was step rate mode is stands = absurd (not_none 0 e (sym stands.estimated ∙ was))
time-step old new e after h (p ∷ ps) time was step rate mode is stands =
    let x = estimate_after old.rate old.mode (estimate old.rate old.mode ps) p in
    let same : Some (cut x) ≡ Some e = sym stands.estimated ∙ was in let one : cut x ≡ e = cc in
    let next : after ≡ cut (estimate_after old.rate old.mode (Some x) h) = step ∙ ap (λ z. cut (estimate_after old.rate old.mode (Some z) h)) (sym one) ∙ sym (after-part old.rate old.mode x h) in
    (λ k. Some (height_time (rate k) (estimate_after (rate k) (mode k) (Some (estimate_after (rate k) (mode k) (estimate (rate k) (mode k) ps) p)) h)))
    ∙ ap (λ z. Some (height_time old.rate z)) (sym next) ∙ ap Some (sym is)

-- ---- a segment and its window
pub in_mode-is : (mode : Mode) (rate : ℕ) (e : Estimate) (rtp stamp : ℕ) (t : ℤ) → t ≡ ext32 e.latest rtp → in_mode mode rate e stamp t ≡ estimate_after rate mode (Some e) (height rtp stamp true)
in_mode-is Plain rate e rtp stamp t is = ap (λ z. record e { latest = z }) is
in_mode-is Slave rate e rtp stamp t is = ap (in_order rate e stamp) is

pub jump-is : (mode : Mode) (rate : ℕ) (e : Estimate) (rtp stamp : ℕ) (t : ℤ) → t ≡ ext32 e.latest rtp → record e { latest = t } ≡ estimate_after rate mode (Some e) (height rtp stamp false)
jump-is Plain rate e rtp stamp t is = ap (λ z. record e { latest = z }) is
jump-is Slave rate e rtp stamp t is = ap (λ z. record e { latest = z }) is

fitted-counted : (size : Option ℕ) (ws : List ℤ) → IsFitted size ws → counted size ws ≡ ws
fitted-counted None ws fitted = refl
fitted-counted (Some n) ws fitted = let few = fitted.few in take-whole n ws (omega arith)

-- the window of a segment has only differences that count
pub cut-kept : (s : Segment) (ws : List ℤ) → IsFitted s.size ws → estimate_of s ws ≡ cut (estimate_of s ws)
cut-kept s ws fitted = ap (estimate_of s) (sym (fitted-counted s.size ws fitted))

pub within-more : (t : ℤ) (n : ℕ) → IsWithin t n → IsWithin t (n + 1)
within-more t n w = let a = w.from in let b = w.to in record { from = omega (arith, ints); to = omega (arith, ints) }

pub within-next : (t u : ℤ) (n : ℕ) → IsWithin t n → t ≤ℤ (u +ℤ pos 2147483648) → u ≤ℤ (t +ℤ pos 2147483647) → IsWithin u (n + 1)
within-next t u n w above below = let a = w.from in let b = w.to in record { from = omega (arith, ints); to = omega (arith, ints) }

-- What each verdict says of the packet.
use Rattle.std.proofs.Common.{ℕ, ◌≡◌, ◌≤◌, Bool, true, false, ◌&&◌, not, refl, sym, subst, length, arith}
use Rattle.std.specs.Prelude.{is_some, nat_le}
use Rattle.std.proofs.lemmas.Grind.{common_steps}
use Rattle.jitter_model.specs.declared.Settings.{Settings}
use Rattle.jitter_model.specs.declared.Arrival.{Arrival}
use Rattle.jitter_model.specs.declared.Verdict.{Verdict}
use Rattle.jitter_model.specs.declared.Verdict.TheVariants.{Accepted, Aside, Restart, Late, Duplicate, Full, Stray, Flushing, Ended}
use Rattle.jitter_model.specs.History.{History}
use Rattle.jitter_model.specs.Accepted.{is_original, joined}
use Rattle.jitter_model.specs.Verdicts.{View, is_far, is_late, is_full, far_verdict, first_fit, view, verdict}
use Rattle.jitter_model.proofs.Chain.{split}
use Rattle.jitter_model.proofs.Waking.{and-left}
use Rattle.jitter_model.specs.Said.{IsNear, Says}

pub record Saying (s : Settings) (v : View) (a : Arrival) (r : Verdict) : Type 0 where
  pub fact : Says s v a r

pub and-right : (a b : Bool) → (a && b) ≡ true → b ≡ true
and-right true b e = e
and-right false b e = cc

stray_facts : (a b : Bool) → (not a && not b) ≡ true → (a ≡ false) × (b ≡ false)
stray_facts false false e = (refl, refl)
stray_facts false true e = cc
stray_facts true b e = cc

far_says : (s : Settings) (v : View) (a : Arrival) → v.ended ≡ false → v.flushing ≡ false → (is_original a.origin && is_far s v.top v.next v.number) ≡ true → Saying s v a (far_verdict v.run a v.held)
far_says s v a e f far =
    split (Saying s v a) (nat_le 5 (length (joined v.run a))) _ _
    (λ long. record { fact = record { ended = e; flushing = f; original = and-left _ _ far; far = and-right _ _ far; run = grind (arith, common_steps); dropped_is = refl } })
    (λ short. record { fact = record { ended = e; flushing = f; original = and-left _ _ far; far = and-right _ _ far; run = grind (arith, common_steps) } })

pub first_says : (s : Settings) (v : View) (a : Arrival) → Saying s v a (first_fit s v a)
first_says s v a =
    split (Saying s v a) v.ended _ _ (λ e. record { fact = e })
    (λ e. split (Saying s v a) v.flushing _ _ (λ f. record { fact = (e, f) })
    (λ f. split (Saying s v a) (not (is_original a.origin) && not (is_some v.top)) _ _ (λ stray. record { fact = (e, f, (stray_facts (is_original a.origin) (is_some v.top) stray).0, (stray_facts (is_original a.origin) (is_some v.top) stray).1) })
    (λ stray. split (Saying s v a) (is_original a.origin && is_far s v.top v.next v.number) _ _ (far_says s v a e f)
    (λ far. let near : IsNear s v a = record { ended = e; flushing = f; stray = stray; far = far } in
    split (Saying s v a) (is_late v.next v.number) _ _ (λ late. record { fact = (near, late) })
    (λ late. split (Saying s v a) v.among _ _ (λ among. record { fact = (near, late, among) })
    (λ among. split (Saying s v a) (is_full v.top v.least v.next v.number) _ _ (λ full. record { fact = (near, late, among, full) })
    (λ full. record { fact = record { ended = e; flushing = f; stray = stray; far = far; late = late; among = among; full = full } })))))))

pub says : (s : Settings) (h : History) (a : Arrival) (r : Verdict) → r ≡ verdict s h a → Says s (view h a) a r
says s h a r e = (subst (λ r. Saying s (view h a) a r) (sym e) (first_says s (view h a) a)).fact

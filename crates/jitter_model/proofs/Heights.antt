-- The heights of a run and the estimate of the sender's clock.
use Rattle.std.proofs.Common.{suc, ◌≡◌, ◌≤◌, Bool, true, false, not, refl, ap, List, [], ◌∷◌, length, arith}
use Rattle.std.specs.Prelude.{⊤, is_some, if◌then◌else◌, ◌&&◌}
use Rattle.skew_model.specs.Skew.{estimate}
use Rattle.jitter_model.specs.declared.Settings.{Settings}
use Rattle.jitter_model.specs.declared.Arrival.{Arrival}
use Rattle.jitter_model.specs.declared.Verdict.{Verdict}
use Rattle.jitter_model.specs.declared.Verdict.TheVariants.{Accepted, Aside, Restart, Late, Duplicate, Full, Stray, Flushing, Ended}
use Rattle.jitter_model.specs.declared.Entry.TheVariants.{Push, Clock, FlushStart, FlushStop, Latency, Report, Ends, Turned}
use Rattle.jitter_model.specs.History.{History, is_flushing}
use Rattle.jitter_model.specs.Accepted.{Taken, top, is_original, with_taken, joined, aside, opened, taken_after, accepted}
use Rattle.jitter_model.specs.Verdicts.{verdict, view}
use Rattle.jitter_model.specs.Runs.{IsInRange, Run}
use Rattle.jitter_model.specs.Times.{pts_after, is_height, heights, skew_heights, estimate_of, marks}
use Rattle.jitter_model.proofs.Chain.{split}
use Rattle.jitter_model.proofs.Judged.{says}
use Rattle.jitter_model.specs.Laws.{IsRun, IsAsideRun}
use Rattle.jitter_model.proofs.Numbered.{aside_run, joined_run}
use Rattle.jitter_model.specs.Said.{IsAccepted, IsRestart}

-- there are no more heights than packets
pub length-heights : (ps : List Taken) → length (heights ps) ≤ length ps
length-heights [] = omega arith
length-heights (p ∷ ps) =
    split (λ (hs : List Taken). length hs ≤ suc (length ps)) (is_height ps p) (p ∷ heights ps) (heights ps)
    (λ _. omega (arith, length-heights ps)) (λ _. omega (arith, length-heights ps))

pub length-skew_heights : (hs : List Taken) → length (skew_heights hs) ≡ length hs
length-skew_heights [] = refl
length-skew_heights (p ∷ hs) = ap suc (length-skew_heights hs)

pub length-marks : (s : Settings) (ps : List Taken) → length (marks s ps) ≡ length (heights ps)
length-marks s [] = refl
length-marks s (p ∷ ps) =
    elim (is_height ps p) as (λ b. length (if b then record { number = p.number; pts = pts_after s ps p } ∷ marks s ps else marks s ps) ≡ length (if b then p ∷ heights ps else heights ps)) [
      | true ↦ ap suc (length-marks s ps)
      | false ↦ length-marks s ps
    ]

-- ---- the packet that was accepted first is an original, so it is the first height

abbrev pub BeginsOriginal : List Taken → Type 0
BeginsOriginal [] = ⊤
BeginsOriginal (p ∷ []) = is_original p.arrival.origin ≡ true
BeginsOriginal (p ∷ q ∷ ps) = BeginsOriginal (q ∷ ps)

taken_begins : (ps : List Taken) (a : Arrival) → (is_some (top ps) ≡ false → is_original a.origin ≡ true) → BeginsOriginal ps → BeginsOriginal (with_taken ps a)
taken_begins [] a o b = o refl
taken_begins (q ∷ ps) a o b = b

opened_begins : (run : List Arrival) → IsRun run → BeginsOriginal (opened run)
opened_begins [] r = tt
opened_begins (a ∷ []) r = r.1
opened_begins (a ∷ b ∷ run) r = opened_begins (b ∷ run) r.3

original_if : (o t : Bool) → (not o && not t) ≡ false → t ≡ false → o ≡ true
original_if true t e f = refl
original_if false true e f = cc
original_if false false e f = cc

push_begins : (s : Settings) (h : History) (a : Arrival) (v : Verdict) → v ≡ verdict s h a → IsInRange a → IsAsideRun (aside h) → BeginsOriginal (accepted h) → BeginsOriginal (taken_after (accepted h) (aside h) a v)
push_begins s h a Accepted e i r b =
    let x : IsAccepted s (view h a) a = says s h a Accepted e in
    taken_begins (accepted h) a (λ none. original_if (is_original a.origin) (is_some (top (accepted h))) x.stray none) b
push_begins s h a (Restart d) e i r b = let x : IsRestart s (view h a) a d = says s h a (Restart d) e in opened_begins (joined (aside h) a) (joined_run (aside h) a r.fact i x.original)
push_begins s h a Aside e i r b = b
push_begins s h a Late e i r b = b
push_begins s h a Duplicate e i r b = b
push_begins s h a Full e i r b = b
push_begins s h a Stray e i r b = b
push_begins s h a Flushing e i r b = b
push_begins s h a Ended e i r b = b

none_begins : (b : Bool) (ps : List Taken) → BeginsOriginal ps → BeginsOriginal (if b then [] else ps)
none_begins true ps x = tt
none_begins false ps x = x

pub begins : (s : Settings) (h : History) → Run s h → BeginsOriginal (accepted h)
begins s [] r = tt
begins s (Push a v n d ∷ h) r = push_begins s h a v r.0.verdict_is r.0.in_range (aside_run s h r.1) (begins s h r.1)
begins s (Clock t ∷ h) r = begins s h r.1
begins s (FlushStart d ∷ h) r = begins s h r.1
begins s (FlushStop ∷ h) r = none_begins (is_flushing h) (accepted h) (begins s h r)
begins s (Latency ns ∷ h) r = begins s h r.1
begins s (Report ntp rtp reply ∷ h) r = begins s h r.1
begins s (Ends p ∷ h) r = begins s h r.1
begins s (Turned t ∷ h) r = begins s h r.1

-- so where something was accepted there is a height, and its estimate
more_heights : (b : Bool) (p : Taken) (hs : List Taken) → is_some (top hs) ≡ true → is_some (top (if b then p ∷ hs else hs)) ≡ true
more_heights true p hs e = refl
more_heights false p hs e = e

pub some_height : (ps : List Taken) → BeginsOriginal ps → is_some (top ps) ≡ true → is_some (top (heights ps)) ≡ true
some_height [] b e = e
some_height (p ∷ []) b e = rw b refl
some_height (p ∷ q ∷ ps) b e = more_heights (is_height (q ∷ ps) p) p (heights (q ∷ ps)) (some_height (q ∷ ps) b refl)

pub some_estimate : (s : Settings) (ps : List Taken) → is_some (top (heights ps)) ≡ is_some (estimate_of s ps)
some_estimate s ps = by_list (heights ps)
  where
    by_list : (hs : List Taken) → is_some (top hs) ≡ is_some (estimate s.rate s.mode (skew_heights hs))
    by_list [] = refl
    by_list (p ∷ hs) = refl

-- The first packet of a segment is an original, so a segment with a packet has a height.
use Rattle.std.proofs.Common.{ℕ, suc, ◌≡◌, ◌≤◌, ◌<◌, Bool, true, false, ◌&&◌, not, refl, ap, List, [], ◌∷◌, length, arith}
use Rattle.std.specs.Prelude.{⊤, is_some, option_map, if◌then◌else◌}
use Rattle.rtp_units.specs.declared.Mode.{Mode}
use Rattle.skew_model.specs.Skew.{Height, estimate}
use Rattle.skew_estimator.specs.Estimator.{cut}
use Rattle.jitter_model.specs.declared.Settings.{Settings}
use Rattle.jitter_model.specs.declared.Arrival.{Arrival}
use Rattle.jitter_model.specs.declared.Verdict.{Verdict}
use Rattle.jitter_model.specs.declared.Verdict.TheVariants.{Accepted, Aside, Restart, Late, Duplicate, Full, Stray, Flushing, Ended}
use Rattle.jitter_model.specs.declared.Entry.TheVariants.{Push, Clock, FlushStart, FlushStop, Latency, Report, Ends, Turned}
use Rattle.jitter_model.specs.History.{History, is_flushing}
use Rattle.jitter_model.specs.Accepted.{Taken, top, number_from, is_original, joined, opened, aside, accepted, taken_after}
use Rattle.jitter_model.specs.Verdicts.{verdict, view}
use Rattle.jitter_model.specs.Times.{is_height, heights, skew_heights}
use Rattle.jitter_model.specs.Runs.{IsInRange, Run}
use Rattle.jitter_model.specs.Laws.{IsRun, IsAsideRun}
use Rattle.jitter_model.specs.Said.{IsAccepted, IsRestart}
use Rattle.jitter_core.proofs.Cases.{split}
use Rattle.jitter_model.specs.Known.{RunsAreBounded}
use Rattle.jitter_model.specs.Known.{RepliesTell}
use Rattle.jitter_model.specs.Known.{NumbersLieBetween}

abbrev pub IsRooted : List Taken → Type 0
IsRooted [] = ⊤
IsRooted (p ∷ []) = is_original p.arrival.origin ≡ true
IsRooted (p ∷ q ∷ ps) = IsRooted (q ∷ ps)

pub record Rooted (ps : List Taken) : Type 0 where
  pub fact : IsRooted ps

rooted_more : (ps : List Taken) (p : Taken) → (is_some (top ps) ≡ false → is_original p.arrival.origin ≡ true) → IsRooted ps → IsRooted (p ∷ ps)
rooted_more [] p f r = f refl
rooted_more (q ∷ ps) p f r = r

pub opened_rooted : (run : List Arrival) → IsRun run → IsRooted (opened run)
opened_rooted [] r = tt
opened_rooted (a ∷ []) r = r.1
opened_rooted (a ∷ b ∷ run) r = opened_rooted (b ∷ run) r.3

-- only an original is accepted first
pub not_stray : (original known : Bool) → (not original && not known) ≡ false → known ≡ false → original ≡ true
not_stray true known e k = refl
not_stray false true e k = cc
not_stray false false e k = cc

push_rooted : RepliesTell → NumbersLieBetween → (s : Settings) (h : History) (a : Arrival) (v : Verdict) → v ≡ verdict s h a → IsInRange a → IsAsideRun (aside h) → Rooted (accepted h) → Rooted (taken_after (accepted h) (aside h) a v)
push_rooted replies numbers s h a Accepted e i r n =
    let x : IsAccepted s (view h a) a = replies.verdicts s h a Accepted e in
    record { fact = rooted_more (accepted h) (record { number = number_from (top (accepted h)) a.packet.seq; arrival = a }) (not_stray (is_original a.origin) (is_some (top (accepted h))) x.stray) n.fact }
push_rooted replies numbers s h a (Restart d) e i r n =
    let x : IsRestart s (view h a) a d = replies.verdicts s h a (Restart d) e in
    record { fact = opened_rooted (joined (aside h) a) (numbers.joined_is (aside h) a r.fact i x.original) }
push_rooted replies numbers s h a Aside e i r n = n
push_rooted replies numbers s h a Late e i r n = n
push_rooted replies numbers s h a Duplicate e i r n = n
push_rooted replies numbers s h a Full e i r n = n
push_rooted replies numbers s h a Stray e i r n = n
push_rooted replies numbers s h a Flushing e i r n = n
push_rooted replies numbers s h a Ended e i r n = n

none_rooted : (b : Bool) (ps : List Taken) → Rooted ps → Rooted (if b then [] else ps)
none_rooted true ps n = record { fact = tt }
none_rooted false ps n = n

pub rooted : RunsAreBounded → RepliesTell → NumbersLieBetween → (s : Settings) (h : History) → Run s h → Rooted (accepted h)
rooted runs replies numbers s [] r = record { fact = tt }
rooted runs replies numbers s (Push a v n d ∷ h) r = push_rooted replies numbers s h a v r.0.verdict_is r.0.in_range (runs.aside_is s h r.1) (rooted runs replies numbers s h r.1)
rooted runs replies numbers s (Clock t ∷ h) r = rooted runs replies numbers s h r.1
rooted runs replies numbers s (FlushStart d ∷ h) r = rooted runs replies numbers s h r.1
rooted runs replies numbers s (FlushStop ∷ h) r = none_rooted (is_flushing h) (accepted h) (rooted runs replies numbers s h r)
rooted runs replies numbers s (Latency ns ∷ h) r = rooted runs replies numbers s h r.1
rooted runs replies numbers s (Report ntp rtp reply ∷ h) r = rooted runs replies numbers s h r.1
rooted runs replies numbers s (Ends p ∷ h) r = rooted runs replies numbers s h r.1
rooted runs replies numbers s (Turned t ∷ h) r = rooted runs replies numbers s h r.1

-- ---- heights

first_height : (p : Taken) → is_original p.arrival.origin ≡ true → is_height [] p ≡ true
first_height p e = rw e refl

some_height : (ps : List Taken) → IsRooted ps → is_some (top ps) ≡ true → 0 < length (heights ps)
some_height [] r e = cc
some_height (p ∷ []) r e = rw (first_height p r) (omega arith)
some_height (p ∷ q ∷ ps) r e =
    split (λ (hs : List Taken). 0 < length hs) (is_height (q ∷ ps) p) (p ∷ heights (q ∷ ps)) (heights (q ∷ ps)) (λ _. omega arith) (λ _. some_height (q ∷ ps) r refl)

pub few_heights : (ps : List Taken) → length (heights ps) ≤ length ps
few_heights [] = omega arith
few_heights (p ∷ ps) = split (λ (hs : List Taken). length hs ≤ suc (length ps)) (is_height ps p) (p ∷ heights ps) (heights ps) (λ _. omega (arith, few_heights ps)) (λ _. omega (arith, few_heights ps))

pub length-skew : (ps : List Taken) → length (skew_heights ps) ≡ length ps
length-skew [] = refl
length-skew (p ∷ ps) = ap suc (length-skew ps)

estimated : (rate : ℕ) (mode : Mode) (hs : List Height) → 0 < length hs → is_some (option_map cut (estimate rate mode hs)) ≡ true
estimated rate mode [] lt = absurd (omega arith)
estimated rate mode (p ∷ hs) lt = refl

-- where a packet was accepted, the estimator was started
pub some_estimate : (rate : ℕ) (mode : Mode) (ps : List Taken) → IsRooted ps → is_some (top ps) ≡ true → is_some (option_map cut (estimate rate mode (skew_heights (heights ps)))) ≡ true
some_estimate rate mode ps r e = estimated rate mode (skew_heights (heights ps)) (omega (arith, some_height ps r e, length-skew (heights ps)))

pub no_heights : (ps : List Taken) → is_some (top ps) ≡ false → skew_heights (heights ps) ≡ []
no_heights [] e = refl
no_heights (p ∷ ps) e = cc

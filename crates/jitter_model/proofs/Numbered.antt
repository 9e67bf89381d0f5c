-- The numbers of the accepted packets of a run, and the packets that are put aside.
use Rattle.std.proofs.Common.{ℕ, suc, ◌≡◌, ◌+◌, ◌*◌, ◌%◌, ◌≤◌, ◌<◌, Bool, true, false, refl, ap, ◌∙◌, List, [], ◌∷◌, length, Option, None, Some, arith, max, min}
use Rattle.std.specs.Prelude.{⊤, unwrap_or, if◌then◌else◌}
use Rattle.std.proofs.lemmas.Bool.{eqb-true}
use Rattle.rtp_units.specs.Numbers.{ext16}
use Rattle.jitter_model.specs.declared.Settings.{Settings}
use Rattle.jitter_model.specs.declared.Arrival.{Arrival}
use Rattle.jitter_model.specs.declared.Verdict.{Verdict}
use Rattle.jitter_model.specs.declared.Verdict.TheVariants.{Accepted, Aside, Restart, Late, Duplicate, Full, Stray, Flushing, Ended}
use Rattle.jitter_model.specs.declared.Entry.TheVariants.{Push, Clock, FlushStart, FlushStop, Latency, Report, Ends, Turned}
use Rattle.jitter_model.specs.History.{History, pushes, latency, is_flushing}
use Rattle.jitter_model.specs.Accepted.{Taken, top, least, has, number_from, is_original, follows, joined, ended_by, run_after, aside, opened, taken_after, accepted}
use Rattle.jitter_model.specs.Verdicts.{opened_number, verdict, view}
use Rattle.jitter_model.specs.Runs.{IsValid, IsInRange, Run}
use Rattle.jitter_model.specs.Laws.{IsRun, IsAsideRun}
use Rattle.jitter_model.proofs.Chain.{split, has-le}
use Rattle.jitter_model.proofs.Judged.{says}
use Rattle.jitter_model.specs.Said.{IsAccepted, IsAside, IsRestart}
use Rattle.jitter_model.specs.Numbered.{AreTops, IsDistinct, IsNumbered, IsOpened}

-- ---- the packets that are put aside

pub run_more : (run : List Arrival) (a : Arrival) → IsRun run → IsInRange a → is_original a.origin ≡ true → follows run a ≡ true → IsRun (a ∷ run)
run_more [] a r i o e = (i, o)
run_more (b ∷ run) a r i o e = (i, o, eqb-true a.packet.seq ((b.packet.seq + 1) % 65536) e, r)

record IsRunOf (run : List Arrival) : Type 0 where
  fact : IsRun run

pub joined_run : (run : List Arrival) (a : Arrival) → IsRun run → IsInRange a → is_original a.origin ≡ true → IsRun (joined run a)
joined_run run a r i o = (split IsRunOf (follows run a) (a ∷ run) (a ∷ []) (λ e. record { fact = run_more run a r i o e }) (λ _. record { fact = (i, o) })).fact

empty_run : IsAsideRun []
empty_run = record { fact = tt; few = omega arith }

pub run_or_none : (b : Bool) (run : List Arrival) → IsAsideRun run → IsAsideRun (if b then [] else run)
run_or_none true run r = empty_run
run_or_none false run r = r

push_run : (s : Settings) (h : History) (a : Arrival) (v : Verdict) → v ≡ verdict s h a → IsInRange a → IsAsideRun (aside h) → IsAsideRun (run_after (aside h) a v)
push_run s h a Aside e i r = let x : IsAside s (view h a) a = says s h a Aside e in record { fact = joined_run (aside h) a r.fact i x.original; few = x.run }
push_run s h a (Restart d) e i r = empty_run
push_run s h a Accepted e i r = run_or_none (is_original a.origin) (aside h) r
push_run s h a Late e i r = run_or_none (is_original a.origin) (aside h) r
push_run s h a Duplicate e i r = run_or_none (is_original a.origin) (aside h) r
push_run s h a Full e i r = run_or_none (is_original a.origin) (aside h) r
push_run s h a Stray e i r = r
push_run s h a Flushing e i r = r
push_run s h a Ended e i r = r

pub aside_run : (s : Settings) (h : History) → Run s h → IsAsideRun (aside h)
aside_run s [] r = empty_run
aside_run s (Push a v n d ∷ h) r = push_run s h a v r.0.verdict_is r.0.in_range (aside_run s h r.1)
aside_run s (Clock t ∷ h) r = aside_run s h r.1
aside_run s (FlushStart d ∷ h) r = empty_run
aside_run s (FlushStop ∷ h) r = run_or_none (is_flushing h) (aside h) (aside_run s h r)
aside_run s (Latency ns ∷ h) r = aside_run s h r.1
aside_run s (Report ntp rtp reply ∷ h) r = aside_run s h r.1
aside_run s (Ends p ∷ h) r = aside_run s h r.1
aside_run s (Turned t ∷ h) r = aside_run s h r.1

-- the fifth packet of a run joins the four before it
pub joined_five : (run : List Arrival) (a : Arrival) → 5 ≤ length (joined run a) → follows run a ≡ true
joined_five run a h =
    elim (follows run a) as (λ b. (follows run a ≡ b) → 5 ≤ length (if b then a ∷ run else a ∷ []) → follows run a ≡ true) [
      | true ↦ λ e _. e
      | false ↦ λ e long. absurd (omega arith)
    ] refl h

pub joined_follows : (run : List Arrival) (a : Arrival) → follows run a ≡ true → joined run a ≡ a ∷ run
joined_follows run a e = rw e refl

-- ---- numbers

run_range : (a : Arrival) (run : List Arrival) → IsRun (a ∷ run) → IsInRange a
run_range a [] r = r.0
run_range a (b ∷ run) r = r.0

pub run_rest : (a : Arrival) (run : List Arrival) → IsRun (a ∷ run) → IsRun run
run_rest a [] r = tt
run_rest a (b ∷ run) r = r.3

pub opened_numbered : (run : List Arrival) → IsRun run → IsNumbered (opened run)
opened_numbered [] r = tt
opened_numbered (a ∷ run) r = (refl, run_range a run r, opened_numbered run (run_rest a run r))

push_numbered : (s : Settings) (h : History) (a : Arrival) (v : Verdict) → v ≡ verdict s h a → IsInRange a → IsAsideRun (aside h) → IsNumbered (accepted h) → IsNumbered (taken_after (accepted h) (aside h) a v)
push_numbered s h a Accepted e i r n = (refl, i, n)
push_numbered s h a (Restart d) e i r n = let x : IsRestart s (view h a) a d = says s h a (Restart d) e in opened_numbered (joined (aside h) a) (joined_run (aside h) a r.fact i x.original)
push_numbered s h a Aside e i r n = n
push_numbered s h a Late e i r n = n
push_numbered s h a Duplicate e i r n = n
push_numbered s h a Full e i r n = n
push_numbered s h a Stray e i r n = n
push_numbered s h a Flushing e i r n = n
push_numbered s h a Ended e i r n = n

none_numbered : (b : Bool) (ps : List Taken) → IsNumbered ps → IsNumbered (if b then [] else ps)
none_numbered true ps n = tt
none_numbered false ps n = n

pub numbered : (s : Settings) (h : History) → Run s h → IsNumbered (accepted h)
numbered s [] r = tt
numbered s (Push a v n d ∷ h) r = push_numbered s h a v r.0.verdict_is r.0.in_range (aside_run s h r.1) (numbered s h r.1)
numbered s (Clock t ∷ h) r = numbered s h r.1
numbered s (FlushStart d ∷ h) r = numbered s h r.1
numbered s (FlushStop ∷ h) r = none_numbered (is_flushing h) (accepted h) (numbered s h r)
numbered s (Latency ns ∷ h) r = numbered s h r.1
numbered s (Report ntp rtp reply ∷ h) r = numbered s h r.1
numbered s (Ends p ∷ h) r = numbered s h r.1
numbered s (Turned t ∷ h) r = numbered s h r.1

-- ---- a segment that a run opens

-- the number after t with the next sequence number is t + 1
next_number : (t x y : ℕ) → 65536 ≤ t → t % 65536 ≡ y → x ≡ (y + 1) % 65536 → ext16 t x ≡ t + 1
next_number t x y le is e = grind arith

pub opened_run : (run : List Arrival) (b : Arrival) → IsRun (b ∷ run) → IsOpened run b
opened_run [] b r =
    let small : b.packet.seq < 65536 = r.0.seq in
    record {
      first = 65536 + b.packet.seq;
      number_is = omega arith;
      top_is = ap Some (omega arith);
      least_is = ap Some (omega arith);
      low_bits = omega arith;
      from = omega arith;
      to = omega arith;
      above = omega arith;
    }
opened_run (c ∷ run) b r =
    let x : IsOpened run c = opened_run run c r.3 in
    let is : ext16 (x.first + length run) b.packet.seq ≡ x.first + length run + 1 = next_number (x.first + length run) b.packet.seq c.packet.seq (omega (arith, x.from)) x.low_bits r.2 in
    let number_is : opened_number (c ∷ run) b ≡ x.first + suc (length run) = ap (λ (o : Option ℕ). number_from o b.packet.seq) x.top_is ∙ is ∙ omega arith in
    let small : b.packet.seq < 65536 = r.0.seq in
    record {
      first = x.first;
      number_is = number_is;
      top_is = ap (λ (o : Option ℕ). Some (max (number_from o b.packet.seq) (unwrap_or o 0))) x.top_is ∙ ap Some (omega (arith, is));
      least_is = ap (λ (o : Option ℕ). Some (min (opened_number (c ∷ run) b) (unwrap_or o (opened_number (c ∷ run) b)))) x.least_is ∙ ap Some (omega (arith, number_is));
      low_bits = omega (arith, x.low_bits, r.2);
      from = x.from;
      to = x.to;
      above = omega (arith, number_is, ap (λ (o : Option ℕ). unwrap_or o 0) x.top_is);
    }

-- ---- bounds

top_step : (count seq n : ℕ) (t l : Option ℕ) → seq < 65536 → n ≡ number_from t seq → AreTops count t l → AreTops (suc count) (Some (max n (unwrap_or t 0))) (Some (min n (unwrap_or l n)))
top_step count seq n None None small is h = (record { above = omega arith; below = omega arith }, omega arith, omega arith)
top_step count seq n None (Some l) small is h = absurd h
top_step count seq n (Some t) None small is h = absurd h
top_step count seq n (Some t) (Some l) small is h = (record { above = omega arith; below = omega arith }, omega arith, omega arith)

pub tops : (ps : List Taken) → IsNumbered ps → AreTops (length ps) (top ps) (least ps)
tops [] n = tt
tops (p ∷ ps) n = top_step (length ps) p.arrival.packet.seq p.number (top ps) (least ps) n.1.seq n.0 (tops ps n.2)

-- there are no more packets than pushes
length-joined : (run : List Arrival) (a : Arrival) → length (joined run a) ≤ suc (length run)
length-joined run a = split (λ (xs : List Arrival). length xs ≤ suc (length run)) (follows run a) (a ∷ run) (a ∷ []) (λ _. omega arith) (λ _. omega arith)

length_ended : (run : List Arrival) (a : Arrival) → length (ended_by run a) ≤ length run
length_ended run a = split (λ (xs : List Arrival). length xs ≤ length run) (is_original a.origin) [] run (λ _. omega arith) (λ _. omega arith)

length_after : (run : List Arrival) (a : Arrival) (v : Verdict) → length (run_after run a v) ≤ suc (length run)
length_after run a Aside = length-joined run a
length_after run a (Restart d) = omega arith
length_after run a Accepted = omega (arith, length_ended run a)
length_after run a Late = omega (arith, length_ended run a)
length_after run a Duplicate = omega (arith, length_ended run a)
length_after run a Full = omega (arith, length_ended run a)
length_after run a Stray = omega arith
length_after run a Flushing = omega arith
length_after run a Ended = omega arith

length_or_none : {A : Type 0} (b : Bool) (xs : List A) → length (if b then [] else xs) ≤ length xs
length_or_none true xs = omega arith
length_or_none false xs = omega arith

pub length-aside : (h : History) → length (aside h) ≤ pushes h
length-aside [] = omega arith
length-aside (Push a v n d ∷ h) = omega (arith, length_after (aside h) a v, length-aside h)
length-aside (Clock t ∷ h) = length-aside h
length-aside (FlushStart d ∷ h) = omega arith
length-aside (FlushStop ∷ h) = omega (arith, length_or_none (is_flushing h) (aside h), length-aside h)
length-aside (Latency ns ∷ h) = length-aside h
length-aside (Report ntp rtp reply ∷ h) = length-aside h
length-aside (Ends p ∷ h) = length-aside h
length-aside (Turned t ∷ h) = length-aside h

length-opened : (run : List Arrival) → length (opened run) ≡ length run
length-opened [] = refl
length-opened (a ∷ run) = ap suc (length-opened run)

length_taken : (ps : List Taken) (run : List Arrival) (a : Arrival) (v : Verdict) (count : ℕ) → length ps ≤ count → length run ≤ count → length (taken_after ps run a v) ≤ count + 1
length_taken ps run a Accepted count hp hr = omega arith
length_taken ps run a (Restart d) count hp hr = omega (arith, length-opened (joined run a), length-joined run a)
length_taken ps run a Aside count hp hr = omega arith
length_taken ps run a Late count hp hr = omega arith
length_taken ps run a Duplicate count hp hr = omega arith
length_taken ps run a Full count hp hr = omega arith
length_taken ps run a Stray count hp hr = omega arith
length_taken ps run a Flushing count hp hr = omega arith
length_taken ps run a Ended count hp hr = omega arith

pub length-accepted : (h : History) → length (accepted h) ≤ pushes h
length-accepted [] = omega arith
length-accepted (Push a v n d ∷ h) = length_taken (accepted h) (aside h) a v (pushes h) (length-accepted h) (length-aside h)
length-accepted (Clock t ∷ h) = length-accepted h
length-accepted (FlushStart d ∷ h) = length-accepted h
length-accepted (FlushStop ∷ h) = omega (arith, length_or_none (is_flushing h) (accepted h), length-accepted h)
length-accepted (Latency ns ∷ h) = length-accepted h
length-accepted (Report ntp rtp reply ∷ h) = length-accepted h
length-accepted (Ends p ∷ h) = length-accepted h
length-accepted (Turned t ∷ h) = length-accepted h

-- there are at most 2^31 pushes
pub pushes_most : (s : Settings) (h : History) → Run s h → pushes h ≤ 2147483648
pushes_most s [] r = omega arith
pushes_most s (Push a v n d ∷ h) r = let few : pushes h < 2147483648 = r.0.few in omega arith
pushes_most s (Clock t ∷ h) r = pushes_most s h r.1
pushes_most s (FlushStart d ∷ h) r = pushes_most s h r.1
pushes_most s (FlushStop ∷ h) r = pushes_most s h r
pushes_most s (Latency ns ∷ h) r = pushes_most s h r.1
pushes_most s (Report ntp rtp reply ∷ h) r = pushes_most s h r.1
pushes_most s (Ends p ∷ h) r = pushes_most s h r.1
pushes_most s (Turned t ∷ h) r = pushes_most s h r.1

-- the settings of a run are valid
pub valid_of : (s : Settings) (h : History) → Run s h → IsValid s
valid_of s [] r = r
valid_of s (Push a v n d ∷ h) r = valid_of s h r.1
valid_of s (Clock t ∷ h) r = valid_of s h r.1
valid_of s (FlushStart d ∷ h) r = valid_of s h r.1
valid_of s (FlushStop ∷ h) r = valid_of s h r
valid_of s (Latency ns ∷ h) r = valid_of s h r.1
valid_of s (Report ntp rtp reply ∷ h) r = valid_of s h r.1
valid_of s (Ends p ∷ h) r = valid_of s h r.1
valid_of s (Turned t ∷ h) r = valid_of s h r.1

-- the latency of a run is at most 600 seconds
pub latency_most : (s : Settings) (h : History) → Run s h → latency s h ≤ 600000000000
latency_most s [] r = r.latency_to
latency_most s (Push a v n d ∷ h) r = latency_most s h r.1
latency_most s (Clock t ∷ h) r = latency_most s h r.1
latency_most s (FlushStart d ∷ h) r = latency_most s h r.1
latency_most s (FlushStop ∷ h) r = latency_most s h r
latency_most s (Latency ns ∷ h) r = r.0
latency_most s (Report ntp rtp reply ∷ h) r = latency_most s h r.1
latency_most s (Ends p ∷ h) r = latency_most s h r.1
latency_most s (Turned t ∷ h) r = latency_most s h r.1

-- ---- no number stands twice

-- a number above the greatest is not among them
pub above_has : (ps : List Taken) (n : ℕ) → unwrap_or (top ps) 0 < n → has ps n ≡ false
above_has ps n h =
    elim (has ps n) as (λ b. (has ps n ≡ b) → has ps n ≡ false) [
      | true ↦ λ e. absurd (let le : n ≤ unwrap_or (top ps) 0 = has-le ps n e in omega arith)
      | false ↦ λ e. e
    ] refl

opened_distinct : (run : List Arrival) → IsRun run → IsDistinct (opened run)
opened_distinct [] r = tt
opened_distinct (a ∷ []) r = (refl, tt)
opened_distinct (a ∷ b ∷ run) r = (above_has (opened (b ∷ run)) (opened_number (b ∷ run) a) (opened_run (b ∷ run) a r).above, opened_distinct (b ∷ run) r.3)

push_distinct : (s : Settings) (h : History) (a : Arrival) (v : Verdict) → v ≡ verdict s h a → IsInRange a → IsAsideRun (aside h) → IsDistinct (accepted h) → IsDistinct (taken_after (accepted h) (aside h) a v)
push_distinct s h a Accepted e i r n = let x : IsAccepted s (view h a) a = says s h a Accepted e in (x.among, n)
push_distinct s h a (Restart d) e i r n = let x : IsRestart s (view h a) a d = says s h a (Restart d) e in opened_distinct (joined (aside h) a) (joined_run (aside h) a r.fact i x.original)
push_distinct s h a Aside e i r n = n
push_distinct s h a Late e i r n = n
push_distinct s h a Duplicate e i r n = n
push_distinct s h a Full e i r n = n
push_distinct s h a Stray e i r n = n
push_distinct s h a Flushing e i r n = n
push_distinct s h a Ended e i r n = n

none_distinct : (b : Bool) (ps : List Taken) → IsDistinct ps → IsDistinct (if b then [] else ps)
none_distinct true ps n = tt
none_distinct false ps n = n

-- no number stands twice among the accepted packets of a run
pub distinct : (s : Settings) (h : History) → Run s h → IsDistinct (accepted h)
distinct s [] r = tt
distinct s (Push a v n d ∷ h) r = push_distinct s h a v r.0.verdict_is r.0.in_range (aside_run s h r.1) (distinct s h r.1)
distinct s (Clock t ∷ h) r = distinct s h r.1
distinct s (FlushStart d ∷ h) r = distinct s h r.1
distinct s (FlushStop ∷ h) r = none_distinct (is_flushing h) (accepted h) (distinct s h r)
distinct s (Latency ns ∷ h) r = distinct s h r.1
distinct s (Report ntp rtp reply ∷ h) r = distinct s h r.1
distinct s (Ends p ∷ h) r = distinct s h r.1
distinct s (Turned t ∷ h) r = distinct s h r.1

-- The accepted packets of a run lie in a window of 8192 numbers from the lowest that is still to be given out, and the next number is at most one past the greatest.
use Rattle.std.proofs.Common.{ℕ, ◌≡◌, ◌+◌, ◌≤◌, ◌<◌, Bool, true, false, ◌||◌, ◌&&◌, not, refl, sym, subst, ◌∙◌, List, [], ◌∷◌, length, Option, None, Some, arith, max, min}
use Rattle.std.specs.Prelude.{unwrap_or, is_some, if◌then◌else◌}
use Rattle.std.proofs.lemmas.Grind.{common_steps}
use Rattle.jitter_model.specs.declared.Settings.{Settings}
use Rattle.jitter_model.specs.declared.Arrival.{Arrival}
use Rattle.jitter_model.specs.declared.Turn.{Turn}
use Rattle.jitter_model.specs.declared.Turn.TheVariants.{Packet, Lost, Request, End, Idle, Flushing as Flushes}
use Rattle.jitter_model.specs.declared.Verdict.{Verdict}
use Rattle.jitter_model.specs.declared.Verdict.TheVariants.{Accepted, Aside, Restart, Late, Duplicate, Full, Stray, Flushing, Ended}
use Rattle.jitter_model.specs.declared.Entry.TheVariants.{Push, Clock, FlushStart, FlushStop, Latency, Report, Ends, Turned}
use Rattle.jitter_model.specs.History.{History, latency, is_flushing}
use Rattle.jitter_model.specs.Accepted.{Taken, top, least, has, joined, opened, aside, taken_after, accepted}
use Rattle.jitter_model.specs.Covered.{opens, next, next_after, gives, is_out}
use Rattle.jitter_model.specs.Verdicts.{is_full, is_late, number_of, verdict, view}
use Rattle.jitter_model.specs.Requests.{later}
use Rattle.jitter_model.specs.Times.{first_pts}
use Rattle.jitter_model.specs.Turns.{Sight, may_start, start_time, sight}
use Rattle.jitter_model.specs.Runs.{IsInRange, Run}
use Rattle.jitter_model.specs.Laws.{IsWindow, IsRun, IsAsideRun}
use Rattle.jitter_model.proofs.Chain.{has-le}
use Rattle.jitter_model.proofs.Covers.{covers}
use Rattle.jitter_model.proofs.Judged.{says}
use Rattle.jitter_model.proofs.Numbered.{aside_run, joined_run, joined_five, joined_follows, opened_run}
use Rattle.jitter_model.specs.Said.{Covers, IsAccepted, IsRestart}
use Rattle.jitter_model.specs.Numbered.{InWindow, IsOpened}

accepted_window : (t l o : Option ℕ) (n : ℕ) → is_full t l o n ≡ false → is_late o n ≡ false → InWindow t l o → InWindow (Some (max n (unwrap_or t 0))) (Some (min n (unwrap_or l n))) o
accepted_window None None None n f late h = record { fact = (omega arith, omega arith) }
accepted_window None (Some l) None n f late h = absurd h.fact
accepted_window None None (Some x) n f late h = absurd h.fact
accepted_window None (Some l) (Some x) n f late h = absurd h.fact
accepted_window (Some t) None None n f late h = absurd h.fact
accepted_window (Some t) None (Some x) n f late h = absurd h.fact
accepted_window (Some t) (Some l) None n f late h = let w : t < l + 8192 = h.fact.0 in record { fact = (grind (arith, common_steps), omega arith) }
accepted_window (Some t) (Some l) (Some x) n f late h = let w : t < x + 8192 = h.fact.0 in let v : x ≤ t + 1 = h.fact.1 in let u : l < x = h.fact.2 in record { fact = (grind (arith, common_steps), omega arith, omega arith, omega arith) }

opened_window : (run : List Arrival) (a : Arrival) → IsOpened run a → length run ≤ 4 → InWindow (top (opened (a ∷ run))) (least (opened (a ∷ run))) None
opened_window run a x few =
    let window : InWindow (Some (x.first + length run)) (Some x.first) None = record { fact = (omega arith, omega arith) } in
    let with_top : InWindow (top (opened (a ∷ run))) (Some x.first) None = subst (λ (t : Option ℕ). InWindow t (Some x.first) None) (sym x.top_is) window in
    subst (λ (l : Option ℕ). InWindow (top (opened (a ∷ run))) l None) (sym x.least_is) with_top

restart_window : (s : Settings) (h : History) (a : Arrival) (d : ℕ) → IsRestart s (view h a) a d → IsInRange a → IsAsideRun (aside h) → InWindow (top (opened (joined (aside h) a))) (least (opened (joined (aside h) a))) None
restart_window s h a d x i r =
    let follows_it : joined (aside h) a ≡ a ∷ aside h = joined_follows (aside h) a (joined_five (aside h) a x.run) in
    subst (λ (run : List Arrival). InWindow (top (opened run)) (least (opened run)) None) (sym follows_it)
    (opened_window (aside h) a (opened_run (aside h) a (subst IsRun follows_it (joined_run (aside h) a r.fact i x.original))) r.few)

push_window : (s : Settings) (h : History) (a : Arrival) (v : Verdict) → v ≡ verdict s h a → IsInRange a → IsAsideRun (aside h) → InWindow (top (accepted h)) (least (accepted h)) (next h) → InWindow (top (taken_after (accepted h) (aside h) a v)) (least (taken_after (accepted h) (aside h) a v)) (if opens v then None else next h)
push_window s h a Accepted e i r w = let x : IsAccepted s (view h a) a = says s h a Accepted e in accepted_window (top (accepted h)) (least (accepted h)) (next h) (number_of h a) x.full x.late w
push_window s h a (Restart d) e i r w = restart_window s h a d (says s h a (Restart d) e) i r
push_window s h a Aside e i r w = w
push_window s h a Late e i r w = w
push_window s h a Duplicate e i r w = w
push_window s h a Full e i r w = w
push_window s h a Stray e i r w = w
push_window s h a Flushing e i r w = w
push_window s h a Ended e i r w = w

none_window : (b : Bool) (ps : List Taken) (o : Option ℕ) → InWindow (top ps) (least ps) o → InWindow (top (if b then [] else ps)) (least (if b then [] else ps)) (if b then None else o)
none_window true ps o w = record { fact = tt }
none_window false ps o w = w

-- a segment may start only with a packet
later_some : (delay : ℕ) (o : Option ℕ) → is_some (later delay o) ≡ is_some o
later_some delay None = refl
later_some delay (Some t) = refl

first_some : (s : Settings) (ps : List Taken) → is_some (first_pts s ps) ≡ is_some (top ps)
first_some s [] = refl
first_some s (p ∷ []) = refl
first_some s (p ∷ q ∷ ps) = first_some s (q ∷ ps)

pub start_some : (s : Settings) (time : ℕ) (ps : List Taken) → is_some (start_time s time ps) ≡ is_some (top ps)
start_some s time ps = later_some time (first_pts s ps) ∙ first_some s ps

pub start_needs : (v : Sight) (o : Option ℕ) → may_start v o ≡ true → is_some o ≡ true
start_needs v None e = e
start_needs v (Some t) e = refl

has_top : (ps : List Taken) (n : ℕ) → has ps n ≡ true → is_some (top ps) ≡ true
has_top [] n e = e
has_top (p ∷ ps) n e = refl

no_next : (l : Option ℕ) (k : ℕ) → InWindow None l (Some k) → ⊥
no_next None k w = w.fact
no_next (Some l) k w = w.fact

no_least : (t : ℕ) (o : Option ℕ) → InWindow (Some t) None o → ⊥
no_least t None w = w.fact
no_least t (Some k) w = w.fact

turned_window : (v : Sight) (t l o : Option ℕ) (r : Turn) → v.top ≡ unwrap_or t 0 → v.least ≡ unwrap_or l 0 → (may_start v v.start ≡ true → is_some t ≡ true) → ((n : ℕ) → v.among n ≡ true → n ≤ unwrap_or t 0) → Covers v o r → InWindow t l o → InWindow t l (next_after o r)
turned_window v None None None (Packet m pts p) et el some below c w = absurd (let e : is_some {T = ℕ} None ≡ true = some c.1 in cc)
turned_window v (Some t) (Some l) None (Packet m pts p) et el some below c w = let m_is : m ≡ l = c.0 ∙ el in record { fact = (omega (arith, w.fact), omega (arith, w.fact), omega arith, w.fact.1) }
turned_window v (Some t) (Some l) (Some k) (Packet m pts p) et el some below c w = let le : k ≤ t = below k c.1 in record { fact = (omega (arith, w.fact, c.0), omega (arith, c.0), omega (arith, w.fact, c.0), w.fact.3) }
turned_window v (Some t) (Some l) (Some k) (Lost n count pts d) et el some below c w = record { fact = (omega (arith, w.fact, c.0, c.2), omega (arith, c.0, c.1, et), omega (arith, w.fact, c.0), w.fact.3) }
turned_window v t l None (Lost n count pts d) et el some below c w = absurd c
turned_window v None l (Some k) r et el some below c w = absurd (no_next l k w)
turned_window v (Some t) None o r et el some below c w = absurd (no_least t o w)
turned_window v None (Some l) None (Packet m pts p) et el some below c w = absurd w.fact
turned_window v t l o (Request n k) et el some below c w = w
turned_window v t l o End et el some below c w = w
turned_window v t l o (Idle wake) et el some below c w = w
turned_window v t l o Flushes et el some below c w = w

pub window : (s : Settings) (h : History) → Run s h → InWindow (top (accepted h)) (least (accepted h)) (next h)
window s [] r = record { fact = tt }
window s (Push a v n d ∷ h) r = push_window s h a v r.0.verdict_is r.0.in_range (aside_run s h r.1) (window s h r.1)
window s (Clock t ∷ h) r = window s h r.1
window s (FlushStart d ∷ h) r = window s h r.1
window s (FlushStop ∷ h) r = none_window (is_flushing h) (accepted h) (next h) (window s h r)
window s (Latency ns ∷ h) r = window s h r.1
window s (Report ntp rtp reply ∷ h) r = window s h r.1
window s (Ends p ∷ h) r = window s h r.1
window s (Turned t ∷ h) r =
    turned_window (sight s h) (top (accepted h)) (least (accepted h)) (next h) t refl refl
    (λ e. sym (start_some s (latency s h) (accepted h)) ∙ start_needs (sight s h) (start_time s (latency s h) (accepted h)) e)
    (has-le (accepted h)) (covers s h t r.0).fact (window s h r.1)

-- ---- a number that isn't late was not given out

turn_out : (v : Sight) (o : Option ℕ) (r : Turn) (n : ℕ) (out : Bool) → Covers v o r → (out ≡ true → is_late o n ≡ true) → (gives r n || out) ≡ true → is_late (next_after o r) n ≡ true
turn_out v None (Packet m pts p) n out c h e = grind (arith, common_steps)
turn_out v (Some k) (Packet m pts p) n out c h e = let is : m ≡ k = c.0 in grind (arith, common_steps)
turn_out v None (Lost m count pts d) n out c h e = absurd c
turn_out v (Some k) (Lost m count pts d) n out c h e = let is : m ≡ k = c.0 in grind (arith, common_steps)
turn_out v o (Request m k) n out c h e = h e
turn_out v o End n out c h e = h e
turn_out v o (Idle wake) n out c h e = h e
turn_out v o Flushes n out c h e = h e

anew_out : (b : Bool) (o : Option ℕ) (n : ℕ) (out : Bool) → (out ≡ true → is_late o n ≡ true) → (not b && out) ≡ true → is_late (if b then None else o) n ≡ true
anew_out true o n out h e = cc
anew_out false o n out h e = h e

pub out_late : (s : Settings) (h : History) (n : ℕ) → Run s h → is_out h n ≡ true → is_late (next h) n ≡ true
out_late s [] n r e = cc
out_late s (Push a v m d ∷ h) n r e = anew_out (opens v) (next h) n (is_out h n) (out_late s h n r.1) e
out_late s (Clock t ∷ h) n r e = out_late s h n r.1 e
out_late s (FlushStart d ∷ h) n r e = out_late s h n r.1 e
out_late s (FlushStop ∷ h) n r e = anew_out (is_flushing h) (next h) n (is_out h n) (out_late s h n r) e
out_late s (Latency ns ∷ h) n r e = out_late s h n r.1 e
out_late s (Report ntp rtp reply ∷ h) n r e = out_late s h n r.1 e
out_late s (Ends p ∷ h) n r e = out_late s h n r.1 e
out_late s (Turned t ∷ h) n r e = turn_out (sight s h) (next h) t n (is_out h n) (covers s h t r.0).fact (out_late s h n r.1) e

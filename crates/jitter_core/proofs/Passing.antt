-- The calls beside pushes and turns keep what a state stands for.
use Rattle.std.proofs.Common.{length-set, get_or-set_same, get_or-set_other, ℕ, zero, suc, ◌≡◌, ◌≢◌, ◌+◌, ◌<◌, ◌≤◌, ◌^◌, Bool, true, false, ◌||◌, ◌&&◌, not, refl, sym, ap, subst, ◌∙◌, List, [], ◌∷◌, Option, None, arith, max, length}
use Rattle.std.specs.Prelude.{◌==◌, ◌/◌, ◌%◌, nat_lt, slice_index_or, slice_set, if◌then◌else◌}
use Rattle.std.proofs.lemmas.Grind.{common_steps}
use Rattle.std.proofs.Math.Nat.{pow-le-pow_right, div-eq_of_lt}
use Rattle.rtp_units.specs.declared.SyncInfo.{SyncInfo}
use Rattle.jitter_model.specs.declared.Settings.{Settings}
use Rattle.jitter_model.specs.declared.Entry.TheVariants.{Clock, FlushStart, FlushStop, Latency, Report, Ends}
use Rattle.jitter_model.specs.History.{History, latency, is_flushing, is_pusher, all_below, all_ended, pusher_count}
use Rattle.jitter_model.specs.Accepted.{accepted, aside}
use Rattle.jitter_model.specs.Covered.{held_count, count_in, is_out}
use Rattle.jitter_model.specs.Times.{estimate_of}
use Rattle.jitter_model.specs.Runs.{Run, report_at, report, flush_count}
use Rattle.jitter_core.specs.declared.state.Progress.{Progress}
use Rattle.jitter_core.specs.declared.state.State.{State}
use Rattle.jitter_core.specs.Calls.{passed, ended, delayed, resumed, Flushes, state_flush_count, Reports}
use Rattle.jitter_core.specs.Stands.{live, live_out, live_aside, Order, StandsFor}
use Rattle.jitter_core.specs.Turning.{have_ended}
use Rattle.jitter_core.proofs.Asides.{length_in_order}

pub passed_keeps : (s : State) (h : History) (t : ℕ) → t < 2 ^ 63 + 2 ^ 50 → StandsFor s h → StandsFor (passed s t) (Clock t ∷ h)
passed_keeps s h t small st =
    record {
      run = (small, st.run);
      order = record {
        pushes_are = st.order.pushes_are;
        time_is = ap (max t) st.order.time_is;
        latency_is = st.order.latency_is;
        flushing_is = st.order.flushing_is;
        ended_long = st.order.ended_long;
        ended_are = st.order.ended_are;
        told_is = st.order.told_is;
        placed = record { next_is = st.order.placed.next_is; top_is = st.order.placed.top_is; least_is = st.order.placed.least_is; held_are = st.order.placed.held_are; count_is = st.order.placed.count_is };
        aside_is = st.order.aside_is;
      };
      skew = record { clocked = record { rate_is = st.skew.clocked.rate_is; mode_is = st.skew.clocked.mode_is; stands = st.skew.clocked.stands } };
      times = record { marked = record { first_is = st.times.marked.first_is; marks_are = st.times.marked.marks_are } };
      requests = record { requested = record { peaks_are = st.requests.requested.peaks_are; places = st.requests.requested.places; served_are = st.requests.requested.served_are } };
    }

pub delayed_keeps : (s : State) (h : History) (ns : ℕ) → ns ≤ 600000000000 → StandsFor s h → StandsFor (delayed s ns) (Latency ns ∷ h)
delayed_keeps s h ns small st =
    record {
      run = (small, st.run);
      order = record {
        pushes_are = st.order.pushes_are;
        time_is = st.order.time_is;
        latency_is = refl;
        flushing_is = st.order.flushing_is;
        ended_long = st.order.ended_long;
        ended_are = st.order.ended_are;
        told_is = st.order.told_is;
        placed = record { next_is = st.order.placed.next_is; top_is = st.order.placed.top_is; least_is = st.order.placed.least_is; held_are = st.order.placed.held_are; count_is = st.order.placed.count_is };
        aside_is = st.order.aside_is;
      };
      skew = record { clocked = record { rate_is = st.skew.clocked.rate_is; mode_is = st.skew.clocked.mode_is; stands = st.skew.clocked.stands } };
      times = record { marked = record { first_is = st.times.marked.first_is; marks_are = st.times.marked.marks_are } };
      requests = record { requested = record { peaks_are = st.requests.requested.peaks_are; places = st.requests.requested.places; served_are = st.requests.requested.served_are } };
    }

-- ---- the end of a pusher

set_is : (xs : List Bool) (p q : ℕ) → p < length xs → slice_index_or (slice_set xs p true) q false ≡ (q == p || slice_index_or xs q false)
set_is xs p q lt =
    elim (q == p) as (λ b. (q == p) ≡ b → slice_index_or (slice_set xs p true) q false ≡ (b || slice_index_or xs q false)) [
      | true ↦ λ e. let is : q ≡ p = grind (arith, common_steps) in subst (λ (k : ℕ). slice_index_or (slice_set xs p true) k false ≡ true) (sym is) (get_or-set_same xs p true false lt)
      | false ↦ λ e. let other : q ≢ p = grind (arith, common_steps) in rw get_or-set_other refl
    ] refl

length_set : (xs : List Bool) (p : ℕ) → length (slice_set xs p true) ≡ length xs
length_set xs p = simp length-set

pub ended_keeps : (s : State) (h : History) (pusher : ℕ) → pusher < 9 → is_pusher s.settings.pushers pusher ≡ true → StandsFor s h → StandsFor (ended s pusher) (Ends pusher ∷ h)
ended_keeps s h pusher small is st =
    record {
      run = (is, st.run);
      order = record {
        pushes_are = st.order.pushes_are;
        time_is = st.order.time_is;
        latency_is = st.order.latency_is;
        flushing_is = st.order.flushing_is;
        ended_long = length_set s.progress.ended pusher ∙ st.order.ended_long;
        ended_are = λ p. set_is s.progress.ended pusher p (omega (arith, st.order.ended_long)) ∙ ap (λ (b : Bool). p == pusher || b) (st.order.ended_are p);
        told_is = st.order.told_is;
        placed = record { next_is = st.order.placed.next_is; top_is = st.order.placed.top_is; least_is = st.order.placed.least_is; held_are = st.order.placed.held_are; count_is = st.order.placed.count_is };
        aside_is = st.order.aside_is;
      };
      skew = record { clocked = record { rate_is = st.skew.clocked.rate_is; mode_is = st.skew.clocked.mode_is; stands = st.skew.clocked.stands } };
      times = record { marked = record { first_is = st.times.marked.first_is; marks_are = st.times.marked.marks_are } };
      requests = record { requested = record { peaks_are = st.requests.requested.peaks_are; places = st.requests.requested.places; served_are = st.requests.requested.served_are } };
    }

below_same : (P Q : ℕ → Bool) (n : ℕ) → ((p : ℕ) → P p ≡ Q p) → all_below P n ≡ all_below Q n
below_same P Q zero same = refl
below_same P Q (suc n) same = ap (λ (b : Bool). b && P n) (below_same P Q n same) ∙ ap (λ (b : Bool). all_below Q n && b) (same n)

pub all_ended_is : (s : State) (h : History) → Order s h → have_ended s.settings.pushers s.progress.ended ≡ all_ended s.settings h
all_ended_is s h o = below_same _ _ pusher_count (λ p. ap (λ (b : Bool). not (is_pusher s.settings.pushers p) || b) (o.ended_are p))

-- a pusher of a set of nine bits
no_bit : (pushers p : ℕ) → pushers < 512 → 9 ≤ p → is_pusher pushers p ≡ true → ⊥
no_bit pushers p few le is =
    let great : 512 ≤ 2 ^ p = pow-le-pow_right {n = 2} (omega arith) le in
    let none : pushers / 2 ^ p ≡ 0 = div-eq_of_lt (omega arith) in
    let bad : (0 % 2 == 1) ≡ true = rw none at is in
    cc

pub pusher_small : (pushers p : ℕ) → pushers < 512 → is_pusher pushers p ≡ true → p < 9
pusher_small pushers p few is =
    elim (nat_lt p 9) as (λ b. nat_lt p 9 ≡ b → p < 9) [
      | true ↦ λ e. grind (arith, common_steps)
      | false ↦ λ e. absurd (no_bit pushers p few (let le : 9 ≤ p = grind (arith, common_steps) in le) is)
    ] refl

-- ---- flushes

count_held : (h : History) → count_in (live_out h) (live h) ≡ held_count h
count_held h =
    elim (is_flushing h) as (λ b. count_in (λ n. not b && is_out h n) (if b then [] else accepted h) ≡ (if b then 0 else count_in (is_out h) (accepted h))) [
      | true ↦ refl
      | false ↦ refl
    ]

aside_length : (s : State) (h : History) → Order s h → length s.aside ≡ length (live_aside h)
aside_length s h o = ap (λ (xs : List _). length xs) o.aside_is ∙ length_in_order (live_aside h)

same_aside : (h : History) → (if is_flushing h then 0 else held_count h + length (live_aside h)) ≡ flush_count h
same_aside h =
    elim (is_flushing h) as (λ b. (if b then 0 else (if b then 0 else count_in (is_out h) (accepted h)) + length (if b then [] else aside h)) ≡ (if b then 0 else (if b then 0 else count_in (is_out h) (accepted h)) + length (aside h))) [
      | true ↦ refl
      | false ↦ refl
    ]

pub flush_count_is : (s : State) (h : History) → Order s h → state_flush_count s ≡ flush_count h
flush_count_is s h o =
    ap (λ (b : Bool). if b then 0 else s.span.held + length s.aside) o.flushing_is
    ∙ ap (λ (n : ℕ). if is_flushing h then 0 else n + length s.aside) (o.placed.count_is ∙ count_held h)
    ∙ ap (λ (n : ℕ). if is_flushing h then 0 else held_count h + n) (aside_length s h o)
    ∙ same_aside h

pub flushed_keeps : (old new : State) (h : History) (dropped : ℕ) → StandsFor old h → dropped ≡ state_flush_count old → Flushes old new → StandsFor new (FlushStart dropped ∷ h)
flushed_keeps old new h dropped st is f =
    record {
      run = subst (λ (x : Settings). Run x (FlushStart dropped ∷ h)) (sym f.settings) (is ∙ flush_count_is old h st.order, st.run);
      order = record {
        pushes_are = rw f.progress st.order.pushes_are;
        time_is = rw f.progress st.order.time_is;
        latency_is = ap (λ (x : Progress). x.latency) f.progress ∙ st.order.latency_is ∙ ap (λ (x : Settings). latency x h) (sym f.settings);
        flushing_is = rw f.progress refl;
        ended_long = rw f.progress st.order.ended_long;
        ended_are = λ q. rw f.progress (st.order.ended_are q);
        told_is = rw f.progress st.order.told_is;
        placed = f.segment.placed;
        aside_is = f.aside;
      };
      skew = record { clocked = f.segment.clocked };
      times = record { marked = f.segment.marked };
      requests = record { requested = f.segment.requested };
    }

pub resumed_keeps : (s : State) (h : History) → StandsFor s h → StandsFor (resumed s) (FlushStop ∷ h)
resumed_keeps s h st =
    record {
      run = st.run;
      order = record {
        pushes_are = st.order.pushes_are;
        time_is = st.order.time_is;
        latency_is = st.order.latency_is;
        flushing_is = refl;
        ended_long = st.order.ended_long;
        ended_are = st.order.ended_are;
        told_is = st.order.told_is;
        placed = record { next_is = st.order.placed.next_is; top_is = st.order.placed.top_is; least_is = st.order.placed.least_is; held_are = st.order.placed.held_are; count_is = st.order.placed.count_is };
        aside_is = st.order.aside_is;
      };
      skew = record { clocked = record { rate_is = st.skew.clocked.rate_is; mode_is = st.skew.clocked.mode_is; stands = st.skew.clocked.stands } };
      times = record { marked = record { first_is = st.times.marked.first_is; marks_are = st.times.marked.marks_are } };
      requests = record { requested = record { peaks_are = st.requests.requested.peaks_are; places = st.requests.requested.places; served_are = st.requests.requested.served_are } };
    }

-- ---- reports

pub report_is : (s : State) (h : History) (ntp_ns rtp : ℕ) (reply : Option SyncInfo) → StandsFor s h → Reports s ntp_ns rtp reply → reply ≡ report s.settings h ntp_ns rtp
report_is s h ntp_ns rtp reply st r =
    r (live h) st.order.placed.top_is st.skew.clocked
    ∙ elim (is_flushing h) as (λ b. report_at s.settings.rate ntp_ns rtp (estimate_of s.settings (if b then [] else accepted h)) ≡ (if b then None else report_at s.settings.rate ntp_ns rtp (estimate_of s.settings (accepted h)))) [
      | true ↦ refl
      | false ↦ refl
    ]

pub reported_keeps : (s : State) (h : History) (ntp_ns rtp : ℕ) (reply : Option SyncInfo) → StandsFor s h → ntp_ns < 2 ^ 64 → rtp < 2 ^ 32 → Reports s ntp_ns rtp reply → StandsFor s (Report ntp_ns rtp reply ∷ h)
reported_keeps s h ntp_ns rtp reply st a b r =
    record {
      run = (record { ntp_ns_range = a; rtp_range = b; reply_is = report_is s h ntp_ns rtp reply st r }, st.run);
      order = record {
        pushes_are = st.order.pushes_are;
        time_is = st.order.time_is;
        latency_is = st.order.latency_is;
        flushing_is = st.order.flushing_is;
        ended_long = st.order.ended_long;
        ended_are = st.order.ended_are;
        told_is = st.order.told_is;
        placed = st.order.placed;
        aside_is = st.order.aside_is;
      };
      skew = record { clocked = st.skew.clocked };
      times = record { marked = st.times.marked };
      requests = record { requested = st.requests.requested };
    }

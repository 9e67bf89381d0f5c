-- A push keeps what a state stands for, with the push added.
use Rattle.std.proofs.Common.{ℕ, ◌≡◌, ◌+◌, ◌<◌, Bool, true, false, ◌&&◌, not, refl, sym, ap, subst, ◌∙◌, List, [], ◌∷◌, Option, None, max}
use Rattle.std.specs.Prelude.{if◌then◌else◌}
use Rattle.jitter_model.specs.declared.Settings.{Settings}
use Rattle.jitter_model.specs.declared.Arrival.{Arrival}
use Rattle.jitter_model.specs.declared.Packet.{Packet}
use Rattle.jitter_model.specs.declared.Pushed.{Pushed}
use Rattle.jitter_model.specs.declared.Verdict.{Verdict}
use Rattle.jitter_model.specs.declared.Verdict.TheVariants.{Accepted, Aside, Restart, Late, Duplicate, Full, Stray, Flushing, Ended}
use Rattle.jitter_model.specs.declared.Entry.TheVariants.{Push}
use Rattle.jitter_model.specs.History.{History, is_flushing, is_pusher}
use Rattle.jitter_model.specs.Accepted.{Taken, joined, opened, run_after, aside, accepted, taken_after, with_taken}
use Rattle.jitter_model.specs.Covered.{next, is_out, opens, served}
use Rattle.jitter_model.specs.Verdicts.{view, verdict, number_of, opened_number, told_number, reply_number, aside_dropped, back_of, pushed}
use Rattle.jitter_model.specs.Runs.{Run, IsPush, IsInRange}
use Rattle.jitter_core.specs.declared.state.State.{State}
use Rattle.jitter_core.specs.Asides.{in_order}
use Rattle.jitter_core.specs.Parts.{Placed, Clocked, Marked, Requested}
use Rattle.jitter_core.specs.Steps.{Accepts, LeavesSegment, run_of, state_number}
use Rattle.jitter_core.specs.Pushing.{IsOpenedBy, SegmentAfter, PushStep}
use Rattle.jitter_core.specs.Stands.{live, live_next, live_out, live_served, live_aside, Order, StandsFor}
use Rattle.jitter_core.proofs.Accepting.{placed_accept, clocked_accept, marked_accept, requested_accept}
use Rattle.jitter_core.proofs.Asides.{run_is}
use Rattle.jitter_core.proofs.Judging.{placed_now, clocked_now, marked_now, requested_now, run_now, number_now, not_out, verdict_is}
use Rattle.jitter_model.specs.Said.{IsAccepted, IsAside, IsRestart}
use Rattle.jitter_core.proofs.Cases.{joined_five, joined_follows}
use Rattle.jitter_model.specs.Known.{RunsAreBounded}
use Rattle.jitter_model.specs.Known.{RepliesTell}
use Rattle.jitter_model.specs.Known.{NumbersLieBetween}

-- the parts of a segment
pub record HasSegment (s : State) (ps : List Taken) (o : Option ℕ) (out : ℕ → Bool) (served : ℕ → ℕ) : Type 0 where
  pub placed : Placed s ps o out
  pub clocked : Clocked s ps
  pub marked : Marked s ps o
  pub requested : Requested s ps o served

-- a call that leaves the segment keeps its parts
pub leaves : (old new : State) (ps : List Taken) (o : Option ℕ) (out : ℕ → Bool) (served : ℕ → ℕ) → new.settings ≡ old.settings → LeavesSegment old new → HasSegment old ps o out served → HasSegment new ps o out served
leaves old new ps o out served same l g =
    let p = g.placed in
    let c = g.clocked in
    let m = g.marked in
    record {
      placed = record { next_is = rw l.span p.next_is; top_is = rw l.span p.top_is; least_is = rw l.span p.least_is; held_are = λ q. rw (l.held, same) (p.held_are q); count_is = rw l.span p.count_is };
      clocked = record { rate_is = rw (l.skew, same) c.rate_is; mode_is = rw (l.skew, same) c.mode_is; stands = rw l.skew c.stands };
      marked = record { first_is = rw (l.span, same) m.first_is; marks_are = rw (l.heights, same) m.marks_are };
      requested = record { peaks_are = rw l.peaks g.requested.peaks_are; places = rw l.served g.requested.places; served_are = λ q e. rw l.served (g.requested.served_are q e) };
    }

pub opens_segment : (new : State) (run : List Arrival) → IsOpenedBy new run → HasSegment new (opened run) None (λ q. false) (λ q. 0)
opens_segment new run o = record { placed = o.placed; clocked = o.clocked; marked = o.marked; requested = o.requested }

-- the segment of a state
pub segment_of : (s : State) (h : History) → StandsFor s h → HasSegment s (live h) (live_next h) (live_out h) (live_served h)
segment_of s h st = record { placed = st.order.placed; clocked = st.skew.clocked; marked = st.times.marked; requested = st.requests.requested }

pub segment_now : (s : State) (h : History) → is_flushing h ≡ false → StandsFor s h → HasSegment s (accepted h) (next h) (is_out h) (served h)
segment_now s h e st =
    record { placed = placed_now s h e st.order.placed; clocked = clocked_now s h e st.skew.clocked; marked = marked_now s h e st.times.marked; requested = requested_now s h e st.requests.requested }

-- the push that is added
abbrev entry : Arrival → Pushed → History → History
entry a p h = Push a p.verdict p.number p.aside_dropped ∷ h

-- whatever the verdict, it is enough that the segment and the packets put aside are right
assemble : (old new : State) (h : History) (a : Arrival) (p : Pushed) → StandsFor old h → PushStep old new a p → IsPush old.settings h a p.verdict p.number p.aside_dropped
    → HasSegment new (live (entry a p h)) (live_next (entry a p h)) (live_out (entry a p h)) (live_served (entry a p h)) → new.aside ≡ in_order (live_aside (entry a p h)) → StandsFor new (entry a p h)
assemble old new h a p st r is g aside_is =
    record {
      run = subst (λ (x : Settings). Run x (entry a p h)) (sym r.settings) (is, st.run);
      order = record {
        pushes_are = rw r.progress (ap (λ (k : ℕ). k + 1) st.order.pushes_are);
        time_is = rw r.progress (ap (λ (k : ℕ). max a.stamp k) st.order.time_is);
        latency_is = rw (r.progress, r.settings) st.order.latency_is;
        flushing_is = rw r.progress st.order.flushing_is;
        ended_long = rw r.progress st.order.ended_long;
        ended_are = λ q. rw r.progress (st.order.ended_are q);
        told_is = rw r.progress st.order.told_is;
        placed = g.placed;
        aside_is = aside_is;
      };
      skew = record { clocked = g.clocked };
      times = record { marked = g.marked };
      requests = record { requested = g.requested };
    }

-- ---- while a flush runs

flushing_leaves : RepliesTell → (old new : State) (h : History) (a : Arrival) (v : Verdict) → v ≡ verdict old.settings h a → is_flushing h ≡ true → SegmentAfter old a v new → LeavesSegment old new
flushing_leaves replies old new h a Accepted e f s = let x : IsAccepted old.settings (view h a) a = replies.verdicts old.settings h a Accepted e in absurd (let bad : is_flushing h ≡ false = x.flushing in cc)
flushing_leaves replies old new h a (Restart d) e f s = let x : IsRestart old.settings (view h a) a d = replies.verdicts old.settings h a (Restart d) e in absurd (let bad : is_flushing h ≡ false = x.flushing in cc)
flushing_leaves replies old new h a Aside e f s = s
flushing_leaves replies old new h a Late e f s = s
flushing_leaves replies old new h a Duplicate e f s = s
flushing_leaves replies old new h a Full e f s = s
flushing_leaves replies old new h a Stray e f s = s
flushing_leaves replies old new h a Flushing e f s = s
flushing_leaves replies old new h a Ended e f s = s

flushing_aside : RepliesTell → (old : State) (h : History) (a : Arrival) (v : Verdict) → v ≡ verdict old.settings h a → is_flushing h ≡ true → run_of old ≡ [] → run_after (run_of old) a v ≡ []
flushing_aside replies old h a Aside e f r = let x : IsAside old.settings (view h a) a = replies.verdicts old.settings h a Aside e in absurd (let bad : is_flushing h ≡ false = x.flushing in cc)
flushing_aside replies old h a Accepted e f r = let x : IsAccepted old.settings (view h a) a = replies.verdicts old.settings h a Accepted e in absurd (let bad : is_flushing h ≡ false = x.flushing in cc)
flushing_aside replies old h a (Restart d) e f r = refl
flushing_aside replies old h a Late e f r = let x = replies.verdicts old.settings h a Late e in absurd (let bad : is_flushing h ≡ false = x.0.flushing in cc)
flushing_aside replies old h a Duplicate e f r = let x = replies.verdicts old.settings h a Duplicate e in absurd (let bad : is_flushing h ≡ false = x.0.flushing in cc)
flushing_aside replies old h a Full e f r = let x = replies.verdicts old.settings h a Full e in absurd (let bad : is_flushing h ≡ false = x.0.flushing in cc)
flushing_aside replies old h a Stray e f r = r
flushing_aside replies old h a Flushing e f r = r
flushing_aside replies old h a Ended e f r = r

flushing_told : RepliesTell → (s : Settings) (h : History) (a : Arrival) (v : Verdict) (n m i j : ℕ) → v ≡ verdict s h a → is_flushing h ≡ true → told_number v n i ≡ told_number v m j
flushing_told replies s h a Aside n m i j e f = let x : IsAside s (view h a) a = replies.verdicts s h a Aside e in absurd (let bad : is_flushing h ≡ false = x.flushing in cc)
flushing_told replies s h a Accepted n m i j e f = let x : IsAccepted s (view h a) a = replies.verdicts s h a Accepted e in absurd (let bad : is_flushing h ≡ false = x.flushing in cc)
flushing_told replies s h a (Restart d) n m i j e f = let x : IsRestart s (view h a) a d = replies.verdicts s h a (Restart d) e in absurd (let bad : is_flushing h ≡ false = x.flushing in cc)
flushing_told replies s h a Late n m i j e f = let x = replies.verdicts s h a Late e in absurd (let bad : is_flushing h ≡ false = x.0.flushing in cc)
flushing_told replies s h a Duplicate n m i j e f = let x = replies.verdicts s h a Duplicate e in absurd (let bad : is_flushing h ≡ false = x.0.flushing in cc)
flushing_told replies s h a Full n m i j e f = let x = replies.verdicts s h a Full e in absurd (let bad : is_flushing h ≡ false = x.0.flushing in cc)
flushing_told replies s h a Stray n m i j e f = refl
flushing_told replies s h a Flushing n m i j e f = refl
flushing_told replies s h a Ended n m i j e f = refl

flushing_dropped : RepliesTell → (s : Settings) (h : History) (a : Arrival) (v : Verdict) (xs ys : List Arrival) → v ≡ verdict s h a → is_flushing h ≡ true → aside_dropped xs a v ≡ aside_dropped ys a v
flushing_dropped replies s h a Aside xs ys e f = let x : IsAside s (view h a) a = replies.verdicts s h a Aside e in absurd (let bad : is_flushing h ≡ false = x.flushing in cc)
flushing_dropped replies s h a Accepted xs ys e f = let x : IsAccepted s (view h a) a = replies.verdicts s h a Accepted e in absurd (let bad : is_flushing h ≡ false = x.flushing in cc)
flushing_dropped replies s h a (Restart d) xs ys e f = refl
flushing_dropped replies s h a Late xs ys e f = let x = replies.verdicts s h a Late e in absurd (let bad : is_flushing h ≡ false = x.0.flushing in cc)
flushing_dropped replies s h a Duplicate xs ys e f = let x = replies.verdicts s h a Duplicate e in absurd (let bad : is_flushing h ≡ false = x.0.flushing in cc)
flushing_dropped replies s h a Full xs ys e f = let x = replies.verdicts s h a Full e in absurd (let bad : is_flushing h ≡ false = x.0.flushing in cc)
flushing_dropped replies s h a Stray xs ys e f = refl
flushing_dropped replies s h a Flushing xs ys e f = refl
flushing_dropped replies s h a Ended xs ys e f = refl

run_in_flush : (s : State) (h : History) → Order s h → is_flushing h ≡ true → run_of s ≡ []
run_in_flush s h o e = run_is s.aside (live_aside h) o.aside_is ∙ rw e refl

flushing_segment : (new : State) (h : History) (a : Arrival) (p : Pushed) → is_flushing h ≡ true → HasSegment new (live h) (live_next h) (live_out h) (live_served h) → HasSegment new (live (entry a p h)) (live_next (entry a p h)) (live_out (entry a p h)) (live_served (entry a p h))
flushing_segment new h a p e g =
    subst (λ (b : Bool). HasSegment new (if b then [] else taken_after (accepted h) (aside h) a p.verdict) (if b then None else if opens p.verdict then None else next h) (λ n. not b && (not (opens p.verdict) && is_out h n)) (λ n. if b then 0 else if opens p.verdict then 0 else served h n)) (sym e)
    (subst (λ (b : Bool). HasSegment new (if b then [] else accepted h) (if b then None else next h) (λ n. not b && is_out h n) (λ n. if b then 0 else served h n)) e g)

push_in_flush : RepliesTell → (old new : State) (h : History) (a : Arrival) (p : Pushed) → StandsFor old h → PushStep old new a p → IsPush old.settings h a p.verdict p.number p.aside_dropped → is_flushing h ≡ true → StandsFor new (entry a p h)
push_in_flush replies old new h a p st r is e =
    assemble old new h a p st r is
    (flushing_segment new h a p e (leaves old new (live h) (live_next h) (live_out h) (live_served h) r.settings (flushing_leaves replies old new h a p.verdict is.verdict_is e r.segment) (segment_of old h st)))
    (rw e (r.aside ∙ ap in_order (flushing_aside replies old h a p.verdict is.verdict_is e (run_in_flush old h st.order e))))

-- ---- outside a flush

-- the segment after a push with this verdict
abbrev IsAfter : State → History → Arrival → Verdict → Type 0
IsAfter new h a v = HasSegment new (taken_after (accepted h) (aside h) a v) (if opens v then None else next h) (λ q. not (opens v) && is_out h q) (λ q. if opens v then 0 else served h q)

record After (new : State) (h : History) (a : Arrival) (v : Verdict) : Type 0 where
  fact : IsAfter new h a v

left_alone : (old new : State) (h : History) → new.settings ≡ old.settings → LeavesSegment old new → HasSegment old (accepted h) (next h) (is_out h) (served h) → HasSegment new (accepted h) (next h) (is_out h) (served h)
left_alone old new h same l g = leaves old new (accepted h) (next h) (is_out h) (served h) same l g

accepted_after : RunsAreBounded → RepliesTell → (old new : State) (h : History) (a : Arrival) → Run old.settings h → new.settings ≡ old.settings → Accepted ≡ verdict old.settings h a → Accepts old new a (state_number old a) → HasSegment old (accepted h) (next h) (is_out h) (served h) → HasSegment new (with_taken (accepted h) a) (next h) (is_out h) (served h)
accepted_after runs replies old new h a r same e acc g =
    let x : IsAccepted old.settings (view h a) a = replies.verdicts old.settings h a Accepted e in
    record {
      placed = placed_accept old new (accepted h) (next h) (is_out h) a same g.placed g.clocked g.marked acc (not_out runs old.settings h (number_of h a) r x.late);
      clocked = clocked_accept old new (accepted h) (next h) a same g.placed.top_is g.clocked g.marked acc;
      marked = marked_accept old new (accepted h) (next h) a same g.placed.next_is g.placed.top_is g.clocked g.marked acc;
      requested = requested_accept old new (accepted h) (next h) (served h) a g.placed.next_is g.placed.top_is g.requested acc;
    }

restarted_after : RepliesTell → (old new : State) (h : History) (a : Arrival) (d : ℕ) → Restart d ≡ verdict old.settings h a → run_of old ≡ aside h → IsOpenedBy new (a ∷ run_of old) → HasSegment new (opened (joined (aside h) a)) None (λ q. false) (λ q. 0)
restarted_after replies old new h a d e run o =
    let x : IsRestart old.settings (view h a) a d = replies.verdicts old.settings h a (Restart d) e in
    let all : a ∷ run_of old ≡ joined (aside h) a = ap (λ (run : List Arrival). a ∷ run) run ∙ sym (joined_follows (aside h) a (joined_five (aside h) a x.run)) in
    opens_segment new (joined (aside h) a) (subst (λ (run : List Arrival). IsOpenedBy new run) all o)

segment_after : RunsAreBounded → RepliesTell → (old new : State) (h : History) (a : Arrival) (v : Verdict) → Run old.settings h → new.settings ≡ old.settings → v ≡ verdict old.settings h a → run_of old ≡ aside h → SegmentAfter old a v new → HasSegment old (accepted h) (next h) (is_out h) (served h) → After new h a v
segment_after runs replies old new h a Accepted r same e run s g = record { fact = accepted_after runs replies old new h a r same e s g }
segment_after runs replies old new h a (Restart d) r same e run s g = record { fact = restarted_after replies old new h a d e run s }
segment_after runs replies old new h a Aside r same e run s g = record { fact = left_alone old new h same s g }
segment_after runs replies old new h a Late r same e run s g = record { fact = left_alone old new h same s g }
segment_after runs replies old new h a Duplicate r same e run s g = record { fact = left_alone old new h same s g }
segment_after runs replies old new h a Full r same e run s g = record { fact = left_alone old new h same s g }
segment_after runs replies old new h a Stray r same e run s g = record { fact = left_alone old new h same s g }
segment_after runs replies old new h a Flushing r same e run s g = record { fact = left_alone old new h same s g }
segment_after runs replies old new h a Ended r same e run s g = record { fact = left_alone old new h same s g }

open_segment : (new : State) (h : History) (a : Arrival) (p : Pushed) → is_flushing h ≡ false → IsAfter new h a p.verdict → HasSegment new (live (entry a p h)) (live_next (entry a p h)) (live_out (entry a p h)) (live_served (entry a p h))
open_segment new h a p e g =
    subst (λ (b : Bool). HasSegment new (if b then [] else taken_after (accepted h) (aside h) a p.verdict) (if b then None else if opens p.verdict then None else next h) (λ n. not b && (not (opens p.verdict) && is_out h n)) (λ n. if b then 0 else if opens p.verdict then 0 else served h n)) (sym e) g

push_outside : RunsAreBounded → RepliesTell → (old new : State) (h : History) (a : Arrival) (p : Pushed) → StandsFor old h → PushStep old new a p → IsPush old.settings h a p.verdict p.number p.aside_dropped → is_flushing h ≡ false → StandsFor new (entry a p h)
push_outside runs replies old new h a p st r is e =
    let run : run_of old ≡ aside h = run_now old h st.order e in
    let g : HasSegment old (accepted h) (next h) (is_out h) (served h) = segment_now old h e st in
    assemble old new h a p st r is
    (open_segment new h a p e (segment_after runs replies old new h a p.verdict st.run r.settings is.verdict_is run r.segment g).fact)
    (rw e (r.aside ∙ ap (λ (xs : List Arrival). in_order (run_after xs a p.verdict)) run))

-- ---- all pushes

-- the parts of the answer that the history defines
number_told : RepliesTell → (old : State) (h : History) (a : Arrival) (v : Verdict) → StandsFor old h → v ≡ verdict old.settings h a → told_number v (state_number old a) (opened_number (run_of old) a) ≡ reply_number h a v
number_told replies old h a v st e =
    elim (is_flushing h) as (λ b. is_flushing h ≡ b → told_number v (state_number old a) (opened_number (run_of old) a) ≡ reply_number h a v) [
      | true ↦ λ f. flushing_told replies old.settings h a v _ _ _ _ e f
      | false ↦ λ f. ap (λ (n : ℕ). told_number v n (opened_number (run_of old) a)) (number_now old h a (placed_now old h f st.order.placed))
          ∙ ap (λ (run : List Arrival). told_number v (number_of h a) (opened_number run a)) (run_now old h st.order f)
    ] refl

dropped_told : RepliesTell → (old : State) (h : History) (a : Arrival) (v : Verdict) → StandsFor old h → v ≡ verdict old.settings h a → aside_dropped (run_of old) a v ≡ aside_dropped (aside h) a v
dropped_told replies old h a v st e =
    elim (is_flushing h) as (λ b. is_flushing h ≡ b → aside_dropped (run_of old) a v ≡ aside_dropped (aside h) a v) [
      | true ↦ λ f. flushing_dropped replies old.settings h a v _ _ e f
      | false ↦ λ f. ap (λ (run : List Arrival). aside_dropped run a v) (run_now old h st.order f)
    ] refl

push_entry : RunsAreBounded → RepliesTell → NumbersLieBetween → (old new : State) (h : History) (a : Arrival) (p : Pushed) → StandsFor old h → PushStep old new a p → old.progress.pushes < 2147483648 → IsInRange a → is_pusher old.settings.pushers a.pusher ≡ true → IsPush old.settings h a p.verdict p.number p.aside_dropped
push_entry runs replies numbers old new h a p st r few range pusher =
    let is : p.verdict ≡ verdict old.settings h a = r.verdict ∙ verdict_is runs numbers old h a st in
    record {
      pusher = pusher;
      few = rw (← st.order.pushes_are) few;
      in_range = range;
      verdict_is = is;
      number_is = r.number ∙ number_told replies old h a p.verdict st is;
      dropped_is = r.dropped ∙ dropped_told replies old h a p.verdict st is;
    }

pub push_keeps : RunsAreBounded → RepliesTell → NumbersLieBetween → (old new : State) (h : History) (a : Arrival) (p : Pushed) → StandsFor old h → PushStep old new a p → old.progress.pushes < 2147483648 → IsInRange a → is_pusher old.settings.pushers a.pusher ≡ true → StandsFor new (entry a p h)
push_keeps runs replies numbers old new h a p st r few range pusher =
    let is : IsPush old.settings h a p.verdict p.number p.aside_dropped = push_entry runs replies numbers old new h a p st r few range pusher in
    elim (is_flushing h) as (λ b. is_flushing h ≡ b → StandsFor new (entry a p h)) [
      | true ↦ λ e. push_in_flush replies old new h a p st r is e
      | false ↦ λ e. push_outside runs replies old new h a p st r is e
    ] refl

same_answer : (p : Pushed) (n d : ℕ) (b : Option Packet) → p.number ≡ n → p.back ≡ b → p.aside_dropped ≡ d → p ≡ record { verdict = p.verdict; number = n; back = b; aside_dropped = d }
same_answer p n d b number back dropped =
    ap (λ (x : ℕ). record p { number = x }) number
    ∙ ap (λ (x : Option Packet). record p { number = n; back = x }) back
    ∙ ap (λ (x : ℕ). record p { number = n; back = b; aside_dropped = x }) dropped

pub push_value : RunsAreBounded → RepliesTell → NumbersLieBetween → (old new : State) (h : History) (a : Arrival) (p : Pushed) → StandsFor old h → PushStep old new a p → p ≡ pushed old.settings h a
push_value runs replies numbers old new h a p st r =
    let is : p.verdict ≡ verdict old.settings h a = r.verdict ∙ verdict_is runs numbers old h a st in
    let number : p.number ≡ reply_number h a p.verdict = r.number ∙ number_told replies old h a p.verdict st is in
    let dropped : p.aside_dropped ≡ aside_dropped (aside h) a p.verdict = r.dropped ∙ dropped_told replies old h a p.verdict st is in
    let all : p ≡ record { verdict = p.verdict; number = reply_number h a p.verdict; back = back_of p.verdict a.packet; aside_dropped = aside_dropped (aside h) a p.verdict } = same_answer p (reply_number h a p.verdict) (aside_dropped (aside h) a p.verdict) (back_of p.verdict a.packet) number r.back dropped in
    all ∙ ap (λ (v : Verdict). record { verdict = v; number = reply_number h a v; back = back_of v a.packet; aside_dropped = aside_dropped (aside h) a v }) is

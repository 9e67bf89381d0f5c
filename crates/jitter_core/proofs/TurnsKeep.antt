-- A turn keeps what a state stands for, with the turn added.
use Rattle.std.proofs.Common.{ℕ, ◌≡◌, ◌+◌, ◌-◌, ◌<◌, ◌≤◌, ◌≢◌, length, Bool, true, false, ◌||◌, ◌&&◌, not, refl, sym, ap, subst, ◌∙◌, List, [], ◌∷◌, Option, None, Some, arith}
use Rattle.std.specs.Prelude.{is_some, unwrap_or, ◌==◌, ◌%◌, if◌then◌else◌}
use Rattle.std.proofs.lemmas.Grind.{common_steps}
use Rattle.std.specs.FinMap as map
use Rattle.std.specs.Cmp.{nat_cmp_total, unsigned_tied}
use Rattle.std.specs.Ordering.{nat_cmp}
use Rattle.jitter_model.specs.declared.Settings.{Settings}
use Rattle.jitter_model.specs.declared.Held.{Held}
use Rattle.jitter_model.specs.declared.Packet.{Packet as PacketType}
use Rattle.jitter_model.specs.declared.Turn.{Turn}
use Rattle.jitter_model.specs.declared.Turn.TheVariants.{Packet, Lost, Request, End, Idle, Flushing}
use Rattle.jitter_model.specs.declared.Entry.TheVariants.{Turned}
use Rattle.jitter_model.specs.History.{History, latency, is_flushing, is_end, end_told}
use Rattle.jitter_model.specs.Accepted.{Taken, top, least, has, accepted}
use Rattle.jitter_model.specs.Covered.{next, is_out, count_in, served, served_after}
use Rattle.jitter_model.specs.Verdicts.{is_late}
use Rattle.jitter_model.specs.Times.{marks, found}
use Rattle.jitter_model.specs.Turns.{Sight, low, sight, turn, is_quiet}
use Rattle.jitter_model.specs.Runs.{Run}
use Rattle.jitter_core.specs.declared.state.Progress.{Progress}
use Rattle.jitter_core.specs.declared.state.Span.{Span}
use Rattle.jitter_core.specs.declared.state.State.{State}
use Rattle.jitter_core.specs.Marks.{kept_two}
use Rattle.jitter_core.specs.declared.served.Service.{Service}
use Rattle.jitter_core.specs.Peaks.{peaks, above}
use Rattle.jitter_core.specs.Served.{served_in}
use Rattle.jitter_core.specs.Parts.{Placed, Clocked, Marked, Requested}
use Rattle.jitter_core.proofs.Firsts.{above_later}
use Rattle.jitter_core.proofs.Serving.{IsRequest, requests, IsServed, all_served, served_more, served_long, apart}
use Rattle.jitter_core.specs.Steps.{LeavesSegment, IsSame}
use Rattle.jitter_core.specs.Turning.{state_turn, Gives, Loses, Serves, TurnDoes}
use Rattle.jitter_core.specs.Stands.{live, live_next, live_out, live_served, StandsFor}
use Rattle.jitter_core.proofs.Agreeing.{turn_is, flushing_turn}
use Rattle.jitter_core.proofs.Judging.{placed_now, clocked_now, marked_now, requested_now, not_out}
use Rattle.jitter_core.proofs.Kept.{IsBelow, two_two}
use Rattle.jitter_core.proofs.Pushes.{HasSegment, leaves, segment_of, segment_now}
use Rattle.jitter_model.specs.Said.{Covers}
use Rattle.jitter_model.specs.Numbered.{InWindow, IsDistinct}
use Rattle.jitter_core.proofs.Cases.{split}
use Rattle.jitter_model.specs.Known.{RunsAreBounded}
use Rattle.jitter_model.specs.Known.{RepliesTell}
use Rattle.jitter_model.specs.Known.{NumbersLieBetween}
use Rattle.jitter_model.specs.Known.{SearchesFindTheLeast}

-- ---- quiet turns

left_alone : (old new : State) (h : History) → new.settings ≡ old.settings → LeavesSegment old new → StandsFor old h → HasSegment new (live h) (live_next h) (live_out h) (live_served h)
left_alone old new h same l st = leaves old new (live h) (live_next h) (live_out h) (live_served h) same l (segment_of old h st)

-- a call that changes nothing keeps all
pub same_keeps : (old new : State) (h : History) → StandsFor old h → IsSame old new → StandsFor new h
same_keeps old new h st r =
    let g : HasSegment new (live h) (live_next h) (live_out h) (live_served h) = left_alone old new h r.settings r.segment st in
    record {
      run = subst (λ (x : Settings). Run x h) (sym r.settings) st.run;
      order = record {
        pushes_are = rw r.progress st.order.pushes_are;
        time_is = rw r.progress st.order.time_is;
        latency_is = rw (r.progress, r.settings) st.order.latency_is;
        flushing_is = rw r.progress st.order.flushing_is;
        ended_long = rw r.progress st.order.ended_long;
        ended_are = λ q. rw r.progress (st.order.ended_are q);
        told_is = rw r.progress st.order.told_is;
        placed = g.placed;
        aside_is = rw r.aside st.order.aside_is;
      };
      skew = record { clocked = g.clocked };
      times = record { marked = g.marked };
      requests = record { requested = g.requested };
    }

-- a turn that leaves time, pushes and pushers alone; it is enough that the segment is right
record Alone (old new : State) : Type 0 where
  settings : new.settings ≡ old.settings
  pushes : new.progress.pushes ≡ old.progress.pushes
  time : new.progress.time ≡ old.progress.time
  latency : new.progress.latency ≡ old.progress.latency
  flushing : new.progress.flushing ≡ old.progress.flushing
  ended : new.progress.ended ≡ old.progress.ended
  aside : new.aside ≡ old.aside

alone : (old new : State) → new.settings ≡ old.settings → new.progress ≡ old.progress → new.aside ≡ old.aside → Alone old new
alone old new s p a =
    record { settings = s; pushes = ap (λ (x : Progress). x.pushes) p; time = ap (λ (x : Progress). x.time) p; latency = ap (λ (x : Progress). x.latency) p; flushing = ap (λ (x : Progress). x.flushing) p; ended = ap (λ (x : Progress). x.ended) p; aside = a }

assemble : (old new : State) (h : History) (r : Turn) → StandsFor old h → r ≡ turn old.settings h → Alone old new → new.progress.end_told ≡ (is_end r || end_told h)
    → HasSegment new (live (Turned r ∷ h)) (live_next (Turned r ∷ h)) (live_out (Turned r ∷ h)) (live_served (Turned r ∷ h)) → StandsFor new (Turned r ∷ h)
assemble old new h r st is a told g =
    record {
      run = subst (λ (x : Settings). Run x (Turned r ∷ h)) (sym a.settings) (is, st.run);
      order = record {
        pushes_are = a.pushes ∙ st.order.pushes_are;
        time_is = a.time ∙ st.order.time_is;
        latency_is = a.latency ∙ st.order.latency_is ∙ ap (λ (x : Settings). latency x h) (sym a.settings);
        flushing_is = a.flushing ∙ st.order.flushing_is;
        ended_long = rw a.ended st.order.ended_long;
        ended_are = λ q. rw a.ended (st.order.ended_are q);
        told_is = told;
        placed = g.placed;
        aside_is = a.aside ∙ st.order.aside_is;
      };
      skew = record { clocked = g.clocked };
      times = record { marked = g.marked };
      requests = record { requested = g.requested };
    }

-- ---- a packet is given out

out_more : {A : Type 0} (b o : Bool) (x : Option A) → (if b then None else if o then None else x) ≡ (if b || o then None else x)
out_more true o x = refl
out_more false o x = refl

held_removed : (s : Settings) (ps : List Taken) (out : ℕ → Bool) (m : map.FinMap nat_cmp Held) (n q : ℕ) → ((k : ℕ) → map.get m k ≡ (if out k then None else found s ps k)) → map.get (map.remove m n) q ≡ (if q == n || out q then None else found s ps q)
held_removed s ps out m n q are =
    map.get-remove nat_cmp_total m n q
    ∙ ap (λ (b : Bool). if b then None else map.get m q) (unsigned_tied q n)
    ∙ ap (λ (o : Option Held). if q == n then None else o) (are q)
    ∙ out_more (q == n) (out q) (found s ps q)

-- a number that is not among these changes no count
count_none : (out : ℕ → Bool) (ps : List Taken) (n : ℕ) → has ps n ≡ false → count_in (λ q. q == n || out q) ps ≡ count_in out ps
count_none out [] n e = refl
count_none out (p ∷ ps) n e =
    let rest : has ps n ≡ false = grind (arith, common_steps) in
    let other : (p.number == n) ≡ false = grind (arith, common_steps) in
    rw (other, count_none out ps n rest) refl

count_more : (b : Bool) (c : ℕ) → 0 < c → (if b then c - 1 else c - 1 + 1) ≡ (if b then c else c + 1) - 1
count_more true c lt = refl
count_more false c lt = omega arith

counted : (out : ℕ → Bool) (ps : List Taken) (n : ℕ) → has ps n ≡ true → out n ≡ false → 0 < count_in out ps
counted out [] n e o = cc
counted out (p ∷ ps) n e o =
    elim (n == p.number) as (λ b. (n == p.number) ≡ b → (b || has ps n) ≡ true → 0 < count_in out (p ∷ ps)) [
      | true ↦ λ same _. let is : p.number ≡ n = grind (arith, common_steps) in let not_yet : out p.number ≡ false = rw is o in rw not_yet (omega arith)
      | false ↦ λ _ rest. split (λ (c : ℕ). 0 < c) (out p.number) (count_in out ps) (count_in out ps + 1) (λ _. counted out ps n rest o) (λ _. omega arith)
    ] refl e

-- one that is among them once, and was not out, makes it less by one
count_given : (out : ℕ → Bool) (ps : List Taken) (n : ℕ) → IsDistinct ps → has ps n ≡ true → out n ≡ false → count_in (λ q. q == n || out q) ps ≡ count_in out ps - 1
count_given out [] n d e o = cc
count_given out (p ∷ ps) n d e o =
    elim (n == p.number) as (λ b. (n == p.number) ≡ b → (b || has ps n) ≡ true → count_in (λ q. q == n || out q) (p ∷ ps) ≡ count_in out (p ∷ ps) - 1) [
      | true ↦ λ same _.
          let is : p.number ≡ n = grind (arith, common_steps) in
          let none : has ps n ≡ false = subst (λ (x : ℕ). has ps x ≡ false) is d.0 in
          let here : (p.number == n) ≡ true = grind (arith, common_steps) in
          let not_yet : out p.number ≡ false = rw is o in
          rw (here, not_yet, count_none out ps n none) (omega arith)
      | false ↦ λ other rest.
          let not_here : (p.number == n) ≡ false = grind (arith, common_steps) in
          let less : count_in (λ q. q == n || out q) ps ≡ count_in out ps - 1 = count_given out ps n d.1 rest o in
          rw (not_here, less) (count_more (out p.number) (count_in out ps) (counted out ps n rest o))
    ] refl e

covers_below : (v : Sight) (o : Option ℕ) (n pts : ℕ) (p : PacketType) → Covers v o (Packet n pts p) → IsBelow o (n + 1)
covers_below v None n pts p c = tt
covers_below v (Some k) n pts p c = let is : n ≡ k = c.0 in omega arith

loses_below : (v : Sight) (o : Option ℕ) (n count pts d : ℕ) → Covers v o (Lost n count pts d) → IsBelow o (n + count)
loses_below v None n count pts d c = tt
loses_below v (Some k) n count pts d c = let is : n ≡ k = c.0 in omega arith

covers_not_late : (v : Sight) (o : Option ℕ) (n pts : ℕ) (p : PacketType) → Covers v o (Packet n pts p) → is_late o n ≡ false
covers_not_late v None n pts p c = refl
covers_not_late v (Some k) n pts p c = let is : n ≡ k = c.0 in grind (arith, common_steps)

-- what is kept of requests once the next number is a later one
late_before : (o : Option ℕ) (m q : ℕ) → IsBelow o m → is_late (Some m) q ≡ false → is_late o q ≡ false
late_before None m q le e = refl
late_before (Some k) m q le e = grind (arith, common_steps)

goes_on : (old new : State) (ps : List Taken) (o : Option ℕ) (m : ℕ) (served : ℕ → ℕ) → IsBelow o m → new.peaks ≡ above m old.peaks → new.served ≡ old.served → Requested old ps o served → Requested new ps (Some m) served
goes_on old new ps o m served le p s q =
    record {
      peaks_are = p ∙ ap (above m) q.peaks_are ∙ above_later o m (peaks ps) le;
      places = rw s q.places;
      served_are = λ k e. rw s (q.served_are k (late_before o m k le e));
    }

gives_keeps : RunsAreBounded → RepliesTell → NumbersLieBetween → (old new : State) (h : History) (n pts : ℕ) (p : PacketType) → StandsFor old h → is_flushing h ≡ false → Packet n pts p ≡ turn old.settings h → Gives old new n → HasSegment new (accepted h) (Some (n + 1)) (λ q. q == n || is_out h q) (served h)
gives_keeps runs replies numbers old new h n pts p st e is d =
    let cover : Covers (sight old.settings h) (next h) (Packet n pts p) = (replies.covers old.settings h (Packet n pts p) is).fact in
    let g : Placed old (accepted h) (next h) (is_out h) = placed_now old h e st.order.placed in
    let c : Clocked old (accepted h) = clocked_now old h e st.skew.clocked in
    let m : Marked old (accepted h) (next h) = marked_now old h e st.times.marked in
    let there : has (accepted h) n ≡ true = sym (numbers.found_is old.settings (accepted h) n) ∙ ap is_some (replies.packets old.settings h n pts p (sym is)) in
    let not_yet : is_out h n ≡ false = not_out runs old.settings h n st.run (covers_not_late (sight old.settings h) (next h) n pts p cover) in
    record {
      placed = record {
        next_is = ap (λ (x : Span). x.next) d.span;
        top_is = ap (λ (x : Span). x.top) d.span ∙ g.top_is;
        least_is = ap (λ (x : Span). x.least) d.span ∙ g.least_is;
        held_are = λ q. subst (λ (x : Settings). map.get new.held q ≡ (if q == n || is_out h q then None else found x (accepted h) q)) (sym d.settings) (rw d.held (held_removed old.settings (accepted h) (is_out h) old.held n q g.held_are));
        count_is = ap (λ (x : Span). x.held) d.span ∙ ap (λ (k : ℕ). k - 1) g.count_is ∙ sym (count_given (is_out h) (accepted h) n (runs.distinct old.settings h st.run) there not_yet);
      };
      clocked = record { rate_is = rw (d.skew, d.settings) c.rate_is; mode_is = rw (d.skew, d.settings) c.mode_is; stands = rw d.skew c.stands };
      marked = record {
        first_is = ap (λ (x : Span). x.first_pts) d.span ∙ rw d.settings m.first_is;
        marks_are = subst (λ (x : Settings). new.heights ≡ kept_two (Some (n + 1)) (marks x (accepted h))) (sym d.settings)
            (d.heights ∙ ap (kept_two (Some (n + 1))) m.marks_are ∙ two_two (next h) (n + 1) (marks old.settings (accepted h)) (covers_below (sight old.settings h) (next h) n pts p cover));
      };
      requested = goes_on old new (accepted h) (next h) (n + 1) (served h) (covers_below (sight old.settings h) (next h) n pts p cover) d.peaks d.served (requested_now old h e st.requests.requested);
    }

loses_keeps : RepliesTell → (old new : State) (h : History) (n count pts e : ℕ) → StandsFor old h → is_flushing h ≡ false → Lost n count pts e ≡ turn old.settings h → Loses old new (n + count) → HasSegment new (accepted h) (Some (n + count)) (is_out h) (served h)
loses_keeps replies old new h n count pts e st f is d =
    let cover : Covers (sight old.settings h) (next h) (Lost n count pts e) = (replies.covers old.settings h (Lost n count pts e) is).fact in
    let g : Placed old (accepted h) (next h) (is_out h) = placed_now old h f st.order.placed in
    let c : Clocked old (accepted h) = clocked_now old h f st.skew.clocked in
    let m : Marked old (accepted h) (next h) = marked_now old h f st.times.marked in
    record {
      placed = record {
        next_is = ap (λ (x : Span). x.next) d.span;
        top_is = ap (λ (x : Span). x.top) d.span ∙ g.top_is;
        least_is = ap (λ (x : Span). x.least) d.span ∙ g.least_is;
        held_are = λ q. rw (d.held, d.settings) (g.held_are q);
        count_is = ap (λ (x : Span). x.held) d.span ∙ g.count_is;
      };
      clocked = record { rate_is = rw (d.skew, d.settings) c.rate_is; mode_is = rw (d.skew, d.settings) c.mode_is; stands = rw d.skew c.stands };
      marked = record {
        first_is = ap (λ (x : Span). x.first_pts) d.span ∙ rw d.settings m.first_is;
        marks_are = subst (λ (x : Settings). new.heights ≡ kept_two (Some (n + count)) (marks x (accepted h))) (sym d.settings)
            (d.heights ∙ ap (kept_two (Some (n + count))) m.marks_are ∙ two_two (next h) (n + count) (marks old.settings (accepted h)) (loses_below (sight old.settings h) (next h) n count pts e cover));
      };
      requested = goes_on old new (accepted h) (next h) (n + count) (served h) (loses_below (sight old.settings h) (next h) n count pts e cover) d.peaks d.served (requested_now old h f st.requests.requested);
    }

-- ---- a request is served

low_least : (s : Settings) (h : History) (o : Option ℕ) (q : ℕ) → is_late o q ≡ false → (o ≡ None → unwrap_or (least (accepted h)) 0 ≤ q) → low (sight s h) o ≤ q
low_least s h None q e from = from refl
low_least s h (Some k) q e from = grind (arith, common_steps)

top_near : (s : Settings) (h : History) (t l o : Option ℕ) → InWindow t l o → (sight s h).top ≡ unwrap_or t 0 → (sight s h).least ≡ unwrap_or l 0 → (sight s h).top < low (sight s h) o + 8192
top_near s h None None None w e f = omega arith
top_near s h (Some t) (Some l) None w e f = omega (arith, w.fact.0, e, f)
top_near s h (Some t) (Some l) (Some k) w e f = omega (arith, w.fact.0, e)
top_near s h None (Some l) None w e f = absurd w.fact
top_near s h None None (Some k) w e f = absurd w.fact
top_near s h None (Some l) (Some k) w e f = absurd w.fact
top_near s h (Some t) None None w e f = absurd w.fact
top_near s h (Some t) None (Some k) w e f = absurd w.fact

-- a number of which requests were served has the place of no other in the window
none_served : RunsAreBounded → RepliesTell → (s : Settings) (h : History) (n k q : ℕ) → Run s h → IsRequest s (sight s h) (next h) n k → is_late (next h) q ≡ false → q % 16384 ≡ n % 16384 → q ≢ n → served h q ≡ 0
none_served runs replies s h n k q r x e same other =
    elim (served h q == 0) as (λ b. (served h q == 0) ≡ b → served h q ≡ 0) [
      | true ↦ λ f. grind (arith, common_steps)
      | false ↦ λ f.
          let some : 0 < served h q = grind (arith, common_steps) in
          let g : IsServed (top (accepted h)) (least (accepted h)) (next h) q (served h q) = all_served replies s h q r in
          let near : (sight s h).top < low (sight s h) (next h) + 8192 = top_near s h (top (accepted h)) (least (accepted h)) (next h) (runs.window s h r) refl refl in
          let from : low (sight s h) (next h) ≤ q = low_least s h (next h) q e (g.fact some).2 in
          absurd (other (apart (low (sight s h) (next h)) q n from x.from (omega (arith, near, (g.fact some).1)) (omega (arith, near, x.to)) same))
    ] refl

serves_keeps : RunsAreBounded → RepliesTell → (old new : State) (h : History) (n k : ℕ) → StandsFor old h → is_flushing h ≡ false → Request n k ≡ turn old.settings h → Serves old new n k → HasSegment new (accepted h) (next h) (is_out h) (λ q. served_after (served h q) (Request n k) q)
serves_keeps runs replies old new h n k st e is d =
    let x : IsRequest old.settings (sight old.settings h) (next h) n k = requests replies old.settings (sight old.settings h) (next h) n k is in
    let g : HasSegment old (accepted h) (next h) (is_out h) (served h) = segment_now old h e st in
    record {
      placed = record { next_is = rw d.span g.placed.next_is; top_is = rw d.span g.placed.top_is; least_is = rw d.span g.placed.least_is; held_are = λ q. rw (d.held, d.settings) (g.placed.held_are q); count_is = rw d.span g.placed.count_is };
      clocked = record { rate_is = rw (d.skew, d.settings) g.clocked.rate_is; mode_is = rw (d.skew, d.settings) g.clocked.mode_is; stands = rw d.skew g.clocked.stands };
      marked = record { first_is = rw (d.span, d.settings) g.marked.first_is; marks_are = rw (d.heights, d.settings) g.marked.marks_are };
      requested = record {
        peaks_are = rw d.peaks g.requested.peaks_are;
        places = ap (λ (xs : List Service). length xs) d.served ∙ served_long old.served n (k + 1) ∙ g.requested.places;
        served_are = λ q late.
            ap (λ (xs : List Service). served_in xs q) d.served
            ∙ served_more old.served n k q (served h q) g.requested.places (g.requested.served_are q late)
            (λ same. rw same x.unserved)
            (λ place other. none_served runs replies old.settings h n k q st.run x late place other);
      };
    }

-- ---- all turns

not_flushing : (s : Settings) (h : History) (r : Turn) → r ≡ turn s h → (r ≡ Flushing → ⊥) → is_flushing h ≡ false
not_flushing s h r is other =
    elim (is_flushing h) as (λ b. is_flushing h ≡ b → is_flushing h ≡ false) [
      | true ↦ λ e. absurd (other (is ∙ flushing_turn s h e))
      | false ↦ λ e. e
    ] refl

packet_segment : (new : State) (h : History) (n pts : ℕ) (p : PacketType) → is_flushing h ≡ false → HasSegment new (accepted h) (Some (n + 1)) (λ q. q == n || is_out h q) (served h) → HasSegment new (live (Turned (Packet n pts p) ∷ h)) (live_next (Turned (Packet n pts p) ∷ h)) (live_out (Turned (Packet n pts p) ∷ h)) (live_served (Turned (Packet n pts p) ∷ h))
packet_segment new h n pts p e g = subst (λ (b : Bool). HasSegment new (if b then [] else accepted h) (if b then None else Some (n + 1)) (λ q. not b && (q == n || is_out h q)) (λ q. if b then 0 else served h q)) (sym e) g

lost_segment : (new : State) (h : History) (n count pts d : ℕ) → is_flushing h ≡ false → HasSegment new (accepted h) (Some (n + count)) (is_out h) (served h) → HasSegment new (live (Turned (Lost n count pts d) ∷ h)) (live_next (Turned (Lost n count pts d) ∷ h)) (live_out (Turned (Lost n count pts d) ∷ h)) (live_served (Turned (Lost n count pts d) ∷ h))
lost_segment new h n count pts d e g = subst (λ (b : Bool). HasSegment new (if b then [] else accepted h) (if b then None else Some (n + count)) (λ q. not b && is_out h q) (λ q. if b then 0 else served h q)) (sym e) g

request_segment : (new : State) (h : History) (n k : ℕ) → is_flushing h ≡ false → HasSegment new (accepted h) (next h) (is_out h) (λ q. served_after (served h q) (Request n k) q) → HasSegment new (live (Turned (Request n k) ∷ h)) (live_next (Turned (Request n k) ∷ h)) (live_out (Turned (Request n k) ∷ h)) (live_served (Turned (Request n k) ∷ h))
request_segment new h n k e g = subst (λ (b : Bool). HasSegment new (if b then [] else accepted h) (if b then None else next h) (λ q. not b && is_out h q) (λ q. if b then 0 else served_after (served h q) (Request n k) q)) (sym e) g

turned_keeps : RunsAreBounded → RepliesTell → NumbersLieBetween → (old new : State) (h : History) (r : Turn) → StandsFor old h → r ≡ turn old.settings h → TurnDoes old r new → StandsFor new (Turned r ∷ h)
turned_keeps runs replies numbers old new h (Packet n pts p) st is d =
    let e : is_flushing h ≡ false = not_flushing old.settings h (Packet n pts p) is (λ x. cc) in
    assemble old new h (Packet n pts p) st is (alone old new d.settings d.progress d.aside) (ap (λ (x : Progress). x.end_told) d.progress ∙ st.order.told_is)
    (packet_segment new h n pts p e (gives_keeps runs replies numbers old new h n pts p st e is d))
turned_keeps runs replies numbers old new h (Lost n count pts x) st is d =
    let e : is_flushing h ≡ false = not_flushing old.settings h (Lost n count pts x) is (λ x. cc) in
    assemble old new h (Lost n count pts x) st is (alone old new d.settings d.progress d.aside) (ap (λ (x : Progress). x.end_told) d.progress ∙ st.order.told_is)
    (lost_segment new h n count pts x e (loses_keeps replies old new h n count pts x st e is d))
turned_keeps runs replies numbers old new h (Request n k) st is d =
    let e : is_flushing h ≡ false = not_flushing old.settings h (Request n k) is (λ x. cc) in
    assemble old new h (Request n k) st is (alone old new d.settings d.progress d.aside) (ap (λ (x : Progress). x.end_told) d.progress ∙ st.order.told_is)
    (request_segment new h n k e (serves_keeps runs replies old new h n k st e is d))
turned_keeps runs replies numbers old new h End st is d =
    assemble old new h End st is
    (record { settings = d.settings; pushes = ap (λ (x : Progress). x.pushes) d.progress; time = ap (λ (x : Progress). x.time) d.progress; latency = ap (λ (x : Progress). x.latency) d.progress; flushing = ap (λ (x : Progress). x.flushing) d.progress; ended = ap (λ (x : Progress). x.ended) d.progress; aside = d.aside })
    (ap (λ (x : Progress). x.end_told) d.progress) (left_alone old new h d.settings d.segment st)
turned_keeps runs replies numbers old new h (Idle wake) st is d =
    assemble old new h (Idle wake) st is (alone old new d.settings d.progress d.aside) (ap (λ (x : Progress). x.end_told) d.progress ∙ st.order.told_is) (left_alone old new h d.settings d.segment st)
turned_keeps runs replies numbers old new h Flushing st is d =
    assemble old new h Flushing st is (alone old new d.settings d.progress d.aside) (ap (λ (x : Progress). x.end_told) d.progress ∙ st.order.told_is) (left_alone old new h d.settings d.segment st)

pub turn_keeps : RunsAreBounded → RepliesTell → NumbersLieBetween → SearchesFindTheLeast → (old new : State) (h : History) (r : Turn) → StandsFor old h → r ≡ state_turn old → TurnDoes old r new → StandsFor new (Turned r ∷ h)
turn_keeps runs replies numbers searches old new h r st value does = turned_keeps runs replies numbers old new h r st (value ∙ turn_is runs numbers searches old h st) does

-- a quiet turn changes nothing
pub quiet_keeps : (old new : State) (h : History) (r : Turn) → StandsFor old h → TurnDoes old r new → is_quiet r ≡ true → StandsFor new h
quiet_keeps old new h (Packet n pts p) st does i = cc
quiet_keeps old new h (Lost n count pts d) st does i = cc
quiet_keeps old new h (Request n k) st does i = cc
quiet_keeps old new h End st does i = cc
quiet_keeps old new h (Idle wake) st does i = same_keeps old new h st does
quiet_keeps old new h Flushing st does i = same_keeps old new h st does

pub does_progress : (old new : State) (r : Turn) → TurnDoes old r new → (new.settings ≡ old.settings) × (new.progress.time ≡ old.progress.time) × (new.progress.pushes ≡ old.progress.pushes)
does_progress old new (Packet n pts p) d = (d.settings, ap (λ (x : Progress). x.time) d.progress, ap (λ (x : Progress). x.pushes) d.progress)
does_progress old new (Lost n count pts e) d = (d.settings, ap (λ (x : Progress). x.time) d.progress, ap (λ (x : Progress). x.pushes) d.progress)
does_progress old new (Request n k) d = (d.settings, ap (λ (x : Progress). x.time) d.progress, ap (λ (x : Progress). x.pushes) d.progress)
does_progress old new End d = (d.settings, ap (λ (x : Progress). x.time) d.progress, ap (λ (x : Progress). x.pushes) d.progress)
does_progress old new (Idle wake) d = (d.settings, ap (λ (x : Progress). x.time) d.progress, ap (λ (x : Progress). x.pushes) d.progress)
does_progress old new Flushing d = (d.settings, ap (λ (x : Progress). x.time) d.progress, ap (λ (x : Progress). x.pushes) d.progress)

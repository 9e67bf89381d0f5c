-- The reply to a turn by a state is the one by the history.
use Rattle.std.proofs.Common.{ℕ, zero, suc, ◌≡◌, ◌+◌, ◌-◌, ◌≤◌, Bool, true, false, ◌||◌, ◌&&◌, not, refl, ap, ◌∙◌, List, [], ◌∷◌, ◌<◌, Option, None, Some, arith}
use Rattle.std.specs.Prelude.{◌==◌, is_some, unwrap_or, nat_lt, nat_le, if◌then◌else◌}
use Rattle.std.specs.FinMap as map
use Rattle.std.proofs.lemmas.Grind.{common_steps}
use Rattle.jitter_model.specs.declared.Settings.{Settings}
use Rattle.jitter_model.specs.declared.Held.{Held}
use Rattle.jitter_model.specs.declared.Mark.{Mark}
use Rattle.jitter_model.specs.declared.Turn.{Turn}
use Rattle.jitter_model.specs.declared.Turn.TheVariants.{Lost, End, Idle, Flushing}
use Rattle.jitter_model.specs.History.{History, is_flushing, latency, all_below}
use Rattle.jitter_model.specs.Accepted.{least, accepted}
use Rattle.jitter_model.specs.Covered.{next, is_out, served}
use Rattle.jitter_model.specs.Verdicts.{is_late}
use Rattle.jitter_model.specs.Times.{marks, held, expected}
use Rattle.jitter_model.specs.Requests.{lesser, later, first_from, first_due, Wanted, wanted_next, Asked, earlier}
use Rattle.jitter_model.specs.Turns.{Sight, low, deadline, wanted, asked_for, asked_from, asked, wake_of_wanted, request_wake, request_wake_from, request_turn, least_from, may_start, may_give, is_lost, ends_loss, loss_end, is_done, output_wake, packet_turn, lost_turn, turn_by, is_fast, sight, turn}
use Rattle.jitter_model.specs.Runs.{Run}
use Rattle.jitter_core.specs.declared.state.State.{State}
use Rattle.jitter_core.specs.declared.peaks.Peak.{Peak}
use Rattle.jitter_core.specs.Marks.{kept, kept_two}
use Rattle.jitter_core.specs.Peaks.{peaks, above_next, stamp_from}
use Rattle.jitter_core.specs.Requesting.{first_due_by}
use Rattle.jitter_core.specs.Parts.{Placed, Marked, Requested}
use Rattle.jitter_core.specs.Stands.{StandsFor}
use Rattle.jitter_core.specs.Turning.{state_sight, state_turn, output_turn, next_wake, is_fast_by}
use Rattle.jitter_core.proofs.Judging.{placed_now, marked_now, requested_now, held_has}
use Rattle.jitter_core.specs.Steps.{IsPast}
use Rattle.jitter_core.proofs.Firsts.{stamp_next, stamp_is}
use Rattle.jitter_core.proofs.Kept.{expected-two, two_all}
use Rattle.jitter_core.proofs.Passing.{all_ended_is}
use Rattle.jitter_model.specs.Known.{RunsAreBounded}
use Rattle.jitter_model.specs.Known.{NumbersLieBetween}
use Rattle.jitter_model.specs.Known.{SearchesFindTheLeast}

-- ---- sights that agree

least_from-same : (P Q : ℕ → Bool) (n count : ℕ) → ((m : ℕ) → n ≤ m → P m ≡ Q m) → least_from P n count ≡ least_from Q n count
least_from-same P Q n zero same = refl
least_from-same P Q n (suc count) same =
    ap (λ (b : Bool). if b then n else least_from P (n + 1) count) (same n (omega arith))
    ∙ ap (λ (m : ℕ). if Q n then n else m) (least_from-same P Q (n + 1) count (λ m le. same m (omega arith)))

-- two sights that agree from the lowest number on
pub record Agree (s : Settings) (v w : Sight) (o : Option ℕ) : Type 0 where
  pub time : v.time ≡ w.time
  pub ended : v.ended ≡ w.ended
  pub told : v.told ≡ w.told
  pub latency : v.latency ≡ w.latency
  pub top : v.top ≡ w.top
  pub start : v.start ≡ w.start
  pub low_is : low v o ≡ low w o
  pub fast_is : o ≡ None → v.fast ≡ w.fast
  pub among_is : (m : ℕ) → low w o ≤ m → v.among m ≡ w.among m
  pub held_is : v.held (low w o) ≡ w.held (low w o)
  pub expected_is : (m : ℕ) → low w o ≤ m → expected v.marks m ≡ expected w.marks m
  pub after_is : (latency top : ℕ) → wanted_next s latency top v.marks ≡ wanted_next s latency top w.marks
  pub first_is : (m : ℕ) → low w o ≤ m → v.first_due m ≡ w.first_due m
  pub served_is : (m : ℕ) → low w o ≤ m → v.served m ≡ w.served m

deadline_same : (s : Settings) (v w : Sight) (o : Option ℕ) (m : ℕ) → Agree s v w o → low w o ≤ m → deadline v m ≡ deadline w m
deadline_same s v w o m a le = ap (λ (x : ℕ). x + v.latency) (a.expected_is m le) ∙ ap (λ (x : ℕ). expected w.marks m + x) a.latency

start_same : (v w : Sight) (x : Option ℕ) → v.time ≡ w.time → v.fast ≡ w.fast → v.ended ≡ w.ended → may_start v x ≡ may_start w x
start_same v w None t f e = refl
start_same v w (Some x) t f e = rw (t, f, e) refl

give_same : (s : Settings) (v w : Sight) (o : Option ℕ) → Agree s v w o → may_give v o ≡ may_give w o
give_same s v w None a =
    ap (λ (x : Option ℕ). may_start v x) a.start
    ∙ start_same v w w.start a.time (a.fast_is refl) a.ended
give_same s v w (Some n) a = a.among_is n (omega arith)

lost_same : (s : Settings) (v w : Sight) (o : Option ℕ) → Agree s v w o → is_lost v o ≡ is_lost w o
lost_same s v w None a = refl
lost_same s v w (Some n) a =
    ap (λ (t : ℕ). nat_lt n t && nat_le (deadline v n) v.time) a.top
    ∙ ap (λ (d : ℕ). nat_lt n w.top && nat_le d v.time) (deadline_same s v w (Some n) n a (omega arith))
    ∙ ap (λ (t : ℕ). nat_lt n w.top && nat_le (deadline w n) t) a.time

end_same : (s : Settings) (v w : Sight) (o : Option ℕ) → Agree s v w o → loss_end v (low w o) ≡ loss_end w (low w o)
end_same s v w o a =
    ap (λ (t : ℕ). least_from (ends_loss v) (low w o + 1) (t - (low w o + 1))) a.top
    ∙ least_from-same (ends_loss v) (ends_loss w) (low w o + 1) (w.top - (low w o + 1)) (λ m le.
    ap (λ (b : Bool). b || nat_lt v.time (deadline v m)) (a.among_is m (omega arith))
    ∙ ap (λ (d : ℕ). w.among m || nat_lt v.time d) (deadline_same s v w o m a (omega arith))
    ∙ ap (λ (t : ℕ). w.among m || nat_lt t (deadline w m)) a.time)

loss_same : SearchesFindTheLeast → (s : Settings) (v w : Sight) (o : Option ℕ) → Agree s v w o → lost_turn v.marks (low w o) (loss_end v (low w o)) ≡ lost_turn w.marks (low w o) (loss_end w (low w o))
loss_same searches s v w o a =
    let n : ℕ = low w o in
    let above : low w o + 1 ≤ loss_end w (low w o) = searches.from (ends_loss w) (low w o + 1) (w.top - (low w o + 1)) in
    ap (λ (m : ℕ). lost_turn v.marks (low w o) m) (end_same s v w o a)
    ∙ ap (λ (x : ℕ). Lost (low w o) (loss_end w (low w o) - low w o) x (expected v.marks (loss_end w (low w o)) - x)) (a.expected_is (low w o) (omega arith))
    ∙ ap (λ (y : ℕ). Lost (low w o) (loss_end w (low w o) - low w o) (expected w.marks (low w o)) (y - expected w.marks (low w o))) (a.expected_is (loss_end w (low w o)) (omega arith))

done_same : (s : Settings) (v w : Sight) (o : Option ℕ) → Agree s v w o → is_done v o ≡ is_done w o
done_same s v w None a = ap (λ (x : Option ℕ). not (is_some x)) a.start
done_same s v w (Some n) a = ap (λ (t : ℕ). nat_lt t n) a.top

wake_same : (s : Settings) (v w : Sight) (o : Option ℕ) → Agree s v w o → output_wake v o ≡ output_wake w o
wake_same s v w None a = a.start
wake_same s v w (Some n) a =
    ap (λ (t : ℕ). if nat_lt n t then Some (deadline v n) else None) a.top
    ∙ ap (λ (d : ℕ). if nat_lt n w.top then Some d else None) (deadline_same s v w (Some n) n a (omega arith))

-- the reply by its parts
abbrev reply : Bool → Turn → Bool → Turn → Bool → Bool → Bool → Turn → Turn
reply give packet lost loss ended done told idle = if give then packet else if lost then loss else if ended && done && not told then End else idle

pub agree_same : SearchesFindTheLeast → (s : Settings) (v w : Sight) (o wake : Option ℕ) → Agree s v w o → output_turn v o wake ≡ output_turn w o wake
agree_same searches s v w o wake a =
    ap (λ (n : ℕ). reply (may_give v o) (packet_turn n (v.held n)) (is_lost v o) (lost_turn v.marks n (loss_end v n)) v.ended (is_done v o) v.told (Idle (lesser (output_wake v o) wake))) a.low_is
    ∙ ap (λ (b : Bool). reply b (packet_turn (low w o) (v.held (low w o))) (is_lost v o) (lost_turn v.marks (low w o) (loss_end v (low w o))) v.ended (is_done v o) v.told (Idle (lesser (output_wake v o) wake))) (give_same s v w o a)
    ∙ ap (λ (x : Option Held). reply (may_give w o) (packet_turn (low w o) x) (is_lost v o) (lost_turn v.marks (low w o) (loss_end v (low w o))) v.ended (is_done v o) v.told (Idle (lesser (output_wake v o) wake))) a.held_is
    ∙ ap (λ (b : Bool). reply (may_give w o) (packet_turn (low w o) (w.held (low w o))) b (lost_turn v.marks (low w o) (loss_end v (low w o))) v.ended (is_done v o) v.told (Idle (lesser (output_wake v o) wake))) (lost_same s v w o a)
    ∙ ap (λ (t : Turn). reply (may_give w o) (packet_turn (low w o) (w.held (low w o))) (is_lost w o) t v.ended (is_done v o) v.told (Idle (lesser (output_wake v o) wake))) (loss_same searches s v w o a)
    ∙ ap (λ (b : Bool). reply (may_give w o) (packet_turn (low w o) (w.held (low w o))) (is_lost w o) (lost_turn w.marks (low w o) (loss_end w (low w o))) b (is_done v o) v.told (Idle (lesser (output_wake v o) wake))) a.ended
    ∙ ap (λ (b : Bool). reply (may_give w o) (packet_turn (low w o) (w.held (low w o))) (is_lost w o) (lost_turn w.marks (low w o) (loss_end w (low w o))) w.ended b v.told (Idle (lesser (output_wake v o) wake))) (done_same s v w o a)
    ∙ ap (λ (b : Bool). reply (may_give w o) (packet_turn (low w o) (w.held (low w o))) (is_lost w o) (lost_turn w.marks (low w o) (loss_end w (low w o))) w.ended (is_done w o) b (Idle (lesser (output_wake v o) wake))) a.told
    ∙ ap (λ (x : Option ℕ). reply (may_give w o) (packet_turn (low w o) (w.held (low w o))) (is_lost w o) (lost_turn w.marks (low w o) (loss_end w (low w o))) w.ended (is_done w o) w.told (Idle (lesser x wake))) (wake_same s v w o a)

-- ---- requests of sights that agree

pub wanted_same : (s : Settings) (v w : Sight) (o : Option ℕ) (m : ℕ) → Agree s v w o → low w o ≤ m → wanted s v m ≡ wanted s w m
wanted_same s v w o m a le = rw (a.top, a.among_is m le, a.first_is m le, a.expected_is m le, a.latency, a.ended, a.after_is w.latency w.top) refl

asked_for_same : (s : Settings) (v w : Sight) (m : ℕ) (x : Option Wanted) → v.time ≡ w.time → v.served m ≡ w.served m → asked_for s v m x ≡ asked_for s w m x
asked_for_same s v w m None t e = refl
asked_for_same s v w m (Some x) t e = rw (t, e) refl

pub wake_of_same : (s : Settings) (v w : Sight) (m : ℕ) (x : Option Wanted) → v.time ≡ w.time → v.served m ≡ w.served m → wake_of_wanted s v (v.served m) x ≡ wake_of_wanted s w (w.served m) x
wake_of_same s v w m None t e = refl
wake_of_same s v w m (Some x) t e = rw (t, e) refl

asked_from_same : (s : Settings) (v w : Sight) (o : Option ℕ) (n count : ℕ) → Agree s v w o → low w o ≤ n → asked_from s v n count ≡ asked_from s w n count
asked_from_same s v w o n zero a le = refl
asked_from_same s v w o n (suc count) a le =
    ap (λ (x : Option Wanted). earlier (asked_for s v n x) (asked_from s v (n + 1) count)) (wanted_same s v w o n a le)
    ∙ ap (λ (x : Option Asked). earlier x (asked_from s v (n + 1) count)) (asked_for_same s v w n (wanted s w n) a.time (a.served_is n le))
    ∙ ap (λ (x : Option Asked). earlier (asked_for s w n (wanted s w n)) x) (asked_from_same s v w o (n + 1) count a (omega arith))

wake_from_same : (s : Settings) (v w : Sight) (o : Option ℕ) (n count : ℕ) → Agree s v w o → low w o ≤ n → request_wake_from s v n count ≡ request_wake_from s w n count
wake_from_same s v w o n zero a le = refl
wake_from_same s v w o n (suc count) a le =
    ap (λ (x : Option Wanted). lesser (wake_of_wanted s v (v.served n) x) (request_wake_from s v (n + 1) count)) (wanted_same s v w o n a le)
    ∙ ap (λ (x : Option ℕ). lesser x (request_wake_from s v (n + 1) count)) (wake_of_same s v w n (wanted s w n) a.time (a.served_is n le))
    ∙ ap (λ (x : Option ℕ). lesser (request_wake s w n) x) (wake_from_same s v w o (n + 1) count a (omega arith))

asked_same : (s : Settings) (v w : Sight) (o : Option ℕ) → Agree s v w o → asked s v o ≡ asked s w o
asked_same s v w o a =
    ap (λ (n : ℕ). asked_from s v n (v.top + 2 - n)) a.low_is
    ∙ ap (λ (t : ℕ). asked_from s v (low w o) (t + 2 - low w o)) a.top
    ∙ asked_from_same s v w o (low w o) (w.top + 2 - low w o) a (omega arith)

next_wake_same : (s : Settings) (v w : Sight) (o : Option ℕ) → Agree s v w o → next_wake s v o ≡ next_wake s w o
next_wake_same s v w o a =
    ap (λ (n : ℕ). request_wake_from s v n (v.top + 2 - n)) a.low_is
    ∙ ap (λ (t : ℕ). request_wake_from s v (low w o) (t + 2 - low w o)) a.top
    ∙ wake_from_same s v w o (low w o) (w.top + 2 - low w o) a (omega arith)

-- the reply where no flush runs
abbrev unflushed : Option Asked → Turn → Turn
unflushed x t = if is_some x then request_turn x else t

pub turn_same : SearchesFindTheLeast → (s : Settings) (v w : Sight) (o : Option ℕ) → Agree s v w o → v.flushing ≡ w.flushing → turn_by s v o ≡ turn_by s w o
turn_same searches s v w o a f =
    ap (λ (b : Bool). if b then Flushing else unflushed (asked s v o) (output_turn v o (next_wake s v o))) f
    ∙ ap (λ (x : Option Asked). if w.flushing then Flushing else unflushed x (output_turn v o (next_wake s v o))) (asked_same s v w o a)
    ∙ ap (λ (x : Option ℕ). if w.flushing then Flushing else unflushed (asked s w o) (output_turn v o x)) (next_wake_same s v w o a)
    ∙ ap (λ (t : Turn). if w.flushing then Flushing else unflushed (asked s w o) t) (agree_same searches s v w o (next_wake s w o) a)

-- ---- a state and its history

late_not : (o : Option ℕ) (v : Sight) (m : ℕ) → low v o ≤ m → is_late o m ≡ false
late_not None v m le = refl
late_not (Some n) v m le = grind (arith, common_steps)

below_same : (P Q : ℕ → Bool) (n : ℕ) → ((p : ℕ) → P p ≡ Q p) → all_below P n ≡ all_below Q n
below_same P Q zero same = refl
below_same P Q (suc n) same = ap (λ (b : Bool). b && P n) (below_same P Q n same) ∙ ap (λ (b : Bool). all_below Q n && b) (same n)

fast_is : RunsAreBounded → NumbersLieBetween → (s : State) (h : History) (count : ℕ) → Run s.settings h → Placed s (accepted h) (next h) (is_out h) → next h ≡ None → is_fast_by s count ≡ is_fast count (accepted h)
fast_is runs numbers s h count r p e =
    ap (λ (b : Bool). not (count == 0) && b)
    (below_same _ _ count (λ i. ap (λ (l : Option ℕ). is_some (map.get s.held (unwrap_or l 0 + i))) p.least_is
    ∙ held_has runs numbers s h (unwrap_or (least (accepted h)) 0 + i) r p (ap (λ (o : Option ℕ). is_late o (unwrap_or (least (accepted h)) 0 + i)) e)))

low_is : (s : State) (h : History) (o : Option ℕ) → Placed s (accepted h) (next h) (is_out h) → low (state_sight s) o ≡ low (sight s.settings h) o
low_is s h None p = ap (λ (l : Option ℕ). unwrap_or l 0) p.least_is
low_is s h (Some n) p = refl

expected_is : (s : State) (h : History) (o : Option ℕ) (m : ℕ) → Marked s (accepted h) o → low (sight s.settings h) o ≤ m → expected s.heights m ≡ expected (marks s.settings (accepted h)) m
expected_is s h None m k le = ap (λ (ms : List Mark). expected ms m) (k.marks_are ∙ two_all (marks s.settings (accepted h)))
expected_is s h (Some n) m k le = ap (λ (ms : List Mark). expected ms m) k.marks_are ∙ expected-two n m (marks s.settings (accepted h)) le

held_now : (s : State) (h : History) (n : ℕ) → is_flushing h ≡ false → Placed s (accepted h) (next h) (is_out h) → map.get s.held n ≡ held s.settings h n
held_now s h n e p = p.held_are n ∙ rw e refl

-- the requests of the number after the greatest, by the kept heights
pub after_two : (s : Settings) (o : Option ℕ) (latency top : ℕ) (ms : List Mark) → wanted_next s latency top (kept_two o ms) ≡ wanted_next s latency top ms
after_two s o latency top [] = refl
after_two s None latency top (b ∷ []) = refl
after_two s (Some k) latency top (b ∷ []) = refl
after_two s None latency top (b ∷ a ∷ ms) = refl
after_two s (Some k) latency top (b ∷ a ∷ ms) =
    elim (nat_le a.number k) as (λ x. wanted_next s latency top (b ∷ (if x then a ∷ [] else a ∷ kept (Some k) ms)) ≡ wanted_next s latency top (b ∷ a ∷ ms)) [
      | true ↦ refl
      | false ↦ refl
    ]

-- a number from the lowest on is not covered
above_low : (s : State) (h : History) (o : Option ℕ) (m i : ℕ) → low (sight s.settings h) o ≤ m → 0 < i → IsPast o (m + i)
above_low s h None m i le lt = tt
above_low s h (Some k) m i le lt = omega arith

first_is : (s : State) (h : History) (o : Option ℕ) (m : ℕ) → Requested s (accepted h) o (served h) → low (sight s.settings h) o ≤ m → first_due_by s.settings s.peaks m ≡ first_due s.settings (accepted h) m
first_is s h o m q le =
    ap (λ (ps : List Peak). first_due_by s.settings ps m) q.peaks_are
    ∙ ap (λ (x : Option ℕ). lesser (later s.settings.rtx_delay x) (if s.settings.reorder == 0 then None else stamp_from (above_next o (peaks (accepted h))) (m + s.settings.reorder))) (stamp_next o (m + 1) (peaks (accepted h)) (above_low s h o m 1 le (omega arith)) ∙ stamp_is (accepted h) (m + 1))
    ∙ ap (λ (x : Option ℕ). lesser (later s.settings.rtx_delay (first_from (accepted h) (m + 1))) x)
    (elim (s.settings.reorder == 0) as (λ b. (s.settings.reorder == 0) ≡ b → (if b then None else stamp_from (above_next o (peaks (accepted h))) (m + s.settings.reorder)) ≡ (if b then None else first_from (accepted h) (m + s.settings.reorder))) [
      | true ↦ λ _. refl
      | false ↦ λ e. stamp_next o (m + s.settings.reorder) (peaks (accepted h)) (above_low s h o m s.settings.reorder le (grind (arith, common_steps))) ∙ stamp_is (accepted h) (m + s.settings.reorder)
    ] refl)

pub agrees : RunsAreBounded → NumbersLieBetween → (s : State) (h : History) → StandsFor s h → is_flushing h ≡ false → Agree s.settings (state_sight s) (sight s.settings h) (next h)
agrees runs numbers s h st e =
    let p : Placed s (accepted h) (next h) (is_out h) = placed_now s h e st.order.placed in
    let m : Marked s (accepted h) (next h) = marked_now s h e st.times.marked in
    let q : Requested s (accepted h) (next h) (served h) = requested_now s h e st.requests.requested in
    record {
      time = st.order.time_is;
      ended = all_ended_is s h st.order;
      told = st.order.told_is;
      latency = st.order.latency_is;
      top = ap (λ (t : Option ℕ). unwrap_or t 0) p.top_is;
      start = ap (λ (x : ℕ). later x s.span.first_pts) st.order.latency_is ∙ ap (λ (f : Option ℕ). later (latency s.settings h) f) m.first_is;
      low_is = low_is s h (next h) p;
      fast_is = λ none. fast_is runs numbers s h s.settings.faststart st.run p none;
      among_is = λ q le. held_has runs numbers s h q st.run p (late_not (next h) (sight s.settings h) q le);
      held_is = held_now s h _ e p;
      expected_is = λ q le. expected_is s h (next h) q m le;
      after_is = λ latency top. ap (λ (ms : List Mark). wanted_next s.settings latency top ms) m.marks_are ∙ after_two s.settings (next h) latency top (marks s.settings (accepted h));
      first_is = λ n le. first_is s h (next h) n q le;
      served_is = λ n le. q.served_are n (late_not (next h) (sight s.settings h) n le);
    }

turn_now : RunsAreBounded → NumbersLieBetween → SearchesFindTheLeast → (s : State) (h : History) → StandsFor s h → is_flushing h ≡ false → state_turn s ≡ turn s.settings h
turn_now runs numbers searches s h st e =
    let p : Placed s (accepted h) (next h) (is_out h) = placed_now s h e st.order.placed in
    ap (λ (o : Option ℕ). turn_by s.settings (state_sight s) o) p.next_is
    ∙ turn_same searches s.settings (state_sight s) (sight s.settings h) (next h) (agrees runs numbers s h st e) st.order.flushing_is

pub turn_is : RunsAreBounded → NumbersLieBetween → SearchesFindTheLeast → (s : State) (h : History) → StandsFor s h → state_turn s ≡ turn s.settings h
turn_is runs numbers searches s h st =
    elim (is_flushing h) as (λ b. is_flushing h ≡ b → state_turn s ≡ turn s.settings h) [
      | true ↦ λ e. rw (st.order.flushing_is, e) refl
      | false ↦ λ e. turn_now runs numbers searches s h st e
    ] refl

-- while a flush runs the answer is Flushing
pub flushing_turn : (s : Settings) (h : History) → is_flushing h ≡ true → turn s h ≡ Flushing
flushing_turn s h e = rw e refl

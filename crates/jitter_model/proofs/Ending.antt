-- Idle turns without a wake, End, and what comes after it.
use Rattle.std.proofs.Common.{ℕ, zero, suc, ◌≡◌, ◌≢◌, ◌+◌, ◌-◌, ◌≤◌, ◌<◌, Bool, true, false, ◌&&◌, ◌||◌, not, refl, sym, ap, ◌∙◌, List, [], ◌∷◌, ◌++◌, Option, None, Some, arith, min}
use Rattle.std.specs.Prelude.{⊤, unwrap_or, is_some, nat_lt, ◌==◌, if◌then◌else◌}
use Rattle.std.proofs.lemmas.Grind.{common_steps}
use Rattle.jitter_model.specs.declared.Settings.{Settings}
use Rattle.jitter_model.specs.declared.Arrival.{Arrival}
use Rattle.jitter_model.specs.declared.Held.{Held}
use Rattle.jitter_model.specs.declared.Verdict.{Verdict}
use Rattle.jitter_model.specs.declared.Verdict.TheVariants.{Accepted, Aside, Restart, Late, Duplicate, Full, Stray, Flushing, Ended}
use Rattle.jitter_model.specs.declared.Turn.{Turn}
use Rattle.jitter_model.specs.declared.Turn.TheVariants.{Packet, Lost, Request, End, Idle, Flushing as Flushes}
use Rattle.jitter_model.specs.declared.Entry.TheVariants.{Push, Clock, FlushStart, FlushStop, Latency, Report, Ends, Turned}
use Rattle.jitter_model.specs.History.{History, latency, is_flushing, all_ended, end_told}
use Rattle.jitter_model.specs.Accepted.{Taken, top, least, has, aside, taken_after, accepted}
use Rattle.jitter_model.specs.Covered.{opens, next, next_after, numbers_from, covered_after, covered}
use Rattle.jitter_model.specs.Verdicts.{is_late, number_of, verdict, view}
use Rattle.jitter_model.specs.Requests.{lesser, Asked}
use Rattle.jitter_model.specs.Turns.{Sight, low, deadline, asked, may_give, is_done, output_wake, request_wake_from, start_time, packet_turn, request_turn, turn_by, sight, turn}
use Rattle.jitter_model.specs.Runs.{Run}
use Rattle.jitter_model.specs.Laws.{contains, IsAllCovered}
use Rattle.jitter_model.proofs.Chain.{by_turn, has-le}
use Rattle.jitter_model.proofs.Judged.{says}
use Rattle.jitter_model.proofs.Covers.{covers}
use Rattle.jitter_model.proofs.Window.{window, start_some}
use Rattle.jitter_model.proofs.Giving.{has_top, has-ge, held_low}
use Rattle.jitter_model.specs.Said.{Covers, IsAccepted}
use Rattle.jitter_model.specs.Numbered.{InWindow}

-- ---- an idle turn without a wake comes only where nothing is left

no_lesser : (x y : Option ℕ) → lesser x y ≡ None → x ≡ None
no_lesser None y e = refl
no_lesser (Some x) None e = cc
no_lesser (Some x) (Some y) e = cc

pub record DoneIfIdle (v : Sight) (o : Option ℕ) (r : Turn) : Type 0 where
  pub fact : r ≡ Idle None → (is_done v o ≡ true) × ((v.ended && is_done v o && not v.told) ≡ false)

packet_done : (v : Sight) (o : Option ℕ) (n : ℕ) (p : Option Held) → is_some p ≡ true → DoneIfIdle v o (packet_turn n p)
packet_done v o n None e = cc
packet_done v o n (Some p) e = record { fact = λ e. cc }

request_done : (v : Sight) (o : Option ℕ) (a : Option Asked) → is_some a ≡ true → DoneIfIdle v o (request_turn a)
request_done v o None e = cc
request_done v o (Some a) e = record { fact = λ e. cc }

not_some : (o : Option ℕ) → o ≡ None → not (is_some o) ≡ true
not_some o e = rw e refl

past_top : (v : Sight) (n : ℕ) → v.among n ≡ false → v.among v.top ≡ true → (if nat_lt n v.top then Some (deadline v n) else None) ≡ None → nat_lt v.top n ≡ true
past_top v n a t e =
    let other : n ≢ v.top = (λ same. let here : v.among n ≡ true = ap v.among same ∙ t in cc) in
    elim (nat_lt n v.top) as (λ b. nat_lt n v.top ≡ b → (if b then Some (deadline v n) else None) ≡ None → nat_lt v.top n ≡ true) [
      | true ↦ λ _ e. cc
      | false ↦ λ f e. grind (arith, common_steps)
    ] refl e

no_output : (v : Sight) (o : Option ℕ) → may_give v o ≡ false → (is_some o ≡ true → v.among v.top ≡ true) → output_wake v o ≡ None → is_done v o ≡ true
no_output v None g t e = not_some v.start e
no_output v (Some n) g t e = past_top v n g (t refl) e

turn_done : (s : Settings) (v : Sight) (o : Option ℕ) → (v.flushing ≡ false → may_give v o ≡ true → is_some (v.held (low v o)) ≡ true) → (is_some o ≡ true → v.among v.top ≡ true) → DoneIfIdle v o (turn_by s v o)
turn_done s v o holds t =
    by_turn (DoneIfIdle v o) s v o
    (λ _. record { fact = λ e. cc })
    (λ _ a. request_done v o (asked s v o) a)
    (λ f _ g. packet_done v o (low v o) (v.held (low v o)) (holds f g))
    (λ _ _ _ _. record { fact = λ e. cc })
    (λ _ _ _ _ _. record { fact = λ e. cc })
    (λ _ _ g _ f. record { fact = λ e. (no_output v o g t (no_lesser (output_wake v o) (request_wake_from s v (low v o) (v.top + 2 - low v o)) (idle_wake _ _ e)), f) })
  where
    idle_wake : (x y : Option ℕ) → Idle x ≡ Idle y → x ≡ y
    idle_wake x y e = cc

next_top : (t l o : Option ℕ) → InWindow t l o → is_some o ≡ true → is_some t ≡ true
next_top (Some t) l o w e = refl
next_top None None None w e = cc
next_top None None (Some k) w e = absurd w.fact
next_top None (Some l) None w e = absurd w.fact
next_top None (Some l) (Some k) w e = absurd w.fact

top_among : (s : Settings) (h : History) → Run s h → is_some (next h) ≡ true → has (accepted h) (unwrap_or (top (accepted h)) 0) ≡ true
top_among s h r e = has_top (accepted h) (next_top (top (accepted h)) (least (accepted h)) (next h) (window s h r) e)

pub idle_done : (s : Settings) (h : History) → Run s h → turn s h ≡ Idle None → is_done (sight s h) (next h) ≡ true
idle_done s h r e = ((turn_done s (sight s h) (next h) (held_low s h r) (top_among s h r)).fact e).0

-- where all pushers ended and End wasn't told, no turn is idle without a wake
no_rest : (ended done told : Bool) → ended ≡ true → done ≡ true → told ≡ false → (ended && done && not told) ≡ false → ⊥
no_rest ended done told a b c e = let yes : (ended && done && not told) ≡ true = rw (a, b, c) refl in cc

pub not_idle : (s : Settings) (h : History) → Run s h → all_ended s h ≡ true → end_told h ≡ false → turn s h ≡ Idle None → ⊥
not_idle s h r a t e =
    let x : (is_done (sight s h) (next h) ≡ true) × ((all_ended s h && is_done (sight s h) (next h) && not (end_told h)) ≡ false) = (turn_done s (sight s h) (next h) (held_low s h r) (top_among s h r)).fact e in
    no_rest (all_ended s h) (is_done (sight s h) (next h)) (end_told h) a x.0 t x.1

-- ---- where nothing is left, all is covered

-- the numbers from the least one up to the next are covered
abbrev pub Spans : Option ℕ → Option ℕ → List ℕ → Type 0
Spans l None ns = ⊤
Spans l (Some k) ns = (n : ℕ) → unwrap_or l 0 ≤ n → n < k → contains ns n ≡ true

pub record Spanned (l o : Option ℕ) (ns : List ℕ) : Type 0 where
  pub fact : Spans l o ns

contains_first : (n q : ℕ) (ns : List ℕ) → (q ≢ n → contains ns q ≡ true) → contains (n ∷ ns) q ≡ true
contains_first n q ns h =
    elim (q == n) as (λ b. (q == n) ≡ b → (b || contains ns q) ≡ true) [
      | true ↦ λ e. refl
      | false ↦ λ e. h (grind (arith, common_steps))
    ] refl

contains_from : (k count q : ℕ) (ns : List ℕ) → q < k + count → (q < k → contains ns q ≡ true) → contains (numbers_from k count ++ ns) q ≡ true
contains_from k zero q ns less h = h (omega arith)
contains_from k (suc count) q ns less h = contains_first (k + count) q (numbers_from k count ++ ns) (λ other. contains_from k count q ns (omega arith) h)

turned_spans : (v : Sight) (l o : Option ℕ) (r : Turn) (ns : List ℕ) → v.least ≡ unwrap_or l 0 → Covers v o r → Spanned l o ns → Spanned l (next_after o r) (covered_after ns r)
turned_spans v l None (Packet m pts p) ns e c h = record { fact = λ n from to. contains_first m n ns (λ other. absurd (other (omega (arith, c.0)))) }
turned_spans v l (Some k) (Packet m pts p) ns e c h = record { fact = λ n from to. contains_first m n ns (λ other. h.fact n from (omega (arith, c.0))) }
turned_spans v l None (Lost m count pts d) ns e c h = absurd c
turned_spans v l (Some k) (Lost m count pts d) ns e c h = record { fact = λ n from to. contains_from m count n ns to (λ less. h.fact n from (omega (arith, c.0))) }
turned_spans v l o (Request m k) ns e c h = h
turned_spans v l o End ns e c h = h
turned_spans v l o (Idle wake) ns e c h = h
turned_spans v l o Flushes ns e c h = h

-- a packet that isn't late leaves the least number
accepted_spans : (t l o : Option ℕ) (n : ℕ) (ns : List ℕ) → is_late o n ≡ false → InWindow t l o → Spanned l o ns → Spanned (Some (min n (unwrap_or l n))) o ns
accepted_spans t l None n ns late w h = record { fact = tt }
accepted_spans None None (Some k) n ns late w h = absurd w.fact
accepted_spans None (Some l) (Some k) n ns late w h = absurd w.fact
accepted_spans (Some t) None (Some k) n ns late w h = absurd w.fact
accepted_spans (Some t) (Some l) (Some k) n ns late w h =
    let above : k ≤ n = grind (arith, common_steps) in
    record { fact = λ q from to. h.fact q (omega (arith, w.fact)) to }

push_spans : (s : Settings) (h : History) (a : Arrival) (v : Verdict) → v ≡ verdict s h a → InWindow (top (accepted h)) (least (accepted h)) (next h) → Spanned (least (accepted h)) (next h) (covered h) → Spanned (least (taken_after (accepted h) (aside h) a v)) (if opens v then None else next h) (if opens v then [] else covered h)
push_spans s h a Accepted e w x = let y : IsAccepted s (view h a) a = says s h a Accepted e in accepted_spans (top (accepted h)) (least (accepted h)) (next h) (number_of h a) (covered h) y.late w x
push_spans s h a (Restart d) e w x = record { fact = tt }
push_spans s h a Aside e w x = x
push_spans s h a Late e w x = x
push_spans s h a Duplicate e w x = x
push_spans s h a Full e w x = x
push_spans s h a Stray e w x = x
push_spans s h a Flushing e w x = x
push_spans s h a Ended e w x = x

flush_spans : (b : Bool) (ps : List Taken) (o : Option ℕ) (ns : List ℕ) → Spanned (least ps) o ns → Spanned (least (if b then [] else ps)) (if b then None else o) (if b then [] else ns)
flush_spans true ps o ns x = record { fact = tt }
flush_spans false ps o ns x = x

pub spans : (s : Settings) (h : History) → Run s h → Spanned (least (accepted h)) (next h) (covered h)
spans s [] r = record { fact = tt }
spans s (Push a v n d ∷ h) r = push_spans s h a v r.0.verdict_is (window s h r.1) (spans s h r.1)
spans s (Clock t ∷ h) r = spans s h r.1
spans s (FlushStart d ∷ h) r = spans s h r.1
spans s (FlushStop ∷ h) r = flush_spans (is_flushing h) (accepted h) (next h) (covered h) (spans s h r)
spans s (Latency ns ∷ h) r = spans s h r.1
spans s (Report ntp rtp reply ∷ h) r = spans s h r.1
spans s (Ends p ∷ h) r = spans s h r.1
spans s (Turned t ∷ h) r = turned_spans (sight s h) (least (accepted h)) (next h) t (covered h) refl (covers s h t r.0).fact (spans s h r.1)

has_some : (ps : List Taken) (n : ℕ) → has ps n ≡ true → is_some (top ps) ≡ true
has_some [] n e = e
has_some (p ∷ ps) n e = refl

-- where nothing was accepted there is no first packet
start_none : (s : Settings) (time : ℕ) (ps : List Taken) (n : ℕ) → not (is_some (start_time s time ps)) ≡ true → has ps n ≡ true → ⊥
start_none s time ps n e h =
    let some : is_some (start_time s time ps) ≡ true = start_some s time ps ∙ has_some ps n h in
    let none : not true ≡ true = ap not (sym some) ∙ e in
    cc

done_covers : (s : Settings) (h : History) (o : Option ℕ) → is_done (sight s h) o ≡ true → Spanned (least (accepted h)) o (covered h) → IsAllCovered (accepted h) (covered h)
done_covers s h None e x = λ from n to f t ge le. absurd (start_none s (latency s h) (accepted h) from e f)
done_covers s h (Some k) e x = λ from n to f t ge le. let past : unwrap_or (top (accepted h)) 0 < k = grind (arith, common_steps) in
    let above : unwrap_or (least (accepted h)) 0 ≤ from = has-ge (accepted h) from f in
    let below : to ≤ unwrap_or (top (accepted h)) 0 = has-le (accepted h) to t in
    x.fact n (omega arith) (omega arith)

pub all_covered : (s : Settings) (h : History) → Run s h → is_done (sight s h) (next h) ≡ true → IsAllCovered (accepted h) (covered h)
all_covered s h r e = done_covers s h (next h) e (spans s h r)

pub idle_covers : (s : Settings) (h : History) → Run s h → turn s h ≡ Idle None → IsAllCovered (accepted h) (covered h)
idle_covers s h r e = all_covered s h r (idle_done s h r e)

-- ---- End

pub record EndsRightly (v : Sight) (o : Option ℕ) (r : Turn) : Type 0 where
  pub fact : r ≡ End → (v.ended && is_done v o && not v.told) ≡ true

packet_ends : (v : Sight) (o : Option ℕ) (n : ℕ) (p : Option Held) → EndsRightly v o (packet_turn n p)
packet_ends v o n None = record { fact = λ e. cc }
packet_ends v o n (Some p) = record { fact = λ e. cc }

request_ends : (v : Sight) (o : Option ℕ) (a : Option Asked) → EndsRightly v o (request_turn a)
request_ends v o None = record { fact = λ e. cc }
request_ends v o (Some a) = record { fact = λ e. cc }

turn_ends : (s : Settings) (v : Sight) (o : Option ℕ) → EndsRightly v o (turn_by s v o)
turn_ends s v o =
    by_turn (EndsRightly v o) s v o
    (λ _. record { fact = λ e. cc })
    (λ _ _. request_ends v o (asked s v o))
    (λ _ _ _. packet_ends v o (low v o) (v.held (low v o)))
    (λ _ _ _ _. record { fact = λ e. cc })
    (λ _ _ _ _ f. record { fact = λ _. f })
    (λ _ _ _ _ _. record { fact = λ e. cc })

three_true : (a b c : Bool) → (a && b && c) ≡ true → (a ≡ true) × (b ≡ true) × (c ≡ true)
three_true true true true e = (refl, refl, refl)
three_true true true false e = cc
three_true true false c e = cc
three_true false b c e = cc

pub end_facts : (s : Settings) (h : History) → turn s h ≡ End → (all_ended s h ≡ true) × (is_done (sight s h) (next h) ≡ true) × (not (end_told h) ≡ true)
end_facts s h e = three_true (all_ended s h) (is_done (sight s h) (next h)) (not (end_told h)) ((turn_ends s (sight s h) (next h)).fact e)

pub end_covers : (s : Settings) (h : History) → Run s (Turned End ∷ h) → IsAllCovered (accepted h) (covered h)
end_covers s h r = all_covered s h r.1 (end_facts s h (sym (r.0))).1

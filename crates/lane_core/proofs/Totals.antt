-- The replies of a lane come to small numbers: each push leaves at most 8192 numbers uncovered.
use Rattle.std.proofs.Common.{ℕ, ◌≡◌, ◌+◌, ◌-◌, ◌*◌, ◌≤◌, ◌<◌, ◌^◌, Bool, true, false, refl, sym, ap, ◌∙◌, List, [], ◌∷◌, Option, None, Some, arith, unwrap_or}
use Rattle.std.specs.Prelude.{if◌then◌else◌}
use Rattle.std.proofs.Props.{props}
use Rattle.std.proofs.Math.Logic.{∥∥₁_elim}
use Rattle.jitter_model.specs.declared.Arrival.{Arrival}
use Rattle.jitter_model.specs.declared.Packet.{Packet as PacketOf}
use Rattle.jitter_model.specs.declared.Settings.{Settings}
use Rattle.jitter_model.specs.declared.Turn.{Turn}
use Rattle.jitter_model.specs.declared.Turn.TheVariants.{Packet, Lost, Request, End, Idle, Flushing}
use Rattle.jitter_model.specs.declared.Verdict.{Verdict}
use Rattle.jitter_model.specs.declared.Verdict.TheVariants as verdict
use Rattle.jitter_model.specs.declared.Entry.{Entry}
use Rattle.jitter_model.specs.declared.Entry.TheVariants.{Push, Clock, FlushStart, FlushStop, Latency, Report, Ends, Turned}
use Rattle.jitter_model.specs.History.{History, pushes, is_flushing}
use Rattle.jitter_model.specs.Accepted.{Taken, top, least, accepted}
use Rattle.jitter_model.specs.Covered.{next, next_after}
use Rattle.jitter_model.specs.Runs.{Run}
use Rattle.jitter_model.specs.Laws.{IsWindow}
use Rattle.jitter_core.specs.declared.buffer.Buffer.{Buffer}
use Rattle.jitter_core.specs.Words.{Stands}
use Rattle.lane_core.specs.declared.counts.Counts.{Counts}
use Rattle.lane_core.specs.Totals.{turn_out, turn_lost, refusal, with_turn, with_push, outs, losses, refusals, CountsOf, IsCounted}

-- how many numbers from the lowest to the greatest are still to be covered
abbrev pub uncovered : Option ℕ → Option ℕ → Option ℕ → ℕ
uncovered None least next = 0
uncovered (Some t) least None = t + 1 - unwrap_or least 0
uncovered (Some t) least (Some n) = t + 1 - n

uncovered_few : (t m n : Option ℕ) → IsWindow t m n → uncovered t m n ≤ 8192
uncovered_few None m n = λ w. omega arith
uncovered_few (Some t) None None = λ w. absurd w
uncovered_few (Some t) None (Some n) = λ w. absurd w
uncovered_few (Some t) (Some m) None = λ w. omega (arith, w.0, w.1)
uncovered_few (Some t) (Some m) (Some n) = λ w. omega (arith, w.0, w.1)

-- what a reply covers begins at the next number, or at the least one
abbrev pub IsFirst : Option ℕ → Option ℕ → Turn → Type 0
IsFirst m o (Packet n pts p) = n ≡ unwrap_or o (unwrap_or m 0)
IsFirst m o (Lost n count pts d) = o ≡ Some n
IsFirst m o r = Unit {0}

some_same : (a b : ℕ) → Some a ≡ Some b → a ≡ b
some_same a b e = cc

none_some : (n : ℕ) → None ≡ Some n → ⊥
none_some n e = cc

-- a reply covers numbers that were not covered
covering : (t m o : Option ℕ) (r : Turn) → IsFirst m o r → IsWindow t m (next_after o r) → turn_out r + turn_lost r + uncovered t m (next_after o r) ≤ uncovered t m o
covering (Some t) (Some m) None (Packet n pts p) = λ c w. omega (arith, c, w.1, w.2)
covering (Some t) (Some m) (Some k) (Packet n pts p) = λ c w. omega (arith, c, w.1)
covering (Some t) None o (Packet n pts p) = λ c w. absurd w
covering None (Some m) o (Packet n pts p) = λ c w. absurd w
covering None None o (Packet n pts p) = λ c w. absurd w
covering (Some t) (Some m) (Some k) (Lost n count pts d) = λ c w. let e : k ≡ n = some_same k n c in omega (arith, e, w.1)
covering (Some t) None (Some k) (Lost n count pts d) = λ c w. absurd w
covering None (Some m) (Some k) (Lost n count pts d) = λ c w. absurd w
covering None None (Some k) (Lost n count pts d) = λ c w. absurd w
covering t m None (Lost n count pts d) = λ c w. absurd (none_some n c)
covering t m o (Request n k) = λ c w. omega arith
covering t m o End = λ c w. omega arith
covering t m o (Idle wake) = λ c w. omega arith
covering t m o Flushing = λ c w. omega arith

abbrev pub uncovered_in : History → ℕ
uncovered_in h = uncovered (top (accepted h)) (least (accepted h)) (next h)

-- the laws of the window and of what a reply covers first
pub record CoverLaws : Type 0 where
  pub window : (s : Settings) (h : History) → Run s h → IsWindow (top (accepted h)) (least (accepted h)) (next h)
  pub packet : (s : Settings) (h : History) (n pts : ℕ) (p : PacketOf) → Run s (Turned (Packet n pts p) ∷ h) → n ≡ unwrap_or (next h) (unwrap_or (least (accepted h)) 0)
  pub loss : (s : Settings) (h : History) (n count pts duration : ℕ) → Run s (Turned (Lost n count pts duration) ∷ h) → next h ≡ Some n

few_in : CoverLaws → (s : Settings) (h : History) → Run s h → uncovered_in h ≤ 8192
few_in laws s h run = uncovered_few (top (accepted h)) (least (accepted h)) (next h) (laws.window s h run)

first_of : CoverLaws → (s : Settings) (h : History) (r : Turn) → Run s (Turned r ∷ h) → IsFirst (least (accepted h)) (next h) r
first_of laws s h (Packet n pts p) run = laws.packet s h n pts p run
first_of laws s h (Lost n count pts d) run = laws.loss s h n count pts d run
first_of laws s h (Request n k) run = tt
first_of laws s h End run = tt
first_of laws s h (Idle wake) run = tt
first_of laws s h Flushing run = tt

turned_covers : CoverLaws → (s : Settings) (h : History) (r : Turn) → Run s (Turned r ∷ h) → turn_out r + turn_lost r + uncovered_in (Turned r ∷ h) ≤ uncovered_in h
turned_covers laws s h r run =
    covering (top (accepted h)) (least (accepted h)) (next h) r (first_of laws s h r run) (laws.window s (Turned r ∷ h) run)

flushed : (b : Bool) (ps : List Taken) (o : Option ℕ) → uncovered (top (if b then [] else ps)) (least (if b then [] else ps)) (if b then None else o) ≤ uncovered (top ps) (least ps) o
flushed true ps o = omega arith
flushed false ps o = omega arith

pub covered_few : CoverLaws → (s : Settings) (h : History) → Run s h → outs h + losses h + uncovered_in h ≤ 8192 * pushes h
covered_few laws s [] run = omega arith
covered_few laws s (Push a v n d ∷ h) run = omega (arith, covered_few laws s h run.1, few_in laws s (Push a v n d ∷ h) run)
covered_few laws s (Clock t ∷ h) run = covered_few laws s h run.1
covered_few laws s (FlushStart d ∷ h) run = covered_few laws s h run.1
covered_few laws s (FlushStop ∷ h) run = omega (arith, covered_few laws s h run, flushed (is_flushing h) (accepted h) (next h))
covered_few laws s (Latency ns ∷ h) run = covered_few laws s h run.1
covered_few laws s (Report ntp rtp reply ∷ h) run = covered_few laws s h run.1
covered_few laws s (Ends p ∷ h) run = covered_few laws s h run.1
covered_few laws s (Turned r ∷ h) run = omega (arith, covered_few laws s h run.1, turned_covers laws s h r run)

-- there are at most 2^31 pushes
pushes_most : (s : Settings) (h : History) → Run s h → pushes h ≤ 2147483648
pushes_most s [] run = omega arith
pushes_most s (Push a v n d ∷ h) run = let few : pushes h < 2147483648 = run.0.few in omega arith
pushes_most s (Clock t ∷ h) run = pushes_most s h run.1
pushes_most s (FlushStart d ∷ h) run = pushes_most s h run.1
pushes_most s (FlushStop ∷ h) run = pushes_most s h run
pushes_most s (Latency ns ∷ h) run = pushes_most s h run.1
pushes_most s (Report ntp rtp reply ∷ h) run = pushes_most s h run.1
pushes_most s (Ends p ∷ h) run = pushes_most s h run.1
pushes_most s (Turned r ∷ h) run = pushes_most s h run.1

refusal_one : (v : Verdict) → refusal v ≤ 1
refusal_one verdict.Accepted = omega arith
refusal_one verdict.Aside = omega arith
refusal_one (verdict.Restart d) = omega arith
refusal_one verdict.Late = omega arith
refusal_one verdict.Duplicate = omega arith
refusal_one verdict.Full = omega arith
refusal_one verdict.Stray = omega arith
refusal_one verdict.Flushing = omega arith
refusal_one verdict.Ended = omega arith

refused_few : (h : History) → refusals h ≤ pushes h
refused_few [] = omega arith
refused_few (Push a v n d ∷ h) = omega (arith, refused_few h, refusal_one v)
refused_few (Clock t ∷ h) = refused_few h
refused_few (FlushStart d ∷ h) = refused_few h
refused_few (FlushStop ∷ h) = refused_few h
refused_few (Latency ns ∷ h) = refused_few h
refused_few (Report ntp rtp reply ∷ h) = refused_few h
refused_few (Ends p ∷ h) = refused_few h
refused_few (Turned r ∷ h) = refused_few h

-- ---- what holds of a counted buffer, whatever history it stands for

pub record HasRoom (c : Counts) : Type 0 where
  pub out : c.out ≤ 2 ^ 44
  pub lost : c.lost ≤ 2 ^ 44
  pub refused : c.refused ≤ 2 ^ 44

pub room_below : (n : ℕ) → n ≤ 2 ^ 44 → n < 2 ^ 64
room_below n le = omega arith

room_of : CoverLaws → (b : Buffer) (c : Counts) (h : History) → CountsOf b c h → HasRoom c
room_of laws b c h k =
    let run : Run (b.state.settings) h = k.stands.run in
    let few : outs h + losses h + uncovered_in h ≤ 8192 * pushes h = covered_few laws b.state.settings h run in
    let most : pushes h ≤ 2147483648 = pushes_most b.state.settings h run in
    let refused : refusals h ≤ pushes h = refused_few h in
    record { out = omega (arith, k.out); lost = omega (arith, k.lost); refused = omega (arith, k.refused) }

-- a call that changes no count of a history
pub record Uncounted (e : Entry) (h : History) : Type 0 where
  pub out : outs (e ∷ h) ≡ outs h
  pub lost : losses (e ∷ h) ≡ losses h
  pub refused : refusals (e ∷ h) ≡ refusals h

-- a turn is counted
pub turn_counted : (old new : Buffer) (c : Counts) (r : Turn) → ((h : History) → Stands old h → Stands new (Turned r ∷ h)) → IsCounted old c → IsCounted new (with_turn c r)
turn_counted old new c r stands k =
    ∥∥₁_elim k (hlevel props)
    (λ x. ∣ (Turned r ∷ x.0, record { stands = stands x.0 x.1.stands; out = ap (λ (n : ℕ). n + turn_out r) x.1.out; lost = ap (λ (n : ℕ). n + turn_lost r) x.1.lost; refused = x.1.refused }) ∣₁)

-- a push is counted
pub push_counted : (old new : Buffer) (c : Counts) (a : Arrival) (v : Verdict) (n d : ℕ) → ((h : History) → Stands old h → Stands new (Push a v n d ∷ h)) → IsCounted old c → IsCounted new (with_push c v)
push_counted old new c a v n d stands k =
    ∥∥₁_elim k (hlevel props)
    (λ x. ∣ (Push a v n d ∷ x.0, record { stands = stands x.0 x.1.stands; out = x.1.out; lost = x.1.lost; refused = ap (λ (m : ℕ). m + refusal v) x.1.refused }) ∣₁)

-- a call that is neither changes no count
pub call_counted : (old new : Buffer) (c : Counts) (e : Entry) → ((h : History) → Stands old h → Stands new (e ∷ h)) → ((h : History) → Uncounted e h) → IsCounted old c → IsCounted new c
call_counted old new c e stands same k =
    ∥∥₁_elim k (hlevel props)
    (λ x. ∣ (e ∷ x.0, record { stands = stands x.0 x.1.stands; out = x.1.out ∙ sym (same x.0).out; lost = x.1.lost ∙ sym (same x.0).lost; refused = x.1.refused ∙ sym (same x.0).refused }) ∣₁)

pub fresh_counted : (b : Buffer) → Stands b [] → IsCounted b (record { out = 0; lost = 0; refused = 0 })
fresh_counted b st = ∣ ([], record { stands = st; out = refl; lost = refl; refused = refl }) ∣₁

-- the counts with a reply fit their types
pub has_room : CoverLaws → (b : Buffer) (c : Counts) → IsCounted b c → HasRoom c
has_room laws b c k = record {
  out = ∥∥₁_elim k (hlevel props) (λ x. (room_of laws b c x.0 x.1).out);
  lost = ∥∥₁_elim k (hlevel props) (λ x. (room_of laws b c x.0 x.1).lost);
  refused = ∥∥₁_elim k (hlevel props) (λ x. (room_of laws b c x.0 x.1).refused);
}

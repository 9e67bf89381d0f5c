-- What a loss says of its numbers, and what was lost stays lost.
use Rattle.std.proofs.Common.{ℕ, ◌≡◌, ◌+◌, ◌-◌, ◌≤◌, ◌<◌, Bool, true, false, ◌&&◌, ◌||◌, not, refl, sym, subst, ◌∙◌, List, [], ◌∷◌, Option, None, Some, arith}
use Rattle.std.specs.Prelude.{⊤, nat_lt, ◌==◌, if◌then◌else◌}
use Rattle.std.proofs.lemmas.Grind.{common_steps}
use Rattle.jitter_model.specs.declared.Settings.{Settings}
use Rattle.jitter_model.specs.declared.Arrival.{Arrival}
use Rattle.jitter_model.specs.declared.Held.{Held}
use Rattle.jitter_model.specs.declared.Verdict.{Verdict}
use Rattle.jitter_model.specs.declared.Verdict.TheVariants.{Accepted, Aside, Restart, Late, Duplicate, Full, Stray, Flushing, Ended}
use Rattle.jitter_model.specs.declared.Turn.{Turn}
use Rattle.jitter_model.specs.declared.Turn.TheVariants.{Packet, Lost, Request, End, Idle, Flushing as Flushes}
use Rattle.jitter_model.specs.declared.Entry.TheVariants.{Push, Clock, FlushStart, FlushStop, Latency, Report, Ends, Turned}
use Rattle.jitter_model.specs.History.{History, is_flushing}
use Rattle.jitter_model.specs.Accepted.{Taken, has, aside, taken_after, accepted}
use Rattle.jitter_model.specs.Covered.{opens, next, next_after}
use Rattle.jitter_model.specs.Verdicts.{is_late, number_of, verdict, view}
use Rattle.jitter_model.specs.Requests.{Asked}
use Rattle.jitter_model.specs.Turns.{Sight, low, deadline, asked, may_give, is_lost, ends_loss, loss_end, packet_turn, request_turn, lost_turn, turn_by, sight, turn}
use Rattle.jitter_model.specs.Runs.{Run}
use Rattle.jitter_model.specs.Laws.{loses, was_lost, IsMissed}
use Rattle.jitter_model.proofs.Chain.{by_turn, least_from_before}
use Rattle.jitter_model.proofs.Judged.{says}
use Rattle.jitter_model.proofs.Covers.{covers}
use Rattle.jitter_model.specs.Said.{Covers, IsAccepted, IsOver, MissesAll}

-- ---- at a loss

pub record Missing (v : Sight) (r : Turn) : Type 0 where
  pub fact : MissesAll v r

packet_missing : (v : Sight) (n : ℕ) (o : Option Held) → Missing v (packet_turn n o)
packet_missing v n None = record { fact = tt }
packet_missing v n (Some p) = record { fact = tt }

request_missing : (v : Sight) (o : Option Asked) → Missing v (request_turn o)
request_missing v None = record { fact = tt }
request_missing v (Some a) = record { fact = tt }

both_fail : (b : Bool) (d t : ℕ) → (b || nat_lt t d) ≡ false → (b ≡ false) × (d ≤ t)
both_fail true d t e = cc
both_fail false d t e = (refl, grind (arith, common_steps))

not_ending : (v : Sight) (m : ℕ) → ends_loss v m ≡ false → IsOver v m
not_ending v m e = let x : (v.among m ≡ false) × (deadline v m ≤ v.time) = both_fail (v.among m) (deadline v m) v.time e in record { among = x.0; is_time = x.1 }

lost_at : (v : Sight) (n m : ℕ) → v.among n ≡ false → is_lost v (Some n) ≡ true → n ≤ m → m < n + (loss_end v n - n) → IsOver v m
lost_at v n m a l from to =
    elim (n == m) as (λ b. (n == m) ≡ b → IsOver v m) [
      | true ↦ λ e. let same : n ≡ m = grind (arith, common_steps) in subst (λ q. IsOver v q) same (record { among = a; is_time = grind (arith, common_steps) })
      | false ↦ λ e. let later_one : n + 1 ≤ m = grind (arith, common_steps) in not_ending v m (least_from_before (ends_loss v) (n + 1) (v.top - (n + 1)) m later_one (omega arith))
    ] refl

lost_missing : (v : Sight) (o : Option ℕ) → may_give v o ≡ false → is_lost v o ≡ true → Missing v (lost_turn v.marks (low v o) (loss_end v (low v o)))
lost_missing v None g l = cc
lost_missing v (Some n) g l = record { fact = λ m from to. lost_at v n m g l from to }

turn_missing : (s : Settings) (v : Sight) (o : Option ℕ) → Missing v (turn_by s v o)
turn_missing s v o =
    by_turn (Missing v) s v o
    (λ _. record { fact = tt })
    (λ _ _. request_missing v (asked s v o))
    (λ _ _ _. packet_missing v (low v o) (v.held (low v o)))
    (λ _ _ g l. lost_missing v o g l)
    (λ _ _ _ _ _. record { fact = tt })
    (λ _ _ _ _ _. record { fact = tt })

pub missed : (s : Settings) (h : History) (r : Turn) → r ≡ turn s h → MissesAll (sight s h) r
missed s h r e = (subst (λ r. Missing (sight s h) r) (sym e) (turn_missing s (sight s h) (next h))).fact

pub at_a_loss : (s : Settings) (h : History) (n count pts d : ℕ) → Run s (Turned (Lost n count pts d) ∷ h) → (m : ℕ) → n ≤ m → m < n + count → IsMissed s h m
at_a_loss s h n count pts d r m from to = let x : IsOver (sight s h) m = missed s h (Lost n count pts d) r.0 m from to in record { not_accepted = x.among; is_time = x.is_time }

-- ---- after a loss

pub record StaysLost (ps : List Taken) (o : Option ℕ) (n : ℕ) : Type 0 where
  pub not_accepted : has ps n ≡ false
  pub late : is_late o n ≡ true

-- a number that isn't late is another one than a late one
other_number : (o : Option ℕ) (n m : ℕ) → is_late o n ≡ true → is_late o m ≡ false → (n == m) ≡ false
other_number None n m e f = cc
other_number (Some k) n m e f = grind (arith, common_steps)

push_lost : (s : Settings) (h : History) (a : Arrival) (v : Verdict) (n : ℕ) → v ≡ verdict s h a → (was_lost h n ≡ true → StaysLost (accepted h) (next h) n) → (not (opens v) && was_lost h n) ≡ true → StaysLost (taken_after (accepted h) (aside h) a v) (if opens v then None else next h) n
push_lost s h a Accepted n e i l =
    let x : IsAccepted s (view h a) a = says s h a Accepted e in
    let y : StaysLost (accepted h) (next h) n = i l in
    record { not_accepted = rw (other_number (next h) n (number_of h a) y.late x.late) y.not_accepted; late = y.late }
push_lost s h a (Restart d) n e i l = cc
push_lost s h a Aside n e i l = i l
push_lost s h a Late n e i l = i l
push_lost s h a Duplicate n e i l = i l
push_lost s h a Full n e i l = i l
push_lost s h a Stray n e i l = i l
push_lost s h a Flushing n e i l = i l
push_lost s h a Ended n e i l = i l

flush_lost : (b : Bool) (ps : List Taken) (o : Option ℕ) (n : ℕ) (lost : Bool) → (lost ≡ true → StaysLost ps o n) → (not b && lost) ≡ true → StaysLost (if b then [] else ps) (if b then None else o) n
flush_lost true ps o n lost i l = cc
flush_lost false ps o n lost i l = i l

-- what is late stays late
stays_late : (v : Sight) (o : Option ℕ) (r : Turn) (n : ℕ) → Covers v o r → is_late o n ≡ true → is_late (next_after o r) n ≡ true
stays_late v None r n c e = cc
stays_late v (Some k) (Packet m pts p) n c e = let is : m ≡ k = c.0 in grind (arith, common_steps)
stays_late v (Some k) (Lost m count pts d) n c e = let is : m ≡ k = c.0 in grind (arith, common_steps)
stays_late v (Some k) (Request m q) n c e = e
stays_late v (Some k) End n c e = e
stays_late v (Some k) (Idle wake) n c e = e
stays_late v (Some k) Flushes n c e = e

loss_late : (n count pts d m : ℕ) (o : Option ℕ) → n ≤ m → m < n + count → is_late (next_after o (Lost n count pts d)) m ≡ true
loss_late n count pts d m o from to = grind (arith, common_steps)

turned_lost : (v : Sight) (ps : List Taken) (o : Option ℕ) (r : Turn) (n : ℕ) (lost : Bool) → Covers v o r → MissesAll v r → ((m : ℕ) → v.among m ≡ has ps m) → (lost ≡ true → StaysLost ps o n) → (loses r n || lost) ≡ true → StaysLost ps (next_after o r) n
turned_lost v ps o (Lost m count pts d) n lost c misses same i l =
    elim (loses (Lost m count pts d) n) as (λ b. (loses (Lost m count pts d) n ≡ b) → (b || lost) ≡ true → StaysLost ps (Some (m + count)) n) [
      | true ↦ λ e _. let from : m ≤ n = grind (arith, common_steps) in let to : n < m + count = grind (arith, common_steps) in
          record { not_accepted = sym (same n) ∙ (misses n from to).among; late = loss_late m count pts d n o from to }
      | false ↦ λ e l. let y : StaysLost ps o n = i l in record { not_accepted = y.not_accepted; late = stays_late v o (Lost m count pts d) n c y.late }
    ] refl l
turned_lost v ps o (Packet m pts p) n lost c misses same i l = let y : StaysLost ps o n = i l in record { not_accepted = y.not_accepted; late = stays_late v o (Packet m pts p) n c y.late }
turned_lost v ps o (Request m k) n lost c misses same i l = i l
turned_lost v ps o End n lost c misses same i l = i l
turned_lost v ps o (Idle wake) n lost c misses same i l = i l
turned_lost v ps o Flushes n lost c misses same i l = i l

pub stays_lost : (s : Settings) (h : History) (n : ℕ) → Run s h → was_lost h n ≡ true → StaysLost (accepted h) (next h) n
stays_lost s [] n r l = cc
stays_lost s (Push a v m d ∷ h) n r l = push_lost s h a v n r.0.verdict_is (stays_lost s h n r.1) l
stays_lost s (Clock t ∷ h) n r l = stays_lost s h n r.1 l
stays_lost s (FlushStart d ∷ h) n r l = stays_lost s h n r.1 l
stays_lost s (FlushStop ∷ h) n r l = flush_lost (is_flushing h) (accepted h) (next h) n (was_lost h n) (stays_lost s h n r) l
stays_lost s (Latency ns ∷ h) n r l = stays_lost s h n r.1 l
stays_lost s (Report ntp rtp reply ∷ h) n r l = stays_lost s h n r.1 l
stays_lost s (Ends p ∷ h) n r l = stays_lost s h n r.1 l
stays_lost s (Turned t ∷ h) n r l = turned_lost (sight s h) (accepted h) (next h) t n (was_lost h n) (covers s h t r.0).fact (missed s h t r.0) (λ m. refl) (stays_lost s h n r.1) l

-- no packet of such a number is accepted
pub lost_not_accepted : (s : Settings) (h : History) (a : Arrival) → Run s h → was_lost h (number_of h a) ≡ true → verdict s h a ≡ Accepted → ⊥
lost_not_accepted s h a r l e = let x : IsAccepted s (view h a) a = says s h a Accepted (sym e) in let y : StaysLost (accepted h) (next h) (number_of h a) = stays_lost s h (number_of h a) r l in no_both (is_late (next h) (number_of h a)) y.late x.late
  where
    no_both : (b : Bool) → b ≡ true → b ≡ false → ⊥
    no_both b e f = cc

-- a packet is given out with the next number, or the least one
given_not_late : (v : Sight) (o : Option ℕ) (n pts : ℕ) (p : Rattle.jitter_model.specs.declared.Packet.Packet) → Covers v o (Packet n pts p) → is_late o n ≡ false
given_not_late v None n pts p c = refl
given_not_late v (Some k) n pts p c = let is : n ≡ k = c.0 in grind (arith, common_steps)

-- none is given out
pub lost_not_given : (s : Settings) (h : History) (n pts : ℕ) (p : Rattle.jitter_model.specs.declared.Packet.Packet) → Run s h → was_lost h n ≡ true → turn s h ≡ Packet n pts p → ⊥
lost_not_given s h n pts p r l e =
    let late : is_late (next h) n ≡ true = (stays_lost s h n r l).late in
    let not_late : is_late (next h) n ≡ false = given_not_late (sight s h) (next h) n pts p (covers s h (Packet n pts p) (sym e)).fact in
    cc

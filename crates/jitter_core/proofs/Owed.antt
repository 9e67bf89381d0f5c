-- An accepted packet below the next number was given out.
use Rattle.std.proofs.Common.{ℕ, ◌≡◌, ◌+◌, ◌≤◌, ◌<◌, Bool, true, false, ◌||◌, ◌&&◌, not, refl, ◌∙◌, List, [], ◌∷◌, Option, None, Some, arith}
use Rattle.std.specs.Prelude.{unwrap_or, ◌==◌, nat_lt, nat_le, if◌then◌else◌}
use Rattle.std.proofs.lemmas.Grind.{common_steps}
use Rattle.jitter_model.specs.declared.Settings.{Settings}
use Rattle.jitter_model.specs.declared.Arrival.{Arrival}
use Rattle.jitter_model.specs.declared.Turn.{Turn}
use Rattle.jitter_model.specs.declared.Turn.TheVariants.{Packet, Lost, Request, End, Idle, Flushing as Flushes}
use Rattle.jitter_model.specs.declared.Verdict.{Verdict}
use Rattle.jitter_model.specs.declared.Verdict.TheVariants.{Accepted, Aside, Restart, Late, Duplicate, Full, Stray, Flushing, Ended}
use Rattle.jitter_model.specs.declared.Entry.TheVariants.{Push, Clock, FlushStart, FlushStop, Latency, Report, Ends, Turned}
use Rattle.jitter_model.specs.History.{History, is_flushing}
use Rattle.jitter_model.specs.Accepted.{Taken, least, has, aside, accepted, taken_after}
use Rattle.jitter_model.specs.Covered.{next, next_after, is_out, gives, opens}
use Rattle.jitter_model.specs.Verdicts.{is_late, verdict, view, number_of}
use Rattle.jitter_model.specs.Turns.{Sight, sight}
use Rattle.jitter_model.specs.Runs.{Run}
use Rattle.jitter_model.specs.Said.{Covers, IsAccepted, MissesAll}
use Rattle.jitter_model.specs.Known.{RepliesTell}
use Rattle.jitter_model.specs.Known.{NumbersLieBetween}

-- a number below the next one that was accepted is out
pub record IsGiven (ps : List Taken) (o : Option ℕ) (out : ℕ → Bool) (q : ℕ) : Type 0 where
  pub fact : has ps q ≡ true → is_late o q ≡ true → out q ≡ true

pushed_here : (ps : List Taken) (n q : ℕ) (o : Option ℕ) (out : Bool) → is_late o n ≡ false → (has ps q ≡ true → is_late o q ≡ true → out ≡ true) → (q == n || has ps q) ≡ true → is_late o q ≡ true → out ≡ true
pushed_here ps n q o out late h e l =
    elim (q == n) as (λ b. (q == n) ≡ b → (b || has ps q) ≡ true → out ≡ true) [
      | true ↦ λ same _. let is : q ≡ n = grind (arith, common_steps) in let bad : is_late o q ≡ false = rw is late in cc
      | false ↦ λ _ has. h has l
    ] refl e

push_given : RepliesTell → (s : Settings) (h : History) (a : Arrival) (v : Verdict) (q : ℕ) → v ≡ verdict s h a → IsGiven (accepted h) (next h) (is_out h) q → IsGiven (taken_after (accepted h) (aside h) a v) (if opens v then None else next h) (λ n. not (opens v) && is_out h n) q
push_given replies s h a Accepted q e g = let x : IsAccepted s (view h a) a = replies.verdicts s h a Accepted e in record { fact = pushed_here (accepted h) (number_of h a) q (next h) (is_out h q) x.late g.fact }
push_given replies s h a (Restart d) q e g = record { fact = λ _ late. cc }
push_given replies s h a Aside q e g = record { fact = g.fact }
push_given replies s h a Late q e g = record { fact = g.fact }
push_given replies s h a Duplicate q e g = record { fact = g.fact }
push_given replies s h a Full q e g = record { fact = g.fact }
push_given replies s h a Stray q e g = record { fact = g.fact }
push_given replies s h a Flushing q e g = record { fact = g.fact }
push_given replies s h a Ended q e g = record { fact = g.fact }

flush_given : (b : Bool) (ps : List Taken) (o : Option ℕ) (out : ℕ → Bool) (q : ℕ) → IsGiven ps o out q → IsGiven (if b then [] else ps) (if b then None else o) (λ n. not b && out n) q
flush_given true ps o out q g = record { fact = λ has late. cc }
flush_given false ps o out q g = record { fact = g.fact }

given_here : (q n : ℕ) (out : Bool) → ((q == n) ≡ false → out ≡ true) → (q == n || out) ≡ true
given_here q n out f = elim (q == n) as (λ b. (q == n) ≡ b → (b || out) ≡ true) [ true ↦ λ _. refl | false ↦ λ e. f e ] refl

lt_true : (x y : ℕ) → x < y → nat_lt x y ≡ true
lt_true x y lt = grind (arith, common_steps)

turned_given : NumbersLieBetween → (v : Sight) (ps : List Taken) (o : Option ℕ) (r : Turn) (q : ℕ) (out : ℕ → Bool) → v.least ≡ unwrap_or (least ps) 0 → v.among ≡ has ps → Covers v o r → MissesAll v r → IsGiven ps o out q → IsGiven ps (next_after o r) (λ n. gives r n || out n) q
turned_given numbers v ps None (Packet n pts p) q out l a c m g =
    record {
      fact = λ is late. given_here q n (out q) (λ other.
          let from : unwrap_or (least ps) 0 ≤ q = numbers.from ps q is in
          let n_is : n ≡ unwrap_or (least ps) 0 = c.0 ∙ l in
          let to : q < n + 1 = grind (arith, common_steps) in
          let bad : q ≡ n = omega arith in
          grind (arith, common_steps));
    }
turned_given numbers v ps (Some k) (Packet n pts p) q out l a c m g =
    record {
      fact = λ is late. given_here q n (out q) (λ other.
          let n_is : n ≡ k = c.0 in
          let to : q < n + 1 = grind (arith, common_steps) in
          let not_it : n ≡ q → ⊥ = λ e. (let same : (q == n) ≡ true = grind (arith, common_steps) in cc) in
          let lt : q < k = omega arith in
          g.fact is (lt_true q k lt));
    }
turned_given numbers v ps None (Lost n count pts d) q out l a c m g = absurd c
turned_given numbers v ps (Some k) (Lost n count pts d) q out l a c m g =
    record {
      fact = λ is late.
          let to : q < n + count = grind (arith, common_steps) in
          elim (nat_le n q) as (λ b. nat_le n q ≡ b → out q ≡ true) [
            | true ↦ λ e. let from : n ≤ q = grind (arith, common_steps) in
                let missing : v.among q ≡ false = (m q from to).among in
                let there : v.among q ≡ true = rw a is in
                cc
            | false ↦ λ e. let below : q < n = grind (arith, common_steps) in
                let n_is : n ≡ k = c.0 in
                let lt : q < k = omega arith in
                g.fact is (lt_true q k lt)
          ] refl;
    }
turned_given numbers v ps o (Request n k) q out l a c m g = record { fact = g.fact }
turned_given numbers v ps o End q out l a c m g = record { fact = g.fact }
turned_given numbers v ps o (Idle wake) q out l a c m g = record { fact = g.fact }
turned_given numbers v ps o Flushes q out l a c m g = record { fact = g.fact }

pub all_given : RepliesTell → NumbersLieBetween → (s : Settings) (h : History) (q : ℕ) → Run s h → IsGiven (accepted h) (next h) (is_out h) q
all_given replies numbers s [] q r = record { fact = λ has late. cc }
all_given replies numbers s (Push a v n d ∷ h) q r = push_given replies s h a v q r.0.verdict_is (all_given replies numbers s h q r.1)
all_given replies numbers s (Clock t ∷ h) q r = record { fact = (all_given replies numbers s h q r.1).fact }
all_given replies numbers s (FlushStart d ∷ h) q r = record { fact = (all_given replies numbers s h q r.1).fact }
all_given replies numbers s (FlushStop ∷ h) q r = flush_given (is_flushing h) (accepted h) (next h) (is_out h) q (all_given replies numbers s h q r)
all_given replies numbers s (Latency ns ∷ h) q r = record { fact = (all_given replies numbers s h q r.1).fact }
all_given replies numbers s (Report ntp rtp reply ∷ h) q r = record { fact = (all_given replies numbers s h q r.1).fact }
all_given replies numbers s (Ends p ∷ h) q r = record { fact = (all_given replies numbers s h q r.1).fact }
all_given replies numbers s (Turned t ∷ h) q r = turned_given numbers (sight s h) (accepted h) (next h) t q (is_out h) refl refl (replies.covers s h t r.0).fact (replies.losses s h t r.0) (all_given replies numbers s h q r.1)

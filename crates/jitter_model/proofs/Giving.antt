-- What is given out, and what is held when a packet may be given out.
use Rattle.std.proofs.Common.{ℕ, ◌≡◌, ◌≤◌, ◌<◌, Bool, true, false, ◌||◌, refl, sym, ap, subst, ◌∙◌, List, [], ◌∷◌, Option, None, Some, arith, max, min}
use Rattle.std.specs.Prelude.{⊤, unwrap_or, is_some, nat_le, ◌==◌, if◌then◌else◌}
use Rattle.std.proofs.lemmas.Grind.{common_steps}
use Rattle.jitter_model.specs.declared.Settings.{Settings}
use Rattle.jitter_model.specs.declared.Packet.{Packet as PacketType}
use Rattle.jitter_model.specs.declared.Held.{Held}
use Rattle.jitter_model.specs.declared.Turn.{Turn}
use Rattle.jitter_model.specs.declared.Turn.TheVariants.{Packet}
use Rattle.jitter_model.specs.declared.Entry.TheVariants.{Turned}
use Rattle.jitter_model.specs.History.{History, latency, is_flushing}
use Rattle.jitter_model.specs.Accepted.{Taken, top, least, has, accepted}
use Rattle.jitter_model.specs.Covered.{next, is_out}
use Rattle.jitter_model.specs.Verdicts.{is_late}
use Rattle.jitter_model.specs.Times.{pts_after, found, held}
use Rattle.jitter_model.specs.Requests.{Asked}
use Rattle.jitter_model.specs.Turns.{Sight, low, asked, may_give, start_time, packet_turn, request_turn, turn_by, sight, turn}
use Rattle.jitter_model.specs.Runs.{Run}
use Rattle.jitter_model.specs.Laws.{IsTheOne}
use Rattle.jitter_model.proofs.Chain.{by_turn}
use Rattle.jitter_model.proofs.Numbered.{distinct}
use Rattle.jitter_model.proofs.Window.{out_late, start_some, start_needs}
use Rattle.jitter_model.specs.Numbered.{IsDistinct}

-- ---- a packet reply has the held packet

abbrev pub GivesHeld : Sight → Turn → Type 0
GivesHeld v (Packet n pts p) = v.held n ≡ Some (record { pts = pts; packet = p })
GivesHeld v _ = ⊤

pub record Giving (v : Sight) (r : Turn) : Type 0 where
  pub fact : GivesHeld v r

packet_giving : (v : Sight) (n : ℕ) (o : Option Held) → v.held n ≡ o → Giving v (packet_turn n o)
packet_giving v n None e = record { fact = tt }
packet_giving v n (Some p) e = record { fact = e }

request_giving : (v : Sight) (o : Option Asked) → Giving v (request_turn o)
request_giving v None = record { fact = tt }
request_giving v (Some a) = record { fact = tt }

turn_giving : (s : Settings) (v : Sight) (o : Option ℕ) → Giving v (turn_by s v o)
turn_giving s v o =
    by_turn (Giving v) s v o
    (λ _. record { fact = tt })
    (λ _ _. request_giving v (asked s v o))
    (λ _ _ _. packet_giving v (low v o) (v.held (low v o)) refl)
    (λ _ _ _ _. record { fact = tt })
    (λ _ _ _ _ _. record { fact = tt })
    (λ _ _ _ _ _. record { fact = tt })

held_found : (b : Bool) (o : Option Held) (x : Held) → (if b then None else o) ≡ Some x → o ≡ Some x
held_found true o x e = cc
held_found false o x e = e

pub given : (s : Settings) (h : History) (n pts : ℕ) (p : PacketType) → turn s h ≡ Packet n pts p → found s (accepted h) n ≡ Some (record { pts = pts; packet = p })
given s h n pts p e =
    held_found (is_flushing h || is_out h n) (found s (accepted h) n) (record { pts = pts; packet = p })
    (subst (λ r. Giving (sight s h) r) e (turn_giving s (sight s h) (next h))).fact

the_one_here : (s : Settings) (p : Taken) (ps : List Taken) (n : ℕ) (x : Held) → (n == p.number) ≡ true → has ps p.number ≡ false → Some (record { pts = pts_after s ps p; packet = p.arrival.packet }) ≡ Some x → IsTheOne s (p ∷ ps) n x.pts x.packet
the_one_here s p ps n x same alone e =
    let number : p.number ≡ n = grind (arith, common_steps) in
    let both : record { pts = pts_after s ps p; packet = p.arrival.packet } ≡ x = cc in
    record {
      newer = [];
      taken = p;
      older = ps;
      splits = refl;
      number_is = number;
      packet_is = ap (λ (x : Held). x.packet) both;
      pts_is = ap (λ (x : Held). x.pts) both;
      none_newer = refl;
      none_older = subst (λ q. has ps q ≡ false) number alone;
    }

one_more : (s : Settings) (p : Taken) (ps : List Taken) (n pts : ℕ) (x : PacketType) → (n == p.number) ≡ false → IsTheOne s ps n pts x → IsTheOne s (p ∷ ps) n pts x
one_more s p ps n pts x other one =
    record {
      newer = p ∷ one.newer;
      taken = one.taken;
      older = one.older;
      splits = ap (λ (qs : List Taken). p ∷ qs) one.splits;
      number_is = one.number_is;
      packet_is = one.packet_is;
      pts_is = one.pts_is;
      none_newer = rw other one.none_newer;
      none_older = one.none_older;
    }

pub found_one : (s : Settings) (ps : List Taken) (n : ℕ) (x : Held) → IsDistinct ps → found s ps n ≡ Some x → IsTheOne s ps n x.pts x.packet
found_one s [] n x d e = cc
found_one s (p ∷ ps) n x d e =
    elim (n == p.number) as (λ b. (n == p.number) ≡ b → (if b then Some (record { pts = pts_after s ps p; packet = p.arrival.packet }) else found s ps n) ≡ Some x → IsTheOne s (p ∷ ps) n x.pts x.packet) [
      | true ↦ λ same e. the_one_here s p ps n x same d.0 e
      | false ↦ λ other e. one_more s p ps n x.pts x.packet other (found_one s ps n x d.1 e)
    ] refl e

pub given_one : (s : Settings) (h : History) (n pts : ℕ) (p : PacketType) → Run s (Turned (Packet n pts p) ∷ h) → IsTheOne s (accepted h) n pts p
given_one s h n pts p r = found_one s (accepted h) n (record { pts = pts; packet = p }) (distinct s h r.1) (given s h n pts p (sym (r.0)))

-- ---- where a packet may be given out, it is held

pub is_some-found : (s : Settings) (ps : List Taken) (n : ℕ) → is_some (found s ps n) ≡ has ps n
is_some-found s [] n = refl
is_some-found s (p ∷ ps) n =
    elim (n == p.number) as (λ b. is_some (if b then Some (record { pts = pts_after s ps p; packet = p.arrival.packet }) else found s ps n) ≡ (b || has ps n)) [
      | true ↦ refl
      | false ↦ is_some-found s ps n
    ]

or_true : (b c : Bool) → c ≡ true → (b || c) ≡ true
or_true true c e = refl
or_true false c e = e

same_or : (a b : ℕ) (c : Bool) → b ≡ a → (b == a || c) ≡ true
same_or a b c e = grind (arith, common_steps)

least_or : (f : ℕ → Bool) (a b : ℕ) → f b ≡ true → (min a b == a || f (min a b)) ≡ true
least_or f a b e =
    elim (nat_le a b) as (λ c. nat_le a b ≡ c → (min a b == a || f (min a b)) ≡ true) [
      | true ↦ λ le. same_or a (min a b) (f (min a b)) (let small : a ≤ b = grind (arith, common_steps) in omega arith)
      | false ↦ λ le. let other : min a b ≡ b = (let small : b < a = grind (arith, common_steps) in omega arith) in or_true (min a b == a) (f (min a b)) (ap f other ∙ e)
    ] refl

greatest_or : (f : ℕ → Bool) (a b : ℕ) → f b ≡ true → (max a b == a || f (max a b)) ≡ true
greatest_or f a b e =
    elim (nat_le b a) as (λ c. nat_le b a ≡ c → (max a b == a || f (max a b)) ≡ true) [
      | true ↦ λ le. same_or a (max a b) (f (max a b)) (let small : b ≤ a = grind (arith, common_steps) in omega arith)
      | false ↦ λ le. let other : max a b ≡ b = (let small : a < b = grind (arith, common_steps) in omega arith) in or_true (max a b == a) (f (max a b)) (ap f other ∙ e)
    ] refl

pub has_least : (ps : List Taken) → is_some (top ps) ≡ true → has ps (unwrap_or (least ps) 0) ≡ true
has_least [] e = cc
has_least (p ∷ []) e = grind (arith, common_steps)
has_least (p ∷ q ∷ ps) e = least_or (has (q ∷ ps)) p.number (unwrap_or (least (q ∷ ps)) 0) (has_least (q ∷ ps) refl)

pub has_top : (ps : List Taken) → is_some (top ps) ≡ true → has ps (unwrap_or (top ps) 0) ≡ true
has_top [] e = cc
has_top (p ∷ []) e = grind (arith, common_steps)
has_top (p ∷ q ∷ ps) e = greatest_or (has (q ∷ ps)) p.number (unwrap_or (top (q ∷ ps)) 0) (has_top (q ∷ ps) refl)

pub has-ge : (ps : List Taken) (n : ℕ) → has ps n ≡ true → unwrap_or (least ps) 0 ≤ n
has-ge [] n h = cc
has-ge (p ∷ []) n h = grind (arith, common_steps)
has-ge (p ∷ q ∷ ps) n h =
    elim (n == p.number) as (λ b. (n == p.number) ≡ b → (b || has (q ∷ ps) n) ≡ true → unwrap_or (least (p ∷ q ∷ ps)) 0 ≤ n) [
      | true ↦ λ e _. let same : n ≡ p.number = grind (arith, common_steps) in omega arith
      | false ↦ λ e rest. let le : unwrap_or (least (q ∷ ps)) 0 ≤ n = has-ge (q ∷ ps) n rest in omega arith
    ] refl h

-- the lowest number is accepted where it may be given out
low_has : (s : Settings) (h : History) (v : Sight) (o : Option ℕ) → v.among ≡ has (accepted h) → v.least ≡ unwrap_or (least (accepted h)) 0 → v.start ≡ start_time s (latency s h) (accepted h) → may_give v o ≡ true → has (accepted h) (low v o) ≡ true
low_has s h v None a l t e =
    subst (λ n. has (accepted h) n ≡ true) (sym l)
    (has_least (accepted h) (sym (start_some s (latency s h) (accepted h)) ∙ ap is_some (sym t) ∙ start_needs v v.start e))
low_has s h v (Some n) a l t e = subst (λ (f : ℕ → Bool). f n ≡ true) a e

low_not_late : (v : Sight) (o : Option ℕ) → is_late o (low v o) ≡ false
low_not_late v None = refl
low_not_late v (Some n) = grind (arith, common_steps)

not_out : (s : Settings) (h : History) (n : ℕ) → Run s h → is_late (next h) n ≡ false → is_out h n ≡ false
not_out s h n r e =
    elim (is_out h n) as (λ b. is_out h n ≡ b → is_out h n ≡ false) [
      | true ↦ λ out. let late : is_late (next h) n ≡ true = out_late s h n r out in cc
      | false ↦ λ out. out
    ] refl

-- a packet that isn't late is held exactly where it was accepted
pub held_has : (s : Settings) (h : History) (n : ℕ) → Run s h → is_flushing h ≡ false → is_late (next h) n ≡ false → is_some (held s h n) ≡ has (accepted h) n
held_has s h n r f e = rw (f, not_out s h n r e) (is_some-found s (accepted h) n)

-- a packet that may be given out, at whatever time, is held
pub held_low_at : (s : Settings) (h : History) (v : Sight) → v.among ≡ has (accepted h) → v.least ≡ unwrap_or (least (accepted h)) 0 → v.start ≡ start_time s (latency s h) (accepted h) → Run s h → is_flushing h ≡ false → may_give v (next h) ≡ true → is_some (held s h (low v (next h))) ≡ true
held_low_at s h v a l t r f e = held_has s h (low v (next h)) r f (low_not_late v (next h)) ∙ low_has s h v (next h) a l t e

pub held_low : (s : Settings) (h : History) → Run s h → is_flushing h ≡ false → may_give (sight s h) (next h) ≡ true → is_some (held s h (low (sight s h) (next h))) ≡ true
held_low s h r f e = held_low_at s h (sight s h) refl refl refl r f e

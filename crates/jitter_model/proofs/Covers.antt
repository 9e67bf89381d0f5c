-- Replies cover numbers from the lowest one on.
use Rattle.std.proofs.Common.{ℕ, zero, suc, ◌≡◌, ◌+◌, ◌-◌, ◌≤◌, ◌<◌, Bool, true, false, refl, sym, ap, subst, List, [], ◌∷◌, ◌++◌, Option, None, Some, arith}
use Rattle.std.specs.Prelude.{⊤, if◌then◌else◌, unwrap_or}
use Rattle.std.proofs.lemmas.Grind.{common_steps}
use Rattle.jitter_model.specs.declared.Settings.{Settings}
use Rattle.jitter_model.specs.declared.Held.{Held}
use Rattle.jitter_model.specs.declared.Packet.{Packet as PacketOf}
use Rattle.jitter_model.specs.declared.Turn.{Turn}
use Rattle.jitter_model.specs.declared.Turn.TheVariants.{Packet, Lost, Request, End, Idle, Flushing}
use Rattle.jitter_model.specs.declared.Entry.TheVariants.{Push, Clock, FlushStart, FlushStop, Latency, Report, Ends, Turned}
use Rattle.jitter_model.specs.History.{History, is_flushing}
use Rattle.jitter_model.specs.Accepted.{least, accepted}
use Rattle.jitter_model.specs.Covered.{opens, next, next_after, numbers_from, covered_after, covered}
use Rattle.jitter_model.specs.Requests.{Asked}
use Rattle.jitter_model.specs.Turns.{Sight, low, asked, may_start, may_give, is_lost, ends_loss, loss_end, packet_turn, request_turn, lost_turn, turn_by, sight, turn}
use Rattle.jitter_model.specs.Runs.{Run}
use Rattle.jitter_model.specs.Laws.{IsConsecutive}
use Rattle.jitter_model.proofs.Chain.{by_turn, least_from_le, least_from_above}
use Rattle.jitter_model.specs.Said.{Covering, Covers}

packet_covers : (v : Sight) (o : Option ℕ) (p : Option Held) → may_give v o ≡ true → Covering v o (packet_turn (low v o) p)
packet_covers v None None e = record { fact = tt }
packet_covers v (Some k) None e = record { fact = tt }
packet_covers v None (Some p) e = record { fact = (refl, e) }
packet_covers v (Some k) (Some p) e = record { fact = (refl, e) }

lost_covers : (v : Sight) (o : Option ℕ) → is_lost v o ≡ true → Covering v o (lost_turn v.marks (low v o) (loss_end v (low v o)))
lost_covers v None e = cc
lost_covers v (Some n) e =
    let lt : n < v.top = grind (arith, common_steps) in
    record {
      fact = (refl, omega (arith, least_from_le (ends_loss v) (n + 1) (v.top - (n + 1))), omega (arith, least_from_above (ends_loss v) (n + 1) (v.top - (n + 1))));
    }

request_covers : (v : Sight) (o : Option ℕ) (a : Option Asked) → Covering v o (request_turn a)
request_covers v None None = record { fact = tt }
request_covers v (Some k) None = record { fact = tt }
request_covers v None (Some a) = record { fact = tt }
request_covers v (Some k) (Some a) = record { fact = tt }

none_covers : (v : Sight) (o : Option ℕ) (w : Option ℕ) → Covering v o (Idle w) × Covering v o End × Covering v o Flushing
none_covers v None w = (record { fact = tt }, record { fact = tt }, record { fact = tt })
none_covers v (Some k) w = (record { fact = tt }, record { fact = tt }, record { fact = tt })

pub turn_covers : (s : Settings) (v : Sight) (o : Option ℕ) → Covering v o (turn_by s v o)
turn_covers s v o =
    by_turn (Covering v o) s v o
    (λ _. (none_covers v o None).2)
    (λ _ _. request_covers v o (asked s v o))
    (λ _ _ g. packet_covers v o (v.held (low v o)) g)
    (λ _ _ _ l. lost_covers v o l)
    (λ _ _ _ _ _. (none_covers v o None).1)
    (λ _ _ _ _ _. (none_covers v o _).0)

pub covers : (s : Settings) (h : History) (r : Turn) → r ≡ turn s h → Covering (sight s h) (next h) r
covers s h r e = subst (λ r. Covering (sight s h) (next h) r) (sym e) (turn_covers s (sight s h) (next h))

-- what is covered begins at the next number
packet_first : (v : Sight) (o : Option ℕ) (n pts : ℕ) (p : PacketOf) → Covers v o (Packet n pts p) → n ≡ unwrap_or o v.least
packet_first v None n pts p c = c.0
packet_first v (Some k) n pts p c = c.0

loss_first : (v : Sight) (o : Option ℕ) (n count pts d : ℕ) → Covers v o (Lost n count pts d) → o ≡ Some n
loss_first v None n count pts d c = absurd c
loss_first v (Some k) n count pts d c = ap (λ (m : ℕ). Some m) (sym c.0)

pub packet_is_next : (s : Settings) (h : History) (n pts : ℕ) (p : PacketOf) → Run s (Turned (Packet n pts p) ∷ h) → n ≡ unwrap_or (next h) (unwrap_or (least (accepted h)) 0)
packet_is_next s h n pts p run = packet_first (sight s h) (next h) n pts p (covers s h (Packet n pts p) run.0).fact

pub loss_is_next : (s : Settings) (h : History) (n count pts d : ℕ) → Run s (Turned (Lost n count pts d) ∷ h) → next h ≡ Some n
loss_is_next s h n count pts d run = loss_first (sight s h) (next h) n count pts d (covers s h (Lost n count pts d) run.0).fact

-- ---- the covered numbers are consecutive

-- the last covered number is the one before the next
abbrev pub IsLast : Option ℕ → List ℕ → Type 0
IsLast None [] = ⊤
IsLast None (n ∷ ns) = ⊥
IsLast (Some k) [] = ⊥
IsLast (Some k) (n ∷ ns) = k ≡ n + 1

pub record Ordered (o : Option ℕ) (ns : List ℕ) : Type 0 where
  pub last : IsLast o ns
  pub in_order : IsConsecutive ns

one_more : (k : ℕ) (ns : List ℕ) → Ordered (Some k) ns → Ordered (Some (k + 1)) (k ∷ ns)
one_more k [] h = absurd h.last
one_more k (n ∷ ns) h = record { last = refl; in_order = (h.last, h.in_order) }

many_more : (k count : ℕ) (ns : List ℕ) → Ordered (Some k) ns → Ordered (Some (k + count)) (numbers_from k count ++ ns)
many_more k zero ns h = let none : k + 0 ≡ k = omega arith in rw none h
many_more k (suc count) ns h =
    let next_one : k + suc count ≡ k + count + 1 = omega arith in
    rw next_one (one_more (k + count) (numbers_from k count ++ ns) (many_more k count ns h))

turn_ordered : (v : Sight) (o : Option ℕ) (r : Turn) (ns : List ℕ) → Covers v o r → Ordered o ns → Ordered (next_after o r) (covered_after ns r)
turn_ordered v None (Packet m pts p) [] c h = record { last = refl; in_order = tt }
turn_ordered v None (Packet m pts p) (n ∷ ns) c h = absurd h.last
turn_ordered v (Some k) (Packet m pts p) ns c h = subst (λ k. Ordered (Some (k + 1)) (k ∷ ns)) (sym (c.0)) (one_more k ns h)
turn_ordered v None (Lost n count pts d) ns c h = absurd c
turn_ordered v (Some k) (Lost n count pts d) ns c h = subst (λ k. Ordered (Some (k + count)) (numbers_from k count ++ ns)) (sym (c.0)) (many_more k count ns h)
turn_ordered v o (Request n k) ns c h = h
turn_ordered v o End ns c h = h
turn_ordered v o (Idle wake) ns c h = h
turn_ordered v o Flushing ns c h = h

-- where a segment begins nothing is covered
anew : (b : Bool) (o : Option ℕ) (ns : List ℕ) → Ordered o ns → Ordered (if b then None else o) (if b then [] else ns)
anew true o ns h = record { last = tt; in_order = tt }
anew false o ns h = h

pub ordered : (s : Settings) (h : History) → Run s h → Ordered (next h) (covered h)
ordered s [] r = record { last = tt; in_order = tt }
ordered s (Push a v n d ∷ h) r = anew (opens v) (next h) (covered h) (ordered s h r.1)
ordered s (Clock t ∷ h) r = ordered s h r.1
ordered s (FlushStart d ∷ h) r = ordered s h r.1
ordered s (FlushStop ∷ h) r = anew (is_flushing h) (next h) (covered h) (ordered s h r)
ordered s (Latency ns ∷ h) r = ordered s h r.1
ordered s (Report ntp rtp reply ∷ h) r = ordered s h r.1
ordered s (Ends p ∷ h) r = ordered s h r.1
ordered s (Turned t ∷ h) r = turn_ordered (sight s h) (next h) t (covered h) (covers s h t r.0).fact (ordered s h r.1)

pub consecutive : (s : Settings) (h : History) → Run s h → IsConsecutive (covered h)
consecutive s h r = (ordered s h r).in_order

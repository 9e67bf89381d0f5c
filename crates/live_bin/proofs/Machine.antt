-- Two laws of the list machine, whose home is jitter_model: what a turn that is answered End or
-- Flushing says of the history before it.
use Rattle.std.proofs.Common.{ℕ, ◌≡◌, Bool, true, false, not, ◌&&◌, refl, Option, None, Some, is_some, if◌then◌else◌, List}
use Rattle.jitter_model.specs.declared.Settings.{Settings}
use Rattle.jitter_model.specs.declared.Held.{Held}
use Rattle.jitter_model.specs.declared.Mark.{Mark}
use Rattle.jitter_model.specs.declared.Turn.{Turn}
use Rattle.jitter_model.specs.declared.Turn.TheVariants as reply
use Rattle.jitter_model.specs.History.{History, all_ended, end_told, is_flushing}
use Rattle.jitter_model.specs.Covered.{next}
use Rattle.jitter_model.specs.Requests.{Asked}
use Rattle.jitter_model.specs.Turns.{turn, sight, asked, may_give, is_lost, is_done, packet_turn, request_turn, lost_turn}

-- ---- what an End says of the history before it

pub record AtEnd (f e t : Bool) : Type 0 where
  pub calm : f ≡ false
  pub ended : e ≡ true
  pub told : t ≡ false

end_by : (flushing some give lost ended done told : Bool) (r p q i : Turn) → (r ≡ reply.End → ⊥) → (p ≡ reply.End → ⊥) → (q ≡ reply.End → ⊥) → (i ≡ reply.End → ⊥)
    → (if flushing then reply.Flushing else if some then r else if give then p else if lost then q else if ended && done && not told then reply.End else i) ≡ reply.End
    → AtEnd flushing ended told
end_by true some give lost ended done told r p q i nr np nq ni e = absurd cc
end_by false true give lost ended done told r p q i nr np nq ni e = absurd (nr e)
end_by false false true lost ended done told r p q i nr np nq ni e = absurd (np e)
end_by false false false true ended done told r p q i nr np nq ni e = absurd (nq e)
end_by false false false false true true false r p q i nr np nq ni e = record { calm = refl; ended = refl; told = refl }
end_by false false false false true true true r p q i nr np nq ni e = absurd (ni e)
end_by false false false false true false true r p q i nr np nq ni e = absurd (ni e)
end_by false false false false true false false r p q i nr np nq ni e = absurd (ni e)
end_by false false false false false true true r p q i nr np nq ni e = absurd (ni e)
end_by false false false false false true false r p q i nr np nq ni e = absurd (ni e)
end_by false false false false false false true r p q i nr np nq ni e = absurd (ni e)
end_by false false false false false false false r p q i nr np nq ni e = absurd (ni e)

no_request_end : (o : Option Asked) → request_turn o ≡ reply.End → ⊥
no_request_end None e = cc
no_request_end (Some a) e = cc

no_packet_end : (n : ℕ) (o : Option Held) → packet_turn n o ≡ reply.End → ⊥
no_packet_end n None e = cc
no_packet_end n (Some x) e = cc

no_lost_end : (ms : List Mark) (n m : ℕ) → lost_turn ms n m ≡ reply.End → ⊥
no_lost_end ms n m e = cc

no_idle_end : (o : Option ℕ) → reply.Idle o ≡ reply.End → ⊥
no_idle_end o e = cc

pub end_turn : (s : Settings) (h : History) → turn s h ≡ reply.End → AtEnd (is_flushing h) (all_ended s h) (end_told h)
end_turn s h e =
    end_by (is_flushing h) (is_some (asked s (sight s h) (next h))) (may_give (sight s h) (next h)) (is_lost (sight s h) (next h)) (all_ended s h) (is_done (sight s h) (next h)) (end_told h)
    _ _ _ _ (no_request_end _) (no_packet_end _ _) (no_lost_end _ _ _) (no_idle_end _) e

open_by : (some give lost over : Bool) (r p q x i : Turn) → (r ≡ reply.Flushing → ⊥) → (p ≡ reply.Flushing → ⊥) → (q ≡ reply.Flushing → ⊥) → (x ≡ reply.Flushing → ⊥) → (i ≡ reply.Flushing → ⊥)
    → (if some then r else if give then p else if lost then q else if over then x else i) ≡ reply.Flushing → ⊥
open_by true give lost over r p q x i nr np nq nx ni e = nr e
open_by false true lost over r p q x i nr np nq nx ni e = np e
open_by false false true over r p q x i nr np nq nx ni e = nq e
open_by false false false true r p q x i nr np nq nx ni e = nx e
open_by false false false false r p q x i nr np nq nx ni e = ni e

no_request_flush : (o : Option Asked) → request_turn o ≡ reply.Flushing → ⊥
no_request_flush None e = cc
no_request_flush (Some a) e = cc

no_packet_flush : (n : ℕ) (o : Option Held) → packet_turn n o ≡ reply.Flushing → ⊥
no_packet_flush n None e = cc
no_packet_flush n (Some x) e = cc

no_lost_flush : (ms : List Mark) (n m : ℕ) → lost_turn ms n m ≡ reply.Flushing → ⊥
no_lost_flush ms n m e = cc

no_end_flush : reply.End ≡ reply.Flushing → ⊥
no_end_flush e = cc

no_idle_flush : (o : Option ℕ) → reply.Idle o ≡ reply.Flushing → ⊥
no_idle_flush o e = cc

-- outside a flush no turn is a flush's
pub open_turn : (s : Settings) (h : History) → is_flushing h ≡ false → turn s h ≡ reply.Flushing → ⊥
open_turn s h calm e =
    open_by (is_some (asked s (sight s h) (next h))) (may_give (sight s h) (next h)) (is_lost (sight s h) (next h)) _
    _ _ _ _ _ (no_request_flush _) (no_packet_flush _ _) (no_lost_flush _ _ _) no_end_flush (no_idle_flush _) (rw calm at e)

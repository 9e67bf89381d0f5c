-- What a turn that is answered End or Flushing says of the calls before it.
use Rattle.std.proofs.Common.{ℕ, ◌≡◌, Bool, true, false, ◌&&◌, not, refl, Option, None, Some}
use Rattle.jitter_model.specs.declared.Settings.{Settings}
use Rattle.jitter_model.specs.declared.Held.{Held}
use Rattle.jitter_model.specs.declared.Turn.{Turn}
use Rattle.jitter_model.specs.declared.Turn.TheVariants.{End, Flushing}
use Rattle.jitter_model.specs.History.{History, is_flushing, all_ended, end_told}
use Rattle.jitter_model.specs.Covered.{next}
use Rattle.jitter_model.specs.Requests.{Asked}
use Rattle.jitter_model.specs.Turns.{Sight, low, asked, is_done, packet_turn, request_turn, turn_by, sight, turn}
use Rattle.jitter_model.proofs.Chain.{by_turn}

-- at an End no flush runs, all pushers ended, and the end wasn't told
pub record AtEnd (v : Sight) (r : Turn) : Type 0 where
  pub fact : r ≡ End → (v.flushing ≡ false) × (v.ended ≡ true) × (v.told ≡ false)

request_no_end : (v : Sight) (a : Option Asked) → AtEnd v (request_turn a)
request_no_end v None = record { fact = λ e. cc }
request_no_end v (Some a) = record { fact = λ e. cc }

packet_no_end : (v : Sight) (n : ℕ) (p : Option Held) → AtEnd v (packet_turn n p)
packet_no_end v n None = record { fact = λ e. cc }
packet_no_end v n (Some p) = record { fact = λ e. cc }

all_three : (ended done told : Bool) → (ended && done && not told) ≡ true → (ended ≡ true) × (told ≡ false)
all_three true true false e = (refl, refl)
all_three true true true e = cc
all_three true false told e = cc
all_three false done told e = cc

by_end : (s : Settings) (v : Sight) (o : Option ℕ) → AtEnd v (turn_by s v o)
by_end s v o =
    by_turn (AtEnd v) s v o
    (λ _. record { fact = λ e. cc })
    (λ _ _. request_no_end v (asked s v o))
    (λ _ _ _. packet_no_end v (low v o) (v.held (low v o)))
    (λ _ _ _ _. record { fact = λ e. cc })
    (λ f _ _ _ e. record { fact = λ _. let both : (v.ended ≡ true) × (v.told ≡ false) = all_three v.ended (is_done v o) v.told e in (f, both.0, both.1) })
    (λ _ _ _ _ _. record { fact = λ e. cc })

pub at_end : (s : Settings) (h : History) → turn s h ≡ End → (is_flushing h ≡ false) × (all_ended s h ≡ true) × (end_told h ≡ false)
at_end s h is = (by_end s (sight s h) (next h)).fact is

-- at an answer of Flushing a flush runs
pub record AtFlush (v : Sight) (r : Turn) : Type 0 where
  pub fact : r ≡ Flushing → v.flushing ≡ true

request_no_flush : (v : Sight) (a : Option Asked) → AtFlush v (request_turn a)
request_no_flush v None = record { fact = λ e. cc }
request_no_flush v (Some a) = record { fact = λ e. cc }

packet_no_flush : (v : Sight) (n : ℕ) (p : Option Held) → AtFlush v (packet_turn n p)
packet_no_flush v n None = record { fact = λ e. cc }
packet_no_flush v n (Some p) = record { fact = λ e. cc }

by_flush : (s : Settings) (v : Sight) (o : Option ℕ) → AtFlush v (turn_by s v o)
by_flush s v o =
    by_turn (AtFlush v) s v o
    (λ f. record { fact = λ _. f })
    (λ _ _. request_no_flush v (asked s v o))
    (λ _ _ _. packet_no_flush v (low v o) (v.held (low v o)))
    (λ _ _ _ _. record { fact = λ e. cc })
    (λ _ _ _ _ _. record { fact = λ e. cc })
    (λ _ _ _ _ _. record { fact = λ e. cc })

pub at_flush : (s : Settings) (h : History) → turn s h ≡ Flushing → is_flushing h ≡ true
at_flush s h is = (by_flush s (sight s h) (next h)).fact is

-- outside a flush no turn is answered Flushing
pub open_flush : (s : Settings) (h : History) → is_flushing h ≡ false → turn s h ≡ Flushing → ⊥
open_flush s h calm is = let runs : is_flushing h ≡ true = at_flush s h is in cc

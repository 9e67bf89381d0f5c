-- What the replies of a lane come to.
use Rattle.std.specs.Prelude.{ℕ, ◌≡◌, ◌+◌, [], ◌∷◌}
use Rattle.jitter_model.specs.declared.Turn.{Turn}
use Rattle.jitter_model.specs.declared.Turn.TheVariants.{Packet, Lost}
use Rattle.jitter_model.specs.declared.Verdict.{Verdict}
use Rattle.jitter_model.specs.declared.Verdict.TheVariants.{Accepted, Aside, Restart}
use Rattle.jitter_model.specs.declared.Entry.TheVariants.{Push, Turned}
use Rattle.jitter_model.specs.History.{History}
use Rattle.jitter_core.specs.declared.buffer.Buffer.{Buffer}
use Rattle.jitter_core.specs.Words.{Stands}
use Rattle.lane_core.specs.declared.counts.Counts.{Counts}

-- packets that a reply gives out
abbrev pub turn_out : Turn → ℕ
turn_out (Packet n pts p) = 1
turn_out r = 0

-- numbers that a reply declares lost
abbrev pub turn_lost : Turn → ℕ
turn_lost (Lost n count pts duration) = count
turn_lost r = 0

-- packets that a push refuses
abbrev pub refusal : Verdict → ℕ
refusal Accepted = 0
refusal Aside = 0
refusal (Restart discarded) = 0
refusal v = 1

-- the counts after a turn with this reply, and after a push with this verdict
abbrev pub with_turn : Counts → Turn → Counts
with_turn c r =
    record { out = c.out + turn_out r; lost = c.lost + turn_lost r; refused = c.refused }

abbrev pub with_push : Counts → Verdict → Counts
with_push c v = record { out = c.out; lost = c.lost; refused = c.refused + refusal v }

-- ---- of a whole history

abbrev pub outs : History → ℕ
outs [] = 0
outs (Turned r ∷ h) = outs h + turn_out r
outs (e ∷ h) = outs h

abbrev pub losses : History → ℕ
losses [] = 0
losses (Turned r ∷ h) = losses h + turn_lost r
losses (e ∷ h) = losses h

abbrev pub refusals : History → ℕ
refusals [] = 0
refusals (Push a v n d ∷ h) = refusals h + refusal v
refusals (e ∷ h) = refusals h

-- the counts of a history that the buffer stands for
pub record CountsOf (b : Buffer) (c : Counts) (h : History) : Type 0 where
  pub stands : Stands b h
  pub out : c.out ≡ outs h
  pub lost : c.lost ≡ losses h
  pub refused : c.refused ≡ refusals h

abbrev pub IsCounted : Buffer → Counts → Type 0
IsCounted b c = ∥ ((h : History) × CountsOf b c h) ∥₁

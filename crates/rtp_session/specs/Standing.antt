-- What a session stands for: what it was given, the latest first.
use Rattle.std.specs.Prelude.{◌≡◌, ℕ, nat_eq, Bool, true, false, List, [], ◌∷◌, Result, Ok, Err}
use Rattle.std.specs.List.{list_any}
use Rattle.rtcp_wire.specs.declared.packet.Rtcp.{Rtcp as RtcpPacket}
use Rattle.rtcp_wire.specs.declared.fault.RtcpFault.{RtcpFault}
use Rattle.rtcp_wire.specs.declared.fault.RtcpFault.TheVariants.{Short, Version, Length, Padding, First, Body, OutOfMemory}
use Rattle.source_table.specs.Table.{Table}
use Rattle.front_model.specs.Given.{Setting, Given, is_quick, asks, table}
use Rattle.front_model.specs.Probation.{waiting}
use Rattle.rtp_session.specs.Answers.{given_after}
use Rattle.rtp_session.specs.Runs.{Runs, run_of}

-- what is kept of the sources: those that need no probation, the table, and by SSRC the packets that
-- wait
pub record Holding : Type 0 where
  pub quick : List ℕ
  pub sources : Table
  pub held : Runs

-- a session: its own SSRC, how often it answered a packet, whether memory was refused, and the rest
pub record State : Type 0 where
  pub own : ℕ
  pub heard : ℕ
  pub failed : Bool
  pub holding : Holding

abbrev pub setting : ℕ → ℕ → List ℕ → Setting
setting own probation quick = record { own = own; probation = probation; quick = quick }

-- The parts that are kept are those that the definitions name for this list.
pub record IsHolding (h : Holding) (s : Setting) (older : List Given) : Type 0 where
  pub quick : (ssrc : ℕ) → list_any (nat_eq ssrc) h.quick ≡ is_quick s ssrc
  pub sources : h.sources ≡ table s (asks older)
  pub held : (ssrc : ℕ) → run_of h.held ssrc ≡ waiting s ssrc (asks older)

-- How it holds them is the session's own affair.
unfoldable pub Holds : Holding → Setting → List Given → Type 0
Holds h s older = IsHolding h s older

-- A session with this setting was given this, the latest first, and memory served.
pub record StandsFor (x : State) (s : Setting) (older : List Given) : Type 0 where
  pub own : x.own ≡ s.own
  pub works : x.failed ≡ false
  pub holds : Holds x.holding s older

-- Memory was refused: from then on the session stands for no list.
abbrev pub HasFailed : State → Type 0
HasFailed x = x.failed ≡ true

abbrev pub is_want_of_memory : RtcpFault → Bool
is_want_of_memory (Short offset) = false
is_want_of_memory (Version offset) = false
is_want_of_memory (Length offset) = false
is_want_of_memory (Padding offset) = false
is_want_of_memory (First offset) = false
is_want_of_memory (Body offset kind) = false
is_want_of_memory OutOfMemory = true

-- A datagram of RTCP was taken, or had a fault and left all as it was, or memory was refused.
abbrev pub StandsAfter : {X : Type 0} → State → Setting → List Given → ℕ → Result (List RtcpPacket) RtcpFault → Result X RtcpFault → Type 0
StandsAfter x s older now packets (Err OutOfMemory) = Unit {0}
StandsAfter x s older now packets answer = StandsFor x s (given_after older now packets)

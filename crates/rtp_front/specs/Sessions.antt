-- The sessions of a front, by their numbers.
use Rattle.std.specs.Prelude.{◌≡◌, ◌≤◌, ℕ, nat_eq, is_some, Bool, true, false, List, ◌∷◌, Option, Some, None, IfSome, Result, Ok, Err}
use Rattle.std.specs.Map.{lookup}
use Rattle.rtcp_wire.specs.declared.packet.Rtcp.{Rtcp as RtcpPacket}
use Rattle.rtcp_wire.specs.declared.fault.RtcpFault.{RtcpFault}
use Rattle.rtcp_wire.specs.declared.fault.RtcpFault.TheVariants.{OutOfMemory}
use Rattle.rtp_session.specs.Answers.{given_after}
use Rattle.rtp_session.specs.Standing.{State, StandsFor}
use Rattle.script_lang.specs.Contents.{Contents}
use Rattle.script_lang.specs.Tests.{is_declared}
use Rattle.front_model.specs.Given.{Setting, Given}
use Rattle.front_model.specs.Sessions.{setting}

abbrev pub Sessions : Type 0
Sessions = List (ℕ × State)

-- the session of this number, where it is kept
abbrev pub session_at : Sessions → ℕ → Option State
session_at sessions number = lookup (nat_eq number) sessions

-- ---- one of them

-- The session of this number is kept, was made so, and was given these.
pub record StandsAt (sessions : Sessions) (number : ℕ) (s : Setting) (older : List Given)
    : Type 0 where
  pub state : State
  pub found : session_at sessions number ≡ Some state
  pub stands : StandsFor state s older

-- A datagram of RTCP was given to it, or had a fault and left all as it was, or memory was refused.
abbrev pub StandsAfter : {X : Type 0} → Sessions → ℕ → Setting → List Given → ℕ
    → Result (List RtcpPacket) RtcpFault → Result X RtcpFault → Type 0
StandsAfter sessions number s older now packets (Err OutOfMemory) = Unit {0}
StandsAfter sessions number s older now packets answer =
    StandsAt sessions number s (given_after older now packets)

-- All but the one of this number are as they were.
abbrev pub IsSameBut : ℕ → Sessions → Sessions → Type 0
IsSameBut number old new =
    (q : ℕ) → nat_eq number q ≡ false → session_at new q ≡ session_at old q

-- ---- all of them

-- The same ones are kept.
abbrev pub KeepsNumbers : Sessions → Sessions → Type 0
KeepsNumbers old new = (q : ℕ) → is_some (session_at new q) ≡ is_some (session_at old q)

-- None of them answered more packets.
abbrev pub HeardAtMost : ℕ → Sessions → Type 0
HeardAtMost n sessions = (q : ℕ) → IfSome (session_at sessions q) (λ x. x.heard ≤ n)

-- A session is kept exactly where the script declares it, and was given these.
abbrev pub IsKept : Contents → ℕ → List Given → Option State → Type 0
IsKept c number older None = is_declared c.sessions number ≡ false
IsKept c number older (Some x) =
    (is_declared c.sessions number ≡ true) × StandsFor x (setting c number) older

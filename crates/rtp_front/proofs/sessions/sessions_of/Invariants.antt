use Rattle.std.proofs.Common.{ℕ, take}
use Rattle.script_lang.specs.Tests.{is_declared}
use Rattle.rtp_front.specs.Sessions.{session_at}
use Rattle.rtp_front.proofs.Making.{IsMade}
use Rattle.rtp_front.proofs.sessions.sessions_of.Given as goal

abbrev pub invariant-loop-line : goal.invariant-loop-line
invariant-loop-line l = (q : ℕ)
    → IsMade l.script q (is_declared (take l.line-index l.line-items) q)
    (session_at l.sessions.entries q)

use Rattle.std.proofs.Common.{ℕ, nat_eq, take}
use Rattle.std.specs.Map.{lookup}
use Rattle.rtp_front.proofs.Typing.{IsTyped}
use Rattle.rtp_front.proofs.streams.types_of.Given as goal

abbrev pub invariant-loop-line : goal.invariant-loop-line
invariant-loop-line l =
    (session : ℕ)
    → IsTyped l.script (take l.line-index l.line-items) session
    (lookup (nat_eq session) l.types.entries)

use Rattle.std.proofs.Common.{◌≡◌, ℕ, take}
use Rattle.std.specs.List.{list_any}
use Rattle.rtx.specs.Pairs.{carries}
use Rattle.rtp_front.specs.Chosen.{is_type}
use Rattle.rtp_front.proofs.choices.retransmissions_of.Given as goal

abbrev pub invariant-loop-line : goal.invariant-loop-line
invariant-loop-line l =
    (session pt : ℕ) → list_any (is_type (session, pt)) l.types.keys
    ≡ list_any (carries session pt) (take l.line-index l.line-items)

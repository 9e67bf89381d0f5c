use Rattle.sdp_profile.proofs.TextLemmas.{LinesSoFar, size_left}
use Rattle.sdp_profile.proofs.lines.filled_lines.Given as goal

abbrev pub invariant-loop-rest : goal.invariant-loop-rest
invariant-loop-rest l = LinesSoFar l.lines.items l.number l.rest l.fn.bytes

abbrev pub decreases-loop-rest : goal.decreases-loop-rest
decreases-loop-rest l = size_left l.rest

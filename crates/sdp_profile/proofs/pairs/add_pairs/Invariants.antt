use Rattle.std.proofs.Common.{drop}
use Rattle.sdp_profile.proofs.PairLemmas.{PairsSoFar}
use Rattle.sdp_profile.proofs.pairs.add_pairs.Given as goal

abbrev pub invariant-loop-placed : goal.invariant-loop-placed
invariant-loop-placed l = PairsSoFar l.fids.items l.initial.fids.items l.session (drop l.placed-index l.lines) l.lines

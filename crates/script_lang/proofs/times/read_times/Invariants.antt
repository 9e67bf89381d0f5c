use Rattle.script_lang.proofs.GrammarLemmas.{size_left}
use Rattle.script_lang.proofs.TimesLemmas.{TimesSoFar}
use Rattle.script_lang.proofs.times.read_times.Given as goal

abbrev pub invariant-loop-rest : goal.invariant-loop-rest
invariant-loop-rest l = TimesSoFar l.draft l.number l.rest l.sessions l.bytes

abbrev pub decreases-loop-rest : goal.decreases-loop-rest
decreases-loop-rest l = size_left l.rest

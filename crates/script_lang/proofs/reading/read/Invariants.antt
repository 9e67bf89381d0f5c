use Rattle.script_lang.proofs.GrammarLemmas.{ReadSoFar, size_left}
use Rattle.script_lang.proofs.reading.read.Given as goal

abbrev pub invariant-loop-rest : goal.invariant-loop-rest
invariant-loop-rest l = ReadSoFar l.draft l.number l.rest l.bytes

abbrev pub decreases-loop-rest : goal.decreases-loop-rest
decreases-loop-rest l = size_left l.rest

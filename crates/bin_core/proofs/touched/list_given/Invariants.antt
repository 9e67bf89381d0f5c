use Rattle.bin_core.proofs.Marking.{Lists}
use Rattle.bin_core.proofs.touched.list_given.Given as goal

abbrev pub invariant-loop-step : goal.invariant-loop-step
invariant-loop-step l = Lists l.touched.items l.steps l.step-index

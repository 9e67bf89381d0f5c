use Rattle.std.proofs.Common.{◌≡◌, ◌+◌, true}
use Rattle.std.specs.Prelude.{is_some}
use Rattle.std.specs.FinMap as map
use Rattle.jitter_model.specs.History.{all_below}
use Rattle.jitter_core.proofs.turning.is_fast.Given as goal

abbrev pub invariant-loop-i : goal.invariant-loop-i
invariant-loop-i l = all_below (λ i. is_some (map.get l.state.held (l.least + i))) l.i ≡ true

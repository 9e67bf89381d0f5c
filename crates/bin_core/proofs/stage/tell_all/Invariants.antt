use Rattle.std.specs.Prelude.{◌≡◌, ◌++◌}
use Rattle.std.specs.Vec.Iter.{drain_items}
use Rattle.bin_core.specs.Stages.{AreQuiet, TellsAll}
use Rattle.bin_core.proofs.stage.tell_all.Given as goal

abbrev pub invariant-loop-step : goal.invariant-loop-step
invariant-loop-step l =
    TellsAll l.yielded l.initial.lines l.lines
    × (l.yielded ++ drain_items l.step-iterator ≡ drain_items l.initial.step-iterator)
    × (∥ AreQuiet (drain_items l.initial.step-iterator) ∥₁ → ∥ AreQuiet (drain_items l.step-iterator) ∥₁)

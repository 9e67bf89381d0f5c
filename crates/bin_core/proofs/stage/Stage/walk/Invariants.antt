use Rattle.std.specs.Prelude.{ℕ, ◌≡◌, ◌++◌}
use Rattle.std.specs.Vec.Iter.{drain_items}
use Rattle.bin_core.specs.Stages.{DoesAll}
use Rattle.bin_core.specs.Underway.{Owes}
use Rattle.bin_core.proofs.stage.Stage.walk.Given as goal

abbrev pub invariant-loop-step : goal.invariant-loop-step
invariant-loop-step l =
    DoesAll l.time l.yielded l.initial.self l.self l.initial.lines l.lines
    × (l.yielded ++ drain_items l.step-iterator ≡ drain_items l.initial.step-iterator)
    × ((n : ℕ) → Owes n (drain_items l.initial.step-iterator) l.initial.self → Owes n (drain_items l.step-iterator) l.self)

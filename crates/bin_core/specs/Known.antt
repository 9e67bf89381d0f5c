-- What is known of a bin between two calls.
use Rattle.std.specs.Prelude.{ℕ, ◌≡◌, Bool, false, []}
use Rattle.bin_core.specs.declared.agenda.Agenda.{Agenda}
use Rattle.bin_core.specs.Underway.{Owes}

-- Where memory served and the end wasn't told, its stage stands for a script and as many records as
-- it counts.
abbrev pub IsKnown : Bool → Bool → ℕ → Agenda → Type 0
IsKnown broken finished records agenda =
    broken ≡ false → finished ≡ false → Owes records [] agenda.stage

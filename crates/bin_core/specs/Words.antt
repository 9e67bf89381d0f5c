-- What contracts say of a bin.
use Rattle.std.specs.Prelude.{ℕ, Bool}
use Rattle.bin_core.specs.declared.bin.Bin.{Bin}
use Rattle.bin_core.specs.Agendas.{left_in}

-- the number of records so far
abbrev pub records_of : Bin → ℕ
records_of bin = bin.records

-- the time of the last call that had one, or 0
abbrev pub time_of : Bin → ℕ
time_of bin = bin.time

-- whether something was served since the last input
abbrev pub ahead_of : Bin → Bool
ahead_of bin = bin.ahead

-- whether the end was told
abbrev pub is_finished : Bin → Bool
is_finished bin = bin.finished

-- whether memory was refused
abbrev pub is_broken : Bin → Bool
is_broken bin = bin.broken

-- how often something that is due up to a time can be served, at most
unfoldable pub due_left : ℕ → Bin → ℕ
due_left t bin = left_in t bin.agenda

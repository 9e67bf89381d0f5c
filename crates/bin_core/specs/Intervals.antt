-- Report times by their interval.
use Rattle.std.specs.Prelude.{ℕ, ◌==◌, ◌+◌, Option, Some, None, if◌then◌else◌}

-- the report time behind one, if there are any
abbrev pub next_by : ℕ → ℕ → Option ℕ
next_by interval time = if interval == 0 then None else Some (time + interval)

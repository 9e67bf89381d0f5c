-- How many requests of each number were served, as a buffer keeps it: each at its number modulo the count of places.
use Rattle.std.specs.Prelude.{ℕ, ◌%◌, ◌==◌, List, slice_index_or, slice_set, if◌then◌else◌}
use Rattle.jitter_core.specs.declared.served.Service.{Service}

-- at a place where nothing was served
abbrev pub unserved : Service
unserved = record { number = 0; count = 0 }

-- what stands at a place, for a number
abbrev pub count_for : Service → ℕ → ℕ
count_for x n = if n == x.number then x.count else 0

-- how many requests of a number were served
abbrev pub served_in : List Service → ℕ → ℕ
served_in xs n = count_for (slice_index_or xs (n % 16384) unserved) n

-- after this many of a number were
abbrev pub with_served : List Service → ℕ → ℕ → List Service
with_served xs n count = slice_set xs (n % 16384) (record { number = n; count = count })

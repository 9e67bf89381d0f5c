use Rattle.std.specs.Prelude.{ℕ, ◌+◌, ◌*◌, List, slice_index}

-- the number in the two bytes from this place on, in network order
abbrev pub number16 : List ℕ → ℕ → ℕ
number16 bytes at = slice_index bytes at * 256 + slice_index bytes (at + 1)

-- the number in the four bytes from this place on, in network order
abbrev pub number32 : List ℕ → ℕ → ℕ
number32 bytes at =
    slice_index bytes at * 16777216 + slice_index bytes (at + 1) * 65536 + slice_index bytes (at + 2) * 256
    + slice_index bytes (at + 3)

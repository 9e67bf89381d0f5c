-- The times of an interface.
use Rattle.std.specs.Prelude.{ℕ, ◌*◌, ◌/◌, ◌-◌, ◌^◌, Option, Some, None, ℤ, pos, negsuc, ◌+ℤ◌, ◌*ℤ◌, nat_lt, nat_le, ◌&&◌, if◌then◌else◌}
use Rattle.pcapng_file.specs.declared.interface.Interface.{Interface}

-- The units of a second by the byte of a time resolution: n up to 9 is the n-th power of ten, and 128 + n with n up to 32 that of two.
unfoldable pub units_of : ℕ → Option ℕ
units_of resolution =
    if nat_le resolution 9 then Some (10 ^ resolution)
    else if nat_le 128 resolution && nat_le resolution 160 then Some (2 ^ (resolution - 128))
    else None

-- a time in nanoseconds that isn't below 0 and is less than 2 ^ 32 seconds
unfoldable pub in_range : ℤ → Option ℕ
in_range (pos n) = if nat_lt n (2 ^ 32 * 1000000000) then Some n else None
in_range (negsuc n) = None

-- so many units, cut down to nanoseconds, and the interface's offset
unfoldable pub stamp_of : Interface → ℕ → Option ℕ
stamp_of interface ticks = in_range (pos (ticks * 1000000000 / interface.units) +ℤ interface.seconds *ℤ pos 1000000000)

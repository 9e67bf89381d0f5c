use Rattle.std.specs.Prelude.{ℕ, ◌+◌, ◌-◌, ◌*◌, ◌%◌, ◌/◌, ℤ, pos, negsuc, ◌+ℤ◌, ◌-ℤ◌, ◌*ℤ◌, int_div, min}

-- the number congruent to x modulo 2^16 whose distance from r is from -32768 to 32767
abbrev pub ext16 : ℕ → ℕ → ℕ
ext16 r x = r - 32768 + (x + 98304 - r % 65536) % 65536

-- the low 32 bits of an integer
abbrev pub low32 : ℤ → ℕ
low32 (pos n) = n % 4294967296
low32 (negsuc n) = 4294967295 - n % 4294967296

-- the number congruent to x modulo 2^32 whose distance from r is from -2^31 to 2^31 - 1
abbrev pub ext32 : ℤ → ℕ → ℤ
ext32 r x = r +ℤ pos ((x + 6442450944 - low32 r) % 4294967296) -ℤ pos 2147483648

-- a count of ticks of a clock of this rate in nanoseconds, cut towards zero
abbrev pub nanoseconds : ℤ → ℕ → ℤ
nanoseconds ticks rate = int_div (ticks *ℤ pos 1000000000) (pos rate)

-- an integer held to the range from 0 to 2^63 - 1
abbrev pub hold : ℤ → ℕ
hold (pos n) = min n 9223372036854775807
hold (negsuc n) = 0

-- an NTP timestamp in nanoseconds, rounded down
abbrev pub ntp_time : ℕ → ℕ → ℕ
ntp_time seconds fraction = seconds * 1000000000 + fraction * 1000000000 / 4294967296

-- the low 16 bits of the seconds, then the high 16 bits of the fraction
abbrev pub ntp_middle_bits : ℕ → ℕ → ℕ
ntp_middle_bits seconds fraction = seconds % 65536 * 65536 + fraction / 65536

-- nanoseconds in units of 2^-16 seconds, rounded down and held to 32 bits
abbrev pub delay_units : ℕ → ℕ
delay_units ns = min (ns * 65536 / 1000000000) 4294967295

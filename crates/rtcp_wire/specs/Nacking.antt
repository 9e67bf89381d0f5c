-- The entries of a generic NACK for a list of missing numbers (RFC 4585, section 6.2.1).
use Rattle.std.specs.Prelude.{◌≡◌, ◌<◌, ℕ, zero, suc, ◌+◌, ◌-◌, ◌%◌, ◌^◌, nat_lt, if◌then◌else◌, bit_or, List, [], ◌∷◌, Option, Some, None, ◌⊎◌}
use Rattle.std.specs.Int.{bit_at}
use Rattle.rtcp_wire.specs.declared.packet.Nack.{Nack}

-- how far a 16-bit number lies behind another, modulo 2^16
abbrev pub distance : ℕ → ℕ → ℕ
distance pid number = (number + 65536 - pid) % 65536

abbrev pub with_bit : Nack → ℕ → Nack
with_bit entry i = record { pid = entry.pid; blp = bit_or entry.blp (2 ^ i) }

abbrev pub join_at : Nack → ℕ → Option Nack
join_at entry zero = Some entry
join_at entry (suc i) = if nat_lt i 16 then Some (with_bit entry i) else None

-- The entry with one number more: at distance 0 it names it already, at distance 1 to 16 a bit does, and further off none can.
abbrev pub join : Nack → ℕ → Option Nack
join entry number = join_at entry (distance entry.pid number)

abbrev pub opens : ℕ → Nack
opens number = record { pid = number; blp = 0 }

-- A number that doesn't join the last entry opens a new one.
abbrev pub greedy_then : (Nack → List Nack) → Nack → ℕ → Option Nack → List Nack
greedy_then behind entry number None = entry ∷ behind (opens number)
greedy_then behind entry number (Some joined) = behind joined

-- the entries from this one on
unfoldable pub greedy_behind : Nack → List ℕ → List Nack
greedy_behind entry [] = entry ∷ []
greedy_behind entry (n ∷ ns) = greedy_then (λ e. greedy_behind e ns) entry n (join entry n)

abbrev pub greedy : List ℕ → List Nack
greedy [] = []
greedy (n ∷ ns) = greedy_behind (opens n) ns

-- ---- the numbers that entries name

-- its own, and for each bit that is set the number so far behind
abbrev pub Names : Nack → ℕ → Type 0
Names entry x = (x ≡ entry.pid) ⊎ ((i : ℕ) × (i < 16) × (bit_at entry.blp i ≡ 1) × (x ≡ (entry.pid + i + 1) % 65536))

abbrev pub NamedBy : List Nack → ℕ → Type 0
NamedBy [] x = ⊥
NamedBy (e ∷ es) x = Names e x ⊎ NamedBy es x

abbrev pub Among : List ℕ → ℕ → Type 0
Among [] x = ⊥
Among (n ∷ ns) x = (x ≡ n) ⊎ Among ns x

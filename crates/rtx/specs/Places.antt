-- Where a stream's last packets lie, the latest first, by their numbers.
use Rattle.std.specs.Prelude.{◌≡◌, ◌<◌, ℕ, suc, ◌+◌, ◌%◌, nat_eq, if◌then◌else◌}
use Rattle.std.specs.Prelude.{List, [], ◌∷◌, length, slice_index_or}
use Rattle.circular_buffer.specs.Buffer.{Buffer}
use Rattle.rtp_wire.specs.Packet.{Packet}

-- the place of the latest packet with this number, or how many packets there are
abbrev pub place_of : List Packet → ℕ → ℕ
place_of [] seq = 0
place_of (p ∷ ps) seq = if nat_eq p.seq seq then 0 else suc (place_of ps seq)

-- The place of a number's latest packet tells how many packets were added since, modulo 2^16.
pub record IsIndexed (b : Buffer Packet) (added : ℕ) (added_with : List ℕ) : Type 0 where
  pub few : length b.items < 65536
  pub room : b.capacity < 65536
  pub long : length added_with ≡ 65536
  pub counted : (seq : ℕ) → place_of b.items seq < length b.items
      → (slice_index_or added_with seq 0 + place_of b.items seq) % 65536 ≡ added

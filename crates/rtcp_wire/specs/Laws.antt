-- Laws of these definitions that callers need.
use Rattle.std.specs.Prelude.{◌≡◌, ℕ, ◌*◌, List, [], ◌∷◌, length, refl}
use Rattle.std.proofs.Common.{arith}
use Rattle.std.specs.List.{flat_map}
use Rattle.rtcp_wire.specs.declared.block.ReportBlock.{ReportBlock}
use Rattle.rtcp_wire.specs.declared.packet.Nack.{Nack}
use Rattle.rtcp_wire.specs.Written.{numbers_bytes, block_bytes, entry_bytes}

pub length-numbers_bytes : (xs : List ℕ) → length (numbers_bytes xs) ≡ 4 * length xs
length-numbers_bytes [] = refl
length-numbers_bytes (x ∷ xs) = omega (arith, length-numbers_bytes xs)

pub length-blocks : (bs : List ReportBlock) → length (flat_map block_bytes bs) ≡ 24 * length bs
length-blocks [] = refl
length-blocks (b ∷ bs) = omega (arith, length-blocks bs)

pub length-entries : (es : List Nack) → length (flat_map entry_bytes es) ≡ 4 * length es
length-entries [] = refl
length-entries (e ∷ es) = omega (arith, length-entries es)

use Rattle.std.proofs.Common.{◌≡◌, length, ap, List, ℕ, arith}
use Rattle.rtp_session.proofs.kept.Kept.payload_size.Goals as goal

pub overflow_cast-result : goal.overflow_cast-result
overflow_cast-result c =
    let whole = c.bytes-bytes.ensures.packet.whole in
    let small = c.packet-packet.ensures.small in
    let same : length c.payload.result.now ≡ length c.packet-packet.result.payload = ap (λ (l : List ℕ). length l) c.payload.ensures in
    omega (arith, whole, small, same)

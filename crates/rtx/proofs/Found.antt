-- What a packet of a known stream carries.
use Rattle.std.proofs.Common.{◌≡◌, ◌≤◌, ℕ, false, length, Some, Ok, refl, ap, ◌∙◌, arith}
use Rattle.std.specs.Prelude.{find, nat_lt}
use Rattle.std.proofs.lemmas.Bool.Decides.{nat_tests}
use Rattle.rtp_units.specs.declared.shared.RtxLine.{RtxLine}
use Rattle.rtp_wire.specs.Packet.{Packet}
use Rattle.rtx.specs.Pairs.{carries}
use Rattle.rtx.specs.Restoring.{Receiving, original, stream_of, by_stream, by_line, found}

test_false : (a b : ℕ) → b ≤ a → nat_lt a b ≡ false
test_false a b le = grind (arith, nat_tests)

long : (r : Receiving) (session : ℕ) (p : Packet) → 2 ≤ length p.payload → found r session p ≡ by_line r session p (find (carries session p.pt) r.setting.lines)
long r session p le = let e : nat_lt (length p.payload) 2 ≡ false = test_false (length p.payload) 2 le in rw e refl

with_line : (r : Receiving) (session : ℕ) (p : Packet) (l : RtxLine) → 2 ≤ length p.payload → find (carries session p.pt) r.setting.lines ≡ Some l
    → found r session p ≡ by_stream r session l p (stream_of r l p.ssrc)
with_line r session p l le e = long r session p le ∙ ap (by_line r session p) e

pub known : (r : Receiving) (session : ℕ) (p : Packet) (l : RtxLine) (ssrc : ℕ) → 2 ≤ length p.payload → find (carries session p.pt) r.setting.lines ≡ Some l → stream_of r l p.ssrc ≡ Some ssrc
    → found r session p ≡ Ok (original l p ssrc false)
known r session p l ssrc le e s = with_line r session p l le e ∙ ap (by_stream r session l p) s

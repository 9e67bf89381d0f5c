use Rattle.std.proofs.Common.{◌≡◌, ◌+◌, ◌*◌, length, arith, ap, sym, ◌∙◌, lit<}
use Rattle.std.specs.Prelude.{slice_index}
use Rattle.std.proofs.lemmas.Nat.{and_le_r}
use Rattle.std.proofs.lemmas.List.FromFn.{length-map-range_with_len, map-range_with_len_more}
use Rattle.rtp_wire.specs.Network.{number32}
use Rattle.rtp_wire.proofs.header.csrcs_of.Goals as goal

pub push-requires : goal.push-requires
push-requires c =
    let count : length c.loop-k.csrcs.items ≡ c.loop-k.k = ap length c.loop-k.invariant ∙ length-map-range_with_len (λ k. number32 c.args.bytes.now (12 + 4 * k)) 0 c.loop-k.k in
    (lit< tt, omega (arith, count, and_le_r (slice_index c.args.bytes.now 0) 15, c.from-k-end.ensures, c.loop-k-test.true))

pub loop-k-preserved : goal.loop-k-preserved
loop-k-preserved c =
    c.push.ensures.items ∙ rw (c.loop-k.invariant, c.u32_at.ensures) (sym (map-range_with_len_more (λ k. number32 c.args.bytes.now (12 + 4 * k)) 0 c.loop-k.k c.loop-k.k (omega arith)))

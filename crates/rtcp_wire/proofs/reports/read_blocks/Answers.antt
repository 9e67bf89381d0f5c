use Rattle.std.proofs.Common.{◌≡◌, ◌+◌, ◌*◌, length, arith, ap, sym, ◌∙◌, lit<}
use Rattle.std.proofs.lemmas.List.FromFn.{length-map-range_with_len, map-range_with_len_more}
use Rattle.rtcp_wire.specs.Bodies.{block_at}
use Rattle.rtcp_wire.proofs.reports.read_blocks.Goals as goal

pub push-requires : goal.push-requires
push-requires c =
    let count : length c.loop-k.blocks.items ≡ c.loop-k.k = ap length c.loop-k.invariant ∙ length-map-range_with_len (λ k. block_at c.args.bytes.now (c.args.at + 24 * k)) 0 c.loop-k.k in
    (lit< tt, omega (arith, count))

pub loop-k-preserved : goal.loop-k-preserved
loop-k-preserved c =
    c.push.ensures.items ∙ rw (c.loop-k.invariant, c.read_block.ensures) (sym (map-range_with_len_more (λ k. block_at c.args.bytes.now (c.args.at + 24 * k)) 0 c.loop-k.k c.loop-k.k (omega arith)))

use Rattle.std.proofs.Common.{◌*◌, arith, sym, ◌∙◌}
use Rattle.std.proofs.lemmas.List.FromFn.{map-range_with_len_more}
use Rattle.rtp_wire.specs.Network.{number32}
use Rattle.rtcp_wire.proofs.bye.read_sources.Goals as goal

pub loop-k-preserved : goal.loop-k-preserved
loop-k-preserved c =
    c.in_ok-push.ensures.ok ∙ rw (c.loop-k.invariant, c.u32_at.ensures) (sym (map-range_with_len_more (λ k. number32 c.args.body.now (4 * k)) 0 c.loop-k.k c.loop-k.k (omega arith)))

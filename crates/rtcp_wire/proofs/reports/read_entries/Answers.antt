use Rattle.std.proofs.Common.{arith, sym, ◌∙◌}
use Rattle.std.proofs.lemmas.List.FromFn.{map-range_with_len_more}
use Rattle.rtcp_wire.specs.Bodies.{entry_at}
use Rattle.rtcp_wire.proofs.reports.read_entries.Goals as goal

pub loop-k-preserved : goal.loop-k-preserved
loop-k-preserved c =
    c.in_ok-push.ensures.ok ∙ rw (c.loop-k.invariant, c.u16_at.ensures, c.u16_at-in-loop-k.ensures) (sym (map-range_with_len_more (entry_at c.args.body.now) 0 c.loop-k.k c.loop-k.k (omega arith)))

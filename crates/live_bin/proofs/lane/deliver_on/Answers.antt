use Rattle.std.proofs.Common.{Some, sym, ap, ◌∙◌}
use Rattle.live_bin.specs.declared.plan.Delivery.TheVariants.{Packet}
use Rattle.live_bin.proofs.lane.deliver_on.Goals as goal

pub push-requires-clause-can : goal.push-requires-clause-can
push-requires-clause-can c =
    c.requires.right c.in_ok-arrival-in-Packet.arrival
    (c.next_of.ensures ∙ ap Some (c.in-Packet.is ∙ ap Packet (sym c.in_ok-arrival-in-Packet.ensures)))

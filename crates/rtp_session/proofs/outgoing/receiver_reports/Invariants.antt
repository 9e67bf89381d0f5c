use Rattle.std.proofs.Common.{◌≡◌, ◌++◌, map, length}
use Rattle.std.specs.List.{AllByRecursion}
use Rattle.rtcp_wire.specs.Written.{LossFits, PacketFits}
use Rattle.front_model.specs.Reports.{parts, receiver_report}
use Rattle.rtp_session.proofs.outgoing.receiver_reports.Given as goal

abbrev pub invariant-full : goal.invariant-full
invariant-full l = record {
  packets : l.packets.items ++ map (receiver_report l.own) (parts l.rest) ≡ map (receiver_report l.own) (parts l.blocks);
  rest : AllByRecursion LossFits l.rest;
  fits : AllByRecursion PacketFits l.packets.items;
}

abbrev pub decreases-full : goal.decreases-full
decreases-full l = length l.rest

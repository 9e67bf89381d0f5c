use Rattle.std.proofs.Common.{◌∙◌, ◌++◌, ◌∷◌, [], List, sym, ap, subst, map, arith}
use Rattle.std.specs.List.{AllByRecursion}
use Rattle.rtcp_wire.specs.declared.block.ReportBlock.{ReportBlock}
use Rattle.rtcp_wire.specs.declared.packet.Rtcp.{Rtcp}
use Rattle.rtcp_wire.specs.Written.{LossFits, PacketFits}
use Rattle.front_model.specs.Reports.{parts, receiver_report}
use Rattle.rtp_session.proofs.Each.{each_joined, each_left}
use Rattle.rtp_session.proofs.Parting.{one_written, all_written}
use Rattle.rtp_session.proofs.outgoing.receiver_reports.Goals as goal

pub full-preserved : goal.full-preserved
full-preserved c = record {
  packets =
      one_written c.args.own c.full.packets.items (map (receiver_report c.args.own) (parts c.args.blocks.now)) c.push.new.self.items c.full.rest.now c.split_at.result.0.now c.split_at.result.1.now
      c.receiver_report.result (omega arith) c.split_at.ensures.front c.split_at.ensures.back c.receiver_report.ensures.value c.in_ok-push.ensures.items c.full.invariant.packets;
  rest = subst (λ (l : List ReportBlock). AllByRecursion LossFits l) (sym c.split_at.ensures.back) (each_left LossFits 31 c.full.rest.now c.full.invariant.rest);
  fits =
      subst (λ (l : List Rtcp). AllByRecursion PacketFits l) (sym c.in_ok-push.ensures.items)
      (each_joined PacketFits c.full.packets.items (c.receiver_report.result ∷ []) c.full.invariant.fits (c.receiver_report.ensures.fits, tt));
}

pub returns-clause-value : goal.returns-clause-value
returns-clause-value c =
    all_written c.args.own c.full.packets.items (map (receiver_report c.args.own) (parts c.args.blocks.now)) c.push-2.new.self.items c.full.rest.now c.receiver_report-2.result (omega arith)
    c.receiver_report-2.ensures.value c.in_ok-push-2.ensures.items c.full.invariant.packets

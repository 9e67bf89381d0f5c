use Rattle.std.proofs.Common.{◌≡◌, ◌∙◌, ◌++◌, [], List, ap}
use Rattle.rtcp_wire.specs.declared.block.ReportBlock.{ReportBlock}
use Rattle.rtp_session.proofs.Parting.{report_fits}
use Rattle.rtp_session.proofs.outgoing.receiver_report.Goals as goal

pub returns-clause-fits : goal.returns-clause-fits
returns-clause-fits c =
    report_fits c.args.own c.try_extend_from_slice.new.self.items c.args.blocks.now c.from_vec.result
    (c.in-Ok.ensures.ok ∙ ap (λ (l : List ReportBlock). l ++ c.args.blocks.now) c.new-list.ensures) (c.from_vec.ensures ∙ c.new.ensures.items)
    c.requires.few c.requires.fits

use Rattle.std.proofs.Common.{◌∙◌}
use Rattle.rtp_session.proofs.Parting.{reports_fit}
use Rattle.rtp_session.proofs.outgoing.report_bytes.Goals as goal

pub write_compound-requires : goal.write_compound-requires
write_compound-requires c =
    reports_fit c.args.own c.args.blocks.now c.in_ok-packets.packets.items c.as_slice.result.now c.in_ok-description.field-0 c.in_ok-description.ensures
    (c.as_slice.ensures.value ∙ c.in_ok-push.ensures.items) c.in_ok-packets.ensures.value c.in_ok-packets.ensures.fits

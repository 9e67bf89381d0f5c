use Rattle.std.proofs.Common.{List, sym, subst, ◌∙◌}
use Rattle.rtp_units.specs.declared.shared.RtxLine.{RtxLine}
use Rattle.rtx.specs.Pairs.{AreTypes}
use Rattle.rtp_front.proofs.Typing.{types_fit}
use Rattle.rtp_front.proofs.streams.Streams.new.Goals as goal

pub new-requires-2 : goal.new-requires-2
new-requires-2 c =
    subst (λ (lines : List RtxLine). AreTypes lines)
    (sym (c.in_ok-from_slice.ensures.items ∙ c.as_slice.ensures.value))
    (types_fit c.script.inside.rtx.items c.script.invariant.rtx_fit)

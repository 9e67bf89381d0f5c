use Rattle.std.proofs.Common.{take, map}
use Rattle.front_model.specs.Given.{Leaves}
use Rattle.rtp_session.specs.Compounds.{Tells}
use Rattle.rtp_session.proofs.compound.hear_byes.Given as goal

abbrev pub invariant-loop-ssrc : goal.invariant-loop-ssrc
invariant-loop-ssrc l = Tells l.initial.sources l.sources l.initial.notes.items l.notes.items (map Leaves (take l.ssrc-index l.ssrcs))

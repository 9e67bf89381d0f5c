use Rattle.std.proofs.Common.{take}
use Rattle.std.specs.List.{flat_map}
use Rattle.front_model.specs.Given.{other_asks}
use Rattle.rtp_session.specs.Compounds.{Tells}
use Rattle.rtp_session.proofs.compound.hear_others.Given as goal

abbrev pub invariant-loop-packet : goal.invariant-loop-packet
invariant-loop-packet l = Tells l.initial.sources l.sources l.initial.notes.items l.notes.items (flat_map (other_asks l.now) (take l.packet-index l.packets))

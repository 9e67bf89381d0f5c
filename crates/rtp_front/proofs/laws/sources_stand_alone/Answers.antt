use Rattle.rtp_front.proofs.Alone.{left_as_it_was, packet_as_before, compound_as_before}
use Rattle.rtp_front.proofs.laws.sources_stand_alone.Goals as goal

pub returns-clause-source : goal.returns-clause-source
returns-clause-source c = left_as_it_was c.sources_are_told_alone.ensures.others

pub returns-clause-packet : goal.returns-clause-packet
returns-clause-packet c = packet_as_before c.sources_are_told_alone.ensures.others c.sources_are_told_alone.ensures.packet

pub returns-clause-compound : goal.returns-clause-compound
returns-clause-compound c = compound_as_before c.sources_are_told_alone.ensures.others c.sources_are_told_alone.ensures.compound

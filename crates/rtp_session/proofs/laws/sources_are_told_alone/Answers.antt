use Rattle.front_model.specs.Given.{asks}
use Rattle.rtp_session.proofs.Alone.{left_alone, packet_alone, compound_alone}
use Rattle.rtp_session.proofs.laws.sources_are_told_alone.Goals as goal

pub returns-clause-others : goal.returns-clause-others
returns-clause-others c = left_alone c.sources_stand_alone.ensures.others

pub returns-clause-packet : goal.returns-clause-packet
returns-clause-packet c = packet_alone c.sources_stand_alone.ensures.own

pub returns-clause-compound : goal.returns-clause-compound
returns-clause-compound c = compound_alone c.sources_stand_alone.ensures.others c.sources_stand_alone.ensures.own

pub returns-clause-report : goal.returns-clause-report
returns-clause-report c = λ s ssrc now timeout here there alike. c.sources_stand_alone.ensures.alike s ssrc now timeout (asks here) (asks there) alike

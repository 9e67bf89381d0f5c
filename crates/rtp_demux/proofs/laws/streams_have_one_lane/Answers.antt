use Rattle.rtp_demux.proofs.Numbering.{one_lane, one_finding}
use Rattle.rtp_demux.proofs.laws.streams_have_one_lane.Goals as goal

pub returns-clause-told : goal.returns-clause-told
returns-clause-told c = one_lane

pub returns-clause-found : goal.returns-clause-found
returns-clause-found c = one_finding

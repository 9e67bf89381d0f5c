use Rattle.rtp_demux.proofs.Sights.{lanes_new, lanes_known, lanes_full}
use Rattle.rtp_demux.proofs.laws.lanes_go_on.Goals as goal

pub returns-clause-new : goal.returns-clause-new
returns-clause-new c = lanes_new

pub returns-clause-known : goal.returns-clause-known
returns-clause-known c = lanes_known

pub returns-clause-full : goal.returns-clause-full
returns-clause-full c = lanes_full

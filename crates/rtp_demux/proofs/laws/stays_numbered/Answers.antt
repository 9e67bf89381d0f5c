use Rattle.rtp_demux.proofs.Sights.{stays_numbered}
use Rattle.rtp_demux.proofs.laws.stays_numbered.Goals as goal

pub returns : goal.returns
returns c = stays_numbered

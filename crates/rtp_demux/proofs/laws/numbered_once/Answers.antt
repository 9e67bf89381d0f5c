use Rattle.rtp_demux.proofs.Sights.{numbered_once}
use Rattle.rtp_demux.proofs.laws.numbered_once.Goals as goal

pub returns : goal.returns
returns c = numbered_once

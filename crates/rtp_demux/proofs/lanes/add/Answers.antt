use Rattle.std.proofs.Common.{◌∙◌}
use Rattle.indexmap.proofs.CallerLemmas.{insert_entry-new}
use Rattle.rtp_demux.specs.Lanes.{is_stream}
use Rattle.rtp_demux.proofs.lanes.add.Goals as goal

pub returns-clause-entries : goal.returns-clause-entries
returns-clause-entries c = c.in-Ok.ensures.entries ∙ insert_entry-new is_stream c.args.lanes.now c.args.stream c.args.rate c.requires.new

use Rattle.std.proofs.Common.{◌∙◌}
use Rattle.sdp_profile.proofs.SectionLemmas.{placed_kept}
use Rattle.sdp_profile.proofs.section.placed.Goals as goal

pub returns : goal.returns
returns c = c.in_ok-placed.ensures ∙ placed_kept c.args.lines.now

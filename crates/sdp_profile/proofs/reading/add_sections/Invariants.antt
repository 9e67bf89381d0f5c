use Rattle.std.proofs.Common.{length}
use Rattle.sdp_profile.specs.Sections.{sections_of, with_sections}
use Rattle.sdp_profile.specs.Reading.{lines_in}
use Rattle.sdp_profile.proofs.SectionLemmas.{SectionsSoFar}
use Rattle.sdp_profile.proofs.reading.add_sections.Given as goal

abbrev pub invariant-loop-rest : goal.invariant-loop-rest
invariant-loop-rest l = SectionsSoFar l.draft (lines_in l.rest) (with_sections l.initial.draft (sections_of (lines_in l.sections)))

abbrev pub decreases-loop-rest : goal.decreases-loop-rest
decreases-loop-rest l = length l.rest

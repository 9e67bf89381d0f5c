use Rattle.std.proofs.Common.{refl}
use Rattle.sdp_profile.proofs.FirstLine.{no_times, no_nano_times, no_section_times}
use Rattle.sdp_profile.proofs.laws.times_begin_no_capture.Goals as goal

pub returns-clause-big : goal.returns-clause-big
returns-clause-big c = λ sdp xs contents. no_times 161 sdp xs contents refl refl refl refl refl

pub returns-clause-little : goal.returns-clause-little
returns-clause-little c = λ sdp xs contents. no_times 212 sdp xs contents refl refl refl refl refl

pub returns-clause-nano : goal.returns-clause-nano
returns-clause-nano c = no_nano_times

pub returns-clause-section : goal.returns-clause-section
returns-clause-section c = no_section_times

use Rattle.std.proofs.Common.{refl, ◌∷◌}
use Rattle.sdp_profile.proofs.FirstLine.{no_description, no_section_described}
use Rattle.sdp_profile.proofs.laws.description_begins_no_capture.Goals as goal

pub returns-clause-big : goal.returns-clause-big
returns-clause-big c = λ xs times contents. no_description 161 xs times contents refl refl refl

pub returns-clause-little : goal.returns-clause-little
returns-clause-little c = λ xs times contents. no_description 212 xs times contents refl refl refl

pub returns-clause-nano : goal.returns-clause-nano
returns-clause-nano c = λ xs times contents.
    no_description 77 (60 ∷ 178 ∷ xs) times contents refl refl refl

pub returns-clause-section : goal.returns-clause-section
returns-clause-section c = no_section_described

use Rattle.std.proofs.Common.{sym, ◌∙◌, arith}
use Rattle.sdp_profile.specs.Sections.{is_media}
use Rattle.sdp_profile.specs.Reading.{line_in}
use Rattle.sdp_profile.proofs.TextLemmas.{place_found, none_found}
use Rattle.sdp_profile.proofs.reading.first_media.Goals as goal

pub returns-in-Some-clause-place : goal.returns-in-Some-clause-place
returns-in-Some-clause-place c = sym (place_found (λ l. is_media (line_in l)) c.args.lines.now c.in-Some.place (sym c.media_in.ensures ∙ c.in-Some.is)).1

pub returns-in-Some-clause-within : goal.returns-in-Some-clause-within
returns-in-Some-clause-within c = let h = (place_found (λ l. is_media (line_in l)) c.args.lines.now c.in-Some.place (sym c.media_in.ensures ∙ c.in-Some.is)).0 in omega arith

pub returns-in-None-clause-place : goal.returns-in-None-clause-place
returns-in-None-clause-place c = sym (none_found (λ l. is_media (line_in l)) c.args.lines.now (sym c.media_in.ensures ∙ c.in-None.is))

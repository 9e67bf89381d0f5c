use Rattle.std.proofs.Common.{◌∙◌, ap, take, drop}
use Rattle.sdp_profile.specs.Reading.{lines_in}
use Rattle.sdp_profile.proofs.TextLemmas.{whole_lines}
use Rattle.sdp_profile.proofs.SectionLemmas.{until_kept, from_kept}
use Rattle.sdp_profile.proofs.reading.split_at_media.Goals as goal

pub returns-clause-front : goal.returns-clause-front
returns-clause-front c = ap (λ n. lines_in (take n c.args.lines.now)) c.first_media-place.ensures.place ∙ until_kept c.args.lines.now

pub returns-clause-rest : goal.returns-clause-rest
returns-clause-rest c =
    ap lines_in (whole_lines c.first_media-place.result c.args.lines.now) ∙ ap (λ n. lines_in (drop n c.args.lines.now)) c.first_media-place.ensures.place ∙ from_kept c.args.lines.now

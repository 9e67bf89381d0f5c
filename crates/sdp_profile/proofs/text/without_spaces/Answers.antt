use Rattle.std.proofs.Common.{◌∙◌, ap, drop}
use Rattle.sdp_profile.proofs.TextLemmas.{whole_rest}
use Rattle.sdp_profile.proofs.text.without_spaces.Goals as goal

pub returns : goal.returns
returns c = whole_rest c.spaces_in_front-place.result c.args.text.now ∙ ap (λ n. drop n c.args.text.now) c.spaces_in_front-place.ensures.place

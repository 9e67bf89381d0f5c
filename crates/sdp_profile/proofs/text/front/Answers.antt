use Rattle.std.proofs.Common.{◌∙◌, ap, drop}
use Rattle.sdp_profile.proofs.TextLemmas.{whole_rest}
use Rattle.sdp_profile.proofs.text.front.Goals as goal

pub returns-clause-back : goal.returns-clause-back
returns-clause-back c = whole_rest c.place_of-place.result c.args.text.now ∙ ap (λ n. drop n c.args.text.now) c.place_of-place.ensures.place

use Rattle.std.proofs.Common.{sym, ◌∙◌}
use Rattle.sdp_profile.proofs.TextLemmas.{apt_here, apt_behind, apt_last}
use Rattle.sdp_profile.proofs.attribute.first_apt.Goals as goal

pub returns-in-Some-apt_of_parameter : goal.returns-in-Some-apt_of_parameter
returns-in-Some-apt_of_parameter c =
    sym (apt_here c.loop-parameter.rest.now (c.in-Some.parameter.now, c.in-Some.behind.now) c.in-Some-apt_of_parameter.apt (sym c.in-Some.ensures.parts)
    (sym c.apt_of_parameter.ensures ∙ c.in-Some-apt_of_parameter.is))
    ∙ c.loop-parameter.invariant

pub loop-parameter-preserved : goal.loop-parameter-preserved
loop-parameter-preserved c =
    apt_behind c.loop-parameter.rest.now (c.in-Some.parameter.now, c.in-Some.behind.now) (sym c.in-Some.ensures.parts) (sym c.apt_of_parameter.ensures ∙ c.in_default-apt_of_parameter.is)
    ∙ c.loop-parameter.invariant

pub returns : goal.returns
returns c = c.apt_of_parameter-2.ensures ∙ sym (apt_last c.loop-parameter.rest.now (sym c.in_default.ensures.parts)) ∙ c.loop-parameter.invariant

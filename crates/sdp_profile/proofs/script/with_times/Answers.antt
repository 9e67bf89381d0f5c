use Rattle.std.proofs.Common.{sym, ◌∙◌, ap}
use Rattle.sdp_profile.proofs.ScriptLemmas.{joined_script}
use Rattle.sdp_profile.proofs.script.with_times.Goals as goal

pub invariant_of-result : goal.invariant_of-result
invariant_of-result c = joined_script _ _ c.description.invariant c.script.invariant
    (ap (λ x. x.sessions) c.script.view_is ∙ c.requires ∙ sym (ap (λ x. x.sessions) c.description.view_is))

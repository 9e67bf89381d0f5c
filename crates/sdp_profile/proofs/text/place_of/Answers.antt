use Rattle.std.proofs.Common.{sym, ◌∙◌, arith, nat_eq}
use Rattle.sdp_profile.proofs.TextLemmas.{place_found, none_found}
use Rattle.sdp_profile.proofs.text.place_of.Goals as goal

pub returns-in-Some-clause-place : goal.returns-in-Some-clause-place
returns-in-Some-clause-place c = sym (place_found (λ b. nat_eq b c.args.byte) c.args.text.now c.in-Some.place (sym c.place_in.ensures ∙ c.in-Some.is)).1

pub returns-in-Some-clause-within : goal.returns-in-Some-clause-within
returns-in-Some-clause-within c = let h = (place_found (λ b. nat_eq b c.args.byte) c.args.text.now c.in-Some.place (sym c.place_in.ensures ∙ c.in-Some.is)).0 in omega arith

pub returns-in-None-clause-place : goal.returns-in-None-clause-place
returns-in-None-clause-place c = sym (none_found (λ b. nat_eq b c.args.byte) c.args.text.now (sym c.place_in.ensures ∙ c.in-None.is))

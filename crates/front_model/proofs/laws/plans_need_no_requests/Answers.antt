use Rattle.front_model.proofs.Planning.{need_none}
use Rattle.front_model.proofs.laws.plans_need_no_requests.Goals as goal

pub returns : goal.returns
returns c = need_none c.nothing_is_found_unasked.ensures

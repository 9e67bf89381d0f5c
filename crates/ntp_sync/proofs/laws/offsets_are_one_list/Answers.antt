use Rattle.ntp_sync.proofs.Single.{one_list, is_function}
use Rattle.ntp_sync.proofs.laws.offsets_are_one_list.Goals as goal

pub returns-clause-one : goal.returns-clause-one
returns-clause-one c = one_list

pub returns-clause-function : goal.returns-clause-function
returns-clause-function c = is_function

use Rattle.std.proofs.Common.{refl}
use Rattle.script_lang.proofs.FirstLine.{no_first, no_three}
use Rattle.script_lang.proofs.laws.begins_no_capture.Goals as goal

pub returns-clause-big : goal.returns-clause-big
returns-clause-big c = λ xs contents. no_first 161 xs contents refl refl refl refl refl

pub returns-clause-little : goal.returns-clause-little
returns-clause-little c = λ xs contents. no_first 212 xs contents refl refl refl refl refl

pub returns-clause-nano : goal.returns-clause-nano
returns-clause-nano c = no_three

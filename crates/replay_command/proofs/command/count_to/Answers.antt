use Rattle.std.proofs.Common.{◌∙◌, rules, tests}
use Rattle.std.specs.Prelude.{nat_lt}
use Rattle.std.proofs.lemmas.Iterator.{YieldsList-from_slice}
use Rattle.std.proofs.lemmas.Iterator.Search.{position_from_yields_List}
use Rattle.script_lang.specs.declared.script.Item.{Item}
use Rattle.replay_command.proofs.Items.{count_is}
use Rattle.replay_command.proofs.command.count_to.Goals as goal

pub returns-clause-count : goal.returns-clause-count
returns-clause-count c =
    c.unwrap_or.ensures
    ∙ count_is c.args.time c.args.items.now c.position.result (position_from_yields_List (λ (i : Item). nat_lt c.args.time i.time) _ _ _ c.position.ensures.ran (YieldsList-from_slice c.args.items.now c.iter.ensures.rest) (λ x b q k. search (rules, tests)))

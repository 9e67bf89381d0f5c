use Rattle.std.proofs.Common.{refl, ◌∙◌, ◌+◌, ◌∷◌, [], subst, take, drop, get_or, List, Ok}
use Rattle.std.specs.Prelude.{map}
use Rattle.script_lang.specs.declared.script.Action.TheVariants.{Clock}
use Rattle.script_lang.specs.declared.script.Item.{Item}
use Rattle.replay_model.specs.Inputs.{Input, OfScript}
use Rattle.replay_command.specs.Plays.{PlaysMore}
use Rattle.replay_command.proofs.Items.{time_of_last, are_next, one_more, all_parts}
use Rattle.command_core.specs.Laws.{more_none, more_then}
use Rattle.replay_command.proofs.Ahead.{LogGoesOn}
use Rattle.replay_command.proofs.Playing.{plays_start, plays_then, plays_fail}
use Rattle.replay_command.proofs.player.Player.give_items.Goals as goal

abbrev none : Item
none = record { time = 0; action = Clock }

pub returns-in-Err-clause-plays : goal.returns-in-Err-clause-plays
returns-in-Err-clause-plays g c =
    let items = c.args.items.now in
    let k = c.loop-item.item-index in
    let law : LogGoesOn = record { input = c.goes_on.ensures.input; part = c.goes_on.ensures.part; whole = c.goes_on.ensures.whole } in
    plays_fail law c.in-Err.stop c.args.self.now c.loop-item.self c.give_item.new.self c.args.self.now (map OfScript (take k items)) (OfScript (get_or items k none) ∷ []) (map OfScript (drop (k + 1) items)) (map OfScript items) _ _ _
    (all_parts items k none c.loop-item-test.true) c.loop-item.invariant.style c.loop-item.invariant.plays c.in-Err.ensures.plays

pub loop-item-preserved : goal.loop-item-preserved
loop-item-preserved g c =
    let items = c.args.items.now in
    let k = c.loop-item.item-index in
    let both = plays_then c.args.self.now c.loop-item.self c.give_item.new.self (map OfScript (take k items)) (OfScript (get_or items k none) ∷ []) _ _ _ c.loop-item.invariant.plays c.in-Ok.ensures.plays in
    record {
      style = c.give_item.ensures.style ∙ c.loop-item.invariant.style;
      records = c.give_item.ensures.records ∙ c.loop-item.invariant.records;
      time = c.in-Ok.ensures.time ∙ time_of_last _ items k none c.loop-item-test.true;
      rest = rw c.in-Ok.ensures.time (are_next _ items k none c.loop-item-test.true c.loop-item.invariant.rest);
      ready = c.in-Ok.ensures.ready;
      plays = subst (λ (l : List Input). PlaysMore (Ok tt) c.args.self.now c.give_item.new.self l (g.O.Sink.written c.args.out.now) (g.O.Sink.written c.give_item.new.out)) (one_more items k none c.loop-item-test.true) both;
      more = more_then _ _ _ c.loop-item.invariant.more c.give_item.ensures.more;
      faults = c.in-Ok.ensures.cause ∙ c.loop-item.invariant.faults;
    }

pub loop-item-init : goal.loop-item-init
loop-item-init g c = record {
  style = refl;
  records = refl;
  time = refl;
  rest = c.requires.items;
  ready = c.requires.ready;
  plays = plays_start c.args.self.now (g.O.Sink.written c.args.out.now);
  more = more_none (g.O.Sink.written c.args.out.now);
  faults = refl;
}

pub returns-in-Err-clause-more : goal.returns-in-Err-clause-more
returns-in-Err-clause-more g c = more_then _ _ _ c.loop-item.invariant.more c.give_item.ensures.more

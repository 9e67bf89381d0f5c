use Rattle.std.proofs.Common.{[], map, arith}
use Rattle.std.proofs.lemmas.List.Elements.{All-nil, recursion_from_All}
use Rattle.replay_model.specs.Inputs.{OfScript}
use Rattle.replay_model.specs.Fitting.{IsInput}
use Rattle.replay_sound.specs.Stamped.{IsStamped}
use Rattle.live_plan.proofs.Choices.{given_items}
use Rattle.live_plan.proofs.Rightness.{plan_right}
use Rattle.live_plan.proofs.laws.plans_are_right.Goals as goal

pub returns : goal.returns
returns c =
    plan_right (record {
      front = record { suits = c.steps_suit_a_bin.ensures; opened = c.lanes_open_in_order.ensures };
      send = record { stay = c.lanes_stay.ensures.moves; tell = c.reports_only_tell.ensures };
      count = c.numbers_count_up.ensures;
      sound = c.scripts_are_sound.ensures;
      items = λ x script.
          given_items x.items (recursion_from_All IsInput (map OfScript x.items) (c.records_make_replays.ensures.whole x [] script (record { few = omega arith; each = All-nil IsStamped })).each);
    })

use Rattle.std.proofs.Common.{subst, sym, ap, ◌∙◌}
use Rattle.lane_core.specs.Totals.{with_turn, IsCounted}
use Rattle.lane_core.proofs.Totals.{has_room, room_below, turn_counted}
use Rattle.lane_core.proofs.lane.Lane.turn.Goals as goal

pub count_turn-self-requires-clause-out : goal.count_turn-self-requires-clause-out
count_turn-self-requires-clause-out c =
    room_below _ (has_room (record { window = c.accepted_in_window.ensures.window; packet = c.covers_from_next.ensures.packet; loss = c.covers_from_next.ensures.loss }) c.turn-turn.new.buffer (with_turn c.args.self.now.counts c.turn-turn.result)
    (turn_counted c.args.self.now.buffer c.turn-turn.new.buffer c.args.self.now.counts c.turn-turn.result c.turn-turn.ensures.stands c.args.self.now.counted)).out

pub count_turn-self-requires-clause-lost : goal.count_turn-self-requires-clause-lost
count_turn-self-requires-clause-lost c =
    room_below _ (has_room (record { window = c.accepted_in_window.ensures.window; packet = c.covers_from_next.ensures.packet; loss = c.covers_from_next.ensures.loss }) c.turn-turn.new.buffer (with_turn c.args.self.now.counts c.turn-turn.result)
    (turn_counted c.args.self.now.buffer c.turn-turn.new.buffer c.args.self.now.counts c.turn-turn.result c.turn-turn.ensures.stands c.args.self.now.counted)).lost

pub invariant_of-self : goal.invariant_of-self
invariant_of-self c =
    record {
      counted = subst (IsCounted c.turn-turn.new.buffer) (sym c.count_turn-self.ensures)
          (turn_counted c.args.self.now.buffer c.turn-turn.new.buffer c.args.self.now.counts c.turn-turn.result c.turn-turn.ensures.stands c.args.self.now.counted);
      known = c.args.self.now.known ∙ ap (λ s. s.pushers) (sym c.turn-turn.ensures.settings);
    }

use Rattle.std.proofs.Common.{sym, ap}
use Rattle.lane_core.proofs.Totals.{fresh_counted}
use Rattle.lane_core.proofs.lane.Lane.new.Goals as goal

pub invariant_of-result : goal.invariant_of-result
invariant_of-result c =
    record {
      counted = fresh_counted c.in_ok-buffer.buffer c.in_ok-buffer.ensures.stands;
      known = ap (λ s. s.pushers) (sym c.in_ok-buffer.ensures.settings);
    }

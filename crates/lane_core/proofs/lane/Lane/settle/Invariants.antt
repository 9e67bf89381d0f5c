use Rattle.std.proofs.Common.{ℕ, ◌≡◌, []}
use Rattle.jitter_core.specs.Words.{left_of, now_of}
use Rattle.front_model.specs.declared.Opening.{Opening}
use Rattle.replay_model.specs.Events.{Timeline, lane}
use Rattle.replay_model.specs.Turning.{asked}
use Rattle.lane_core.specs.Lanes.{SameLane, Around, LaneTells}
use Rattle.lane_core.proofs.Asking.{IsAskingFew}
use Rattle.lane_core.proofs.Settling.{Settling}
use Rattle.lane_core.proofs.lane.Lane.settle.Given as goal

abbrev pub invariant-turns : goal.invariant-turns
invariant-turns l =
    record {
      now : now_of l.self.buffer ≡ now_of l.fn.self.buffer;
      stays : SameLane l.fn.self l.self;
      few : IsAskingFew l.self.buffer l.numbers.items;
      run : (o : ℕ → Opening) (a : Around) (n : ℕ) (tl : Timeline) → asked (lane n tl) ≡ [] → LaneTells o a n l.fn.self l.fn.lines tl → Settling o a l.time n l.self l.numbers.items l.lines tl;
      time : l.time ≡ l.fn.time;
    }

abbrev pub decreases-turns : goal.decreases-turns
decreases-turns l = left_of l.self.buffer

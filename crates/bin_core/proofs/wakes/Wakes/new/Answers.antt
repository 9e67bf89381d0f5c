use Rattle.std.proofs.Common.{ap}
use Rattle.jitter_timers.specs.Timers.{Timers}
use Rattle.bin_core.proofs.Waking.{get_none}
use Rattle.bin_core.proofs.wakes.Wakes.new.Goals as goal

pub returns : goal.returns
returns c = λ lane. get_none _ lane (ap (λ (q : Timers). q.times) c.in_ok-with_capacity.ensures)

pub invariant_of-result : goal.invariant_of-result
invariant_of-result c = record {
  room = ap (λ (q : Timers). q.room) c.in_ok-with_capacity.ensures;
  low = λ lane le. get_none _ lane (ap (λ (q : Timers). q.times) c.in_ok-with_capacity.ensures);
}

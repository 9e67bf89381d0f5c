use Rattle.std.proofs.Common.{ℕ, Some, ◌≡◌, ◌+◌, ◌≤◌, sym, ap, subst, ◌∙◌, arith}
use Rattle.std.specs.Prelude.{option_map}
use Rattle.std.specs.FinMap as map
use Rattle.jitter_timers.specs.Timers.{Timers}
use Rattle.jitter_core.specs.Requesting.{asked_of}
use Rattle.jitter_core.specs.Scheduling.{AreTimers}
use Rattle.jitter_core.proofs.Asking.{first_asked, none_due, later_all, none_later, drops}
use Rattle.jitter_core.proofs.Timers.{few_timers, few_gaps, len_gone, some_len, quick}
use Rattle.jitter_core.proofs.schedule.first_request.Goals as goal

pub returns : goal.returns
returns g c =
    record {
      value = sym (none_due c.args.state.now c.loop-time.timers.times c.loop-time.invariant.right (none_later c.loop-time.timers.times c.args.state.now.progress.time c.in_default.ensures));
      room = c.loop-time.invariant.room;
      right = c.loop-time.invariant.right;
      later = λ _. none_later c.loop-time.timers.times c.args.state.now.progress.time c.in_default.ensures;
      quick = omega (arith, c.loop-time.invariant.quick, few_timers c.args.state.now c.args.timers.now.times c.requires.bounded c.requires.right);
    }

pub returns-then-state-time-clause-value : goal.returns-then-state-time-clause-value
returns-then-state-time-clause-value g c =
    sym (none_due c.args.state.now c.loop-time.timers.times c.loop-time.invariant.right (later_all c.loop-time.timers.times c.in-Some.time c.args.state.now.progress.time c.in-Some.number c.in-Some.ensures c.if-state-time.true))

pub returns-then-state-time-clause-quick : goal.returns-then-state-time-clause-quick
returns-then-state-time-clause-quick g c = omega (arith, c.loop-time.invariant.quick, few_timers c.args.state.now c.args.timers.now.times c.requires.bounded c.requires.right)

pub returns-in-Some-due_for-clause-value : goal.returns-in-Some-due_for-clause-value
returns-in-Some-due_for-clause-value g c =
    sym (first_asked c.args.state.now c.loop-time.timers.times c.in-Some.time c.in-Some.number (asked_of c.in-Some-due_for.due) c.requires.bounded c.loop-time.invariant.right c.in-Some.ensures (sym c.in-Some-due_for.ensures))

pub returns-in-Some-due_for-clause-quick : goal.returns-in-Some-due_for-clause-quick
returns-in-Some-due_for-clause-quick g c = omega (arith, c.loop-time.invariant.quick, few_timers c.args.state.now c.args.timers.now.times c.requires.bounded c.requires.right)

gone : (old new : Timers) (number time : ℕ) → new ≡ record { room = old.room; times = map.remove old.times number; heap = new.heap } → map.get old.times number ≡ Some time → map.len new.times + 1 ≡ map.len old.times
gone old new number time e is = let times : new.times ≡ map.remove old.times number = ap (λ (z : Timers). z.times) e in rw times (omega (arith, len_gone old.times number time is, some_len old.times number time is))

pub loop-time-smaller : goal.loop-time-smaller
loop-time-smaller g c = omega (arith, gone c.loop-time.timers c.cancel.new.self c.in-Some.number c.in-Some.time c.cancel.ensures.after c.in-Some.ensures.0)

pub loop-time-preserved : goal.loop-time-preserved
loop-time-preserved g c =
    let one : map.len c.cancel.new.self.times + 1 ≡ map.len c.loop-time.timers.times = gone c.loop-time.timers c.cancel.new.self c.in-Some.number c.in-Some.time c.cancel.ensures.after c.in-Some.ensures.0 in
    let few : map.len c.loop-time.timers.times ≤ 8192 = omega (arith, few_timers c.args.state.now c.loop-time.timers.times c.requires.bounded c.loop-time.invariant.right, few_gaps c.args.state.now c.requires.bounded) in
    let step : c.cancel.new.steps ≤ c.loop-time.steps + 14 = quick c.loop-time.timers.times c.cancel.new.self.times c.loop-time.steps c.cancel.new.steps (omega arith) (omega arith) c.cancel.ensures.quick in
    record {
      room = ap (λ (x : Timers). x.room) c.cancel.ensures.after ∙ c.loop-time.invariant.room;
      right = subst (λ (x : Timers). AreTimers c.args.state.now x.times) (sym c.cancel.ensures.after)
          (drops c.args.state.now c.loop-time.timers.times c.in-Some.number c.in-Some.time c.loop-time.invariant.right c.in-Some.ensures.0 c.if-state-time.false (sym c.due_for.ensures ∙ ap (option_map asked_of) c.in_default-due_for.is));
      few = omega (arith, one, c.loop-time.invariant.few);
      quick = omega (arith, one, step, c.loop-time.invariant.quick);
    }

use Rattle.std.proofs.Common.{ℕ, ◌≡◌, ◌+◌, ◌≤◌, ◌^◌, arith, refl, sym, ap, subst, ◌∙◌, List}
use Rattle.std.specs.Prelude.{unwrap_or, Option, None, Some}
use Rattle.std.specs.Option.{ForSome}
use Rattle.jitter_timers.specs.Timers.{Timers}
use Rattle.jitter_core.specs.declared.served.Service.{Service}
use Rattle.jitter_core.specs.declared.state.State.{State}
use Rattle.jitter_core.specs.Requesting.{asked_of}
use Rattle.jitter_core.specs.Scheduling.{AreTimers, pending, with_timer}
use Rattle.jitter_core.specs.Served.{with_served}
use Rattle.jitter_core.specs.Turning.{state_sight}
use Rattle.jitter_core.proofs.Timers.{few_timers, few_gaps}
use Rattle.jitter_core.proofs.Carrying.{serving, asked_range, served_timers, room_for}
use Rattle.jitter_core.proofs.schedule.serve.Goals as goal

top_small : (t : Option ℕ) → ForSome t (λ x. x ≤ 2 ^ 61) → unwrap_or t 0 ≤ 2 ^ 61
top_small None b = omega arith
top_small (Some x) b = b x refl

pub reschedule-requires-clause-number : goal.reschedule-requires-clause-number
reschedule-requires-clause-number g c = omega (arith, (asked_range c.replies_tell.ensures c.args.state.now (asked_of c.args.due.now) c.requires.asked).to, top_small c.args.state.now.span.top c.requires.bounded.below)

pub reschedule-requires-clause-room : goal.reschedule-requires-clause-room
reschedule-requires-clause-room g c = room_for c.args.state.now c.args.timers.now c.args.due.now.number c.requires.bounded c.requires.room c.requires.right (asked_range c.replies_tell.ensures c.args.state.now (asked_of c.args.due.now) c.requires.asked)

pub reschedule-requires-clause-few : goal.reschedule-requires-clause-few
reschedule-requires-clause-few g c = omega (arith, few_timers c.args.state.now c.args.timers.now.times c.requires.bounded c.requires.right, few_gaps c.args.state.now c.requires.bounded)

after : (s : State) (x y : Timers) (n k count : ℕ) (xs : List Service) → xs ≡ with_served s.served n count → count ≡ k + 1 → AreTimers (serving s n k) (with_timer x.times n (pending s.settings (state_sight (serving s n k)) n)) → y ≡ record { room = x.room; times = with_timer x.times n (pending s.settings (state_sight (record s { served = xs })) n); heap = y.heap } → AreTimers (record s { served = xs }) y.times
after s x y n k count xs e is h f =
    let all : xs ≡ with_served s.served n (k + 1) = e ∙ ap (with_served s.served n) is in
    subst (λ (z : Timers). AreTimers (record s { served = xs }) z.times) (sym f)
    (subst (λ (zs : List Service). AreTimers (record s { served = zs }) (with_timer x.times n (pending s.settings (state_sight (record s { served = zs })) n))) (sym all) h)

pub returns-clause-right : goal.returns-clause-right
returns-clause-right g c =
    after c.args.state.now c.args.timers.now c.reschedule.new.timers c.args.due.now.number c.args.due.now.k (c.from.result + 1) c.set.new.self c.set.ensures (omega (arith, c.from.ensures))
    (served_timers c.args.state.now c.args.due.now.number c.args.due.now.k c.args.timers.now.times c.requires.bounded (asked_range c.replies_tell.ensures c.args.state.now (asked_of c.args.due.now) c.requires.asked) c.requires.right) c.reschedule.ensures.after

use Rattle.std.proofs.Common.{ℕ, ◌≡◌, ◌+◌, Some, arith, ap, Option}
use Rattle.std.specs.Prelude.{unwrap_or}
use Rattle.jitter_core.proofs.Following.{IsReady, ready_room, ready_next, three_set, two_right}
use Rattle.jitter_core.proofs.schedule.follow.Goals as goal

is_top : (t : Option ℕ) (n : ℕ) → t ≡ Some n → unwrap_or t 0 ≡ n
is_top t n e = ap (λ (x : Option ℕ). unwrap_or x 0) e

pub reschedule-requires-clause-room : goal.reschedule-requires-clause-room
reschedule-requires-clause-room g c =
    ready_room c.args.state.now c.args.timers.now c.args.number 8192 c.requires.bounded (record { room = c.requires.room; few = c.requires.few; within = c.requires.within }) c.requires.low (omega (arith, is_top c.args.state.now.span.top c.args.number c.requires.top))

pub reschedule-requires-2-clause-room : goal.reschedule-requires-2-clause-room
reschedule-requires-2-clause-room g c =
    let first : IsReady c.args.state.now c.reschedule.new.timers 8193 = ready_next c.args.state.now c.args.timers.now c.reschedule.new.timers c.args.number 8192 _ (record { room = c.requires.room; few = c.requires.few; within = c.requires.within }) c.requires.low (omega (arith, is_top c.args.state.now.span.top c.args.number c.requires.top)) c.reschedule.ensures.after in
    ready_room c.args.state.now c.reschedule.new.timers (c.args.number + 1) 8193 c.requires.bounded first (omega (arith, c.requires.low)) (omega (arith, is_top c.args.state.now.span.top c.args.number c.requires.top))

pub reschedule-requires-2-clause-few : goal.reschedule-requires-2-clause-few
reschedule-requires-2-clause-few g c =
    let first : IsReady c.args.state.now c.reschedule.new.timers 8193 = ready_next c.args.state.now c.args.timers.now c.reschedule.new.timers c.args.number 8192 _ (record { room = c.requires.room; few = c.requires.few; within = c.requires.within }) c.requires.low (omega (arith, is_top c.args.state.now.span.top c.args.number c.requires.top)) c.reschedule.ensures.after in
    omega (arith, first.few)

pub reschedule-requires-then-lowest-reorder-clause-room : goal.reschedule-requires-then-lowest-reorder-clause-room
reschedule-requires-then-lowest-reorder-clause-room g c =
    let first : IsReady c.args.state.now c.reschedule.new.timers 8193 = ready_next c.args.state.now c.args.timers.now c.reschedule.new.timers c.args.number 8192 _ (record { room = c.requires.room; few = c.requires.few; within = c.requires.within }) c.requires.low (omega (arith, is_top c.args.state.now.span.top c.args.number c.requires.top)) c.reschedule.ensures.after in
    let second : IsReady c.args.state.now c.reschedule-2.new.timers 8194 = ready_next c.args.state.now c.reschedule.new.timers c.reschedule-2.new.timers (c.args.number + 1) 8193 _ first (omega (arith, c.requires.low)) (omega (arith, is_top c.args.state.now.span.top c.args.number c.requires.top)) c.reschedule-2.ensures.after in
    ready_room c.args.state.now c.reschedule-2.new.timers _ 8194 c.requires.bounded second (omega (arith, c.lowest.ensures.value, c.if-lowest-reorder.true)) (omega (arith, is_top c.args.state.now.span.top c.args.number c.requires.top))

pub reschedule-requires-then-lowest-reorder-clause-few : goal.reschedule-requires-then-lowest-reorder-clause-few
reschedule-requires-then-lowest-reorder-clause-few g c =
    let first : IsReady c.args.state.now c.reschedule.new.timers 8193 = ready_next c.args.state.now c.args.timers.now c.reschedule.new.timers c.args.number 8192 _ (record { room = c.requires.room; few = c.requires.few; within = c.requires.within }) c.requires.low (omega (arith, is_top c.args.state.now.span.top c.args.number c.requires.top)) c.reschedule.ensures.after in
    let second : IsReady c.args.state.now c.reschedule-2.new.timers 8194 = ready_next c.args.state.now c.reschedule.new.timers c.reschedule-2.new.timers (c.args.number + 1) 8193 _ first (omega (arith, c.requires.low)) (omega (arith, is_top c.args.state.now.span.top c.args.number c.requires.top)) c.reschedule-2.ensures.after in
    second.few

pub returns-then-lowest-reorder-clause-right : goal.returns-then-lowest-reorder-clause-right
returns-then-lowest-reorder-clause-right g c =
    three_set c.args.state.now c.args.timers.now c.reschedule.new.timers c.reschedule-2.new.timers c.reschedule-then-lowest-reorder.new.timers c.args.number c.from-reorder.result c.requires.top c.requires.low c.requires.others c.reschedule.ensures.after c.reschedule-2.ensures.after c.from-reorder.ensures (omega (arith, c.lowest.ensures.value, c.if-lowest-reorder.true)) c.reschedule-then-lowest-reorder.ensures.after

pub returns-else-lowest-reorder-clause-right : goal.returns-else-lowest-reorder-clause-right
returns-else-lowest-reorder-clause-right g c =
    let first : IsReady c.args.state.now c.reschedule.new.timers 8193 = ready_next c.args.state.now c.args.timers.now c.reschedule.new.timers c.args.number 8192 _ (record { room = c.requires.room; few = c.requires.few; within = c.requires.within }) c.requires.low (omega (arith, is_top c.args.state.now.span.top c.args.number c.requires.top)) c.reschedule.ensures.after in
    let second : IsReady c.args.state.now c.reschedule-2.new.timers 8194 = ready_next c.args.state.now c.reschedule.new.timers c.reschedule-2.new.timers (c.args.number + 1) 8193 _ first (omega (arith, c.requires.low)) (omega (arith, is_top c.args.state.now.span.top c.args.number c.requires.top)) c.reschedule-2.ensures.after in
    two_right c.args.state.now c.args.timers.now c.reschedule.new.timers c.reschedule-2.new.timers c.args.number c.from-reorder.result c.requires.top c.requires.low c.requires.others second.within c.reschedule.ensures.after c.reschedule-2.ensures.after c.from-reorder.ensures (omega (arith, c.lowest.ensures.value, c.if-lowest-reorder.false))

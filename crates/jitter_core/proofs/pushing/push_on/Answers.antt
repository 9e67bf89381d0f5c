use Rattle.std.proofs.Common.{◌∷◌, ◌∙◌, sym, arith}
use Rattle.jitter_model.specs.declared.Entry.TheVariants.{Push}
use Rattle.jitter_core.proofs.Filling.{can_fill}
use Rattle.jitter_core.proofs.Following.{is_next, next_top, next_from, next_range, next_timers}
use Rattle.jitter_core.proofs.Leaping.{gap_below}
use Rattle.jitter_core.proofs.Passing.{pusher_small}
use Rattle.jitter_core.proofs.Pushes.{push_keeps}
use Rattle.jitter_core.proofs.Reached.{reached_after, reached_bounded, reached_list, reached_run, reached_pushers}
use Rattle.jitter_core.proofs.Retiming.{off_timed, refused_timed}
use Rattle.jitter_core.proofs.Timers.{few_timers, few_gaps}
use Rattle.jitter_core.proofs.pushing.push_on.Goals as goal

-- ---- where no requests are made

pub push_packet-requires-clause-bounded : goal.push_packet-requires-clause-bounded
push_packet-requires-clause-bounded g c = reached_bounded c.runs_are_bounded.ensures c.replies_tell.ensures c.numbers_lie_between.ensures c.args.state.now c.requires.reached

pub push_packet-requires-clause-aside : goal.push_packet-requires-clause-aside
push_packet-requires-clause-aside g c = reached_list c.runs_are_bounded.ensures c.args.state.now c.requires.reached

pub push_packet-requires-clause-run : goal.push_packet-requires-clause-run
push_packet-requires-clause-run g c = reached_run c.runs_are_bounded.ensures c.args.state.now c.requires.reached

pub push_packet-requires-clause-pusher : goal.push_packet-requires-clause-pusher
push_packet-requires-clause-pusher g c =
    pusher_small c.args.state.now.settings.pushers c.args.a.pusher
    (reached_pushers c.runs_are_bounded.ensures c.args.state.now c.requires.reached) c.requires.pusher

pub returns-then-not-state-clause-timed : goal.returns-then-not-state-clause-timed
returns-then-not-state-clause-timed g c =
    off_timed c.args.state.now c.push_packet.new.state c.args.schedule.now
    c.push_packet.ensures.settings c.if-not-state.true c.requires.timed

-- ---- where there are

pub is_in_order-in_order-requires : goal.is_in_order-in_order-requires
is_in_order-in_order-requires g c = reached_bounded c.runs_are_bounded.ensures c.replies_tell.ensures c.numbers_lie_between.ensures c.args.state.now c.requires.reached

pub gap_from-gap-requires : goal.gap_from-gap-requires
gap_from-gap-requires g c = reached_bounded c.runs_are_bounded.ensures c.replies_tell.ensures c.numbers_lie_between.ensures c.args.state.now c.requires.reached

pub push_packet-pushed-requires-clause-bounded : goal.push_packet-pushed-requires-clause-bounded
push_packet-pushed-requires-clause-bounded g c = reached_bounded c.runs_are_bounded.ensures c.replies_tell.ensures c.numbers_lie_between.ensures c.args.state.now c.requires.reached

pub push_packet-pushed-requires-clause-aside : goal.push_packet-pushed-requires-clause-aside
push_packet-pushed-requires-clause-aside g c = reached_list c.runs_are_bounded.ensures c.args.state.now c.requires.reached

pub push_packet-pushed-requires-clause-run : goal.push_packet-pushed-requires-clause-run
push_packet-pushed-requires-clause-run g c = reached_run c.runs_are_bounded.ensures c.args.state.now c.requires.reached

pub push_packet-pushed-requires-clause-pusher : goal.push_packet-pushed-requires-clause-pusher
push_packet-pushed-requires-clause-pusher g c = pusher_small c.args.state.now.settings.pushers c.args.a.pusher (reached_pushers c.runs_are_bounded.ensures c.args.state.now c.requires.reached) c.requires.pusher

pub retime-requires-clause-bounded : goal.retime-requires-clause-bounded
retime-requires-clause-bounded g c =
    reached_bounded c.runs_are_bounded.ensures c.replies_tell.ensures c.numbers_lie_between.ensures c.push_packet-pushed.new.state
    (reached_after c.args.state.now c.push_packet-pushed.new.state (λ h. Push c.args.a c.push_packet-pushed.result.verdict c.push_packet-pushed.result.number c.push_packet-pushed.result.aside_dropped ∷ h)
    (λ h st. push_keeps c.runs_are_bounded.ensures c.replies_tell.ensures c.numbers_lie_between.ensures c.args.state.now c.push_packet-pushed.new.state h c.args.a c.push_packet-pushed.result st c.push_packet-pushed.ensures c.requires.few c.requires.range c.requires.pusher) c.requires.reached)

pub retime-requires-clause-refused : goal.retime-requires-clause-refused
retime-requires-clause-refused g c = λ e.
    refused_timed c.args.state.now c.push_packet-pushed.new.state c.args.schedule.now c.args.a c.push_packet-pushed.result c.push_packet-pushed.ensures e c.requires.timed

pub retime-requires-clause-follows : goal.retime-requires-clause-follows
retime-requires-clause-follows g c = λ e v fresh.
    let b = reached_bounded c.runs_are_bounded.ensures c.replies_tell.ensures c.numbers_lie_between.ensures c.args.state.now c.requires.reached in
    let x = is_next c.args.state.now c.push_packet-pushed.new.state c.args.a c.push_packet-pushed.result c.push_packet-pushed.ensures v (sym c.is_in_order-in_order.ensures ∙ e) in
    let right = c.requires.timed.right fresh in
    record {
      top = next_top c.args.state.now c.push_packet-pushed.new.state c.args.a c.push_packet-pushed.result.number x;
      low = next_from c.args.state.now c.push_packet-pushed.new.state c.args.a c.push_packet-pushed.result.number b x;
      few = omega (arith, few_timers c.args.state.now c.args.schedule.now.timers.times b right, few_gaps c.args.state.now b);
      within = next_range c.args.state.now c.push_packet-pushed.new.state c.args.a c.push_packet-pushed.result.number c.args.schedule.now.timers.times b x right;
      others = next_timers c.args.state.now c.push_packet-pushed.new.state c.args.a c.push_packet-pushed.result.number c.args.schedule.now.timers.times b x right;
    }

pub retime-requires-clause-fills : goal.retime-requires-clause-fills
retime-requires-clause-fills g c = λ e v fresh.
    can_fill c.args.state.now c.push_packet-pushed.new.state c.args.a c.push_packet-pushed.result
    c.args.schedule.now.timers.times
    (reached_bounded c.runs_are_bounded.ensures c.replies_tell.ensures c.numbers_lie_between.ensures c.args.state.now c.requires.reached) c.push_packet-pushed.ensures v e
    (c.requires.timed.right fresh)

pub retime-requires-clause-gap : goal.retime-requires-clause-gap
retime-requires-clause-gap g c = λ n is v fresh.
    gap_below c.args.state.now c.push_packet-pushed.new.state c.args.a c.push_packet-pushed.result
    c.args.schedule.now.timers.times c.gap_from-gap.result n
    (reached_bounded c.runs_are_bounded.ensures c.replies_tell.ensures c.numbers_lie_between.ensures c.args.state.now c.requires.reached) c.push_packet-pushed.ensures v
    c.gap_from-gap.ensures is c.if-not-state.false (c.requires.timed.right fresh)

use Rattle.std.proofs.Common.{◌≡◌, ap, ◌∙◌, subst, sym, [], arith}
use Rattle.std.specs.FinMap as map
use Rattle.jitter_timers.specs.Timers.{Timers, queue, HasRoom}
use Rattle.jitter_timers.proofs.TestLemmas.{room-empty, room-insert}
use Rattle.jitter_timers.proofs.tests.ties.Goals as goal

pub set-requires : goal.set-requires
set-requires g c = rw c.in_ok-queue.ensures (room-empty 8 7)

pub set-requires-2 : goal.set-requires-2
set-requires-2 g c =
    room-insert c.in_ok-queue.queue c.set.new.self 7 30 5 c.set.ensures.after (rw c.in_ok-queue.ensures (room-empty 8 5)) (rw c.in_ok-queue.ensures (λ e. omega arith))

pub set-requires-3 : goal.set-requires-3
set-requires-3 g c =
    room-insert c.set.new.self c.set-2.new.self 5 30 9 c.set-2.ensures.after
    (room-insert c.in_ok-queue.queue c.set.new.self 7 30 9 c.set.ensures.after (rw c.in_ok-queue.ensures (room-empty 8 9)) (rw c.in_ok-queue.ensures (λ e. omega arith)))
    (let room : c.set.new.self.room ≡ 8 = ap (λ (q : Timers). q.room) c.set.ensures.after ∙ ap (λ (q : Timers). q.room) c.in_ok-queue.ensures in rw room (λ e. omega arith))

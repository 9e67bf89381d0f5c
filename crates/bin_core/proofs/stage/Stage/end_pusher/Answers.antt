use Rattle.std.proofs.Common.{ℕ, refl, subst, List, rules}
use Rattle.bin_core.specs.Stages.{Sends}
use Rattle.bin_core.proofs.Outcomes.{on_ok}
use Rattle.bin_core.proofs.Ending.{ends_one, ends_not}
use Rattle.bin_core.proofs.stage.Stage.end_pusher.Goals as goal

pub returns-then-not-has_pusher-clause-stands : goal.returns-then-not-has_pusher-clause-stands
returns-then-not-has_pusher-clause-stands c = ends_not c.lanes_stand_beside.ensures c.args.self.now _ c.args.time c.args.number c.args.pusher c.index_mut-lane.result.now c.args.lines.now c.requires.lane c.index_mut-lane.ensures.value refl refl refl refl (search rules)

pub returns-clause-stands : goal.returns-clause-stands
returns-clause-stands c =
    on_ok c.send.result _ _
    (λ sends. ends_one c.timelines_keep.ensures c.lanes_stand_beside.ensures c.args.self.now _ c.args.time c.args.number c.args.pusher c.index_mut-lane.result.now c.end.new.self c.in_ok-numbers.numbers.items c.args.lines.now c.end.new.lines c.send.new.lines
    c.requires.lane c.index_mut-lane.ensures.value refl refl refl c.in_ok-numbers.ensures.stands
    (subst (λ (xs : List ℕ). Sends c.args.time c.end.new.self.session c.end.new.self.ssrc xs c.args.self.now.front c.send.new.front c.end.new.lines c.send.new.lines) c.as_slice.ensures.value sends)
    (search rules))
    c.send.ensures

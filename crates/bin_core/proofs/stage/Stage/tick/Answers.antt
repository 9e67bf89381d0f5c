use Rattle.std.proofs.Common.{ℕ, ◌∙◌, refl, subst, List, [], sym, arith}
use Rattle.jitter_model.specs.declared.Entry.TheVariants.{Clock}
use Rattle.jitter_model.specs.Laws.{IsLater}
use Rattle.bin_core.specs.Stages.{Sends}
use Rattle.bin_core.proofs.Outcomes.{on_ok}
use Rattle.bin_core.proofs.Owing.{ticks_rest, few_lanes, rest_wakes}
use Rattle.bin_core.proofs.Staging.{settles, same_but_one}
use Rattle.bin_core.proofs.Waking.{wake_here, wakes_same}
use Rattle.bin_core.proofs.stage.Stage.tick.Goals as goal

pub returns-in_err-numbers-clause-same : goal.returns-in_err-numbers-clause-same
returns-in_err-numbers-clause-same c = same_but_one c.args.self.now _ c.args.number c.tick.new.self refl

pub returns-clause-stands : goal.returns-clause-stands
returns-clause-stands c =
    on_ok c.send.result _ _
    (λ sends. λ k base resting tl h. settles c.timelines_keep.ensures c.lanes_stand_beside.ensures k base resting c.args.self.now _ c.args.number c.args.time (Clock c.args.time) c.index_mut-lane.result.now c.tick.new.self c.in_ok-numbers.numbers.items c.args.lines.now c.tick.new.lines c.send.new.lines tl
    c.requires.lane c.index_mut-lane.ensures.value refl refl refl c.in_ok-numbers.ensures.stands
    (subst (λ (xs : List ℕ). Sends c.args.time c.tick.new.self.session c.tick.new.self.ssrc xs c.args.self.now.front c.send.new.front c.tick.new.lines c.send.new.lines) c.as_slice.ensures.value sends) h)
    c.send.ensures

pub returns-clause-same : goal.returns-clause-same
returns-clause-same c = same_but_one c.args.self.now _ c.args.number c.tick.new.self refl

pub returns-clause-later : goal.returns-clause-later
returns-clause-later c =
    on_ok c.send.result _ _
    (λ sends. subst (IsLater c.args.time) (sym (wakes_same c.args.self.now.lanes.items c.args.number c.tick.new.self c.requires.lane)) c.in_ok-numbers.ensures.later)
    c.send.ensures

pub returns-clause-rests : goal.returns-clause-rests
returns-clause-rests c =
    on_ok c.send.result _ _
    (λ sends. ticks_rest c.args.self.now _ c.args.number c.args.time c.tick.new.self.session c.tick.new.self.ssrc c.index_mut-lane.result.now c.tick.new.self c.in_ok-numbers.numbers.items c.tick.new.lines c.send.new.lines
    c.requires.lane c.index_mut-lane.ensures.value refl refl c.tick.ensures.stays c.change.ensures
    (subst (λ (xs : List ℕ). Sends c.args.time c.tick.new.self.session c.tick.new.self.ssrc xs c.args.self.now.front c.send.new.front c.tick.new.lines c.send.new.lines) c.as_slice.ensures.value sends))
    c.send.ensures

pub change-requires-clause-lane : goal.change-requires-clause-lane
change-requires-clause-lane c = omega (arith, c.requires.lane, few_lanes c.requires.rests.0 [] c.args.self.now c.requires.rests.1)

pub change-requires-clause-was : goal.change-requires-clause-was
change-requires-clause-was c =
    rest_wakes c.requires.rests.0 [] c.args.self.now c.args.number c.requires.rests.1
    ∙ wake_here c.args.self.now.lanes.items c.args.number c.index_mut-lane.result.now c.requires.lane c.index_mut-lane.ensures.value

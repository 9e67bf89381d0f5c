use Rattle.std.proofs.Common.{ℕ, ◌∙◌, ap, sym, subst, refl, List, length}
use Rattle.std.specs.Prelude.{get_or, ◌<◌}
use Rattle.replay_model.specs.Acting.{is_for}
use Rattle.lane_core.specs.declared.lane.Lane.{Lane}
use Rattle.bin_core.specs.declared.stage.Stage.{Stage}
use Rattle.bin_core.specs.Touching.{is_listed}
use Rattle.bin_core.proofs.Outcomes.{on_ok}
use Rattle.bin_core.proofs.Controlling.{controls}
use Rattle.bin_core.proofs.Owing.{controls_rest, stays_then}
use Rattle.bin_core.proofs.stage.Stage.control.Goals as goal

pub returns-clause-stands : goal.returns-clause-stands
returns-clause-stands c =
    let one : Stage = record { front = c.args.self.now.front; lanes = c.control.new.lanes; wakes = c.args.self.now.wakes; sync = c.args.self.now.sync; standings = c.after-self.result } in
    on_ok c.tick_listed.result _ _
    (λ ticks. λ kk base tl h. controls c.timelines_keep.ensures c.lanes_stand_beside.ensures kk base c.args.self.now one c.tick_listed.new.self c.args.item.now c.as_slice-2.result.now c.args.lines.now c.control.new.lines c.tick_listed.new.lines tl refl refl
    (λ session x lt is. c.after-self.ensures session x lt is)
    c.control.ensures.stays c.in_ok-control.ensures.stands
    (λ k d lt. ap (λ (bs : List ℕ). is_listed bs k) c.as_slice-2.ensures.value
    ∙ c.in_ok-list_meant.ensures k d (subst (λ (ls : List Lane). k < length ls) (sym c.as_slice.ensures.value) lt)
    ∙ ap (λ (ls : List Lane). is_for c.args.item.now.action (get_or ls k d).session) c.as_slice.ensures.value)
    ticks h)
    c.tick_listed.ensures.ticks

pub returns-clause-rests : goal.returns-clause-rests
returns-clause-rests c =
    let one : Stage = record { front = c.args.self.now.front; lanes = c.control.new.lanes; wakes = c.args.self.now.wakes; sync = c.args.self.now.sync; standings = c.after-self.result } in
    on_ok c.tick_listed.result _ _
    (λ ticks. stays_then c.args.self.now one c.tick_listed.new.self
    (controls_rest c.args.self.now one c.args.item.now.action c.requires.item.action refl refl c.control.ensures.stays c.control.ensures.wakes (λ session x lt is. c.after-self.ensures session x lt is))
    ticks)
    c.tick_listed.ensures.rests

pub tick_listed-requires-clause-rests : goal.tick_listed-requires-clause-rests
tick_listed-requires-clause-rests c =
    let one : Stage = record { front = c.args.self.now.front; lanes = c.control.new.lanes; wakes = c.args.self.now.wakes; sync = c.args.self.now.sync; standings = c.after-self.result } in (
      c.requires.rests.0,
      controls_rest c.args.self.now one c.args.item.now.action c.requires.item.action refl refl c.control.ensures.stays c.control.ensures.wakes (λ session x lt is. c.after-self.ensures session x lt is)
          c.requires.rests.0 c.requires.rests.1,
    )

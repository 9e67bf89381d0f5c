use Rattle.std.proofs.Common.{◌∙◌, ap, sym, subst, List, length, ◌≤◌, arith}
use Rattle.lane_core.specs.declared.lane.Lane.{Lane}
use Rattle.lane_core.specs.AllLanes.{done_of}
use Rattle.bin_core.proofs.Outcomes.{on_ok}
use Rattle.bin_core.proofs.Owing.{few_lanes}
use Rattle.bin_core.proofs.Ending.{finishes}
use Rattle.bin_core.proofs.stage.Stage.finish.Goals as goal

pub done_line-requires : goal.done_line-requires
done_line-requires c =
    subst (λ (ls : List Lane). length ls ≤ 64) (sym c.as_slice.ensures.value)
    (omega (arith, few_lanes c.requires.0 _ c.args.self.now c.requires.1, c.end_all.ensures.same))

pub returns : goal.returns
returns c =
    on_ok c.push.result _ _
    (λ added. finishes c.lanes_stand_beside.ensures c.args.time c.taken.result c.args.self.now c.end_all.new.self c.done_line.result c.args.lines.now c.end_all.new.lines c.push.new.self
    c.in_ok-end_all.ensures.stands c.taken.ensures (c.done_line.ensures ∙ ap (λ (ls : List Lane). done_of ls c.taken.result) c.as_slice.ensures.value) added)
    c.push.ensures.ok

use Rattle.bin_core.proofs.Outcomes.{on_ok}
use Rattle.bin_core.proofs.Offsetting.{keeps_offsets}
use Rattle.bin_core.proofs.offsets.keep.Goals as goal

pub returns : goal.returns
returns c =
    on_ok c.tell.result _ _
    (λ told. keeps_offsets c.offsets_are_one_list.ensures.one c.offsets_are_one_list.ensures.function c.args.time c.args.lane c.args.name.now c.args.info c.args.sync.now c.report.new.self c.in_ok-offsets.offsets.items c.as_slice.result.now c.args.lines.now c.tell.new.lines
    c.in_ok-report.ensures.stands c.in_ok-offsets.ensures c.as_slice.ensures.value told)
    c.tell.ensures

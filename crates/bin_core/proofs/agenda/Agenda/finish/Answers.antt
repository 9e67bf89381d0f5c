use Rattle.bin_core.proofs.Outcomes.{on_ok}
use Rattle.bin_core.proofs.Serving.{finishes_at}
use Rattle.bin_core.proofs.agenda.Agenda.finish.Goals as goal

pub returns : goal.returns
returns c =
    on_ok c.finish.result _ _
    (λ ends. λ k base tl h. finishes_at c.timelines_keep.ensures c.lanes_stand_beside.ensures k base c.serve.new.self c.args.lines.now c.serve.new.lines c.finish.new.lines tl ends (c.in_ok-serve.ensures.goes k base tl h))
    c.finish.ensures

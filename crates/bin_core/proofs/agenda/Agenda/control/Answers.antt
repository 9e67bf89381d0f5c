use Rattle.std.proofs.Common.{refl}
use Rattle.replay_model.specs.Log.{served}
use Rattle.bin_core.proofs.Serving.{controls_at}
use Rattle.bin_core.proofs.agenda.Agenda.control.Goals as goal

pub returns-clause-goes : goal.returns-clause-goes
returns-clause-goes c = λ k base tl h.
    controls_at c.timelines_keep.ensures k base c.args.item.now c.serve.new.self _ c.serve.new.lines c.control.new.lines (served k c.args.item.now.time tl)
    refl refl c.max-self.ensures c.in_ok-control.ensures.stands (c.in_ok-serve.ensures.goes k base tl h)

pub control-requires-clause-rests : goal.control-requires-clause-rests
control-requires-clause-rests c = (c.requires.rests.0, c.in_ok-serve.ensures.rests c.requires.rests.0 c.requires.rests.1)

use Rattle.std.proofs.Common.{refl}
use Rattle.bin_core.proofs.Serving.{reports_at}
use Rattle.bin_core.proofs.agenda.Agenda.report.Goals as goal

pub returns-clause-stands : goal.returns-clause-stands
returns-clause-stands c = λ k base tl h.
    reports_at c.timelines_keep.ensures k base c.args.time c.args.self.now _ c.args.lines.now c.report.new.lines tl
    refl c.next_after-self.ensures c.max-self.ensures c.in_ok-report.ensures.stands h

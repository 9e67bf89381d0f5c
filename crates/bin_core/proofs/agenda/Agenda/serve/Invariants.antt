use Rattle.bin_core.specs.Agendas.{left_in}
use Rattle.bin_core.specs.Underway.{StaysAtRest}
use Rattle.bin_core.proofs.Serving.{StaysOnWay}
use Rattle.bin_core.proofs.agenda.Agenda.serve.Given as goal

abbrev pub invariant-due : goal.invariant-due
invariant-due l =
    StaysOnWay l.reports l.limit l.initial.self l.self l.initial.lines l.lines
    × StaysAtRest l.initial.self.stage l.self.stage

abbrev pub decreases-due : goal.decreases-due
decreases-due l = left_in l.limit l.self

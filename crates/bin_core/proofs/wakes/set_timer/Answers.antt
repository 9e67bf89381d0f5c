use Rattle.std.proofs.Common.{ℕ, Option, ap, sym, ◌∙◌}
use Rattle.std.specs.Prelude.{◌==◌, if◌then◌else◌}
use Rattle.std.specs.FinMap as map
use Rattle.jitter_timers.specs.Timers.{Timers}
use Rattle.bin_core.proofs.Waking.{get_removed, get_inserted}
use Rattle.bin_core.proofs.wakes.set_timer.Goals as goal

pub returns-in-None-clause-room : goal.returns-in-None-clause-room
returns-in-None-clause-room g c = ap (λ (q : Timers). q.room) c.cancel.ensures.after

pub returns-in-None-clause-times : goal.returns-in-None-clause-times
returns-in-None-clause-times g c = λ k.
    ap (λ (q : Timers). map.get q.times k) c.cancel.ensures.after
    ∙ get_removed c.args.timers.now.times c.args.lane k
    ∙ ap (λ (o : Option ℕ). if k == c.args.lane then o else map.get c.args.timers.now.times k) (sym c.in-None.is)

pub returns-clause-room : goal.returns-clause-room
returns-clause-room g c = ap (λ (q : Timers). q.room) c.set.ensures.after

pub returns-clause-times : goal.returns-clause-times
returns-clause-times g c = λ k.
    ap (λ (q : Timers). map.get q.times k) c.set.ensures.after
    ∙ get_inserted c.args.timers.now.times c.args.lane c.in-Some.time k
    ∙ ap (λ (o : Option ℕ). if k == c.args.lane then o else map.get c.args.timers.now.times k) (sym c.in-Some.is)

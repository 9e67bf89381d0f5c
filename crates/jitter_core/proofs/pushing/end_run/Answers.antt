use Rattle.std.proofs.Common.{ℕ, ◌≡◌, true, sym, ◌∙◌, List, length}
use Rattle.jitter_model.specs.declared.Arrival.{Arrival}
use Rattle.jitter_model.specs.Accepted.{is_original}
use Rattle.jitter_model.specs.Verdicts.{dropped_by}
use Rattle.jitter_core.specs.Asides.{newest_first}
use Rattle.jitter_core.proofs.Asides.{length_newest}
use Rattle.jitter_core.proofs.pushing.end_run.Goals as goal

dropped_is : (run : List Arrival) (a : Arrival) (n : ℕ) → is_original a.origin ≡ true → n ≡ length run → n ≡ dropped_by run a
dropped_is run a n o e = rw o e

pub returns-then-is_an_original-clause-dropped : goal.returns-then-is_an_original-clause-dropped
returns-then-is_an_original-clause-dropped c =
    dropped_is (newest_first c.args.aside.now) c.args.a.now c.drop_all.result (sym c.is_an_original.ensures ∙ c.if-is_an_original.true) (c.drop_all.ensures.count ∙ sym (length_newest c.args.aside.now))

use Rattle.std.proofs.Common.{ℕ, ◌+◌, ◌∙◌, sym, ap, refl, lit<}
use Rattle.std.proofs.lemmas.Result.{err_from_is_err_and}
use Rattle.capture_file.specs.Reading.{record_of}
use Rattle.command_core.proofs.Progress.{none_of, begins, goes_on, next_stops, done_ends, line_ends, took_next, took_front, took_last}
use Rattle.command_core.proofs.run.run_command.Goals as goal

pub records-init : goal.records-init
records-init g c = record {
  progress = begins _ _ _ _ _ _ _ _ c.requires.goes_on c.in_ok-pull.ensures c.in_ok-file.ensures.after c.open.ensures.bound c.open.ensures.opened
      (record { stands = c.requires.stands; passed = record { first = refl; time = refl } });
  files = c.in_ok-file.ensures.cause;
  out = refl;
  output = refl;
  count = c.requires.count ∙ sym c.in_ok-file.ensures.after.counted;
  reached = c.requires.reached;
  small = lit< tt;
  ready = c.requires.ready;
}

pub returns-in_err-take-clause-covers : goal.returns-in_err-take-clause-covers
returns-in_err-take-clause-covers g c =
    let i = c.records.invariant in
    let p = i.progress in
    let r = record_of c.in-Some.entry in
    let after = rw c.in-Some.is at (c.in_ok-entry.ensures.after p.none) in
    let e = err_from_is_err_and c.from_residual-in_err-take.result c.from_residual-in_err-take.ensures.1 in
    rw (e.1, e.2) (line_ends _ _ c.in_err-take.field-0.0 _ _ _ _ _ _ _ r _ _ _ _ _ c.requires.goes_on p after (c.next.ensures.bound p.few) c.take.ensures.more
    (took_front _ _ _ (g.C.Command.stands c.take.new.self) c.in_err-take.field-0.0 _ _ r _ _ _ i.output c.in_err-take.ensures.takes c.pass-clock.ensures.passed) c.in_err-take.ensures.cause)

pub records-preserved : goal.records-preserved
records-preserved g c =
    let i = c.records.invariant in
    let p = i.progress in
    let r = record_of c.in-Some.entry in
    let after = rw c.in-Some.is at (c.in_ok-entry.ensures.after p.none) in
    record {
      progress = goes_on _ _ _ _ _ _ _ _ _ _ r _ _ _ p after (c.in_ok-entry.ensures.keeps p.none) (c.next.ensures.bound p.few) c.next.ensures.opened
          (took_next _ _ _ _ _ _ r _ _ _ i.output c.in_ok-take.ensures.takes c.pass-clock.ensures.passed);
      files = c.in_ok-entry.ensures.cause p.none ∙ i.files;
      out = c.in_ok-take.ensures.cause ∙ i.out;
      output = c.take.ensures.output ∙ i.output;
      count = c.in_ok-take.ensures.count ∙ ap (λ (n : ℕ). n + 1) i.count ∙ sym after.counted;
      reached = c.in_ok-take.ensures.reached;
      small = c.pass-clock.ensures.small;
      ready = c.in_ok-take.ensures.ready;
    }

pub returns-clause-covers : goal.returns-clause-covers
returns-clause-covers g c =
    let i = c.records.invariant in
    let p = i.progress in
    let after = rw (none_of c.in_ok-entry.field-0 c.in_default.not-Some) at (c.in_ok-entry.ensures.after p.none) in
    done_ends _ _ c.finish.result _ _ _ _ _ _ _ _ _ _ _ c.requires.goes_on p after c.finish.ensures.more
    (took_last _ _ _ c.finish.result _ _ _ _ i.output c.finish.ensures.finishes) c.finish.ensures.cause

pub returns-in_err-entry-clause-covers : goal.returns-in_err-entry-clause-covers
returns-in_err-entry-clause-covers g c =
    let p = c.records.invariant.progress in
    let e = err_from_is_err_and c.from_residual-in_err-entry.result c.from_residual-in_err-entry.ensures.1 in
    rw (e.1, e.2) (next_stops (g.C.Command.output c.args.command.now) _ c.in_err-entry.field-0.0 _ _ _ _ c.next.new.self _ _ _ _ c.requires.goes_on p (c.in_err-entry.ensures.after p.none))

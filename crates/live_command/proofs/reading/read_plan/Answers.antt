use Rattle.std.proofs.Common.{ℕ, ◌+◌, ◌∙◌, sym, ap, refl}
use Rattle.std.proofs.lemmas.Result.{err_from_is_err_and}
use Rattle.capture_file.specs.Reading.{record_of}
use Rattle.live_command.proofs.Progress.{none_of, begins, goes_on, refused, refused_cause, next_stops}
use Rattle.live_command.proofs.Progress.{open_stops, fault_cause, ends, ends_cause}
use Rattle.live_command.proofs.reading.read_plan.Goals as goal

pub records-init : goal.records-init
records-init g c = record {
  progress = begins _ _ _ _ _ _ _ c.in_ok-pull.ensures c.in_ok-file.ensures.after c.in_ok-load.ensures.loaded;
  files = c.in_ok-file.ensures.cause;
  count = c.in_ok-load.ensures.count ∙ sym c.in_ok-file.ensures.after.counted;
  room = c.in_ok-load.ensures.room;
}

pub returns-in_err-take-clause-reads : goal.returns-in_err-take-clause-reads
returns-in_err-take-clause-reads g c =
    let i = c.records.invariant in
    let r = record_of c.in-Some.record in
    let after = rw c.in-Some.is at (c.in_ok-record.ensures.after i.progress.none) in
    let e = err_from_is_err_and c.from_residual-in_err-take.result c.from_residual-in_err-take.ensures.1 in
    rw (e.1, e.2)
    (refused _ c.in_err-take.field-0.0 _ _ _ _ _ _ _ r _ c.take.new.self i.progress after
    (c.in_err-take.ensures.loads c.args.script.now))

pub returns-in_err-take-clause-cause : goal.returns-in_err-take-clause-cause
returns-in_err-take-clause-cause g c =
    let i = c.records.invariant in
    let e = err_from_is_err_and c.from_residual-in_err-take.result c.from_residual-in_err-take.ensures.1 in
    rw (e.1, e.2)
    (refused_cause c.args.script.now c.in_err-take.field-0.0 i.progress.seen
    (record_of c.in-Some.record) c.take.new.self _ _
    (c.in_ok-record.ensures.cause i.progress.none ∙ i.files)
    (c.in_err-take.ensures.loads c.args.script.now i.progress.seen i.progress.loaded))

pub records-preserved : goal.records-preserved
records-preserved g c =
    let i = c.records.invariant in
    let r = record_of c.in-Some.record in
    let after = rw c.in-Some.is at (c.in_ok-record.ensures.after i.progress.none) in
    record {
      progress = goes_on _ _ _ _ _ _ _ _ r _ _ i.progress after
          (c.in_ok-record.ensures.keeps i.progress.none) (c.in_ok-take.ensures.loads c.args.script.now);
      files = c.in_ok-record.ensures.cause i.progress.none ∙ i.files;
      count = c.in_ok-take.ensures.count ∙ ap (λ (n : ℕ). n + 1) i.count ∙ sym after.counted;
      room = c.in_ok-take.ensures.room;
    }

pub returns-clause-reads : goal.returns-clause-reads
returns-clause-reads g c =
    let i = c.records.invariant in
    let after = rw (none_of c.in_ok-record.field-0 c.in_default.not-Some) at (c.in_ok-record.ensures.after i.progress.none) in
    ends _ c.finished.result _ _ _ _ _ _ _ i.progress after c.finished.ensures.plan

pub returns-clause-cause : goal.returns-clause-cause
returns-clause-cause g c =
    let i = c.records.invariant in
    ends_cause _ c.finished.result i.progress.seen _ _
    (c.in_ok-record.ensures.cause i.progress.none ∙ i.files)
    (c.finished.ensures.plan i.progress.seen i.progress.loaded)

pub returns-in_err-record-clause-reads : goal.returns-in_err-record-clause-reads
returns-in_err-record-clause-reads g c =
    let i = c.records.invariant in
    let e = err_from_is_err_and c.from_residual-in_err-record.result c.from_residual-in_err-record.ensures.1 in
    rw (e.1, e.2)
    (next_stops c.args.script.now c.in_err-record.field-0.0 _ _ _ _ c.next.new.self _ _ _ i.progress
    (c.in_err-record.ensures.after i.progress.none))

pub returns-in_err-record-clause-cause : goal.returns-in_err-record-clause-cause
returns-in_err-record-clause-cause g c =
    let i = c.records.invariant in
    let e = err_from_is_err_and c.from_residual-in_err-record.result c.from_residual-in_err-record.ensures.1 in
    rw (e.1, e.2)
    (fault_cause c.in_err-record.field-0.0 _ _ _ i.files (c.in_err-record.ensures.cause i.progress.none))

use Rattle.std.proofs.lemmas.Result.{err_from_is_err_and}
use Rattle.capture_file.specs.Reading.{record_of}
use Rattle.live_command.proofs.Noting.{admits_loads}
use Rattle.live_command.proofs.Refusing.{clean_next}
use Rattle.live_command.proofs.load.Load.take.Goals as goal

pub returns-in_err-admit-clause-loads : goal.returns-in_err-admit-clause-loads
returns-in_err-admit-clause-loads c = λ script seen h.
    let e = err_from_is_err_and c.from_residual.result c.from_residual.ensures.1 in
    rw (e.1, e.2)
    (admits_loads script c.in_err-admit.field-0.0 seen (record_of c.args.record.now) c.admit.new.self _
    (c.in_err-admit.ensures.admits seen h.noted))

pub returns-clause-loads : goal.returns-clause-loads
returns-clause-loads c = λ script seen h.
    let noted = c.in_ok-admit.ensures.admits seen h.noted in
    record {
      taken = c.in_ok-take.ensures.taken script seen (rw c.admit.ensures.builder h.taken);
      noted = record { included_is = noted.1.included_is; link_is = noted.1.link_is };
      clean = clean_next seen (record_of c.args.record.now) h.clean noted.0;
    }

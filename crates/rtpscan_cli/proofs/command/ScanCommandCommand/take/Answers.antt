use Rattle.std.proofs.Common.{List}
use Rattle.std.proofs.lemmas.Result.{err_from_is_err_and}
use Rattle.pcap_file.specs.Capture.{Record}
use Rattle.pcap_file.specs.Reading.{record_view}
use Rattle.rtpscan_cli.proofs.Scanning.{noted, not_noted}
use Rattle.rtpscan_cli.proofs.command.ScanCommandCommand.take.Goals as goal

pub returns-clause-takes : goal.returns-clause-takes
returns-clause-takes g c =
    noted c.args.self.now.scan _ c.in_ok-sight.sight c.args.time (record_view c.args.link c.args.rec.now)
    _ c.in_ok-sight.ensures c.in_ok-note.ensures.stands

pub returns-in_err-sight-clause-takes : goal.returns-in_err-sight-clause-takes
returns-in_err-sight-clause-takes g c =
    let e = err_from_is_err_and c.from_residual.result c.from_residual.ensures.1 in
    rw e.1
    (not_noted e.0 c.args.time (record_view c.args.link c.args.rec.now) _
    (λ (seen : List Record). Unit {0}) _)

pub returns-in_err-note-clause-takes : goal.returns-in_err-note-clause-takes
returns-in_err-note-clause-takes g c =
    let e = err_from_is_err_and c.from_residual-in_err-note.result c.from_residual-in_err-note.ensures.1 in
    rw e.1
    (not_noted e.0 c.args.time (record_view c.args.link c.args.rec.now) _
    (λ (seen : List Record). Unit {0}) _)

use Rattle.std.proofs.Common.{◌∙◌}
use Rattle.std.proofs.lemmas.Result.{err_from_is_err_and}
use Rattle.rtpscan_cli.proofs.Scanning.{told_all, told_none}
use Rattle.rtpscan_cli.proofs.command.ScanCommandCommand.finish.Goals as goal

pub returns-clause-finishes : goal.returns-clause-finishes
returns-clause-finishes g c =
    told_all c.args.self.now.script_only c.args.self.now.scan c.bytes.result.now
    c.print_piece.result _ _ _ _ (c.bytes.ensures ∙ c.in_ok-text.ensures) c.print_piece.ensures

pub returns-in_err-text-clause-finishes : goal.returns-in_err-text-clause-finishes
returns-in_err-text-clause-finishes g c =
    let e = err_from_is_err_and c.from_residual.result c.from_residual.ensures.1 in
    rw e.1 (told_none c.args.self.now.script_only c.args.self.now.scan e.0 _)

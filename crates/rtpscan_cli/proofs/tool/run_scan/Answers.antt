use Rattle.rtpscan_cli.proofs.Running.{taken}
use Rattle.rtpscan_cli.proofs.Ending.{out_ends, err_ends, text_ends}
use Rattle.rtpscan_cli.proofs.tool.run_scan.Goals as goal

pub returns-in-Err-clause-taken : goal.returns-in-Err-clause-taken
returns-in-Err-clause-taken g c =
    taken c.in-Err.stop c.report_stop.result _ _ _ _ _ _ _ _ c.in-Err.ensures.cause c.report_stop.ensures

pub returns-in-Err-clause-out : goal.returns-in-Err-clause-out
returns-in-Err-clause-out g c =
    λ knows. out_ends c.in-Err.stop c.report_stop.result _ _ _ _ _ _ _ (c.in-Err.ensures.runs knows)
    c.report_stop.ensures

pub returns-in-Err-clause-err : goal.returns-in-Err-clause-err
returns-in-Err-clause-err g c =
    λ knows. err_ends c.in-Err.stop c.report_stop.result _ _ _ _ _ _ _ _ _ _ _
    (c.in-Err.ensures.runs knows) c.in-Err.ensures.cause c.report_stop.ensures

pub returns-in-Err-clause-text : goal.returns-in-Err-clause-text
returns-in-Err-clause-text g c =
    text_ends c.in-Err.stop c.report_stop.result _ _ _ _ _ _ _ _ _ c.in-Err.ensures.usage
    c.in-Err.ensures.cause c.report_stop.ensures

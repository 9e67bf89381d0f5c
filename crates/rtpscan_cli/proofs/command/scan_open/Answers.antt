use Rattle.rtpscan_cli.proofs.Scanning.{nothing_yet, none_left, none_seen}
use Rattle.rtpscan_cli.proofs.command.scan_open.Goals as goal

pub run_command-requires-clause-goes_on : goal.run_command-requires-clause-goes_on
run_command-requires-clause-goes_on g c = nothing_yet c.args.script_only

pub run_command-requires-clause-ready : goal.run_command-requires-clause-ready
run_command-requires-clause-ready g c = none_left c.in_ok-scan.scan c.in_ok-scan.ensures

pub run_command-requires-clause-stands : goal.run_command-requires-clause-stands
run_command-requires-clause-stands g c = none_seen c.in_ok-scan.scan c.in_ok-scan.ensures

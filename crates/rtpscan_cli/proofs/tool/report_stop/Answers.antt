use Rattle.std.proofs.Common.{refl, inl}
use Rattle.command_core.specs.Stops.{text_of}
use Rattle.rtpscan_cli.proofs.Ending.{commands_text}
use Rattle.rtpscan_cli.proofs.tool.report_stop.Goals as goal

pub returns-in-Usage : goal.returns-in-Usage
returns-in-Usage g c = rw c.in-Usage.is (inl c.tell.ensures)

pub returns-in_default : goal.returns-in_default
returns-in_default g c =
    rw (commands_text c.args.stop c.in_default.not-Usage)
    (rw c.status.ensures at (c.report.ensures (text_of c.args.stop) refl))

use Rattle.std.proofs.Common.{sym}
use Rattle.sdp_profile.proofs.TextLemmas.{lines_cut, lines_uncut}
use Rattle.sdp_profile.proofs.lines.first_line.Goals as goal

pub returns-in-Some-clause-line : goal.returns-in-Some-clause-line
returns-in-Some-clause-line c =
    rw c.without_return.ensures (lines_cut c.args.text.now (c.in-Some.line.now, c.in-Some.rest.now) (sym c.in-Some.ensures.parts))

pub returns-in-None-clause-line : goal.returns-in-None-clause-line
returns-in-None-clause-line c =
    rw c.without_return-in-None.ensures (lines_uncut c.args.text.now (sym c.in-None.ensures.parts))

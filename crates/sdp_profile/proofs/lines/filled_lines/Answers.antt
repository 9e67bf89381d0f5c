use Rattle.std.proofs.Common.{sym, subst, Some, None}
use Rattle.sdp_profile.proofs.TextLemmas.{LinesSoFar, nothing_read, line_read, all_lines_read}
use Rattle.sdp_profile.proofs.lines.filled_lines.Goals as goal

pub loop-rest-init : goal.loop-rest-init
loop-rest-init c = subst (λ ls. LinesSoFar ls 0 (Some c.args.bytes) c.args.bytes.now) (sym c.new-lines.ensures.items) (nothing_read c.args.bytes)

pub loop-rest-preserved : goal.loop-rest-preserved
loop-rest-preserved c =
    let inv : LinesSoFar c.loop-rest.lines.items c.loop-rest.number (Some c.in-Some.bytes) c.args.bytes.now = rw c.in-Some.is at c.loop-rest.invariant in
    line_read c.loop-rest.lines.items c.add_filled.new.lines.items c.loop-rest.number c.in-Some.bytes c.first_line.result.1 c.args.bytes.now c.first_line.result.0.now
    inv c.first_line.ensures.line c.first_line.ensures.rest c.in_ok-add_filled.ensures

pub returns : goal.returns
returns c =
    let inv : LinesSoFar c.loop-rest.lines.items c.loop-rest.number None c.args.bytes.now = rw c.in_default.is at c.loop-rest.invariant in
    all_lines_read c.loop-rest.lines.items c.loop-rest.number c.args.bytes.now inv

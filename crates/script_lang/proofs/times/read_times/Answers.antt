use Rattle.std.proofs.Common.{sym, ◌∙◌, arith, subst, Some, None}
use Rattle.std.proofs.lemmas.Result.{err_from_is_err_and}
use Rattle.script_lang.specs.Reading.{Answers}
use Rattle.script_lang.proofs.TimesLemmas.{TimesSoFar, times_too_long, nothing_timed, times_line_read, times_failed_at, all_times_read, finish_keeps}
use Rattle.script_lang.proofs.times.read_times.Goals as goal

pub returns-then-bytes-gt-MAX_SCRIPT-clause-script : goal.returns-then-bytes-gt-MAX_SCRIPT-clause-script
returns-then-bytes-gt-MAX_SCRIPT-clause-script c = times_too_long c.args.sessions.now c.args.bytes.now (omega arith)

pub loop-rest-init : goal.loop-rest-init
loop-rest-init c = nothing_timed c.args.bytes c.args.sessions.now c.in_ok-draft.draft c.in_ok-draft.ensures c.requires.fit c.requires.new

pub returns-in_err-read_times_line-clause-script : goal.returns-in_err-read_times_line-clause-script
returns-in_err-read_times_line-clause-script c =
    let inv : TimesSoFar c.loop-rest.draft c.loop-rest.number (Some c.in-Some.text) c.args.sessions.now c.args.bytes.now = rw c.in-Some.is at c.loop-rest.invariant in
    let fails = times_failed_at c.in_err-read_times_line.field-0.0 c.loop-rest.draft c.read_times_line.new.draft c.loop-rest.number c.in-Some.text c.first_line.result.1 c.args.sessions.now c.args.bytes.now c.first_line.result.0.now
    (omega arith) inv c.first_line.ensures.line c.in_err-read_times_line.ensures in
    let p = err_from_is_err_and c.from_residual-in_err-read_times_line.result c.from_residual-in_err-read_times_line.ensures.1 in
    rw (p.1, p.2) fails

pub loop-rest-preserved : goal.loop-rest-preserved
loop-rest-preserved c =
    let inv : TimesSoFar c.loop-rest.draft c.loop-rest.number (Some c.in-Some.text) c.args.sessions.now c.args.bytes.now = rw c.in-Some.is at c.loop-rest.invariant in
    let said = c.in_ok-read_times_line.ensures in
    times_line_read c.loop-rest.draft c.read_times_line.new.draft c.loop-rest.number c.in-Some.text c.first_line.result.1 c.args.sessions.now c.args.bytes.now c.first_line.result.0.now
    inv c.first_line.ensures.line c.first_line.ensures.rest said.0 said.1 said.2

pub returns-clause-script : goal.returns-clause-script
returns-clause-script c =
    let inv : TimesSoFar c.loop-rest.draft c.loop-rest.number None c.args.sessions.now c.args.bytes.now = rw c.in_default.is at c.loop-rest.invariant in
    subst (Answers c.finish.result) (sym (all_times_read c.loop-rest.draft c.loop-rest.number c.args.sessions.now c.args.bytes.now (omega arith) inv)) c.finish.ensures

pub returns-clause-sessions : goal.returns-clause-sessions
returns-clause-sessions c =
    let inv : TimesSoFar c.loop-rest.draft c.loop-rest.number None c.args.sessions.now c.args.bytes.now = rw c.in_default.is at c.loop-rest.invariant in
    finish_keeps c.finish.result c.loop-rest.draft c.loop-rest.number c.args.sessions.now c.args.bytes.now inv c.finish.ensures

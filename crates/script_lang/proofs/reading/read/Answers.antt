use Rattle.std.proofs.Common.{sym, arith, subst, Some, None}
use Rattle.std.proofs.lemmas.Result.{err_from_is_err_and}
use Rattle.script_lang.specs.Reading.{Answers}
use Rattle.script_lang.proofs.GrammarLemmas.{ReadSoFar, too_long, nothing_read, line_read, failed_at, all_read}
use Rattle.script_lang.proofs.reading.read.Goals as goal

pub returns-then-bytes-gt-MAX_SCRIPT : goal.returns-then-bytes-gt-MAX_SCRIPT
returns-then-bytes-gt-MAX_SCRIPT c = too_long c.args.bytes.now (omega arith)

pub loop-rest-init : goal.loop-rest-init
loop-rest-init c = nothing_read c.args.bytes c.in_ok-draft.draft c.in_ok-draft.ensures

pub returns-in_err-read_line : goal.returns-in_err-read_line
returns-in_err-read_line c =
    let inv : ReadSoFar c.loop-rest.draft c.loop-rest.number (Some c.in-Some.text) c.args.bytes.now = rw c.in-Some.is at c.loop-rest.invariant in
    let fails = failed_at c.in_err-read_line.field-0.0 c.loop-rest.draft c.read_line.new.draft c.loop-rest.number c.in-Some.text c.first_line.result.1 c.args.bytes.now c.first_line.result.0.now
    (omega arith) inv c.first_line.ensures.line c.in_err-read_line.ensures in
    let p = err_from_is_err_and c.from_residual-in_err-read_line.result c.from_residual-in_err-read_line.ensures.1 in
    rw (p.1, p.2) fails

pub loop-rest-preserved : goal.loop-rest-preserved
loop-rest-preserved c =
    let inv : ReadSoFar c.loop-rest.draft c.loop-rest.number (Some c.in-Some.text) c.args.bytes.now = rw c.in-Some.is at c.loop-rest.invariant in
    let said = c.in_ok-read_line.ensures in
    line_read c.loop-rest.draft c.read_line.new.draft c.loop-rest.number c.in-Some.text c.first_line.result.1 c.args.bytes.now c.first_line.result.0.now
    inv c.first_line.ensures.line c.first_line.ensures.rest said.0 said.1 said.2

pub returns : goal.returns
returns c =
    let inv : ReadSoFar c.loop-rest.draft c.loop-rest.number None c.args.bytes.now = rw c.in_default.is at c.loop-rest.invariant in
    subst (Answers c.finish.result) (sym (all_read c.loop-rest.draft c.loop-rest.number c.args.bytes.now (omega arith) inv)) c.finish.ensures

use Rattle.std.proofs.Common.{[], sym, ◌∙◌}
use Rattle.rtp_io.specs.Laws.{adds_none}
use Rattle.rtx.specs.Answering.{answered}
use Rattle.nack_answering.specs.Answering.{answer_piece}
use Rattle.command_core.specs.Laws.{prints_write}
use Rattle.rtxsend_command.proofs.Answers.{piece_is}
use Rattle.rtxsend_command.proofs.command.print_answer.Goals as goal

pub returns-in-Some-clause-answers : goal.returns-in-Some-clause-answers
returns-in-Some-clause-answers g c = λ before stands.
    let x = c.args.answering.now in
    let r = c.args.request in
    let found = answered x.history.setting before r.session r.ssrc r.seq in
    let is =
    piece_is x.sessions c.args.time found c.in-Some.piece
    (sym c.in-Some.is ∙ c.in_ok-piece.ensures.answer before stands) in
    prints_write [] c.bytes.result.now (answer_piece x.sessions c.args.time found) c.print_piece.result
    _ _ _ _ _ (sym (c.bytes.ensures ∙ is)) (adds_none _) c.print_piece.ensures

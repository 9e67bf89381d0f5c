use Rattle.std.proofs.Common.{ℕ, List, sym, ap, subst, ◌∙◌}
use Rattle.command_core.specs.Steps.{Prints}
use Rattle.rtxsend_command.specs.Sent.{header_behind}
use Rattle.rtxsend_command.proofs.command.RtxSend.print_header.Goals as goal

pub returns-then-self-eq0 : goal.returns-then-self-eq0
returns-then-self-eq0 g c =
    subst (λ (l : List ℕ). Prints l c.print_piece.result
    (g.O.Sink.written c.args.out.now) (g.O.Sink.written c.print_piece.new.out)
    (g.O.Sink.faults c.args.out.now) (g.O.Sink.faults c.print_piece.new.out))
    (c.header_bytes.ensures.bytes ∙ ap header_behind (sym c.if-self-eq0.true)) c.print_piece.ensures

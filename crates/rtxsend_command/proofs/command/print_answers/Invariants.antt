use Rattle.std.proofs.Common.{◌≡◌, List, [], take}
use Rattle.rtp_io.specs.Outside.{Adds}
use Rattle.rtx.specs.Answering.{Call}
use Rattle.nack_answering.specs.Standing.{StandsFor, rules_in}
use Rattle.command_core.specs.Taken.{AddsMore}
use Rattle.rtxsend_command.specs.Sent.{pieces_of}
use Rattle.rtxsend_command.proofs.Answers.{asked}
use Rattle.rtxsend_command.proofs.command.print_answers.Given as goal

abbrev pub invariant-loop-request : goal.invariant-loop-request
invariant-loop-request g l = record {
  rules : rules_in l.answering ≡ rules_in l.initial.answering;
  answers : (before : List Call) → StandsFor l.initial.answering before
      → Adds (pieces_of (rules_in l.initial.answering) l.time before (take l.request-index l.requests))
      (g.O.Sink.written l.initial.out) (g.O.Sink.written l.out);
  stands : (before : List Call) → StandsFor l.initial.answering before
      → StandsFor l.answering (asked (take l.request-index l.requests) before);
  more : AddsMore [] (g.O.Sink.written l.initial.out) (g.O.Sink.written l.out);
  faults : g.O.Sink.faults l.out ≡ g.O.Sink.faults l.initial.out;
}

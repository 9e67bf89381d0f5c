use Rattle.std.proofs.Common.{◌≡◌, [], take}
use Rattle.std.specs.List.{fold}
use Rattle.rtp_scan.specs.Proposal.{with_session, AreSessions}
use Rattle.rtp_scan.proofs.proposal.sessions_for.Given as goal

abbrev pub invariant-loop-stream : goal.invariant-loop-stream
invariant-loop-stream l = record {
  exact : l.sessions.items ≡ fold (with_session l.scan.ports) [] (take l.stream-index l.ordered);
  sound : AreSessions l.sessions.items;
}

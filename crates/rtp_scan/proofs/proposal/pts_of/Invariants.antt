use Rattle.std.proofs.Common.{◌≡◌, [], take}
use Rattle.std.specs.List.{fold}
use Rattle.rtp_scan.specs.Proposal.{with_pt, ArePts}
use Rattle.rtp_scan.proofs.proposal.pts_of.Given as goal

abbrev pub invariant-loop-stream : goal.invariant-loop-stream
invariant-loop-stream l = record {
  exact : l.pts.items ≡ fold (with_pt l.sessions) [] (take l.stream-index l.streams);
  sound : ArePts l.sessions l.pts.items;
}

use Rattle.std.proofs.Common.{rules}
use Rattle.rtp_scan.specs.Streams.{found_in, groups_of, left_out_of}
use Rattle.rtp_scan.proofs.scan.Scan.new.Goals as goal

pub returns : goal.returns
unfolding found_in groups_of left_out_of
returns c = search rules

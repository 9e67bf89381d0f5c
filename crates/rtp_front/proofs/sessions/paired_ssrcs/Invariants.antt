use Rattle.std.proofs.Common.{◌≡◌, take}
use Rattle.std.specs.List.{flat_map}
use Rattle.front_model.specs.Sessions.{fid_ssrcs}
use Rattle.rtp_front.proofs.sessions.paired_ssrcs.Given as goal

abbrev pub invariant-loop-fid : goal.invariant-loop-fid
invariant-loop-fid l =
    l.ssrcs.items ≡ flat_map (fid_ssrcs l.session) (take l.fid-index l.fid-items)

use Rattle.std.proofs.Common.{◌≡◌, drop}
use Rattle.std.specs.Prelude.{find}
use Rattle.front_model.specs.Given.{is_cname}
use Rattle.rtp_session.proofs.compound.cname.Given as goal

abbrev pub invariant-loop-item : goal.invariant-loop-item
invariant-loop-item l = find is_cname (drop l.item-index l.chunk.items) ≡ find is_cname l.chunk.items

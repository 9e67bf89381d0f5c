use Rattle.std.proofs.Common.{rules, SFits, w32}
use Rattle.std.proofs.lemmas.Int.{to_z-of_z}
use Rattle.rtcp_wire.proofs.ReadBack.{four_pushed}
use Rattle.rtcp_wire.proofs.pieces.push_block.Goals as goal

pub returns-clause-bytes : goal.returns-clause-bytes
returns-clause-bytes c =
    let fits : SFits w32 c.args.block.now.lost = search rules in
    let lost = simp to_z-of_z at c.in_ok-push_i24.ensures in
    four_pushed c.push_numbers.result _ _ _ _ _ _ _ _ _ c.in_ok-push_u32.ensures.ok c.in_ok-push.ensures.items lost c.push_numbers.ensures.bytes

use Rattle.rtcp_wire.proofs.ReadBack.{three_pushed}
use Rattle.rtcp_wire.proofs.writing.push_body.Goals as goal

pub returns-in_ok-push_blocks-in-Sr-clause-bytes :
    goal.returns-in_ok-push_blocks-in-Sr-clause-bytes
returns-in_ok-push_blocks-in-Sr-clause-bytes c =
    let blocks = rw c.as_slice.ensures.value at c.in_ok-push_blocks-in-Sr.ensures.bytes in
    let rest = rw c.bytes.ensures at c.push_bytes.ensures in
    rw c.in-Sr.is (three_pushed c.push_bytes.result _ _ _ _ _ _ _ c.in_ok-push_numbers-in-Sr.ensures.bytes blocks rest)

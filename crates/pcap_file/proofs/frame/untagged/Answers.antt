use Rattle.std.proofs.Common.{sym, ◌∙◌}
use Rattle.std.proofs.lemmas.List.{take_rest}
use Rattle.pcap_file.proofs.Passing.{untagged_more, untagged_cut, untagged_end}
use Rattle.pcap_file.proofs.frame.untagged.Goals as goal

pub returns-in_default : goal.returns-in_default
returns-in_default c =
    sym (untagged_cut c.loop-bytes.kind c.loop-bytes.bytes.now (sym c.is_tag.ensures ∙ c.loop-bytes-test.true) c.in_default.len_below) ∙ c.loop-bytes.invariant

pub loop-bytes-preserved : goal.loop-bytes-preserved
loop-bytes-preserved c =
    let more = untagged_more c.loop-bytes.kind c.loop-bytes.bytes.now (sym c.is_tag.ensures ∙ c.loop-bytes-test.true) c.in-len4-up.len_at_least in
    rw (c.from.ensures, c.from-in-len4-up.ensures, take_rest c.loop-bytes.bytes.now 4) (sym more ∙ c.loop-bytes.invariant)

pub returns : goal.returns
returns c = sym (untagged_end c.loop-bytes.kind c.loop-bytes.bytes.now (sym c.is_tag.ensures ∙ c.loop-bytes-test.false)) ∙ c.loop-bytes.invariant

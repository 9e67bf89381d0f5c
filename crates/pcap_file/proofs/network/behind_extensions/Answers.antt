use Rattle.std.proofs.Common.{sym, ◌∙◌}
use Rattle.std.proofs.lemmas.List.{take_rest}
use Rattle.pcap_file.specs.Datagrams.{extension_length}
use Rattle.pcap_file.proofs.Passing.{behind_short, behind_cut, behind_more, behind_end}
use Rattle.pcap_file.proofs.network.behind_extensions.Goals as goal

pub returns-then-bytes-lt2 : goal.returns-then-bytes-lt2
returns-then-bytes-lt2 c =
    sym (behind_short c.loop-bytes.kind c.loop-bytes.bytes.now (sym c.is_extension.ensures ∙ c.loop-bytes-test.true) c.if-bytes-lt2.true) ∙ c.loop-bytes.invariant

pub returns-then-bytes-size : goal.returns-then-bytes-size
returns-then-bytes-size c =
    sym (behind_cut c.loop-bytes.kind c.loop-bytes.bytes.now (sym c.is_extension.ensures ∙ c.loop-bytes-test.true) c.if-bytes-lt2.false (rw (← c.from.ensures) c.if-bytes-size.true)) ∙ c.loop-bytes.invariant

pub loop-bytes-preserved : goal.loop-bytes-preserved
loop-bytes-preserved c =
    let more = behind_more c.loop-bytes.kind c.loop-bytes.bytes.now (sym c.is_extension.ensures ∙ c.loop-bytes-test.true) c.if-bytes-lt2.false (rw (← c.from.ensures) c.if-bytes-size.false) in
    rw (c.from-kind.ensures, c.from.ensures, take_rest c.loop-bytes.bytes.now (extension_length c.loop-bytes.bytes.now)) (sym more ∙ c.loop-bytes.invariant)

pub returns : goal.returns
returns c = sym (behind_end c.loop-bytes.kind c.loop-bytes.bytes.now (sym c.is_extension.ensures ∙ c.loop-bytes-test.false)) ∙ c.loop-bytes.invariant

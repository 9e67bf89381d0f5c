use Rattle.std.proofs.Common.{ap, ◌∙◌}
use Rattle.rtcp_wire.specs.Compound.{compound_of}
use Rattle.rtcp_wire.proofs.Whole.{compound_back}
use Rattle.rtcp_wire.proofs.writing.write_compound.Goals as goal

pub returns-clause-reads : goal.returns-clause-reads
returns-clause-reads c = ap compound_of (c.from_vec.ensures ∙ c.in_ok-bytes.ensures.bytes) ∙ compound_back c.args.list.now c.requires c.in_ok-bytes.ensures.range

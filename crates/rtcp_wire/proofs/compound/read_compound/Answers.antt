use Rattle.std.proofs.Common.{Result, List, subst, arith}
use Rattle.rtcp_wire.specs.declared.packet.Rtcp.{Rtcp}
use Rattle.rtcp_wire.specs.declared.fault.RtcpFault.{RtcpFault}
use Rattle.rtcp_wire.specs.Answers.{Gives}
use Rattle.rtcp_wire.proofs.Grammatical.{found, compound_is}
use Rattle.rtcp_wire.proofs.Texts.{texts_fit}
use Rattle.rtcp_wire.proofs.compound.read_compound.Goals as goal

pub returns-clause-found : goal.returns-clause-found
returns-clause-found c = found c.read.result c.args.bytes.now c.read.ensures

pub returns-clause-only : goal.returns-clause-only
returns-clause-only c = λ packets h. subst (λ (wanted : Result (List Rtcp) RtcpFault). Gives (λ found. found.items) c.read.result wanted) (compound_is c.args.bytes.now packets h) c.read.ensures

pub returns-clause-texts : goal.returns-clause-texts
returns-clause-texts c = texts_fit c.read.result c.args.bytes.now (λ i. omega (arith, c.type_inv.bytes i)) (found c.read.result c.args.bytes.now c.read.ensures)

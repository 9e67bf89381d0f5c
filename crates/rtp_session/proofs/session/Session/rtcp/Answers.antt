use Rattle.std.proofs.Common.{◌≡◌, ◌∙◌, ◌∷◌, sym, ap, subst, refl, List, [], ℕ, true, false, arith}
use Rattle.std.specs.Prelude.{map, Ok, Result}
use Rattle.rtcp_wire.specs.declared.packet.Rtcp.{Rtcp as RtcpPacket}
use Rattle.rtcp_wire.specs.declared.fault.RtcpFault.{RtcpFault}
use Rattle.rtcp_wire.specs.Compound.{compound_of}
use Rattle.source_table.specs.Table.{Table}
use Rattle.front_model.specs.Given.{Given, Setting, Rtcp, asks_of}
use Rattle.front_model.specs.Notes.{Note}
use Rattle.rtp_session.specs.Answers.{told, compound_notes, given_after}
use Rattle.rtp_session.specs.Compounds.{calls_notes, calls_next}
use Rattle.rtp_session.specs.Standing.{StandsFor}
use Rattle.rtp_session.proofs.Keeping.{calls_heard, works, state_of, held_by, own_of, stands_for, compound_told, compound_kept, faults_told, faults_kept, memory_fails}
use Rattle.rtp_session.proofs.session.Session.rtcp.Goals as goal

pub returns-clause-answer : goal.returns-clause-answer
returns-clause-answer c = λ s older stands.
    let i = c.self.inside in
    let x = state_of i.own i.heard i.failed i.quick.keys i.sources i.held.entries in
    let h = held_by x c.args.self.now s older c.self.view_is stands in
    let tells = c.in_ok-notes.ensures in
    let same = ap (λ (ps : List RtcpPacket). calls_notes i.sources (asks_of (Rtcp c.args.now ps))) c.as_slice.ensures.value in
    ap (compound_notes s older c.args.now) c.in-Ok.ensures.exact ∙ sym (ap (λ (ns : List Note). Ok ns) (tells.notes ∙ same ∙ compound_told x.holding s older c.args.now c.in-Ok.packets.items h))

pub returns-clause-stands : goal.returns-clause-stands
returns-clause-stands c = λ s older stands.
    let i = c.self.inside in
    let x = state_of i.own i.heard i.failed i.quick.keys i.sources i.held.entries in
    let y = state_of i.own i.heard false i.quick.keys c.hear_compound.new.sources i.held.entries in
    let h = held_by x c.args.self.now s older c.self.view_is stands in
    let tells = c.in_ok-notes.ensures in
    let same = ap (λ (ps : List RtcpPacket). calls_next i.sources (asks_of (Rtcp c.args.now ps))) c.as_slice.ensures.value in
    subst (λ (r : Result (List RtcpPacket) RtcpFault). StandsFor y s (given_after older c.args.now r)) (sym c.in-Ok.ensures.exact)
    (stands_for y s (Rtcp c.args.now c.in-Ok.packets.items ∷ older) (own_of x c.args.self.now s older c.self.view_is stands) refl
    (compound_kept x.holding y.holding s older c.args.now c.in-Ok.packets.items h refl (tells.table ∙ same) refl))

pub invariant_of-self-2 : goal.invariant_of-self-2
invariant_of-self-2 c = λ _.
    omega (
      arith,
      c.self.invariant c.if-self.false,
      calls_heard c.self.inside.sources (asks_of (Rtcp c.args.now c.as_slice.result.now)),
      ap (λ (t : Table). t.heard) c.in_ok-notes.ensures.table,
    )

use Rattle.std.proofs.Common.{◌≡◌, List, length, Ok, ap, sym, subst, ◌∙◌, arith}
use Rattle.rtp_wire.specs.View.{packet_of}
use Rattle.rtx.specs.Answering.{Remembers, calls_after}
use Rattle.rtx.specs.Sending.{Setting}
use Rattle.nack_answering.specs.Answering.{Rules}
use Rattle.nack_answering.specs.Standing.{State, StandsFor, IsSmall, rules_in}
use Rattle.nack_answering.proofs.Keeping.{stands_after, setting_stays}
use Rattle.nack_answering.proofs.Holding.{kept_packet}
use Rattle.nack_answering.proofs.answering.Answering.remember.Goals as goal

pub invariant_of-self-in-Ok : goal.invariant_of-self-in-Ok
invariant_of-self-in-Ok c =
    let old = c.self.invariant in
    let found = c.in-Ok.ensures.found in
    let long : length c.in-Ok.view.bytes ≡ length c.args.payload.now = ap (λ (l : List _). length l) found.1 in
    let call = Remembers c.args.session c.in-Ok.view in
    let small : IsSmall call = (found.0, omega (arith, long, c.requires)) in (
      calls_after call old.0 c.remember.result,
      stands_after c.self.inside.sessions.items c.self.inside.history c.remember.new.self call old.0
          c.remember.result small c.remember.ensures.stands old.1,
    )

pub returns-in_ok-remember-in-Ok-clause-rules : goal.returns-in_ok-remember-in-Ok-clause-rules
returns-in_ok-remember-in-Ok-clause-rules c =
    let old = c.self.invariant in
    let sessions = c.self.inside.sessions.items in
    let same =
    setting_stays sessions c.self.inside.history c.remember.new.self
    (Remembers c.args.session c.in-Ok.view) old.0 c.remember.result c.remember.ensures.stands old.1 in
    ap (λ (s : Setting). let r : Rules = record { sessions = sessions; setting = s } in r) same
    ∙ ap rules_in c.self.view_is

pub returns-in_ok-remember-in-Ok-clause-stands : goal.returns-in_ok-remember-in-Ok-clause-stands
returns-in_ok-remember-in-Ok-clause-stands c = λ calls sent e stands.
    let found = c.in-Ok.ensures.found in
    let law = c.packets_are_their_bytes.ensures c.in-Ok.view found.0 in
    let long : length c.in-Ok.view.bytes ≡ length c.args.payload.now = ap (λ (l : List _). length l) found.1 in
    let call = Remembers c.args.session c.in-Ok.view in
    let small : IsSmall call = (found.0, omega (arith, long, c.requires)) in
    let mine = subst (λ (s : State). StandsFor s calls) (sym c.self.view_is) stands in
    kept_packet _ calls c.args.session sent.from c.args.payload.now c.in-Ok.view c.in-Ok.ensures.fault
    (law.1 ∙ ap packet_of found.1)
    (stands_after c.self.inside.sessions.items c.self.inside.history c.remember.new.self call calls
    (Ok c.in_ok-remember-in-Ok.field-0) small c.in_ok-remember-in-Ok.ensures.stands mine)

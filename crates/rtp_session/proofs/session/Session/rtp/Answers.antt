use Rattle.std.proofs.Common.{◌≡◌, ◌∙◌, ◌+◌, ◌∷◌, ap, refl, List, ℕ, true, false, arith}
use Rattle.std.specs.Prelude.{nat_eq}
use Rattle.std.specs.List.{list_any}
use Rattle.front_model.specs.Given.{Rtp}
use Rattle.front_model.specs.Probation.{kept_at}
use Rattle.front_model.specs.Given.{asks}
use Rattle.rtp_session.specs.Answers.{out_notes, as_heard, cause_of}
use Rattle.rtp_session.proofs.Keeping.{state_of, held_by, own_of, stands_for, heard_as, packet_told, packet_kept}
use Rattle.rtp_session.proofs.session.Session.rtp.Goals as goal

pub hear-requires : goal.hear-requires
hear-requires c = omega (arith, c.self.invariant c.if-self.false, ap (λ v. v.heard) c.self.view_is)

pub returns-clause-answer : goal.returns-clause-answer
returns-clause-answer c = λ s older stands.
    let i = c.self.inside in
    let h = held_by (state_of i.own i.heard i.failed i.quick.keys i.sources i.held.entries) c.args.self.now s older c.self.view_is stands in
    let quick = c.is_quick-quick.ensures ∙ ap (λ (n : ℕ). list_any (nat_eq n) i.quick.keys) c.ssrc.ensures in
    let heard = c.in_ok-answer.ensures.answer ∙ heard_as (state_of i.own i.heard i.failed i.quick.keys i.sources i.held.entries).holding s older c.args.now c.args.from c.args.view.now c.args.rate c.is_quick-quick.result h quick in
    packet_told (state_of i.own i.heard i.failed i.quick.keys i.sources i.held.entries).holding s older c.args.now c.args.from c.args.view.now c.args.rate
    (out_notes (kept_at c.args.now c.args.view.now) c.in_ok-out.out) (as_heard c.in_ok-answer.answer) h c.in_ok-out.ensures.notes heard

pub returns-clause-cause : goal.returns-clause-cause
returns-clause-cause c = λ s older stands.
    let i = c.self.inside in
    let h = held_by (state_of i.own i.heard i.failed i.quick.keys i.sources i.held.entries) c.args.self.now s older c.self.view_is stands in
    let quick = c.is_quick-quick.ensures ∙ ap (λ (n : ℕ). list_any (nat_eq n) i.quick.keys) c.ssrc.ensures in
    let heard = c.in_ok-answer.ensures.answer ∙ heard_as (state_of i.own i.heard i.failed i.quick.keys i.sources i.held.entries).holding s older c.args.now c.args.from c.args.view.now c.args.rate c.is_quick-quick.result h quick in
    c.in_ok-out.ensures.cause ∙ ap cause_of heard

pub returns-clause-stands : goal.returns-clause-stands
returns-clause-stands c = λ s older stands.
    let i = c.self.inside in
    let x = state_of i.own i.heard i.failed i.quick.keys i.sources i.held.entries in
    let y = state_of i.own (i.heard + 1) false i.quick.keys c.hear.new.sources c.take_packet.new.held.entries in
    let h = held_by x c.args.self.now s older c.self.view_is stands in
    let quick = c.is_quick-quick.ensures ∙ ap (λ (n : ℕ). list_any (nat_eq n) i.quick.keys) c.ssrc.ensures in
    let heard = c.in_ok-answer.ensures.answer ∙ heard_as x.holding s older c.args.now c.args.from c.args.view.now c.args.rate c.is_quick-quick.result h quick in
    stands_for y s (Rtp c.args.now c.args.from c.args.view.now c.args.rate ∷ older) (own_of x c.args.self.now s older c.self.view_is stands) refl
    (packet_kept x.holding y.holding s older c.args.now c.args.from c.args.view.now c.args.rate c.is_quick-quick.result (as_heard c.in_ok-answer.answer) h quick heard refl c.in_ok-answer.ensures.after
    c.in_ok-out.ensures.held)

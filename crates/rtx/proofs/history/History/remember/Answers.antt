use Rattle.std.proofs.Common.{◌∙◌, true, false, inl, inr, refl, sym, arith}
use Rattle.rtx.proofs.Remembering.{remembered_is, streams_count, remembers_known, remembers_new, remembers_nothing}
use Rattle.rtx.proofs.history.History.remember.Goals as goal

pub returns-then-contains_key-clause-answer : goal.returns-then-contains_key-clause-answer
returns-then-contains_key-clause-answer c = λ s calls stands.
    inl (remembered_is _ c.args.self.now s calls c.args.session c.ssrc.result c.args.view.now true c.self.view_is stands c.ssrc.ensures (sym c.contains_key.ensures ∙ c.if-contains_key.true))

pub returns-then-contains_key-clause-stands : goal.returns-then-contains_key-clause-stands
returns-then-contains_key-clause-stands c = λ s calls stands.
    remembers_known _ c.args.self.now _ s calls c.args.session c.ssrc.result c.args.view.now c.in_ok-sent.sent c.self.view_is stands c.ssrc.ensures c.in_ok-sent.ensures
    (sym c.contains_key.ensures ∙ c.if-contains_key.true) refl refl c.add_packet.ensures.streams c.add_packet.ensures.count

pub returns-then-len-ge-MAX_STREAMS-clause-answer : goal.returns-then-len-ge-MAX_STREAMS-clause-answer
returns-then-len-ge-MAX_STREAMS-clause-answer c = λ s calls stands.
    let count = streams_count _ c.args.self.now s calls c.self.view_is stands in
    (remembered_is _ c.args.self.now s calls c.args.session c.ssrc.result c.args.view.now false c.self.view_is stands c.ssrc.ensures (sym c.contains_key.ensures ∙ c.if-contains_key.false), omega (arith, count))

pub returns-then-len-ge-MAX_STREAMS-clause-stands : goal.returns-then-len-ge-MAX_STREAMS-clause-stands
returns-then-len-ge-MAX_STREAMS-clause-stands c = λ s calls stands.
    remembers_nothing _ c.args.self.now s calls c.args.session c.ssrc.result c.args.view.now c.self.view_is stands c.ssrc.ensures (sym c.contains_key.ensures ∙ c.if-contains_key.false) (omega arith)

pub returns-clause-answer : goal.returns-clause-answer
returns-clause-answer c = λ s calls stands.
    let count = streams_count _ c.args.self.now s calls c.self.view_is stands in
    inr (omega (arith, count))

pub returns-clause-stands : goal.returns-clause-stands
returns-clause-stands c = λ s calls stands.
    remembers_new _ c.args.self.now _ s calls c.args.session c.ssrc.result c.args.view.now c.in_ok-sent-2.sent c.self.view_is stands c.ssrc.ensures c.in_ok-sent-2.ensures
    (sym c.contains_key.ensures ∙ c.if-contains_key.false) (omega arith) refl refl c.in_ok-add_stream.ensures.streams c.in_ok-add_stream.ensures.count

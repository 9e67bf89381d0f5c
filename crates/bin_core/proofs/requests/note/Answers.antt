use Rattle.std.proofs.Common.{refl}
use Rattle.bin_core.proofs.Requesting.{none_noted, one_noted, all_noted}
use Rattle.bin_core.proofs.requests.note.Goals as goal

pub loop-seq-init : goal.loop-seq-init
loop-seq-init c = λ k older h. none_noted c.args.front.now k c.args.session c.args.ssrc c.args.numbers.now older h

pub loop-seq-preserved : goal.loop-seq-preserved
loop-seq-preserved c = λ k older h.
    one_noted c.loop-seq.front c.note_request.new.self k c.args.session c.args.ssrc _ c.args.numbers.now c.loop-seq.seq-index _ 0 older c.loop-seq-test.true refl refl
    (λ now stands. c.note_request.ensures.stands k now stands) (c.loop-seq.invariant k older h)

pub returns : goal.returns
returns c = λ k older h. all_noted c.loop-seq.front k c.args.session c.args.ssrc c.args.numbers.now c.loop-seq.seq-index older c.loop-seq-test.false (c.loop-seq.invariant k older h)

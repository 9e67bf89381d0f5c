use Rattle.bin_core.proofs.Sending.{empty_is, empty_not, sends_none, sends_some}
use Rattle.bin_core.proofs.requests.send.Goals as goal

pub returns-then-is_empty : goal.returns-then-is_empty
returns-then-is_empty c = sends_none c.args.time c.args.session c.args.ssrc c.args.numbers.now c.args.front.now c.args.lines.now (empty_is c.args.numbers.now c.is_empty.result c.is_empty.ensures c.if-is_empty.true)

pub returns : goal.returns
returns c = λ k older h.
    sends_some k c.args.time c.args.session c.args.ssrc c.args.numbers.now c.args.front.now c.note.new.front c.args.lines.now c.push.new.self _ older (empty_not c.args.numbers.now c.is_empty.result c.is_empty.ensures c.if-is_empty.false)
    (c.in_ok-bytes.ensures k older h) c.in_ok-push.ensures.ok c.note.ensures h

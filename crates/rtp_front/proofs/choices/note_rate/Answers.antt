use Rattle.std.proofs.Common.{sym, ◌∙◌}
use Rattle.rtp_front.proofs.Noting.{type_noted}
use Rattle.rtp_front.proofs.choices.note_rate.Goals as goal

pub returns-in_ok-insert : goal.returns-in_ok-insert
returns-in_ok-insert c = λ session pt.
    type_noted c.args.rates.now.entries c.insert.new.self.entries
    c.args.line.now.session c.args.line.now.pt c.args.line.now.rate session pt
    (sym c.contains_key.ensures ∙ c.if-not-contains_key.true)
    (c.in_ok-insert.ensures.updates.0 (session, pt))

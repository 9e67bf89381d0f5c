use Rattle.std.proofs.Common.{◌∙◌, ap}
use Rattle.source_table.specs.Table.{Table, name_of}
use Rattle.rtp_session.proofs.Keeping.{state_of, held_by}
use Rattle.rtp_session.proofs.session.Session.cname.Goals as goal

pub returns : goal.returns
returns c = λ s older stands.
    let i = c.self.inside in
    let h = held_by (state_of i.own i.heard i.failed i.quick.keys i.sources i.held.entries) c.args.self.now s older c.self.view_is stands in
    c.cname.ensures.value ∙ ap (λ (t : Table). name_of t c.args.ssrc) h.sources

use Rattle.std.proofs.Common.{◌≢◌, slice_get, option_copied, sym, ap, ◌∙◌}
use Rattle.rtx.specs.Sending.{latest_in}
use Rattle.rtx.proofs.Indexed.{absent, another, present}
use Rattle.rtx.proofs.packets.SentPackets.latest.Goals as goal

pub returns-in_err-sent : goal.returns-in_err-sent
returns-in_err-sent c =
    let s = c.self.inside in
    let later = c.added_since-later in
    let none = ap (slice_get s.packets.items) (sym c.from.ensures) ∙ sym c.in_err-sent.ensures in
    ap option_copied c.from_residual.ensures
    ∙ sym (absent s.packets s.added s.added_with.items c.args.seq later.result c.self.invariant
    later.ensures.sum later.ensures.small none)
    ∙ ap (λ b. latest_in b.items c.args.seq) c.self.view_is

pub returns-then-seq : goal.returns-then-seq
returns-then-seq c =
    let s = c.self.inside in
    let later = c.added_since-later in
    let p = c.in_ok-sent.sent.now in
    let there = ap (slice_get s.packets.items) (sym c.from.ensures) ∙ sym c.in_ok-sent.ensures in
    sym (another s.packets s.added s.added_with.items c.args.seq later.result c.self.invariant
    later.ensures.sum later.ensures.small p there (λ e. c.if-seq.true (c.seq.ensures ∙ e)))
    ∙ ap (λ b. latest_in b.items c.args.seq) c.self.view_is

pub returns : goal.returns
returns c =
    let s = c.self.inside in
    let later = c.added_since-later in
    let p = c.in_ok-sent.sent.now in
    let there = ap (slice_get s.packets.items) (sym c.from.ensures) ∙ sym c.in_ok-sent.ensures in
    sym (present s.packets s.added s.added_with.items c.args.seq later.result c.self.invariant
    later.ensures.sum later.ensures.small p there (sym c.seq.ensures ∙ c.if-seq.false))
    ∙ ap (λ b. latest_in b.items c.args.seq) c.self.view_is

use Rattle.std.proofs.Common.{◌≡◌, ◌≤◌, ◌∙◌, sym, ap, subst, length, List, ℕ}
use Rattle.rtp_wire.specs.View.{packet_of}
use Rattle.rtp_session.proofs.kept.Kept.packet.Goals as goal

pub returns-clause-value : goal.returns-clause-value
returns-clause-value c =
    let found = c.in-Ok.ensures.found in
    let law = c.packets_are_their_bytes.ensures c.in-Ok.view found.0 in
    law.1 ∙ ap packet_of (found.1 ∙ c.bytes.ensures) ∙ ap (λ k. k.packet) c.self.view_is

pub returns-clause-small : goal.returns-clause-small
returns-clause-small c =
    subst (λ (b : List ℕ). length b ≤ 65535) (sym (c.in-Ok.ensures.found.1 ∙ c.bytes.ensures)) c.self.invariant.1

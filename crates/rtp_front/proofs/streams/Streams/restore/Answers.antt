use Rattle.std.proofs.Common.{true, sym, subst}
use Rattle.rtx.specs.Restoring.{setting}
use Rattle.front_model.specs.Restoring.{calls}
use Rattle.rtp_front.specs.Standing.{StreamsState, IsLeftBy}
use Rattle.rtp_front.specs.contracts.streams.Streams.{the_view}
use Rattle.rtp_front.proofs.Moving.{carried, restored_state}
use Rattle.rtp_front.proofs.streams.Streams.restore.Goals as goal

pub give_restored-requires : goal.give_restored-requires
give_restored-requires c =
    carried c.self.inside.receiver c.restore.new.self c.args.session c.packet.result
    c.args.kept.packet c.in-Ok.restored c.packet.ensures.value c.in-Ok.ensures.answer

pub returns-in-Ok-clause-steps : goal.returns-in-Ok-clause-steps
returns-in-Ok-clause-steps c = λ d older read left rtx.
    let a = c.args in
    let before : IsLeftBy d older (the_view c.self.inside) =
    subst (λ (x : StreamsState). IsLeftBy d older x) (sym c.self.view_is) left in
    let w = restored_state d older a.session a.kept.stamp a.kept.packet c.packet.result
    (the_view c.self.inside) c.in-Ok.restored c.restore.new.self rtx c.packet.ensures.value before
    c.in-Ok.ensures.answer
    (c.in-Ok.ensures.stands (setting d.rtx d.fids true) (calls d older) before.receiver) in
    c.give_restored.ensures.steps d older w.0 read w.3 rtx w.1 w.2

pub returns-in-Ok-clause-stands : goal.returns-in-Ok-clause-stands
returns-in-Ok-clause-stands c = λ d older read left rtx.
    let a = c.args in
    let before : IsLeftBy d older (the_view c.self.inside) =
    subst (λ (x : StreamsState). IsLeftBy d older x) (sym c.self.view_is) left in
    let w = restored_state d older a.session a.kept.stamp a.kept.packet c.packet.result
    (the_view c.self.inside) c.in-Ok.restored c.restore.new.self rtx c.packet.ensures.value before
    c.in-Ok.ensures.answer
    (c.in-Ok.ensures.stands (setting d.rtx d.fids true) (calls d older) before.receiver) in
    c.give_restored.ensures.stands d older w.0 read w.3 rtx w.1 w.2

use Rattle.std.proofs.Common.{sym, ap, ◌∙◌, refl, subst}
use Rattle.front_model.specs.Types.{is_rtx, rates}
use Rattle.front_model.specs.Lanes.{routed}
use Rattle.rtp_front.specs.Standing.{StreamsState, IsLeftBy}
use Rattle.rtp_front.specs.contracts.streams.Streams.{the_view}
use Rattle.rtp_front.proofs.Moving.{is_routed}
use Rattle.rtp_front.proofs.streams.Streams.route.Goals as goal

pub returns-clause-stands : goal.returns-clause-stands
returns-clause-stands c = λ d older stamp p left same own.
    let before : IsLeftBy d older (the_view c.self.inside) =
    subst (λ (x : StreamsState). IsLeftBy d older x) (sym c.self.view_is) left in
    is_routed d older c.args.session stamp p (ap (is_rtx d c.args.session) same ∙ own) c.args.pt
    (the_view c.self.inside) _ same before
    (c.route_in.ensures.stands (rates d c.args.session) (routed d c.args.session older)
    (before.routes c.args.session))
    c.route_in.ensures.others refl refl refl

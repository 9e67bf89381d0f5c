use Rattle.std.proofs.Common.{List, ◌++◌, [], ◌∷◌, ap, subst, ◌∙◌}
use Rattle.rtp_demux.specs.Lanes.{Sight, sight, IsLane}
use Rattle.rtp_demux.specs.declared.lanes.LaneOf.{LaneOf}
use Rattle.rtp_demux.proofs.Sights.{stands_new, stands_old}
use Rattle.rtp_demux.proofs.lanes.SsrcDemux.lane.Goals as goal

pub returns-in-New-clause-stands : goal.returns-in-New-clause-stands
returns-in-New-clause-stands c = λ calls stands.
    let call = sight c.args.session c.args.ssrc c.args.rate in
    let told = subst (λ (a : LaneOf). IsLane c.args.self.now call a) c.in-New.is c.peek-answer.ensures in
    stands_new c.args.self.now c.add.new.lanes.entries calls call told.0 told.1
    (c.add.ensures.entries ∙ ap (λ (es : List Sight). es ++ call ∷ []) c.self.view_is) stands

pub returns-in_default : goal.returns-in_default
returns-in_default c = record {
  answer = c.peek-answer.ensures;
  stands = λ calls. stands_old c.args.self.now calls (sight c.args.session c.args.ssrc c.args.rate) c.peek-answer.result c.peek-answer.ensures c.in_default.not-New;
}

use Rattle.std.proofs.Common.{rules, ◌≡◌, ◌∙◌, to_z, of_z}
use mir.Syntax.{w64}
use mir.Val.{SFits}
use Rattle.std.proofs.lemmas.Int.{to_z-of_z}
use Rattle.ntp_sync.specs.Offsets.{delta_of}
use Rattle.ntp_sync.proofs.Reports.{reports_next}
use Rattle.ntp_sync.proofs.sync.LaneSync.report.Goals as goal

pub returns-clause-stands : goal.returns-clause-stands
returns-clause-stands c = λ calls stands.
    let fits : SFits w64 c.delta.result = search rules in
    let far : to_z w64 (of_z w64 c.delta.result) ≡ delta_of c.args.info = to_z-of_z w64 c.delta.result fits ∙ c.delta.ensures in
    reports_next c.self.inside.reports.entries c.insert.new.self.entries c.args.self.now calls (record { lane = c.args.lane; cname = c.args.cname.now; info = c.args.info }) c.in_ok-copy_of.field-0
    (to_z w64 (of_z w64 c.delta.result)) c.self.view_is stands c.in_ok-copy_of.ensures far c.in_ok-insert.ensures.updates.0

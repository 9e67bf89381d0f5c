use Rattle.std.proofs.Common.{rules, ◌≡◌, ◌∙◌, List, sym, ap, to_z, of_z}
use Rattle.std.specs.Prelude.{ℤ}
use mir.Syntax.{w64}
use mir.Val.{SFits}
use Rattle.std.proofs.lemmas.Int.{to_z-of_z}
use Rattle.std.proofs.lemmas.Result.{IfOk-weaker}
use Rattle.ntp_sync.specs.Found.{offsets_in}
use Rattle.ntp_sync.specs.Offsets.{Call, last_report, StandsFor, AreOffsets}
use Rattle.ntp_sync.proofs.Reports.{offsets_by_calls, none_by_calls, above_all}
use Rattle.ntp_sync.proofs.sync.LaneSync.offsets.Goals as goal

pub offsets_from-requires : goal.offsets_from-requires
offsets_from-requires c =
    let fits : SFits w64 c.in-Some.least = search rules in
    above_all c.args.cname.now c.self.inside.reports.entries c.in-Some.least (to_z w64 (of_z w64 c.in-Some.least)) (sym c.in-Some.ensures.value) (to_z-of_z w64 c.in-Some.least fits)

pub returns-in-None : goal.returns-in-None
returns-in-None c = λ calls stands.
    none_by_calls c.args.cname.now c.self.inside.reports.entries c.args.self.now calls c.new.result.items (sym c.in-None.ensures.value) c.self.view_is stands c.new.ensures.items

pub returns-in-Some : goal.returns-in-Some
returns-in-Some c =
    let fits : SFits w64 c.in-Some.least = search rules in
    let es = c.self.inside.reports.entries in
    let cname = c.args.cname.now in
    IfOk-weaker c.offsets_from.result (λ offsets. offsets.items ≡ offsets_in cname (to_z w64 (of_z w64 c.in-Some.least)) es) (λ offsets. (calls : List Call) → StandsFor c.args.self.now calls → AreOffsets (last_report calls) cname offsets.items)
    (λ offsets is calls stands.
    offsets_by_calls cname es c.args.self.now c.in-Some.least calls offsets.items c.in-Some.ensures.ordered (sym c.in-Some.ensures.value) c.self.view_is stands
    (is ∙ ap (λ (z : ℤ). offsets_in cname z es) (to_z-of_z w64 c.in-Some.least fits)))
    c.offsets_from.ensures

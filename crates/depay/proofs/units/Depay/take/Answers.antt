use Rattle.std.proofs.Common.{◌≡◌, ◌∙◌, false, List, Some, sym, ap, subst}
use Rattle.std.specs.Prelude.{IfOk}
use Rattle.depay.specs.declared.outcome.Outcome.{Outcome}
use Rattle.depay.specs.Fragments.{Takes, packet}
use Rattle.depay.specs.Joining.{Joining, goes_on_with, on_next, anew_next}
use Rattle.depay.proofs.Standing.{goes_on_stands, starts_anew_stands}
use Rattle.depay.proofs.Taking.{took}
use Rattle.depay.proofs.units.Depay.take.Goals as goal

pub returns-in-Some-clause-answer : goal.returns-in-Some-clause-answer
returns-in-Some-clause-answer c = λ format calls stands.
    let p = packet c.args.number c.args.rtp c.args.pts c.args.payload.now in
    let unit : c.args.self.now.unit ≡ Some c.in-Some.unit = ap (λ (d : Joining). d.unit) (sym c.self.view_is) ∙ c.in-Some.ensures.0 in
    let goes = goes_on_stands c.args.self.now c.in-Some.unit format calls p stands unit c.in-Some.ensures.1 in
    subst (λ (out : List Outcome). IfOk c.go_on.result (λ v. v.items ≡ out)) goes.outcomes c.go_on.ensures.answer

pub returns-in-Some-clause-stands : goal.returns-in-Some-clause-stands
returns-in-Some-clause-stands c = λ format calls stands.
    let p = packet c.args.number c.args.rtp c.args.pts c.args.payload.now in
    let unit : c.args.self.now.unit ≡ Some c.in-Some.unit = ap (λ (d : Joining). d.unit) (sym c.self.view_is) ∙ c.in-Some.ensures.0 in
    let goes = goes_on_stands c.args.self.now c.in-Some.unit format calls p stands unit c.in-Some.ensures.1 in
    took c.go_on.result c.args.self.now c.go_on.new.self (on_next c.args.self.now c.in-Some.unit p) format (Takes p) calls c.go_on.ensures.after c.go_on.ensures.err goes.stands stands

pub returns-in-None-clause-answer : goal.returns-in-None-clause-answer
returns-in-None-clause-answer c = λ format calls stands.
    let p = packet c.args.number c.args.rtp c.args.pts c.args.payload.now in
    let other : goes_on_with c.args.self.now.unit p ≡ false = ap (λ (d : Joining). goes_on_with d.unit p) (sym c.self.view_is) ∙ c.in-None.ensures in
    let anew = starts_anew_stands c.args.self.now format calls p stands other in
    subst (λ (out : List Outcome). IfOk c.begin_anew.result (λ v. v.items ≡ out)) anew.outcomes c.begin_anew.ensures.answer

pub returns-in-None-clause-stands : goal.returns-in-None-clause-stands
returns-in-None-clause-stands c = λ format calls stands.
    let p = packet c.args.number c.args.rtp c.args.pts c.args.payload.now in
    let other : goes_on_with c.args.self.now.unit p ≡ false = ap (λ (d : Joining). goes_on_with d.unit p) (sym c.self.view_is) ∙ c.in-None.ensures in
    let anew = starts_anew_stands c.args.self.now format calls p stands other in
    took c.begin_anew.result c.args.self.now c.begin_anew.new.self (anew_next c.args.self.now p) format (Takes p) calls c.begin_anew.ensures.after c.begin_anew.ensures.err anew.stands stands

use Rattle.std.proofs.Common.{◌∙◌, ◌∷◌, sym, ap, subst}
use Rattle.depay.specs.Fragments.{Gaps}
use Rattle.depay.specs.Joining.{Joining, StandsFor, first_of}
use Rattle.depay.proofs.Standing.{gap_is, gap_stands}
use Rattle.depay.proofs.units.Depay.gap.Goals as goal

pub returns-clause-answer : goal.returns-clause-answer
returns-clause-answer c = λ format calls stands.
    c.first_number-first.ensures ∙ ap (λ (d : Joining). first_of d.unit) c.self.view_is ∙ gap_is c.args.self.now format calls stands

pub returns-clause-stands : goal.returns-clause-stands
returns-clause-stands c = λ format calls stands.
    subst (λ (d : Joining). StandsFor d format (Gaps ∷ calls)) (sym c.close.ensures) (gap_stands c.args.self.now format calls stands)

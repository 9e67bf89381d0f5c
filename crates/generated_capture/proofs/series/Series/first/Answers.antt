use Rattle.std.proofs.Common.{List, Some, None, sym, ap, ◌∙◌}
use Rattle.generated_capture.specs.declared.delivery.Delivery.{Delivery}
use Rattle.generated_capture.specs.Series.{head_of}
use Rattle.generated_capture.proofs.Placing.{series_is}
use Rattle.generated_capture.proofs.series.Series.first.Goals as goal

pub returns-in-Some : goal.returns-in-Some
returns-in-Some c =
    let s = c.self.inside in
    let is =
    series_is s.kind s.place s.count (Some c.in-Some.place)
    (sym c.in-Some.is ∙ c.first_from.ensures.value) in
    ap (λ (d : Delivery). Some d) c.delivery_at.ensures.value
    ∙ sym (ap (λ (l : List Delivery). head_of l) is)
    ∙ ap (λ (l : List Delivery). head_of l) c.self.view_is

pub returns-in-None : goal.returns-in-None
returns-in-None c =
    let s = c.self.inside in
    let is = series_is s.kind s.place s.count None (sym c.in-None.is ∙ c.first_from.ensures.value) in
    sym (ap (λ (l : List Delivery). head_of l) is)
    ∙ ap (λ (l : List Delivery). head_of l) c.self.view_is

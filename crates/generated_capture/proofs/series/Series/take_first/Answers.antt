use Rattle.std.proofs.Common.{List, Some, None, [], ◌≡◌, sym, ap, ◌∙◌}
use Rattle.generated_capture.specs.declared.delivery.Delivery.{Delivery}
use Rattle.generated_capture.specs.Series.{head_of, tail_of}
use Rattle.generated_capture.proofs.Placing.{series_is}
use Rattle.generated_capture.proofs.series.Series.take_first.Goals as goal

pub returns-in-Some-clause-first : goal.returns-in-Some-clause-first
returns-in-Some-clause-first c =
    let s = c.self.inside in
    let is =
    series_is s.kind s.place s.count (Some c.in-Some.place)
    (sym c.in-Some.is ∙ c.first_from.ensures.value) in
    ap (λ (d : Delivery). Some d) c.delivery_at.ensures.value
    ∙ sym (ap (λ (l : List Delivery). head_of l) is)
    ∙ ap (λ (l : List Delivery). head_of l) c.self.view_is

pub returns-in-Some-clause-rest : goal.returns-in-Some-clause-rest
returns-in-Some-clause-rest c =
    let s = c.self.inside in
    let is =
    series_is s.kind s.place s.count (Some c.in-Some.place)
    (sym c.in-Some.is ∙ c.first_from.ensures.value) in
    sym (ap (λ (l : List Delivery). tail_of l) is)
    ∙ ap (λ (l : List Delivery). tail_of l) c.self.view_is

pub returns-in-None-clause-first : goal.returns-in-None-clause-first
returns-in-None-clause-first c =
    let s = c.self.inside in
    let is = series_is s.kind s.place s.count None (sym c.in-None.is ∙ c.first_from.ensures.value) in
    sym (ap (λ (l : List Delivery). head_of l) is)
    ∙ ap (λ (l : List Delivery). head_of l) c.self.view_is

pub returns-in-None-clause-rest : goal.returns-in-None-clause-rest
returns-in-None-clause-rest c =
    let s = c.self.inside in
    let is = series_is s.kind s.place s.count None (sym c.in-None.is ∙ c.first_from.ensures.value) in
    let none : c.args.self.now ≡ [] = sym c.self.view_is ∙ is in
    none ∙ ap (λ (l : List Delivery). tail_of l) (sym none)

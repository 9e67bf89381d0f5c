use Rattle.std.proofs.Common.{List, sym, ap, ◌∙◌}
use Rattle.generated_capture.specs.declared.delivery.Delivery.{Delivery}
use Rattle.generated_capture.specs.Deliveries.{merged}
use Rattle.generated_capture.specs.Series.{head_of, tail_of}
use Rattle.generated_capture.proofs.Merging.{goes_first, goes_second, head_first, head_second, tail_first, tail_second}
use Rattle.generated_capture.proofs.originals.Originals.take_first.Goals as goal

pub returns-then-precedes-clause-first : goal.returns-then-precedes-clause-first
returns-then-precedes-clause-first c =
    let xs = c.self.inside.in_time in
    let ys = c.self.inside.late in
    let so =
    goes_second xs ys _ _ _ c.first-in_time.ensures c.first-late.ensures c.precedes.ensures
    c.if-precedes.true in
    c.take_first.ensures.first ∙ sym (head_second xs ys so)
    ∙ ap (λ (l : List Delivery). head_of l) c.self.view_is

pub returns-then-precedes-clause-rest : goal.returns-then-precedes-clause-rest
returns-then-precedes-clause-rest c =
    let xs = c.self.inside.in_time in
    let ys = c.self.inside.late in
    let so =
    goes_second xs ys _ _ _ c.first-in_time.ensures c.first-late.ensures c.precedes.ensures
    c.if-precedes.true in
    ap (λ (l : List Delivery). merged xs l) c.take_first.ensures.rest ∙ sym (tail_second xs ys so)
    ∙ ap (λ (l : List Delivery). tail_of l) c.self.view_is

pub returns-else-precedes-clause-first : goal.returns-else-precedes-clause-first
returns-else-precedes-clause-first c =
    let xs = c.self.inside.in_time in
    let ys = c.self.inside.late in
    let so =
    goes_first xs ys _ _ _ c.first-in_time.ensures c.first-late.ensures c.precedes.ensures
    c.if-precedes.false in
    c.take_first-else-precedes.ensures.first ∙ sym (head_first xs ys so)
    ∙ ap (λ (l : List Delivery). head_of l) c.self.view_is

pub returns-else-precedes-clause-rest : goal.returns-else-precedes-clause-rest
returns-else-precedes-clause-rest c =
    let xs = c.self.inside.in_time in
    let ys = c.self.inside.late in
    let so =
    goes_first xs ys _ _ _ c.first-in_time.ensures c.first-late.ensures c.precedes.ensures
    c.if-precedes.false in
    ap (λ (l : List Delivery). merged l ys) c.take_first-else-precedes.ensures.rest
    ∙ sym (tail_first xs ys so) ∙ ap (λ (l : List Delivery). tail_of l) c.self.view_is

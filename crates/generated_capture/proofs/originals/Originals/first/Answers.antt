use Rattle.std.proofs.Common.{List, sym, ap, ◌∙◌}
use Rattle.generated_capture.specs.declared.delivery.Delivery.{Delivery}
use Rattle.generated_capture.specs.Series.{head_of}
use Rattle.generated_capture.proofs.Merging.{goes_first, goes_second, head_first, head_second}
use Rattle.generated_capture.proofs.originals.Originals.first.Goals as goal

pub returns-then-precedes : goal.returns-then-precedes
returns-then-precedes c =
    let xs = c.self.inside.in_time in
    let ys = c.self.inside.late in
    let so =
    goes_second xs ys _ _ _ c.first-in_time.ensures c.first-late.ensures c.precedes.ensures
    c.if-precedes.true in
    c.first-late.ensures ∙ sym (head_second xs ys so)
    ∙ ap (λ (l : List Delivery). head_of l) c.self.view_is

pub returns-else-precedes : goal.returns-else-precedes
returns-else-precedes c =
    let xs = c.self.inside.in_time in
    let ys = c.self.inside.late in
    let so =
    goes_first xs ys _ _ _ c.first-in_time.ensures c.first-late.ensures c.precedes.ensures
    c.if-precedes.false in
    c.first-in_time.ensures ∙ sym (head_first xs ys so)
    ∙ ap (λ (l : List Delivery). head_of l) c.self.view_is

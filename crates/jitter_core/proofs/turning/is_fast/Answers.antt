use Rattle.std.proofs.Common.{ℕ, ◌≡◌, ◌+◌, ◌<◌, false, not, sym, ap, ◌∙◌, arith}
use Rattle.std.specs.Prelude.{◌==◌, is_some, unwrap_or}
use Rattle.std.specs.FinMap as map
use Rattle.jitter_model.specs.History.{all_below}
use Rattle.jitter_core.proofs.Losses.{all_below-fails, and_last}
use Rattle.jitter_core.proofs.turning.is_fast.Goals as goal

pub returns-then-not-has : goal.returns-then-not-has
returns-then-not-has c =
    let fails : is_some (map.get c.args.state.now.held (unwrap_or c.args.state.now.span.least 0 + c.loop-i.i)) ≡ false =
    ap (λ (l : ℕ). is_some (map.get c.args.state.now.held (l + c.loop-i.i))) (sym c.unwrap_or-least.ensures) ∙ sym c.has.ensures ∙ c.if-not-has.true in
    let lt : c.loop-i.i < c.args.state.now.settings.faststart = omega arith in
    sym (and_last (not (c.args.state.now.settings.faststart == 0)) (all_below (λ i. is_some (map.get c.args.state.now.held (unwrap_or c.args.state.now.span.least 0 + i))) c.args.state.now.settings.faststart)
    (all_below-fails (λ i. is_some (map.get c.args.state.now.held (unwrap_or c.args.state.now.span.least 0 + i))) c.loop-i.i c.args.state.now.settings.faststart lt fails))

use Rattle.std.proofs.Common.{◌++◌, ◌∙◌, ◌∷◌, [], List, sym, ap}
use Rattle.depay.specs.declared.outcome.Outcome.{Outcome}
use Rattle.depay.specs.Shapes.{packet_of}
use Rattle.depay.proofs.Shaping.{alone_fails}
use Rattle.depay.proofs.units.push_h264.Goals as goal

pub returns-in_ok-push-in-Err-clause-added : goal.returns-in_ok-push-in-Err-clause-added
returns-in_ok-push-in-Err-clause-added c =
    let old = c.args.outcomes.now.items in
    c.in_ok-push-in-Err.ensures.items ∙ ap (λ (x : Outcome). old ++ x ∷ []) c.broken.ensures
    ∙ ap (λ (xs : List Outcome). old ++ xs) (sym (alone_fails (packet_of c.args.packet.now) c.in-Err.cause c.in-Err.ensures))

pub returns-in_ok-push-in-Err-clause-start : goal.returns-in_ok-push-in-Err-clause-start
returns-in_ok-push-in-Err-clause-start c = sym c.in-Err.ensures.start

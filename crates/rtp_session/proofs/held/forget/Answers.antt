use Rattle.std.proofs.Common.{get_or, refl, arith, ap, ◌∙◌, List, ℕ, [], cond}
use Rattle.std.specs.Prelude.{nat_eq}
use Rattle.std.specs.List.{list_any}
use Rattle.std.proofs.lemmas.List.{take_all}
use Rattle.rtp_session.specs.Runs.{run_of}
use Rattle.rtp_session.proofs.Running.{one_gone}
use Rattle.rtp_session.proofs.held.forget.Goals as goal

pub loop-ssrc-preserved : goal.loop-ssrc-preserved
loop-ssrc-preserved c = λ q.
    one_gone c.args.held.now.entries c.loop-ssrc.held.entries c.swap_remove.new.self.entries c.args.ssrcs.now c.loop-ssrc.ssrc-index (get_or c.args.ssrcs.now c.loop-ssrc.ssrc-index 0) q (omega arith) refl
    (c.swap_remove.ensures.updates.0 q) (c.loop-ssrc.invariant q)

pub returns : goal.returns
returns c = λ q.
    c.loop-ssrc.invariant q
    ∙ ap (λ (l : List ℕ). cond (list_any (nat_eq q) l) [] (run_of c.args.held.now.entries q)) (take_all c.loop-ssrc.ssrc-index c.args.ssrcs.now (omega arith))

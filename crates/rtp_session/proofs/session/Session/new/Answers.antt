use Rattle.std.proofs.Common.{◌≡◌, ◌∙◌, get_or, ap, refl, List, [], ℕ, false, arith}
use Rattle.std.specs.Prelude.{nat_eq}
use Rattle.std.specs.List.{list_any}
use Rattle.std.proofs.lemmas.List.{take_all}
use Rattle.rtp_session.specs.Runs.{Runs, run_of}
use Rattle.rtp_session.specs.Standing.{setting}
use Rattle.rtp_session.proofs.Keeping.{stands_for}
use Rattle.rtp_session.proofs.Running.{one_known}
use Rattle.rtp_session.proofs.session.Session.new.Goals as goal

pub loop-ssrc-preserved : goal.loop-ssrc-preserved
loop-ssrc-preserved c = λ q.
    one_known c.loop-ssrc.known.keys c.insert.new.self.keys c.args.quick.now c.loop-ssrc.ssrc-index (get_or c.args.quick.now c.loop-ssrc.ssrc-index 0) q (omega arith) refl c.in_ok-insert.ensures.keys
    (c.loop-ssrc.invariant q)

pub returns-clause-stands : goal.returns-clause-stands
returns-clause-stands c =
    stands_for _ (setting c.args.own c.args.probation c.args.quick.now) [] refl refl (record {
      quick = λ q.
          ap (λ k. list_any (nat_eq q) k.keys) c.known-2.view_is
          ∙ c.loop-ssrc.invariant q
          ∙ ap (λ (l : List ℕ). list_any (nat_eq q) l) (take_all c.loop-ssrc.ssrc-index c.args.quick.now (omega arith));
      sources = c.in_ok-new.ensures.empty;
      held = λ q. ap (λ (r : Runs). run_of r q) c.new-2.ensures.empty;
    })

use Rattle.std.proofs.Common.{◌≡◌, ◌∙◌, ◌+◌, ◌++◌, ◌∷◌, [], ℕ, List, nat_eq, get_or, take, sym, ap, subst}
use Rattle.std.specs.Map.{lookup}
use Rattle.std.proofs.lemmas.List.{take_more, take_all}
use Rattle.rtp_demux.proofs.Routes.{Fresh, fresh_new, fresh_again}
use Rattle.rtp_demux.proofs.types.PtDemux.new.Goals as goal
use Rattle.rtp_demux.proofs.types.PtDemux.new.Goals.{then-not-contains_key+in_ok-insert, else-not-contains_key}

pub loop-pt-preserved : goal.loop-pt-preserved
loop-pt-preserved c =
    let rates = c.args.rates.now in
    let i = c.loop-pt.pt-index in
    let e = get_or rates i (0, 0) in
    let more : take (i + 1) rates ≡ take i rates ++ e ∷ [] = take_more rates i (0, 0) c.loop-pt-test.true in
    elim c.if-not-contains_key.branch [
      | then-not-contains_key+in_ok-insert w ↦
          let put = fresh_new c.loop-pt.routes.entries w.insert.new.self.entries (take i rates) e c.loop-pt.invariant (sym c.contains_key.ensures ∙ w.if-not-contains_key.true) w.in_ok-insert.ensures.updates.0 in
          λ q. ap (λ m. lookup (nat_eq q) m.entries) w.routes-is ∙ subst (λ (rs : List (ℕ × ℕ)). Fresh w.insert.new.self.entries rs) (sym more) put q
      | else-not-contains_key w ↦
          let put = fresh_again c.loop-pt.routes.entries (take i rates) e c.loop-pt.invariant (sym c.contains_key.ensures ∙ w.if-not-contains_key.false) in
          λ q. ap (λ m. lookup (nat_eq q) m.entries) w.routes-is ∙ subst (λ (rs : List (ℕ × ℕ)). Fresh c.loop-pt.routes.entries rs) (sym more) put q
    ]

pub returns : goal.returns
returns c = subst (λ (rs : List (ℕ × ℕ)). Fresh c.loop-pt.routes.entries rs) (take_all c.loop-pt.pt-index c.args.rates.now c.loop-pt-test.false) c.loop-pt.invariant

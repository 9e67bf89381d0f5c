use Rattle.std.proofs.Common.{true, false, get_or, take, sym, ap, ◌∙◌}
use Rattle.std.specs.List.{filter_map}
use Rattle.std.proofs.lemmas.Bool.{eq-eqb}
use Rattle.std.proofs.lemmas.List.{take_more}
use Rattle.script_lang.specs.declared.script.PtLine.{PtLine}
use Rattle.front_model.specs.Types.{rate_in}
use Rattle.rtp_front.proofs.Noting.{rates_noted, different}
use Rattle.rtp_front.proofs.streams.rates_in.Goals as goal
use Rattle.rtp_front.proofs.streams.rates_in.Goals.{then-line-session+in_ok-push, else-line-session}

pub loop-line-preserved : goal.loop-line-preserved
loop-line-preserved c =
    let lines = c.args.pts.now in
    let i = c.loop-line.line-index in
    let s = c.args.session in
    let none : PtLine = record { session = 0; pt = 0; rate = 0 } in
    let l = get_or lines i none in
    let more = ap (filter_map (rate_in s)) (sym (take_more lines i none c.loop-line-test.true)) in
    elim c.if-line-session.branch [
      | then-line-session+in_ok-push w ↦
          rates_noted (take i lines) l s true c.loop-line.rates.items c.if-line-session.rates.items
          (eq-eqb l.session s w.if-line-session.true) c.loop-line.invariant
          (ap (λ v. v.items) w.rates-is ∙ w.in_ok-push.ensures.items)
          ∙ more
      | else-line-session w ↦
          rates_noted (take i lines) l s false c.loop-line.rates.items c.if-line-session.rates.items
          (different l.session s w.if-line-session.false) c.loop-line.invariant
          (ap (λ v. v.items) w.rates-is)
          ∙ more
    ]

use Rattle.std.proofs.Common.{◌≡◌, ◌∙◌, ◌∷◌, sym, ap, subst, cond, refl, List, [], ℕ, true, false, arith}
use Rattle.std.specs.Prelude.{nat_eq}
use Rattle.std.specs.List.{list_any}
use Rattle.source_table.specs.Table.{Table, all_reported}
use Rattle.front_model.specs.Given.{Report, asks}
use Rattle.front_model.specs.Reports.{report_bytes}
use Rattle.rtp_session.specs.Runs.{run_of}
use Rattle.rtp_session.proofs.Keeping.{state_of, held_by, own_of, stands_for, report_told, report_kept}
use Rattle.rtp_session.proofs.session.Session.report.Goals as goal

pub returns-clause-answer : goal.returns-clause-answer
returns-clause-answer c = λ s older stands.
    let i = c.self.inside in
    let x = state_of i.own i.heard i.failed i.quick.keys i.sources i.held.entries in
    let h = held_by x c.args.self.now s older c.self.view_is stands in
    report_told x.holding s older c.args.now c.args.timeout i.own c.in_ok-gone.gone.items c.expire.new.self c.in_ok-blocks.blocks.items c.in_ok-bytes.bytes h
    (own_of x c.args.self.now s older c.self.view_is stands) c.in_ok-gone.ensures.ok.0 c.in_ok-gone.ensures.ok.1 c.in_ok-blocks.ensures.ok.0
    (c.in_ok-bytes.ensures ∙ ap (report_bytes i.own) c.as_slice-2.ensures.value)

pub returns-clause-stands : goal.returns-clause-stands
returns-clause-stands c = λ s older stands.
    let i = c.self.inside in
    let x = state_of i.own i.heard i.failed i.quick.keys i.sources i.held.entries in
    let y = state_of i.own i.heard false i.quick.keys c.blocks-2.new.self c.forget.new.held.entries in
    let h = held_by x c.args.self.now s older c.self.view_is stands in
    stands_for y s (Report c.args.now c.args.timeout ∷ older) (own_of x c.args.self.now s older c.self.view_is stands) refl
    (report_kept x.holding y.holding s older c.args.now c.args.timeout h refl (c.in_ok-blocks.ensures.ok.1 ∙ ap all_reported c.in_ok-gone.ensures.ok.1)
    (λ q. c.forget.ensures q ∙ ap (λ (l : List ℕ). cond (list_any (nat_eq q) l) [] (run_of i.held.entries q)) (c.as_slice.ensures.value ∙ c.in_ok-gone.ensures.ok.0))
    (λ q. c.removed_sources_are_named.ensures s (asks older) c.args.now c.args.timeout q))

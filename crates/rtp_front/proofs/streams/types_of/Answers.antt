use Rattle.std.proofs.Common.{ℕ, nat_eq, List, [], get_or, take, sym, ap, subst, ◌∙◌}
use Rattle.std.specs.List.{filter_map}
use Rattle.std.specs.Map.{lookup}
use Rattle.std.proofs.lemmas.List.{take_more, take_all}
use Rattle.script_lang.specs.declared.script.SessionLine.{SessionLine}
use Rattle.script_lang.specs.Contents.{Contents, IsScript}
use Rattle.rtp_demux.specs.Types.{StandsFor as RoutesFor}
use Rattle.front_model.specs.Types.{rate_in, rates}
use Rattle.rtp_front.proofs.Typing.{IsTyped, typed_more, all_typed}
use Rattle.rtp_front.proofs.streams.types_of.Goals as goal

pub loop-line-preserved : goal.loop-line-preserved
loop-line-preserved c = λ s.
    let script = c.args.script.now in
    let lines = c.as_slice-line-items.result.now in
    let i = c.loop-line.line-index in
    let none : SessionLine = record { session = 0; rtp = 0; rtcp = 0 } in
    let l = get_or lines i none in
    let made = c.in_ok-new.field-0 in
    let here : RoutesFor made (rates script l.session) [] =
    subst (λ (rs : List (ℕ × ℕ)). RoutesFor made rs [])
    (c.as_slice-in-loop-line.ensures.value ∙ c.in_ok-rates.ensures
    ∙ ap (filter_map (rate_in l.session))
    (c.as_slice.ensures.value ∙ ap (λ (x : Contents). x.pts) c.script.view_is))
    c.in_ok-new.ensures in
    subst (λ (ls : List SessionLine). IsTyped script ls s (lookup (nat_eq s) c.insert.new.self.entries))
    (sym (take_more lines i none c.loop-line-test.true))
    (typed_more script (take i lines) l s made (lookup (nat_eq s) c.loop-line.types.entries)
    (lookup (nat_eq s) c.insert.new.self.entries) here (c.loop-line.invariant s)
    (c.in_ok-insert.ensures.updates.0 s))

pub returns : goal.returns
returns c = λ s.
    let script = c.args.script.now in
    let there = lookup (nat_eq s) c.loop-line.types.entries in
    let is : IsScript script =
    subst (λ (x : Contents). IsScript x) c.script.view_is c.script.invariant in
    all_typed script s there is
    (subst (λ (ls : List SessionLine). IsTyped script ls s there)
    (take_all c.loop-line.line-index c.as_slice-line-items.result.now c.loop-line-test.false
    ∙ c.as_slice-line-items.ensures.value
    ∙ ap (λ (x : Contents). x.sessions) c.script.view_is)
    (c.loop-line.invariant s))

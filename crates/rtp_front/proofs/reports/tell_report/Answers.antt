use Rattle.std.proofs.Common.{◌≡◌, ◌∙◌, ◌++◌, ℕ, List, map, take, refl, sym, ap, arith}
use Rattle.std.proofs.lemmas.List.{take_more, take_all}
use Rattle.front_model.specs.Notes.{Gone, Says}
use Rattle.front_model.specs.Steps.{notes_steps}
use Rattle.rtp_front.proofs.Telling.{one_told, last_told}
use Rattle.rtp_front.proofs.reports.tell_report.Goals as goal

pub loop-ssrc-preserved : goal.loop-ssrc-preserved
loop-ssrc-preserved c = λ k older.
    let xs : List ℕ = c.as_slice-ssrc-items.result.now in
    let i : ℕ = c.loop-ssrc.ssrc-index in
    one_told c.args.session Gone (λ (x : ℕ). refl) k c.args.time older (take i xs) _
    c.args.steps.now.items _ _ (c.loop-ssrc.invariant k older) c.in_ok-push.ensures.items
    ∙ ap
    (λ (l : List ℕ). c.args.steps.now.items
    ++ notes_steps k c.args.time older c.args.session (map Gone l))
    (sym (take_more xs i _ c.loop-ssrc-test.true))

pub returns : goal.returns
returns c = λ k older.
    let xs : List ℕ = c.as_slice-ssrc-items.result.now in
    let i : ℕ = c.loop-ssrc.ssrc-index in
    let all : take i xs ≡ c.args.reported.gone.items =
    take_all i xs c.loop-ssrc-test.false ∙ c.as_slice-ssrc-items.ensures.value
    in
    last_told c.args.session Gone (λ (x : ℕ). refl) k c.args.time older
    c.args.reported.gone.items (Says c.args.reported.bytes) c.args.steps.now.items _ _
    (c.loop-ssrc.invariant k older
    ∙ ap
    (λ (l : List ℕ). c.args.steps.now.items
    ++ notes_steps k c.args.time older c.args.session (map Gone l))
    all)
    c.in_ok-push-2.ensures.items

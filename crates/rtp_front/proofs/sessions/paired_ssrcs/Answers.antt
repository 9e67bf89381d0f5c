use Rattle.std.proofs.Common.{◌≡◌, ◌∙◌, ◌++◌, ◌∷◌, [], ℕ, List, take, sym, ap, arith}
use Rattle.std.specs.List.{flat_map}
use Rattle.std.proofs.lemmas.List.{take_more, take_all, append-nil}
use Rattle.std.proofs.lemmas.Grind.{flat_map-append}
use Rattle.rtp_units.specs.declared.shared.Fid.{Fid}
use Rattle.script_lang.specs.Contents.{Contents}
use Rattle.front_model.specs.Sessions.{fid_ssrcs}
use Rattle.rtp_front.proofs.sessions.paired_ssrcs.Goals as goal

one_pair : (s : ℕ) (xs : List Fid) (x : Fid) (old new : List ℕ)
    → old ≡ flat_map (fid_ssrcs s) xs → new ≡ old ++ fid_ssrcs s x
    → new ≡ flat_map (fid_ssrcs s) (xs ++ x ∷ [])
one_pair s xs x old new before e =
    e
    ∙ ap (λ (l : List ℕ). l ++ fid_ssrcs s x) before
    ∙ ap (λ (l : List ℕ). flat_map (fid_ssrcs s) xs ++ l) (sym (append-nil (fid_ssrcs s x)))
    ∙ sym (flat_map-append (fid_ssrcs s) xs (x ∷ []))

pub loop-fid-preserved : goal.loop-fid-preserved
loop-fid-preserved c =
    let xs : List Fid = c.as_slice-fid-items.result.now in
    let i : ℕ = c.loop-fid.fid-index in
    one_pair c.args.session (take i xs) _ _ _ c.loop-fid.invariant c.in_ok-add_pair.ensures
    ∙ ap (flat_map (fid_ssrcs c.args.session)) (sym (take_more xs i _ c.loop-fid-test.true))

pub returns : goal.returns
returns c =
    c.loop-fid.invariant
    ∙ ap (flat_map (fid_ssrcs c.args.session))
    (take_all c.loop-fid.fid-index c.as_slice-fid-items.result.now c.loop-fid-test.false
    ∙ c.as_slice-fid-items.ensures.value
    ∙ ap (λ (k : Contents). k.fids) c.script.view_is)

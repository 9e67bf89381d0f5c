-- What holds of a line that has nothing against it.
use Rattle.std.proofs.Common.{◌≡◌, ℕ, List, length, map, true, false, ◌&&◌, ◌||◌, not, None, sym, ◌∙◌, ap, nat_le, nat_eq}
use Rattle.rtp_units.specs.declared.shared.RtxLine.{RtxLine}
use Rattle.rtp_units.specs.declared.shared.Fid.{Fid}
use Rattle.script_lang.specs.declared.script.SessionLine.{SessionLine}
use Rattle.script_lang.specs.declared.script.PtLine.{PtLine}
use Rattle.script_lang.specs.declared.script.Item.{Item}
use Rattle.script_lang.specs.declared.entry.Entry.TheVariants as entry
use Rattle.script_lang.specs.Facts.{Facts}
use Rattle.script_lang.specs.Tests.{cause_of, is_declared, has_port, has_pt, has_rtx, has_ssrc, has_later, action_lacks_session, action_fails_flush}
use Rattle.std.specs.List.{list_any}
use Rattle.script_lang.specs.Reading.{pt_of, rtx_of}
use Rattle.script_lang.specs.Contents.{is_new_session, is_new_pt, is_new_rtx, is_new_fid}
use Rattle.script_lang.proofs.BoolLemmas.{true_both, none_true, is_not_false, is_not, cond_none, any_map}

pub session_passes : (f : Facts) (l : SessionLine) → cause_of f (entry.Session l) ≡ None → is_new_session f.sessions l ≡ true
unfolding cause_of
session_passes f l h =
    let declared = cond_none _ _ _ h in
    let port = cond_none _ _ _ declared.1 in
    let ports = none_true (has_port f.sessions l.rtp) _ port.0 in
    true_both _ _ (true_both _ _ (is_not _ declared.0) (is_not _ ports.0)) (is_not _ ports.1)

pub pt_passes : (f : Facts) (l : PtLine) → cause_of f (entry.Pt l) ≡ None → (is_new_pt f.sessions f.pts l ≡ true) × (has_pt f.pts l.session l.pt ≡ false) × (has_rtx f.rtx l.session l.pt ≡ false)
unfolding cause_of
pt_passes f l h =
    let declared = cond_none _ _ _ h in
    let pt = cond_none _ _ _ declared.1 in
    let types = none_true (has_pt f.pts l.session l.pt) _ pt.0 in
    (true_both _ _ (is_not_false _ declared.0) (is_not _ types.0), types.0, types.1)

pub rtx_passes : (f : Facts) (l : RtxLine) → cause_of f (entry.Rtx l) ≡ None → (is_new_rtx f.sessions f.pts f.rtx l ≡ true) × (has_rtx f.rtx l.session l.pt ≡ false)
unfolding cause_of
rtx_passes f l h =
    let declared = cond_none _ _ _ h in
    let both = none_true (not (is_declared f.sessions l.session)) _ declared.0 in
    let pt = cond_none _ _ _ declared.1 in
    let types = none_true (has_pt f.pts l.session l.pt || has_rtx f.rtx l.session l.pt) _ pt.0 in
    let own = none_true (has_pt f.pts l.session l.pt) _ types.0 in
    (true_both _ _ (true_both _ _ (true_both _ _ (true_both _ _ (is_not_false _ both.0) (is_not_false _ both.1)) (is_not_false _ types.1)) (is_not _ own.0)) (is_not _ own.1), own.1)

pub fid_passes : (f : Facts) (l : Fid) → cause_of f (entry.Fid l) ≡ None → (is_new_fid f.sessions f.fids l ≡ true) × (nat_le 64 (length f.fids) ≡ false)
unfolding cause_of
fid_passes f l h =
    let declared = cond_none _ _ _ h in
    let ssrc = cond_none _ _ _ declared.1 in
    let many = cond_none _ _ _ ssrc.1 in
    let earlier = none_true _ (has_ssrc f.fids l.session l.rtx_ssrc) ssrc.0 in
    let own = none_true _ (has_ssrc f.fids l.session l.ssrc) earlier.0 in
    (true_both _ _ (true_both _ _ (true_both _ _ (is_not_false _ declared.0) (is_not _ own.0)) (is_not _ own.1)) (is_not _ earlier.1), many.0)

pub item_passes : (f : Facts) (i : Item) → cause_of f (entry.Timed i) ≡ None
    → (action_lacks_session f.sessions i.action ≡ false) × (has_later f.items i.time ≡ false) × (action_fails_flush f.flushes i.action ≡ false) × (nat_le 100000 (length f.items) ≡ false)
unfolding cause_of
item_passes f i h =
    let declared = cond_none _ _ _ h in
    let order = cond_none _ _ _ declared.1 in
    let flush = cond_none _ _ _ order.1 in
    let many = cond_none _ _ _ flush.1 in
    (declared.0, order.0, flush.0, many.0)

-- ---- the same of types that are held in maps

pub pt_is_new : (f : Facts) (es : List ((ℕ × ℕ) × ℕ)) (l : PtLine) → map pt_of es ≡ f.pts → cause_of f (entry.Pt l) ≡ None
    → list_any (λ (e : (ℕ × ℕ) × ℕ). nat_eq l.session e.0.0 && nat_eq l.pt e.0.1) es ≡ false
pt_is_new f es l view h =
    sym (any_map (λ (k : PtLine). nat_eq l.session k.session && nat_eq l.pt k.pt) pt_of es) ∙ ap (λ pts. has_pt pts l.session l.pt) view ∙ (pt_passes f l h).1

pub rtx_is_new : (f : Facts) (es : List ((ℕ × ℕ) × (ℕ × ℕ))) (l : RtxLine) → map rtx_of es ≡ f.rtx → cause_of f (entry.Rtx l) ≡ None
    → list_any (λ (e : (ℕ × ℕ) × (ℕ × ℕ)). nat_eq l.session e.0.0 && nat_eq l.pt e.0.1) es ≡ false
rtx_is_new f es l view h =
    sym (any_map (λ (k : RtxLine). nat_eq l.session k.session && nat_eq l.pt k.pt) rtx_of es) ∙ ap (λ rtx. has_rtx rtx l.session l.pt) view ∙ (rtx_passes f l h).1

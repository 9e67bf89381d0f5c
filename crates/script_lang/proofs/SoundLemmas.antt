-- Facts stay sound with a line that passes its tests, and sound facts make a script.
use Rattle.std.proofs.Common.{◌≡◌, ◌<◌, ℕ, List, [], ◌∷◌, ◌++◌, length, map, Bool, true, false, ◌&&◌, ◌||◌, not, Option, None, sym, ◌∙◌, ap, subst, refl, arith, nat_eq, nat_le, fold, length-append}
use Rattle.std.specs.Option.{is_some}
use Rattle.std.specs.List.{list_all, list_any}
use Rattle.std.proofs.lemmas.List.Folds.{list_all-append, list_any-append}
use Rattle.std.proofs.lemmas.Bool.{leb-false, le-leb}
use Rattle.rtp_units.specs.declared.shared.RtxLine.{RtxLine}
use Rattle.rtp_units.specs.declared.shared.Fid.{Fid}
use Rattle.script_lang.specs.declared.script.SessionLine.{SessionLine}
use Rattle.script_lang.specs.declared.script.PtLine.{PtLine}
use Rattle.script_lang.specs.declared.script.Item.{Item}
use Rattle.script_lang.specs.declared.script.Action.{Action}
use Rattle.script_lang.specs.declared.script.Action.TheVariants as action
use Rattle.script_lang.specs.declared.setting.Setting.{Setting}
use Rattle.script_lang.specs.declared.setting.Setting.TheVariants as setting
use Rattle.script_lang.specs.declared.setting.ScriptSettings.{ScriptSettings}
use Rattle.script_lang.specs.declared.entry.Entry.{Entry}
use Rattle.script_lang.specs.declared.entry.Entry.TheVariants as entry
use Rattle.script_lang.specs.Settings.{is_time_within, setting_fits, settings_list, settings_of, with_setting, defaults}
use Rattle.script_lang.specs.Entries.{session_fits, pt_fits, rtx_fits, fid_fits, item_fits, action_fits, entry_fits}
use Rattle.script_lang.specs.Facts.{Facts, facts_of, session_numbers}
use Rattle.script_lang.specs.Tests.{cause_of, is_declared, has_pt, has_rtx, has_ssrc, has_later, action_lacks_session, action_fails_flush}
use Rattle.script_lang.specs.Contents.{contents_of, IsScript, each_behind, is_new_session, is_new_pt, is_new_rtx, is_new_fid, is_next_item, action_alternates, flushes_behind}
use Rattle.script_lang.specs.Sound.{IsSound}
use Rattle.script_lang.specs.Grammar.{last_open}
use Rattle.script_lang.specs.Reading.{with_entry}
use Rattle.script_lang.proofs.BoolLemmas.{both_true, true_both, is_not_false, is_not, not_is, all_not, all_true, each_behind-snoc, each_behind-weaker, nat_eq_sym}
use Rattle.script_lang.proofs.PassLemmas.{session_passes, pt_passes, rtx_passes, fid_passes, item_passes}
use Rattle.script_lang.proofs.FlushLemmas.{within_seven, flushes_keep, is_flushing_by_items, closed_by_items}

any_more : {A : Type 0} (p : A → Bool) (xs ys : List A) → list_any p xs ≡ true → list_any p (xs ++ ys) ≡ true
any_more p xs ys h = list_any-append p xs ys ∙ ap (λ b. b || list_any p ys) h

all_snoc : {A : Type 0} (p : A → Bool) (xs : List A) (x : A) → list_all p xs ≡ true → p x ≡ true → list_all p (xs ++ x ∷ []) ≡ true
all_snoc p xs x h k = list_all-append p xs (x ∷ []) ∙ true_both _ _ h (true_both _ _ k refl)

-- ---- with one session more

lacks_no_more : (ss : List SessionLine) (l : SessionLine) (a : Action) → not (action_lacks_session ss a) ≡ true → not (action_lacks_session (ss ++ l ∷ []) a) ≡ true
lacks_no_more ss l action.Clock h = refl
lacks_no_more ss l (action.FlushStart s) h = ap (λ b. not (not b)) (any_more _ ss (l ∷ []) (is_not_false _ (not_is _ h)))
lacks_no_more ss l (action.FlushStop s) h = ap (λ b. not (not b)) (any_more _ ss (l ∷ []) (is_not_false _ (not_is _ h)))
lacks_no_more ss l (action.Latency s ns) h = ap (λ b. not (not b)) (any_more _ ss (l ∷ []) (is_not_false _ (not_is _ h)))

pts_more : (ss : List SessionLine) (l : SessionLine) (pts : List PtLine) → each_behind (is_new_pt ss) [] pts ≡ true → each_behind (is_new_pt (ss ++ l ∷ [])) [] pts ≡ true
pts_more ss l pts h = each_behind-weaker (is_new_pt ss) (λ _. true) (is_new_pt (ss ++ l ∷ []))
    (λ before x p _. let e = both_true (is_declared ss x.session) (not (has_pt before x.session x.pt)) p in true_both _ _ (any_more _ ss (l ∷ []) e.0) e.1)
    [] pts h (all_true pts)

rtx_more : (ss : List SessionLine) (l : SessionLine) (pts : List PtLine) (rtx : List RtxLine) → each_behind (is_new_rtx ss pts) [] rtx ≡ true → each_behind (is_new_rtx (ss ++ l ∷ []) pts) [] rtx ≡ true
rtx_more ss l pts rtx h = each_behind-weaker (is_new_rtx ss pts) (λ _. true) (is_new_rtx (ss ++ l ∷ []) pts)
    (λ before x p _.
    let e = both_true (is_declared ss x.session && is_declared ss x.osession && has_pt pts x.osession x.apt && not (has_pt pts x.session x.pt)) (not (has_rtx before x.session x.pt)) p in
    let d = both_true (is_declared ss x.session && is_declared ss x.osession && has_pt pts x.osession x.apt) (not (has_pt pts x.session x.pt)) e.0 in
    let b = both_true (is_declared ss x.session && is_declared ss x.osession) (has_pt pts x.osession x.apt) d.0 in
    let a = both_true (is_declared ss x.session) (is_declared ss x.osession) b.0 in
    true_both _ _ (true_both _ _ (true_both _ _ (true_both _ _ (any_more _ ss (l ∷ []) a.0) (any_more _ ss (l ∷ []) a.1)) b.1) d.1) e.1)
    [] rtx h (all_true rtx)

fids_more : (ss : List SessionLine) (l : SessionLine) (fids : List Fid) → each_behind (is_new_fid ss) [] fids ≡ true → each_behind (is_new_fid (ss ++ l ∷ [])) [] fids ≡ true
fids_more ss l fids h = each_behind-weaker (is_new_fid ss) (λ _. true) (is_new_fid (ss ++ l ∷ []))
    (λ before x p _.
    let e = both_true (is_declared ss x.session && not (nat_eq x.ssrc x.rtx_ssrc) && not (has_ssrc before x.session x.ssrc)) (not (has_ssrc before x.session x.rtx_ssrc)) p in
    let d = both_true (is_declared ss x.session && not (nat_eq x.ssrc x.rtx_ssrc)) (not (has_ssrc before x.session x.ssrc)) e.0 in
    let b = both_true (is_declared ss x.session) (not (nat_eq x.ssrc x.rtx_ssrc)) d.0 in
    true_both _ _ (true_both _ _ (true_both _ _ (any_more _ ss (l ∷ []) b.0) b.1) d.1) e.1)
    [] fids h (all_true fids)

items_more : (ss : List SessionLine) (l : SessionLine) (items : List Item) → each_behind (is_next_item ss) [] items ≡ true → each_behind (is_next_item (ss ++ l ∷ [])) [] items ≡ true
items_more ss l items h = each_behind-weaker (is_next_item ss) (λ _. true) (is_next_item (ss ++ l ∷ []))
    (λ before x p _.
    let e = both_true (not (action_lacks_session ss x.action) && not (has_later before x.time)) (action_alternates before x.action) p in
    let d = both_true (not (action_lacks_session ss x.action)) (not (has_later before x.time)) e.0 in
    true_both _ _ (true_both _ _ (lacks_no_more ss l x.action d.0) d.1) e.1)
    [] items h (all_true items)

-- ---- with one payload type more

other_type : (pts : List PtLine) (l : PtLine) (x : RtxLine) → not (has_pt pts x.session x.pt) ≡ true → not (nat_eq l.session x.session && nat_eq l.pt x.pt) ≡ true
    → not (has_pt (pts ++ l ∷ []) x.session x.pt) ≡ true
other_type pts l x h k =
    let mine : (nat_eq x.session l.session && nat_eq x.pt l.pt) ≡ false =
    ap (λ b. b && nat_eq x.pt l.pt) (nat_eq_sym x.session l.session) ∙ ap (λ b. nat_eq l.session x.session && b) (nat_eq_sym x.pt l.pt) ∙ not_is _ k in
    is_not _ (list_any-append (λ (q : PtLine). nat_eq x.session q.session && nat_eq x.pt q.pt) pts (l ∷ []) ∙ ap (λ b. b || ((nat_eq x.session l.session && nat_eq x.pt l.pt) || false)) (not_is _ h) ∙ ap (λ b. b || false) mine)

rtx_behind_pt : (ss : List SessionLine) (pts : List PtLine) (l : PtLine) (rtx : List RtxLine) → has_rtx rtx l.session l.pt ≡ false
    → each_behind (is_new_rtx ss pts) [] rtx ≡ true → each_behind (is_new_rtx ss (pts ++ l ∷ [])) [] rtx ≡ true
rtx_behind_pt ss pts l rtx none h = each_behind-weaker (is_new_rtx ss pts) (λ x. not (nat_eq l.session x.session && nat_eq l.pt x.pt)) (is_new_rtx ss (pts ++ l ∷ []))
    (λ before x p q.
    let e = both_true (is_declared ss x.session && is_declared ss x.osession && has_pt pts x.osession x.apt && not (has_pt pts x.session x.pt)) (not (has_rtx before x.session x.pt)) p in
    let d = both_true (is_declared ss x.session && is_declared ss x.osession && has_pt pts x.osession x.apt) (not (has_pt pts x.session x.pt)) e.0 in
    let b = both_true (is_declared ss x.session && is_declared ss x.osession) (has_pt pts x.osession x.apt) d.0 in
    true_both _ _ (true_both _ _ (true_both _ _ b.0 (any_more _ pts (l ∷ []) b.1)) (other_type pts l x d.1 q)) e.1)
    [] rtx h (all_not (λ x. nat_eq l.session x.session && nat_eq l.pt x.pt) rtx none)

-- ---- a line more

sound_session : (f : Facts) (l : SessionLine) → IsSound f → session_fits l ≡ true → is_new_session f.sessions l ≡ true → IsSound (record f { sessions = f.sessions ++ l ∷ [] })
sound_session f l s fits new = record {
  sessions_fit = all_snoc session_fits f.sessions l s.sessions_fit fits;
  pts_fit = s.pts_fit;
  rtx_fit = s.rtx_fit;
  fids_fit = s.fids_fit;
  items_fit = s.items_fit;
  settings_fit = s.settings_fit;
  new_sessions = each_behind-snoc is_new_session [] f.sessions l s.new_sessions new;
  new_pts = pts_more f.sessions l f.pts s.new_pts;
  new_rtx = rtx_more f.sessions l f.pts f.rtx s.new_rtx;
  new_fids = fids_more f.sessions l f.fids s.new_fids;
  next_items = items_more f.sessions l f.items s.next_items;
  flushes = s.flushes;
  few_fids = s.few_fids;
  few_items = s.few_items;
}

sound_pt : (f : Facts) (l : PtLine) → IsSound f → pt_fits l ≡ true → is_new_pt f.sessions f.pts l ≡ true → has_rtx f.rtx l.session l.pt ≡ false → IsSound (record f { pts = f.pts ++ l ∷ [] })
sound_pt f l s fits new none = record {
  sessions_fit = s.sessions_fit;
  pts_fit = all_snoc pt_fits f.pts l s.pts_fit fits;
  rtx_fit = s.rtx_fit;
  fids_fit = s.fids_fit;
  items_fit = s.items_fit;
  settings_fit = s.settings_fit;
  new_sessions = s.new_sessions;
  new_pts = each_behind-snoc (is_new_pt f.sessions) [] f.pts l s.new_pts new;
  new_rtx = rtx_behind_pt f.sessions f.pts l f.rtx none s.new_rtx;
  new_fids = s.new_fids;
  next_items = s.next_items;
  flushes = s.flushes;
  few_fids = s.few_fids;
  few_items = s.few_items;
}

sound_rtx : (f : Facts) (l : RtxLine) → IsSound f → rtx_fits l ≡ true → is_new_rtx f.sessions f.pts f.rtx l ≡ true → IsSound (record f { rtx = f.rtx ++ l ∷ [] })
sound_rtx f l s fits new = record {
  sessions_fit = s.sessions_fit;
  pts_fit = s.pts_fit;
  rtx_fit = all_snoc rtx_fits f.rtx l s.rtx_fit fits;
  fids_fit = s.fids_fit;
  items_fit = s.items_fit;
  settings_fit = s.settings_fit;
  new_sessions = s.new_sessions;
  new_pts = s.new_pts;
  new_rtx = each_behind-snoc (is_new_rtx f.sessions f.pts) [] f.rtx l s.new_rtx new;
  new_fids = s.new_fids;
  next_items = s.next_items;
  flushes = s.flushes;
  few_fids = s.few_fids;
  few_items = s.few_items;
}

-- one more of a list that is not full
one_more : {A : Type 0} (most : ℕ) (xs : List A) (x : A) → nat_le most (length xs) ≡ false → nat_le (length (xs ++ x ∷ [])) most ≡ true
one_more most xs x h =
    let lt : length xs < most = leb-false most (length xs) h in
    le-leb (length (xs ++ x ∷ [])) most (omega (arith, length-append xs (x ∷ [])))

sound_fid : (f : Facts) (l : Fid) → IsSound f → fid_fits l ≡ true → is_new_fid f.sessions f.fids l ≡ true → nat_le 64 (length f.fids) ≡ false → IsSound (record f { fids = f.fids ++ l ∷ [] })
sound_fid f l s fits new few = record {
  sessions_fit = s.sessions_fit;
  pts_fit = s.pts_fit;
  rtx_fit = s.rtx_fit;
  fids_fit = all_snoc fid_fits f.fids l s.fids_fit fits;
  items_fit = s.items_fit;
  settings_fit = s.settings_fit;
  new_sessions = s.new_sessions;
  new_pts = s.new_pts;
  new_rtx = s.new_rtx;
  new_fids = each_behind-snoc (is_new_fid f.sessions) [] f.fids l s.new_fids new;
  next_items = s.next_items;
  flushes = s.flushes;
  few_fids = one_more 64 f.fids l few;
  few_items = s.few_items;
}

sound_setting : (f : Facts) (k : Setting) → IsSound f → setting_fits k ≡ true → IsSound (record f { settings = f.settings ++ k ∷ [] })
sound_setting f k s fits = record {
  sessions_fit = s.sessions_fit;
  pts_fit = s.pts_fit;
  rtx_fit = s.rtx_fit;
  fids_fit = s.fids_fit;
  items_fit = s.items_fit;
  settings_fit = all_snoc setting_fits f.settings k s.settings_fit fits;
  new_sessions = s.new_sessions;
  new_pts = s.new_pts;
  new_rtx = s.new_rtx;
  new_fids = s.new_fids;
  next_items = s.next_items;
  flushes = s.flushes;
  few_fids = s.few_fids;
  few_items = s.few_items;
}

alternates : (flushes : List (Option ℕ)) (items : List Item) (a : Action) → action_fits a ≡ true → map is_some flushes ≡ map (flushes_behind items) session_numbers
    → action_fails_flush flushes a ≡ false → action_alternates items a ≡ true
alternates flushes items action.Clock fits e h = refl
alternates flushes items (action.Latency session ns) fits e h = refl
alternates flushes items (action.FlushStart session) fits e h =
    is_not _ (sym (is_flushing_by_items flushes items session (within_seven session fits) e) ∙ h)
alternates flushes items (action.FlushStop session) fits e h =
    sym (is_flushing_by_items flushes items session (within_seven session fits) e) ∙ is_not_false _ h

sound_item : (f : Facts) (line : ℕ) (i : Item) → IsSound f → item_fits i ≡ true → cause_of f (entry.Timed i) ≡ None → IsSound (with_entry f line (entry.Timed i))
sound_item f line i s fits h =
    let p = item_passes f i h in
    let inside : action_fits i.action ≡ true = (both_true (is_time_within 0 4294967295 i.time) (action_fits i.action) fits).1 in
    let next : is_next_item f.sessions f.items i ≡ true =
    true_both _ _ (true_both _ _ (is_not _ p.0) (is_not _ p.1)) (alternates f.flushes f.items i.action inside s.flushes p.2) in
    record {
      sessions_fit = s.sessions_fit;
      pts_fit = s.pts_fit;
      rtx_fit = s.rtx_fit;
      fids_fit = s.fids_fit;
      items_fit = all_snoc item_fits f.items i s.items_fit fits;
      settings_fit = s.settings_fit;
      new_sessions = s.new_sessions;
      new_pts = s.new_pts;
      new_rtx = s.new_rtx;
      new_fids = s.new_fids;
      next_items = each_behind-snoc (is_next_item f.sessions) [] f.items i s.next_items next;
      flushes = flushes_keep f.flushes f.items i.time line i.action inside s.flushes;
      few_fids = s.few_fids;
      few_items = one_more 100000 f.items i p.3;
    }

-- sound facts stay sound with a line that has nothing against it
pub sound_with : (f : Facts) (line : ℕ) (e : Entry) → IsSound f → cause_of f e ≡ None → entry_fits e ≡ true → IsSound (with_entry f line e)
sound_with f line (entry.Session l) s h fits = sound_session f l s fits (session_passes f l h)
sound_with f line (entry.Pt l) s h fits = let p = pt_passes f l h in sound_pt f l s fits p.0 p.2
sound_with f line (entry.Rtx l) s h fits = sound_rtx f l s fits (rtx_passes f l h).0
sound_with f line (entry.Fid l) s h fits = let p = fid_passes f l h in sound_fid f l s fits p.0 p.1
sound_with f line (entry.Setting k) s h fits = sound_setting f k s fits
sound_with f line (entry.Timed i) s h fits = sound_item f line i s fits h

-- nothing was said
pub sound_at_first : IsSound (facts_of [])
unfolding facts_of
sound_at_first = record {
  sessions_fit = refl;
  pts_fit = refl;
  rtx_fit = refl;
  fids_fit = refl;
  items_fit = refl;
  settings_fit = refl;
  new_sessions = refl;
  new_pts = refl;
  new_rtx = refl;
  new_fids = refl;
  next_items = refl;
  flushes = refl;
  few_fids = refl;
  few_items = refl;
}

-- ---- the settings

-- one element of a list for another
exchanged : {A : Type 0} (p : A → Bool) (xs ys : List A) (x y : A) → list_all p (xs ++ x ∷ ys) ≡ true → p y ≡ true → list_all p (xs ++ y ∷ ys) ≡ true
exchanged p [] ys x y h k = true_both _ _ k (both_true (p x) _ h).1
exchanged p (z ∷ xs) ys x y h k = let e = both_true (p z) _ h in true_both _ _ e.0 (exchanged p xs ys x y e.1 k)

setting_fits_with : (s : ScriptSettings) (k : Setting) → list_all setting_fits (settings_list s) ≡ true → setting_fits k ≡ true → list_all setting_fits (settings_list (with_setting s k)) ≡ true
setting_fits_with s (setting.Latency v) h k = exchanged setting_fits ([]) (setting.Mode s.mode ∷ setting.Rtx s.rtx ∷ setting.RtxDelay s.rtx_delay ∷ setting.RtxRetry s.rtx_retry ∷ setting.RtxMax s.rtx_max ∷ setting.Reorder s.reorder ∷ setting.Dropout s.dropout ∷ setting.Misorder s.misorder ∷ setting.Probation s.probation ∷ setting.Faststart s.faststart ∷ setting.Report s.report ∷ setting.Timeout s.timeout ∷ setting.History s.history ∷ setting.Ssrc s.ssrc ∷ []) (setting.Latency s.latency) (setting.Latency v) h k
setting_fits_with s (setting.Mode v) h k = exchanged setting_fits (setting.Latency s.latency ∷ []) (setting.Rtx s.rtx ∷ setting.RtxDelay s.rtx_delay ∷ setting.RtxRetry s.rtx_retry ∷ setting.RtxMax s.rtx_max ∷ setting.Reorder s.reorder ∷ setting.Dropout s.dropout ∷ setting.Misorder s.misorder ∷ setting.Probation s.probation ∷ setting.Faststart s.faststart ∷ setting.Report s.report ∷ setting.Timeout s.timeout ∷ setting.History s.history ∷ setting.Ssrc s.ssrc ∷ []) (setting.Mode s.mode) (setting.Mode v) h k
setting_fits_with s (setting.Rtx v) h k = exchanged setting_fits (setting.Latency s.latency ∷ setting.Mode s.mode ∷ []) (setting.RtxDelay s.rtx_delay ∷ setting.RtxRetry s.rtx_retry ∷ setting.RtxMax s.rtx_max ∷ setting.Reorder s.reorder ∷ setting.Dropout s.dropout ∷ setting.Misorder s.misorder ∷ setting.Probation s.probation ∷ setting.Faststart s.faststart ∷ setting.Report s.report ∷ setting.Timeout s.timeout ∷ setting.History s.history ∷ setting.Ssrc s.ssrc ∷ []) (setting.Rtx s.rtx) (setting.Rtx v) h k
setting_fits_with s (setting.RtxDelay v) h k = exchanged setting_fits (setting.Latency s.latency ∷ setting.Mode s.mode ∷ setting.Rtx s.rtx ∷ []) (setting.RtxRetry s.rtx_retry ∷ setting.RtxMax s.rtx_max ∷ setting.Reorder s.reorder ∷ setting.Dropout s.dropout ∷ setting.Misorder s.misorder ∷ setting.Probation s.probation ∷ setting.Faststart s.faststart ∷ setting.Report s.report ∷ setting.Timeout s.timeout ∷ setting.History s.history ∷ setting.Ssrc s.ssrc ∷ []) (setting.RtxDelay s.rtx_delay) (setting.RtxDelay v) h k
setting_fits_with s (setting.RtxRetry v) h k = exchanged setting_fits (setting.Latency s.latency ∷ setting.Mode s.mode ∷ setting.Rtx s.rtx ∷ setting.RtxDelay s.rtx_delay ∷ []) (setting.RtxMax s.rtx_max ∷ setting.Reorder s.reorder ∷ setting.Dropout s.dropout ∷ setting.Misorder s.misorder ∷ setting.Probation s.probation ∷ setting.Faststart s.faststart ∷ setting.Report s.report ∷ setting.Timeout s.timeout ∷ setting.History s.history ∷ setting.Ssrc s.ssrc ∷ []) (setting.RtxRetry s.rtx_retry) (setting.RtxRetry v) h k
setting_fits_with s (setting.RtxMax v) h k = exchanged setting_fits (setting.Latency s.latency ∷ setting.Mode s.mode ∷ setting.Rtx s.rtx ∷ setting.RtxDelay s.rtx_delay ∷ setting.RtxRetry s.rtx_retry ∷ []) (setting.Reorder s.reorder ∷ setting.Dropout s.dropout ∷ setting.Misorder s.misorder ∷ setting.Probation s.probation ∷ setting.Faststart s.faststart ∷ setting.Report s.report ∷ setting.Timeout s.timeout ∷ setting.History s.history ∷ setting.Ssrc s.ssrc ∷ []) (setting.RtxMax s.rtx_max) (setting.RtxMax v) h k
setting_fits_with s (setting.Reorder v) h k = exchanged setting_fits (setting.Latency s.latency ∷ setting.Mode s.mode ∷ setting.Rtx s.rtx ∷ setting.RtxDelay s.rtx_delay ∷ setting.RtxRetry s.rtx_retry ∷ setting.RtxMax s.rtx_max ∷ []) (setting.Dropout s.dropout ∷ setting.Misorder s.misorder ∷ setting.Probation s.probation ∷ setting.Faststart s.faststart ∷ setting.Report s.report ∷ setting.Timeout s.timeout ∷ setting.History s.history ∷ setting.Ssrc s.ssrc ∷ []) (setting.Reorder s.reorder) (setting.Reorder v) h k
setting_fits_with s (setting.Dropout v) h k = exchanged setting_fits (setting.Latency s.latency ∷ setting.Mode s.mode ∷ setting.Rtx s.rtx ∷ setting.RtxDelay s.rtx_delay ∷ setting.RtxRetry s.rtx_retry ∷ setting.RtxMax s.rtx_max ∷ setting.Reorder s.reorder ∷ []) (setting.Misorder s.misorder ∷ setting.Probation s.probation ∷ setting.Faststart s.faststart ∷ setting.Report s.report ∷ setting.Timeout s.timeout ∷ setting.History s.history ∷ setting.Ssrc s.ssrc ∷ []) (setting.Dropout s.dropout) (setting.Dropout v) h k
setting_fits_with s (setting.Misorder v) h k = exchanged setting_fits (setting.Latency s.latency ∷ setting.Mode s.mode ∷ setting.Rtx s.rtx ∷ setting.RtxDelay s.rtx_delay ∷ setting.RtxRetry s.rtx_retry ∷ setting.RtxMax s.rtx_max ∷ setting.Reorder s.reorder ∷ setting.Dropout s.dropout ∷ []) (setting.Probation s.probation ∷ setting.Faststart s.faststart ∷ setting.Report s.report ∷ setting.Timeout s.timeout ∷ setting.History s.history ∷ setting.Ssrc s.ssrc ∷ []) (setting.Misorder s.misorder) (setting.Misorder v) h k
setting_fits_with s (setting.Probation v) h k = exchanged setting_fits (setting.Latency s.latency ∷ setting.Mode s.mode ∷ setting.Rtx s.rtx ∷ setting.RtxDelay s.rtx_delay ∷ setting.RtxRetry s.rtx_retry ∷ setting.RtxMax s.rtx_max ∷ setting.Reorder s.reorder ∷ setting.Dropout s.dropout ∷ setting.Misorder s.misorder ∷ []) (setting.Faststart s.faststart ∷ setting.Report s.report ∷ setting.Timeout s.timeout ∷ setting.History s.history ∷ setting.Ssrc s.ssrc ∷ []) (setting.Probation s.probation) (setting.Probation v) h k
setting_fits_with s (setting.Faststart v) h k = exchanged setting_fits (setting.Latency s.latency ∷ setting.Mode s.mode ∷ setting.Rtx s.rtx ∷ setting.RtxDelay s.rtx_delay ∷ setting.RtxRetry s.rtx_retry ∷ setting.RtxMax s.rtx_max ∷ setting.Reorder s.reorder ∷ setting.Dropout s.dropout ∷ setting.Misorder s.misorder ∷ setting.Probation s.probation ∷ []) (setting.Report s.report ∷ setting.Timeout s.timeout ∷ setting.History s.history ∷ setting.Ssrc s.ssrc ∷ []) (setting.Faststart s.faststart) (setting.Faststart v) h k
setting_fits_with s (setting.Report v) h k = exchanged setting_fits (setting.Latency s.latency ∷ setting.Mode s.mode ∷ setting.Rtx s.rtx ∷ setting.RtxDelay s.rtx_delay ∷ setting.RtxRetry s.rtx_retry ∷ setting.RtxMax s.rtx_max ∷ setting.Reorder s.reorder ∷ setting.Dropout s.dropout ∷ setting.Misorder s.misorder ∷ setting.Probation s.probation ∷ setting.Faststart s.faststart ∷ []) (setting.Timeout s.timeout ∷ setting.History s.history ∷ setting.Ssrc s.ssrc ∷ []) (setting.Report s.report) (setting.Report v) h k
setting_fits_with s (setting.Timeout v) h k = exchanged setting_fits (setting.Latency s.latency ∷ setting.Mode s.mode ∷ setting.Rtx s.rtx ∷ setting.RtxDelay s.rtx_delay ∷ setting.RtxRetry s.rtx_retry ∷ setting.RtxMax s.rtx_max ∷ setting.Reorder s.reorder ∷ setting.Dropout s.dropout ∷ setting.Misorder s.misorder ∷ setting.Probation s.probation ∷ setting.Faststart s.faststart ∷ setting.Report s.report ∷ []) (setting.History s.history ∷ setting.Ssrc s.ssrc ∷ []) (setting.Timeout s.timeout) (setting.Timeout v) h k
setting_fits_with s (setting.History v) h k = exchanged setting_fits (setting.Latency s.latency ∷ setting.Mode s.mode ∷ setting.Rtx s.rtx ∷ setting.RtxDelay s.rtx_delay ∷ setting.RtxRetry s.rtx_retry ∷ setting.RtxMax s.rtx_max ∷ setting.Reorder s.reorder ∷ setting.Dropout s.dropout ∷ setting.Misorder s.misorder ∷ setting.Probation s.probation ∷ setting.Faststart s.faststart ∷ setting.Report s.report ∷ setting.Timeout s.timeout ∷ []) (setting.Ssrc s.ssrc ∷ []) (setting.History s.history) (setting.History v) h k
setting_fits_with s (setting.Ssrc v) h k = exchanged setting_fits (setting.Latency s.latency ∷ setting.Mode s.mode ∷ setting.Rtx s.rtx ∷ setting.RtxDelay s.rtx_delay ∷ setting.RtxRetry s.rtx_retry ∷ setting.RtxMax s.rtx_max ∷ setting.Reorder s.reorder ∷ setting.Dropout s.dropout ∷ setting.Misorder s.misorder ∷ setting.Probation s.probation ∷ setting.Faststart s.faststart ∷ setting.Report s.report ∷ setting.Timeout s.timeout ∷ setting.History s.history ∷ []) ([]) (setting.Ssrc s.ssrc) (setting.Ssrc v) h k

settings_fit_behind : (s : ScriptSettings) (ks : List Setting) → list_all setting_fits (settings_list s) ≡ true → list_all setting_fits ks ≡ true
    → list_all setting_fits (settings_list (fold with_setting s ks)) ≡ true
settings_fit_behind s [] h all = h
settings_fit_behind s (k ∷ ks) h all = let e = both_true (setting_fits k) _ all in settings_fit_behind (with_setting s k) ks (setting_fits_with s k h e.0) e.1

-- ---- the script

pub script_of_sound : (f : Facts) → IsSound f → last_open f.flushes ≡ None → IsScript (contents_of f)
script_of_sound f s none = record {
  sessions_fit = s.sessions_fit;
  pts_fit = s.pts_fit;
  rtx_fit = s.rtx_fit;
  fids_fit = s.fids_fit;
  items_fit = s.items_fit;
  settings_fit = settings_fit_behind defaults f.settings refl s.settings_fit;
  new_sessions = s.new_sessions;
  new_pts = s.new_pts;
  new_rtx = s.new_rtx;
  new_fids = s.new_fids;
  next_items = s.next_items;
  closed = closed_by_items f.flushes f.items s.flushes none;
  few_fids = s.few_fids;
  few_items = s.few_items;
}

-- the same of a script that is made of their parts
pub script_of_parts : (f : Facts) (pts : List PtLine) (rtx : List RtxLine) (settings : ScriptSettings) → IsSound f → last_open f.flushes ≡ None
    → pts ≡ f.pts → rtx ≡ f.rtx → settings ≡ settings_of f.settings
    → IsScript (record { sessions = f.sessions; pts = pts; rtx = rtx; fids = f.fids; items = f.items; settings = settings })
script_of_parts f pts rtx settings s none a b c =
    let e : contents_of f ≡ record { sessions = f.sessions; pts = pts; rtx = rtx; fids = f.fids; items = f.items; settings = settings } = cc in
    subst IsScript e (script_of_sound f s none)

-- A script that was written is read.
use Rattle.std.proofs.Common.{◌≡◌, ◌≤◌, ◌+◌, ℕ, List, [], ◌∷◌, ◌++◌, length, map, Bool, true, false, ◌&&◌, ◌||◌, not, cond, Option, Some, None, Ok, sym, ◌∙◌, ap, subst, refl, arith, append_assoc, append-nil, length-append, nat_le, nat_eq, codes}
use Rattle.std.specs.List.{list_all}
use Rattle.std.specs.Option.{is_some}
use Rattle.std.proofs.lemmas.Bool.{leb-true, lt-leb}
use Rattle.std.proofs.lemmas.List.Folds.{list_all-map}
use Rattle.std.proofs.lemmas.Grind.{flat_map-append}
use Rattle.rtp_units.specs.declared.shared.RtxLine.{RtxLine}
use Rattle.rtp_units.specs.declared.shared.Fid.{Fid}
use Rattle.script_lang.specs.declared.script.SessionLine.{SessionLine}
use Rattle.script_lang.specs.declared.script.PtLine.{PtLine}
use Rattle.script_lang.specs.declared.script.Item.{Item}
use Rattle.script_lang.specs.declared.script.Action.{Action}
use Rattle.script_lang.specs.declared.script.Action.TheVariants as action
use Rattle.script_lang.specs.declared.setting.Setting.{Setting}
use Rattle.script_lang.specs.declared.entry.Entry.{Entry}
use Rattle.script_lang.specs.declared.entry.Entry.TheVariants as entry
use Rattle.script_lang.specs.Causes.{◌>>=◌}
use Rattle.script_lang.specs.Text.{lines_of, words_of, is_text}
use Rattle.script_lang.specs.Settings.{setting_fits, settings_list, is_time_within}
use Rattle.script_lang.specs.Entries.{session_fits, pt_fits, rtx_fits, fid_fits, item_fits, action_fits, entry_fits}
use Rattle.script_lang.specs.Facts.{Placed, Facts, facts_of, session_numbers}
use Rattle.script_lang.specs.Tests.{cause_of, is_declared, has_port, has_pt, has_rtx, has_ssrc, has_later, is_set, action_lacks_session, action_fails_flush}
use Rattle.script_lang.specs.Contents.{Contents, contents_of, IsScript, each_behind, is_new_session, is_new_pt, is_new_rtx, is_new_fid, is_next_item, action_alternates, flushes_behind}
use Rattle.script_lang.specs.Grammar.{line_behind, lines_behind, go_on, last_open, closed, read_script, unless_open}
use Rattle.script_lang.specs.Reading.{with_entry, flushes_behind_action}
use Rattle.script_lang.specs.Written.{entry_text, lines_text, entries_of, script_text}
use Rattle.script_lang.proofs.BoolLemmas.{both_true, true_both, not_is}
use Rattle.script_lang.proofs.FlushLemmas.{within_seven, flushes_keep, is_flushing_by_items}
use Rattle.script_lang.proofs.GrammarLemmas.{facts_with, not_too_long}
use Rattle.script_lang.proofs.WordLemmas.{lines_again}
use Rattle.script_lang.proofs.EntryLemmas.{is_out_of_order, line_again, text_fits}

-- ---- entries that pass one after the other, and what holds of the facts behind them

abbrev Good : (Facts → Type 0) → Facts → ℕ → List Entry → Type 0
Good P f n [] = P f
Good P f n (e ∷ es) = (entry_fits e ≡ true) × (cause_of f e ≡ None) × (is_out_of_order f e ≡ false) × Good P (with_entry f n e) (n + 1) es

record Read (P : Facts → Type 0) (n : ℕ) (placed : List Placed) (es : List Entry) : Type 0 where
  all : List Placed
  lines : lines_behind n placed (map entry_text es ++ [] ∷ []) ≡ Ok all
  holds : P (facts_of all)

empty_line : (f : Facts) → line_behind f [] ≡ Ok None
unfolding line_behind words_of
empty_line f = refl

lines_good : (P : Facts → Type 0) (n : ℕ) (placed : List Placed) (f : Facts) (es : List Entry) → f ≡ facts_of placed → Good P f n es → Read P n placed es
unfolding lines_behind
lines_good P n placed f [] e g = record {
  all = placed;
  lines = ap (go_on (λ p. lines_behind (n + 1) p []) n placed) (empty_line (facts_of placed));
  holds = subst P e g;
}
lines_good P n placed f (k ∷ es) e g =
    let said : line_behind (facts_of placed) (entry_text k) ≡ Ok (Some k) = ap (λ f. line_behind f (entry_text k)) (sym e) ∙ line_again f k g.0 g.1 g.2 in
    let r = lines_good P (n + 1) (placed ++ record { line = n; entry = k } ∷ []) (with_entry f n k) es (ap (λ f. with_entry f n k) e ∙ sym (facts_with placed n k g.0)) g.3 in
    record {
      all = r.all;
      lines = ap (go_on (λ p. lines_behind (n + 1) p (map entry_text es ++ [] ∷ [])) n placed) said ∙ r.lines;
      holds = r.holds;
    }

good_fits : (P : Facts → Type 0) (f : Facts) (n : ℕ) (es : List Entry) → Good P f n es → list_all (λ e. is_text (entry_text e)) es ≡ true
good_fits P f n [] g = refl
good_fits P f n (e ∷ es) g = true_both _ _ (text_fits e g.0) (good_fits P (with_entry f n e) (n + 1) es g.3)

-- ---- what a line has against it that is new among those before it

none_cond : {A : Type 0} (b : Bool) (x : A) (rest : Option A) → b ≡ false → rest ≡ None → cond b (Some x) rest ≡ None
none_cond b x rest h k = ap (λ c. cond c (Some x) rest) h ∙ k

neither : (a b : Bool) → a ≡ false → b ≡ false → (a || b) ≡ false
neither a b h k = ap (λ c. c || b) h ∙ k

declared_not : (b : Bool) → b ≡ true → not b ≡ false
declared_not b h = ap not h

session_cause : (f : Facts) (l : SessionLine) → is_new_session f.sessions l ≡ true → cause_of f (entry.Session l) ≡ None
unfolding cause_of
session_cause f l h =
    let a = both_true (not (is_declared f.sessions l.session) && not (has_port f.sessions l.rtp)) (not (has_port f.sessions l.rtcp)) h in
    let b = both_true (not (is_declared f.sessions l.session)) (not (has_port f.sessions l.rtp)) a.0 in
    none_cond _ _ _ (not_is _ b.0) (none_cond _ _ _ (neither _ _ (not_is _ b.1) (not_is _ a.1)) refl)

pt_cause : (f : Facts) (l : PtLine) → is_new_pt f.sessions f.pts l ≡ true → has_rtx f.rtx l.session l.pt ≡ false → cause_of f (entry.Pt l) ≡ None
unfolding cause_of
pt_cause f l h k =
    let a = both_true (is_declared f.sessions l.session) (not (has_pt f.pts l.session l.pt)) h in
    none_cond _ _ _ (declared_not _ a.0) (none_cond _ _ _ (neither _ _ (not_is _ a.1) k) refl)

rtx_cause : (f : Facts) (l : RtxLine) → is_new_rtx f.sessions f.pts f.rtx l ≡ true → cause_of f (entry.Rtx l) ≡ None
unfolding cause_of
rtx_cause f l h =
    let a = both_true (is_declared f.sessions l.session && is_declared f.sessions l.osession && has_pt f.pts l.osession l.apt && not (has_pt f.pts l.session l.pt)) (not (has_rtx f.rtx l.session l.pt)) h in
    let b = both_true (is_declared f.sessions l.session && is_declared f.sessions l.osession && has_pt f.pts l.osession l.apt) (not (has_pt f.pts l.session l.pt)) a.0 in
    let c = both_true (is_declared f.sessions l.session && is_declared f.sessions l.osession) (has_pt f.pts l.osession l.apt) b.0 in
    let d = both_true (is_declared f.sessions l.session) (is_declared f.sessions l.osession) c.0 in
    none_cond _ _ _ (neither _ _ (declared_not _ d.0) (declared_not _ d.1))
    (none_cond _ _ _ (neither _ _ (neither _ _ (not_is _ b.1) (not_is _ a.1)) (declared_not _ c.1)) refl)

fid_cause : (f : Facts) (l : Fid) → is_new_fid f.sessions f.fids l ≡ true → nat_le 64 (length f.fids) ≡ false → cause_of f (entry.Fid l) ≡ None
unfolding cause_of
fid_cause f l h few =
    let a = both_true (is_declared f.sessions l.session && not (nat_eq l.ssrc l.rtx_ssrc) && not (has_ssrc f.fids l.session l.ssrc)) (not (has_ssrc f.fids l.session l.rtx_ssrc)) h in
    let b = both_true (is_declared f.sessions l.session && not (nat_eq l.ssrc l.rtx_ssrc)) (not (has_ssrc f.fids l.session l.ssrc)) a.0 in
    let c = both_true (is_declared f.sessions l.session) (not (nat_eq l.ssrc l.rtx_ssrc)) b.0 in
    none_cond _ _ _ (declared_not _ c.0)
    (none_cond _ _ _ (neither _ _ (neither _ _ (not_is _ c.1) (not_is _ b.1)) (not_is _ a.1)) (none_cond _ _ _ few refl))

setting_cause : (f : Facts) (k : Setting) → not (is_set f.settings k) ≡ true → cause_of f (entry.Setting k) ≡ None
unfolding cause_of
setting_cause f k h = none_cond _ _ _ (not_is _ h) refl

flush_in_turn : (flushes : List (Option ℕ)) (items : List Item) (a : Action) → action_fits a ≡ true → map is_some flushes ≡ map (flushes_behind items) session_numbers
    → action_alternates items a ≡ true → action_fails_flush flushes a ≡ false
flush_in_turn flushes items action.Clock fits e h = refl
flush_in_turn flushes items (action.Latency session ns) fits e h = refl
flush_in_turn flushes items (action.FlushStart session) fits e h = is_flushing_by_items flushes items session (within_seven session fits) e ∙ not_is _ h
flush_in_turn flushes items (action.FlushStop session) fits e h = declared_not _ (is_flushing_by_items flushes items session (within_seven session fits) e ∙ h)

item_cause : (f : Facts) (i : Item) → item_fits i ≡ true → map is_some f.flushes ≡ map (flushes_behind f.items) session_numbers
    → is_next_item f.sessions f.items i ≡ true → nat_le 100000 (length f.items) ≡ false → cause_of f (entry.Timed i) ≡ None
unfolding cause_of
item_cause f i fits e h few =
    let a = both_true (not (action_lacks_session f.sessions i.action) && not (has_later f.items i.time)) (action_alternates f.items i.action) h in
    let b = both_true (not (action_lacks_session f.sessions i.action)) (not (has_later f.items i.time)) a.0 in
    let inside : action_fits i.action ≡ true = (both_true (is_time_within 0 4294967295 i.time) (action_fits i.action) fits).1 in
    none_cond _ _ _ (not_is _ b.0) (none_cond _ _ _ (not_is _ b.1) (none_cond _ _ _ (flush_in_turn f.flushes f.items i.action inside e a.1) (none_cond _ _ _ few refl)))

-- a list is not full where one of its elements is behind these
not_full : {A : Type 0} (most : ℕ) (before : List A) (x : A) (xs : List A) → nat_le (length (before ++ (x ∷ xs))) most ≡ true → nat_le most (length before) ≡ false
not_full most before x xs h =
    let le : length (before ++ (x ∷ xs)) ≤ most = leb-true (length (before ++ (x ∷ xs))) most h in
    lt-leb most (length before) (omega (arith, length-append before (x ∷ xs)))

-- ---- the lines of each kind

abbrev facts : List SessionLine → List PtLine → List RtxLine → List Fid → List Setting → List Item → List (Option ℕ) → Facts
facts a b c d e i g = record { sessions = a; pts = b; rtx = c; fids = d; settings = e; items = i; flushes = g }

sessions_good : (P : Facts → Type 0) (g : List (Option ℕ)) (before ls : List SessionLine) (n : ℕ) (es : List Entry)
    → list_all session_fits ls ≡ true → each_behind is_new_session before ls ≡ true
    → ((m : ℕ) → Good P (facts (before ++ ls) [] [] [] [] [] g) m es) → Good P (facts before [] [] [] [] [] g) n (map entry.Session ls ++ es)
sessions_good P g before [] n es fits new rest = subst (λ b. Good P (facts b [] [] [] [] [] g) n es) (append-nil before) (rest n)
sessions_good P g before (l ∷ ls) n es fits new rest =
    let f = both_true (session_fits l) (list_all session_fits ls) fits in
    let e = both_true (is_new_session before l) (each_behind is_new_session (before ++ l ∷ []) ls) new in (
      f.0,
      session_cause (facts before [] [] [] [] [] g) l e.0,
      refl,
      sessions_good P g (before ++ l ∷ []) ls (n + 1) es f.1 e.1 (λ m. subst (λ b. Good P (facts b [] [] [] [] [] g) m es) (sym (append_assoc before (l ∷ []) ls)) (rest m)),
    )

pts_good : (P : Facts → Type 0) (g : List (Option ℕ)) (ss : List SessionLine) (before ls : List PtLine) (n : ℕ) (es : List Entry)
    → list_all pt_fits ls ≡ true → each_behind (is_new_pt ss) before ls ≡ true
    → ((m : ℕ) → Good P (facts ss (before ++ ls) [] [] [] [] g) m es) → Good P (facts ss before [] [] [] [] g) n (map entry.Pt ls ++ es)
pts_good P g ss before [] n es fits new rest = subst (λ b. Good P (facts ss b [] [] [] [] g) n es) (append-nil before) (rest n)
pts_good P g ss before (l ∷ ls) n es fits new rest =
    let f = both_true (pt_fits l) (list_all pt_fits ls) fits in
    let e = both_true (is_new_pt ss before l) (each_behind (is_new_pt ss) (before ++ l ∷ []) ls) new in (
      f.0,
      pt_cause (facts ss before [] [] [] [] g) l e.0 refl,
      refl,
      pts_good P g ss (before ++ l ∷ []) ls (n + 1) es f.1 e.1 (λ m. subst (λ b. Good P (facts ss b [] [] [] [] g) m es) (sym (append_assoc before (l ∷ []) ls)) (rest m)),
    )

rtx_good : (P : Facts → Type 0) (g : List (Option ℕ)) (ss : List SessionLine) (ps : List PtLine) (before ls : List RtxLine) (n : ℕ) (es : List Entry)
    → list_all rtx_fits ls ≡ true → each_behind (is_new_rtx ss ps) before ls ≡ true
    → ((m : ℕ) → Good P (facts ss ps (before ++ ls) [] [] [] g) m es) → Good P (facts ss ps before [] [] [] g) n (map entry.Rtx ls ++ es)
rtx_good P g ss ps before [] n es fits new rest = subst (λ b. Good P (facts ss ps b [] [] [] g) n es) (append-nil before) (rest n)
rtx_good P g ss ps before (l ∷ ls) n es fits new rest =
    let f = both_true (rtx_fits l) (list_all rtx_fits ls) fits in
    let e = both_true (is_new_rtx ss ps before l) (each_behind (is_new_rtx ss ps) (before ++ l ∷ []) ls) new in (
      f.0,
      rtx_cause (facts ss ps before [] [] [] g) l e.0,
      refl,
      rtx_good P g ss ps (before ++ l ∷ []) ls (n + 1) es f.1 e.1 (λ m. subst (λ b. Good P (facts ss ps b [] [] [] g) m es) (sym (append_assoc before (l ∷ []) ls)) (rest m)),
    )

fids_good : (P : Facts → Type 0) (g : List (Option ℕ)) (ss : List SessionLine) (ps : List PtLine) (rs : List RtxLine) (before ls : List Fid) (n : ℕ) (es : List Entry)
    → list_all fid_fits ls ≡ true → each_behind (is_new_fid ss) before ls ≡ true → nat_le (length (before ++ ls)) 64 ≡ true
    → ((m : ℕ) → Good P (facts ss ps rs (before ++ ls) [] [] g) m es) → Good P (facts ss ps rs before [] [] g) n (map entry.Fid ls ++ es)
fids_good P g ss ps rs before [] n es fits new few rest = subst (λ b. Good P (facts ss ps rs b [] [] g) n es) (append-nil before) (rest n)
fids_good P g ss ps rs before (l ∷ ls) n es fits new few rest =
    let f = both_true (fid_fits l) (list_all fid_fits ls) fits in
    let e = both_true (is_new_fid ss before l) (each_behind (is_new_fid ss) (before ++ l ∷ []) ls) new in (
      f.0,
      fid_cause (facts ss ps rs before [] [] g) l e.0 (not_full 64 before l ls few),
      refl,
      fids_good P g ss ps rs (before ++ l ∷ []) ls (n + 1) es f.1 e.1 (subst (λ b. nat_le (length b) 64 ≡ true) (sym (append_assoc before (l ∷ []) ls)) few)
          (λ m. subst (λ b. Good P (facts ss ps rs b [] [] g) m es) (sym (append_assoc before (l ∷ []) ls)) (rest m)),
    )

-- no name is set that was set before
abbrev is_fresh : List Setting → Setting → Bool
is_fresh before k = not (is_set before k)

settings_good : (P : Facts → Type 0) (g : List (Option ℕ)) (ss : List SessionLine) (ps : List PtLine) (rs : List RtxLine) (fs : List Fid) (before ks : List Setting) (n : ℕ) (es : List Entry)
    → list_all setting_fits ks ≡ true → each_behind is_fresh before ks ≡ true
    → ((m : ℕ) → Good P (facts ss ps rs fs (before ++ ks) [] g) m es) → Good P (facts ss ps rs fs before [] g) n (map entry.Setting ks ++ es)
settings_good P g ss ps rs fs before [] n es fits new rest = subst (λ b. Good P (facts ss ps rs fs b [] g) n es) (append-nil before) (rest n)
settings_good P g ss ps rs fs before (k ∷ ks) n es fits new rest =
    let f = both_true (setting_fits k) (list_all setting_fits ks) fits in
    let e = both_true (is_fresh before k) (each_behind is_fresh (before ++ k ∷ []) ks) new in (
      f.0,
      setting_cause (facts ss ps rs fs before [] g) k e.0,
      refl,
      settings_good P g ss ps rs fs (before ++ k ∷ []) ks (n + 1) es f.1 e.1 (λ m. subst (λ b. Good P (facts ss ps rs fs b [] g) m es) (sym (append_assoc before (k ∷ []) ks)) (rest m)),
    )

items_good : (P : Facts → Type 0) (ss : List SessionLine) (ps : List PtLine) (rs : List RtxLine) (fs : List Fid) (ks : List Setting) (g : List (Option ℕ)) (before is : List Item) (n : ℕ)
    → list_all item_fits is ≡ true → each_behind (is_next_item ss) before is ≡ true → nat_le (length (before ++ is)) 100000 ≡ true
    → map is_some g ≡ map (flushes_behind before) session_numbers
    → ((h : List (Option ℕ)) → map is_some h ≡ map (flushes_behind (before ++ is)) session_numbers → P (facts ss ps rs fs ks (before ++ is) h))
    → Good P (facts ss ps rs fs ks before g) n (map entry.Timed is)
items_good P ss ps rs fs ks g before [] n fits next few flushes rest =
    subst (λ b. P (facts ss ps rs fs ks b g)) (append-nil before) (rest g (flushes ∙ ap (λ b. map (flushes_behind b) session_numbers) (sym (append-nil before))))
items_good P ss ps rs fs ks g before (i ∷ is) n fits next few flushes rest =
    let f = both_true (item_fits i) (list_all item_fits is) fits in
    let e = both_true (is_next_item ss before i) (each_behind (is_next_item ss) (before ++ i ∷ []) is) next in
    let inside : action_fits i.action ≡ true = (both_true (is_time_within 0 4294967295 i.time) (action_fits i.action) f.0).1 in
    let assoc : (before ++ i ∷ []) ++ is ≡ before ++ (i ∷ is) = append_assoc before (i ∷ []) is in (
      f.0,
      item_cause (facts ss ps rs fs ks before g) i f.0 flushes e.0 (not_full 100000 before i is few),
      refl,
      items_good P ss ps rs fs ks (flushes_behind_action g n i.action) (before ++ i ∷ []) is (n + 1) f.1 e.1
          (subst (λ b. nat_le (length b) 100000 ≡ true) (sym assoc) few)
          (flushes_keep g before i.time n i.action inside flushes)
          (λ h k. subst (λ b. P (facts ss ps rs fs ks b h)) (sym assoc) (rest h (k ∙ ap (λ b. map (flushes_behind b) session_numbers) assoc))),
    )

-- ---- the script

-- no session flushes, so no flush is open
nothing_open : (flushes : List (Option ℕ)) → list_all not (map is_some flushes) ≡ true → last_open flushes ≡ None
nothing_open [] h = refl
nothing_open (None ∷ flushes) h = nothing_open flushes h
nothing_open (Some line ∷ flushes) h = absurd (false_true h)
  where
    false_true : false ≡ true → ⊥
    false_true e = cc

abbrev Makes : Contents → Facts → Type 0
Makes c f = (contents_of f ≡ c) × (last_open f.flushes ≡ None)

regroup : {A : Type 0} (a b c d e f : List A) → ((((a ++ b) ++ c) ++ d) ++ e) ++ f ≡ a ++ (b ++ (c ++ (d ++ (e ++ f))))
regroup a b c d e f = simp append_assoc

script_good : (c : Contents) → IsScript c → Good (Makes c) (facts_of []) 1 (entries_of c)
unfolding facts_of
script_good c s =
    let none : List (Option ℕ) = None ∷ None ∷ None ∷ None ∷ None ∷ None ∷ None ∷ None ∷ [] in
    subst (Good (Makes c) (facts [] [] [] [] [] [] none) 1)
    (sym (regroup (map entry.Session c.sessions) (map entry.Pt c.pts) (map entry.Rtx c.rtx) (map entry.Fid c.fids) (map entry.Setting (settings_list c.settings)) (map entry.Timed c.items)))
    (sessions_good (Makes c) none [] c.sessions 1 _ s.sessions_fit s.new_sessions
    (λ n1. pts_good (Makes c) none c.sessions [] c.pts n1 _ s.pts_fit s.new_pts
    (λ n2. rtx_good (Makes c) none c.sessions c.pts [] c.rtx n2 _ s.rtx_fit s.new_rtx
    (λ n3. fids_good (Makes c) none c.sessions c.pts c.rtx [] c.fids n3 _ s.fids_fit s.new_fids s.few_fids
    (λ n4. settings_good (Makes c) none c.sessions c.pts c.rtx c.fids [] (settings_list c.settings) n4 _ s.settings_fit refl
    (λ n5. items_good (Makes c) c.sessions c.pts c.rtx c.fids (settings_list c.settings) none [] c.items n5 s.items_fit s.next_items s.few_items refl
    (λ h k. (refl, nothing_open h (ap (list_all not) k ∙ list_all-map not (flushes_behind c.items) session_numbers ∙ s.closed)))))))))

pub script_again : (c : Contents) → IsScript c → length (script_text c) ≤ 1048576 → read_script (script_text c) ≡ Ok c
unfolding script_text closed
script_again c s short =
    let good = script_good c s in
    let r = lines_good (Makes c) 1 [] (facts_of []) (entries_of c) refl good in
    let lines : lines_of (script_text c) ≡ map entry_text (entries_of c) ++ [] ∷ [] = lines_again (entries_of c) (good_fits (Makes c) (facts_of []) 1 (entries_of c) good) in
    not_too_long (script_text c) short ∙ ap (λ ls. lines_behind 1 [] ls >>= λ placed. closed (facts_of placed)) lines
    ∙ ap (λ l. l >>= λ placed. closed (facts_of placed)) r.lines
    ∙ ap (λ o. unless_open o (contents_of (facts_of r.all))) r.holds.1 ∙ ap (λ k. Ok k) r.holds.0

-- ---- the text

-- the texts of the parts, one after the other
pub all_written : (c : Contents) (ss : List SessionLine) (ps : List PtLine) (rs : List RtxLine) (fs : List Fid) (ks : List Setting) (is : List Item) (t1 t2 t3 t4 t5 t6 : List ℕ)
    → ss ≡ c.sessions → ps ≡ c.pts → rs ≡ c.rtx → fs ≡ c.fids → ks ≡ settings_list c.settings → is ≡ c.items
    → t1 ≡ lines_text (map entry.Session ss) → t2 ≡ t1 ++ lines_text (map entry.Pt ps) → t3 ≡ t2 ++ lines_text (map entry.Rtx rs) → t4 ≡ t3 ++ lines_text (map entry.Fid fs)
    → t5 ≡ t4 ++ lines_text (map entry.Setting ks) → t6 ≡ t5 ++ lines_text (map entry.Timed is) → t6 ≡ script_text c
unfolding script_text
all_written c ss ps rs fs ks is t1 t2 t3 t4 t5 t6 a b d e f g u1 u2 u3 u4 u5 u6 =
    let line : Entry → List ℕ = λ k. entry_text k ++ codes "\n" in
    let s = map entry.Session c.sessions in
    let p = map entry.Pt c.pts in
    let r = map entry.Rtx c.rtx in
    let x = map entry.Fid c.fids in
    let k = map entry.Setting (settings_list c.settings) in
    let v1 : t1 ≡ lines_text s = u1 ∙ ap (λ l. lines_text (map entry.Session l)) a in
    let v2 : t2 ≡ lines_text (s ++ p) = u2 ∙ ap (λ t. t ++ lines_text (map entry.Pt ps)) v1 ∙ ap (λ l. lines_text s ++ lines_text (map entry.Pt l)) b ∙ sym (flat_map-append line s p) in
    let v3 : t3 ≡ lines_text ((s ++ p) ++ r) = u3 ∙ ap (λ t. t ++ lines_text (map entry.Rtx rs)) v2 ∙ ap (λ l. lines_text (s ++ p) ++ lines_text (map entry.Rtx l)) d ∙ sym (flat_map-append line (s ++ p) r) in
    let v4 : t4 ≡ lines_text (((s ++ p) ++ r) ++ x) =
    u4 ∙ ap (λ t. t ++ lines_text (map entry.Fid fs)) v3 ∙ ap (λ l. lines_text ((s ++ p) ++ r) ++ lines_text (map entry.Fid l)) e ∙ sym (flat_map-append line ((s ++ p) ++ r) x) in
    let v5 : t5 ≡ lines_text ((((s ++ p) ++ r) ++ x) ++ k) =
    u5 ∙ ap (λ t. t ++ lines_text (map entry.Setting ks)) v4 ∙ ap (λ l. lines_text (((s ++ p) ++ r) ++ x) ++ lines_text (map entry.Setting l)) f ∙ sym (flat_map-append line (((s ++ p) ++ r) ++ x) k) in
    u6 ∙ ap (λ t. t ++ lines_text (map entry.Timed is)) v5 ∙ ap (λ l. lines_text ((((s ++ p) ++ r) ++ x) ++ k) ++ lines_text (map entry.Timed l)) g
    ∙ sym (flat_map-append line ((((s ++ p) ++ r) ++ x) ++ k) (map entry.Timed c.items))

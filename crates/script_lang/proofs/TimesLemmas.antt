-- Reading settings and timed lines line by line, behind sessions that stand elsewhere.
use Rattle.std.proofs.Common.{◌≡◌, ◌<◌, ◌≤◌, ◌+◌, ℕ, List, [], ◌∷◌, ◌++◌, length, map, Bool, true, false, not, ◌&&◌, ◌||◌, Option, Some, None, Result, Ok, Err, sym, ◌∙◌, ap, subst, refl, arith, nat_lt, if◌then◌else◌}
use Rattle.std.specs.Prelude.{IfOk, IfSome, IsTrue}
use Rattle.std.specs.List.{list_all, cons_option, filter_map}
use Rattle.std.specs.Borrow.{Bor}
use Rattle.std.proofs.lemmas.Bool.{lt-ltb, le-ltb}
use Rattle.script_lang.specs.declared.fault.ScriptCause.{ScriptCause}
use Rattle.script_lang.specs.declared.fault.ScriptCause.TheVariants as cause
use Rattle.script_lang.specs.declared.fault.ScriptFault.{ScriptFault}
use Rattle.script_lang.specs.declared.fault.ScriptFault.TheVariants.{Bad, OutOfMemory}
use Rattle.script_lang.specs.declared.script.SessionLine.{SessionLine}
use Rattle.script_lang.specs.declared.entry.Entry.{Entry}
use Rattle.script_lang.specs.declared.entry.Entry.TheVariants as entry
use Rattle.script_lang.specs.Causes.{◌>>=◌}
use Rattle.script_lang.specs.Text.{lines_of, words_of, is_passed_over, is_text}
use Rattle.script_lang.specs.Forms.{WrittenLine, Session, Pt, Rtx, Fid as FidForm, Setting, At, form_of, is_timed}
use Rattle.script_lang.specs.Settings.{setting_of}
use Rattle.script_lang.specs.Entries.{session_fits, as_entry, item_of, entry_of}
use Rattle.script_lang.specs.Tests.{cause_of}
use Rattle.script_lang.specs.Contents.{Contents, contents_of, each_behind, is_new_session}
use Rattle.script_lang.specs.Facts.{Placed, Facts, facts_of, of_kind, as_session, as_pt, as_rtx, as_fid, as_setting, as_item, flush_by, flush_of, session_numbers}
use Rattle.script_lang.specs.Grammar.{line_behind, entry_in_line, entry_of_form, unless, with_line, go_on, unless_open, last_open, closed}
use Rattle.script_lang.specs.Reading.{with_entry, with_optional, lines_left, AfterLine, Answers}
use Rattle.script_lang.specs.Sound.{IsSound}
use Rattle.script_lang.specs.Times.{is_of_times, has_place, times_line_behind, times_behind, declared_before, facts_before, script_of_times}
use Rattle.script_lang.proofs.GrammarLemmas.{size_left, less_left, chosen_ok, unless_ok, with_line_facts}
use Rattle.script_lang.proofs.BoolLemmas.{bind_ok}

-- ---- the sessions alone

sessions_said : (sessions : List SessionLine) → of_kind as_session (declared_before sessions) ≡ sessions
sessions_said [] = refl
sessions_said (l ∷ sessions) = ap (λ ls. l ∷ ls) (sessions_said sessions)

none_said : {A : Type 0} (as_kind : Entry → Option A) → ((l : SessionLine) → as_kind (entry.Session l) ≡ None) → (sessions : List SessionLine) → of_kind as_kind (declared_before sessions) ≡ []
none_said as_kind none [] = refl
none_said as_kind none (l ∷ sessions) = ap (λ o. cons_option o (of_kind as_kind (declared_before sessions))) (none l) ∙ none_said as_kind none sessions

none_flushing : (session : ℕ) (sessions : List SessionLine) → flush_of (declared_before sessions) session ≡ None
none_flushing session [] = refl
none_flushing session (l ∷ sessions) = none_flushing session sessions

pub facts_are : (sessions : List SessionLine) → facts_before sessions ≡ facts_of (declared_before sessions)
unfolding facts_of
facts_are sessions =
    let s = sessions_said sessions in
    let a = none_said as_pt (λ l. refl) sessions in
    let b = none_said as_rtx (λ l. refl) sessions in
    let c = none_said as_fid (λ l. refl) sessions in
    let d = none_said as_setting (λ l. refl) sessions in
    let e = none_said as_item (λ l. refl) sessions in
    let f : (n : ℕ) → flush_of (declared_before sessions) n ≡ None = λ n. none_flushing n sessions in
    let zero' = f 0 in let one = f 1 in let two = f 2 in let three = f 3 in let four = f 4 in let five = f 5 in let six = f 6 in let seven = f 7 in
    cc

sound_before : (sessions : List SessionLine) → list_all session_fits sessions ≡ true → each_behind is_new_session [] sessions ≡ true → IsSound (facts_before sessions)
sound_before sessions fit new = record {
  sessions_fit = fit;
  pts_fit = refl;
  rtx_fit = refl;
  fids_fit = refl;
  items_fit = refl;
  settings_fit = refl;
  new_sessions = new;
  new_pts = refl;
  new_rtx = refl;
  new_fids = refl;
  next_items = refl;
  flushes = refl;
  few_fids = refl;
  few_items = refl;
}

-- ---- reading so far

-- The draft stands for lines that passed, and the lines that are left lead to what all lines lead to.
pub record TimesSoFar (draft : Facts) (number : ℕ) (left : Option (Bor (List ℕ))) (sessions : List SessionLine) (bytes : List ℕ) : Type 0 where
  pub placed : List Placed
  pub stands : draft ≡ facts_of placed
  pub sound : IsSound draft
  pub kept : draft.sessions ≡ sessions
  pub onward : times_behind (number + 1) placed (lines_left left) ≡ times_behind 1 (declared_before sessions) (lines_of bytes)
  pub count : number + size_left left ≤ length bytes + 1

pub nothing_timed : (bytes : Bor (List ℕ)) (sessions : List SessionLine) (draft : Facts) → draft ≡ facts_before sessions
    → list_all session_fits sessions ≡ true → each_behind is_new_session [] sessions ≡ true → TimesSoFar draft 0 (Some bytes) sessions bytes.now
nothing_timed bytes sessions draft e fit new = record {
  placed = declared_before sessions;
  stands = e ∙ facts_are sessions;
  sound = subst IsSound (sym e) (sound_before sessions fit new);
  kept = ap (λ f. f.sessions) e;
  onward = refl;
  count = omega arith;
}

same_entry : (x e : Entry) → ◌≡◌ {A = Result (Option Entry) ScriptCause} (Ok (Some x)) (Ok (Some e)) → x ≡ e
same_entry x e h = cc

placed_ok : (b : Bool) (r : Result (Option Entry) ScriptCause) (e : Option Entry) → (if b then r else Err cause.Word) ≡ Ok e → r ≡ Ok e
placed_ok true r e h = h
placed_ok false r e h = absurd (cc)

line_ok : (f : Facts) (line : List ℕ) (e : Option Entry) → times_line_behind f line ≡ Ok e → line_behind f line ≡ Ok e
unfolding times_line_behind
line_ok f line e h = placed_ok (has_place line) (line_behind f line) e h

-- what a setting or a timed line says is no session
as_made : {A : Type 0} (make : A → Entry) (r : Result A ScriptCause) (e : Entry) → ((x : A) → as_session (make x) ≡ None) → as_entry make r ≡ Ok e → as_session e ≡ None
as_made make (Ok x) e none h = let is : make x ≡ e = cc in sym (ap as_session is) ∙ none x
as_made make (Err c) e none h = absurd (cc)

form_says : (f : Facts) (line : WrittenLine) (e : Entry) → ((x : Entry) → entry_of line ≡ Ok x → as_session x ≡ None) → entry_of_form f (Some line) ≡ Ok e → as_session e ≡ None
unfolding entry_of_form
form_says f line e none h =
    let r = chosen_ok (not (is_timed line) && nat_lt 0 (length f.items)) cause.Order _ e h in
    let b = bind_ok (entry_of line) (λ entry. unless (cause_of f entry) entry) e r in
    let u = unless_ok (cause_of f b.0) b.0 e b.2 in
    sym (ap as_session u.1) ∙ none b.0 b.1

times_form_says : (f : Facts) (form : Option WrittenLine) (e : Entry) → is_of_times form ≡ true → entry_of_form f form ≡ Ok e → as_session e ≡ None
unfolding entry_of
times_form_says f None e h k = absurd (cc)
times_form_says f (Some (Session a b c)) e h k = absurd (cc)
times_form_says f (Some (Pt a b c)) e h k = absurd (cc)
times_form_says f (Some (Rtx a b c d)) e h k = absurd (cc)
times_form_says f (Some (FidForm a b c)) e h k = absurd (cc)
times_form_says f (Some (Setting name value)) e h k = form_says f (Setting name value) e (λ x is. as_made entry.Setting (setting_of name value) x (λ _. refl) is) k
times_form_says f (Some (At time action)) e h k = form_says f (At time action) e (λ x is. as_made entry.Timed (item_of time action) x (λ _. refl) is) k

text_says : (b : Bool) (f : Facts) (form : Option WrittenLine) (e : Entry) → (not b || is_of_times form) ≡ true → (if b then entry_of_form f form else Err cause.Text) ≡ Ok e → as_session e ≡ None
text_says true f form e h k = times_form_says f form e h k
text_says false f form e h k = absurd (cc)

line_says : (b : Bool) (f : Facts) (line : List ℕ) (e : Entry) → (b || not (is_text line) || is_of_times (form_of (words_of line))) ≡ true
    → (if b then Ok None else (entry_in_line f line (words_of line) >>= λ entry. Ok (Some entry))) ≡ Ok (Some e) → as_session e ≡ None
unfolding entry_in_line
line_says true f line e h k = absurd (cc)
line_says false f line e h k =
    let b = bind_ok (entry_in_line f line (words_of line)) (λ entry. Ok (Some entry)) (Some e) k in
    let is : b.0 ≡ e = same_entry b.0 e b.2 in
    ap as_session (sym is) ∙ text_says (is_text line) f (form_of (words_of line)) b.0 h b.1

placed_says : (b : Bool) (r : Result (Option Entry) ScriptCause) (e : Option Entry) → (if b then r else Err cause.Word) ≡ Ok e → (b ≡ true) × (r ≡ Ok e)
placed_says true r e h = (refl, h)
placed_says false r e h = absurd (cc)

entry_keeps : (f : Facts) (n : ℕ) (e : Entry) → as_session e ≡ None → (with_entry f n e).sessions ≡ f.sessions
entry_keeps f n (entry.Session l) h = absurd (cc)
entry_keeps f n (entry.Pt l) h = refl
entry_keeps f n (entry.Rtx l) h = refl
entry_keeps f n (entry.Fid l) h = refl
entry_keeps f n (entry.Setting s) h = refl
entry_keeps f n (entry.Timed i) h = refl

sessions_keep : (f : Facts) (line : List ℕ) (n : ℕ) (e : Option Entry) → times_line_behind f line ≡ Ok e → (with_optional f n e).sessions ≡ f.sessions
unfolding times_line_behind line_behind
sessions_keep f line n None h = refl
sessions_keep f line n (Some e) h =
    let p = placed_says (has_place line) (line_behind f line) (Some e) h in
    entry_keeps f n e (line_says (is_passed_over (words_of line)) f line e p.0 p.1)

pub times_line_read : (draft new : Facts) (number : ℕ) (text : Bor (List ℕ)) (behind : Option (Bor (List ℕ))) (sessions : List SessionLine) (bytes line : List ℕ)
    → TimesSoFar draft number (Some text) sessions bytes → lines_of text.now ≡ line ∷ lines_left behind → IfSome behind (λ rest. length rest.now < length text.now)
    → (e : Option Entry) → times_line_behind draft line ≡ Ok e → new ≡ with_optional draft (number + 1) e
    → TimesSoFar new (number + 1) behind sessions bytes
unfolding times_behind
times_line_read draft new number text behind sessions bytes line r first shorter e said is =
    let w = with_line_facts r.placed draft new (number + 1) line e r.stands r.sound (line_ok draft line e said) is in
    let here : times_line_behind (facts_of r.placed) line ≡ Ok e = ap (λ f. times_line_behind f line) (sym r.stands) ∙ said in
    let split : times_behind (number + 1) r.placed (line ∷ lines_left behind) ≡ times_behind 1 (declared_before sessions) (lines_of bytes) = ap (times_behind (number + 1) r.placed) (sym first) ∙ r.onward in
    record {
      placed = with_line (number + 1) r.placed e;
      stands = w.0;
      sound = w.1;
      kept = ap (λ f. f.sessions) is ∙ sessions_keep draft line (number + 1) e said ∙ r.kept;
      onward = sym (ap (go_on (λ placed. times_behind (number + 1 + 1) placed (lines_left behind)) (number + 1) r.placed) here) ∙ split;
      count = less_left text behind number (length bytes) shorter r.count;
    }

times_line_failed : (draft : Facts) (number : ℕ) (text : Bor (List ℕ)) (behind : Option (Bor (List ℕ))) (sessions : List SessionLine) (bytes line : List ℕ) (c : ScriptCause)
    → TimesSoFar draft number (Some text) sessions bytes → lines_of text.now ≡ line ∷ lines_left behind → times_line_behind draft line ≡ Err c
    → times_behind 1 (declared_before sessions) (lines_of bytes) ≡ Err (Bad (number + 1) c)
unfolding times_behind
times_line_failed draft number text behind sessions bytes line c r first said =
    let here : times_line_behind (facts_of r.placed) line ≡ Err c = ap (λ f. times_line_behind f line) (sym r.stands) ∙ said in
    let split : times_behind (number + 1) r.placed (line ∷ lines_left behind) ≡ times_behind 1 (declared_before sessions) (lines_of bytes) = ap (times_behind (number + 1) r.placed) (sym first) ∙ r.onward in
    sym split ∙ ap (go_on (λ placed. times_behind (number + 1 + 1) placed (lines_left behind)) (number + 1) r.placed) here

-- ---- the whole text

open_keeps : (o : Option ℕ) (f : Facts) (c : Contents) → unless_open o (contents_of f) ≡ Ok c → c.sessions ≡ f.sessions
open_keeps None f c e = let is : contents_of f ≡ c = cc in sym (ap (λ x. x.sessions) is)
open_keeps (Some line) f c e = absurd (cc)

pub times_too_long : (sessions : List SessionLine) (bytes : List ℕ) → 1048576 < length bytes → script_of_times sessions bytes ≡ Err (Bad 0 cause.Size)
unfolding script_of_times
times_too_long sessions bytes h = ap (λ b. if b then Err (Bad 0 cause.Size) else (times_behind 1 (declared_before sessions) (lines_of bytes) >>= λ placed. closed (facts_of placed))) (lt-ltb 1048576 (length bytes) h)

short_enough : (sessions : List SessionLine) (bytes : List ℕ) → length bytes ≤ 1048576 → script_of_times sessions bytes ≡ (times_behind 1 (declared_before sessions) (lines_of bytes) >>= λ placed. closed (facts_of placed))
unfolding script_of_times
short_enough sessions bytes h = ap (λ b. if b then Err (Bad 0 cause.Size) else (times_behind 1 (declared_before sessions) (lines_of bytes) >>= λ placed. closed (facts_of placed))) (le-ltb 1048576 (length bytes) h)

pub all_times_read : (draft : Facts) (number : ℕ) (sessions : List SessionLine) (bytes : List ℕ) → length bytes ≤ 1048576 → TimesSoFar draft number None sessions bytes
    → script_of_times sessions bytes ≡ closed draft
unfolding times_behind
all_times_read draft number sessions bytes h r =
    short_enough sessions bytes h ∙ ap (λ l. l >>= λ placed. closed (facts_of placed)) (sym r.onward) ∙ ap closed (sym r.stands)

pub times_failed_at : (fault : ScriptFault) (draft new : Facts) (number : ℕ) (text : Bor (List ℕ)) (behind : Option (Bor (List ℕ))) (sessions : List SessionLine) (bytes line : List ℕ) → length bytes ≤ 1048576
    → TimesSoFar draft number (Some text) sessions bytes → lines_of text.now ≡ line ∷ lines_left behind
    → AfterLine (Err fault) (times_line_behind draft line) (number + 1) draft new → Answers {A = Contents} (Err fault) (script_of_times sessions bytes)
times_failed_at (Bad n c) draft new number text behind sessions bytes line h r first after =
    short_enough sessions bytes h ∙ ap (λ l. l >>= λ placed. closed (facts_of placed)) (times_line_failed draft number text behind sessions bytes line c r first after.1) ∙ ap (λ k. Err (Bad k c)) (sym after.0)
times_failed_at OutOfMemory draft new number text behind sessions bytes line h r first after = tt

sessions_kept : (draft : Facts) (number : ℕ) (sessions : List SessionLine) (bytes : List ℕ) (c : Contents) → TimesSoFar draft number None sessions bytes → closed draft ≡ Ok c → c.sessions ≡ sessions
unfolding closed
sessions_kept draft number sessions bytes c r e = open_keeps (last_open draft.flushes) draft c e ∙ r.kept

pub finish_keeps : (r : Result Contents ScriptFault) (draft : Facts) (number : ℕ) (sessions : List SessionLine) (bytes : List ℕ) → TimesSoFar draft number None sessions bytes → Answers r (closed draft)
    → IfOk r (λ c. c.sessions ≡ sessions)
finish_keeps (Ok c) draft number sessions bytes r e = sessions_kept draft number sessions bytes c r e
finish_keeps (Err fault) draft number sessions bytes r e = tt

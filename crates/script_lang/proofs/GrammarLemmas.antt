-- Reading line by line is reading all lines.
use Rattle.std.proofs.Common.{◌≡◌, ◌<◌, ◌≤◌, ◌+◌, ℕ, List, [], ◌∷◌, ◌++◌, length, Bool, true, false, Option, Some, None, Result, Ok, Err, sym, ◌∙◌, ap, subst, refl, arith, append-nil, not, ◌&&◌, nat_lt, if◌then◌else◌}
use Rattle.std.specs.Prelude.{IfSome}
use Rattle.std.specs.List.{cons_option}
use Rattle.std.specs.Borrow.{Bor}
use Rattle.script_lang.specs.Text.{lines_of, words_of, is_text, is_passed_over}
use Rattle.script_lang.specs.Forms.{WrittenLine, form_of, is_timed}
use Rattle.script_lang.specs.Tests.{cause_of}
use Rattle.script_lang.specs.Causes.{◌>>=◌}
use Rattle.script_lang.specs.Contents.{Contents}
use Rattle.script_lang.specs.declared.fault.ScriptFault.TheVariants.{OutOfMemory}
use Rattle.script_lang.specs.declared.fault.ScriptCause.TheVariants as cause
use Rattle.script_lang.specs.Sound.{IsSound}
use Rattle.std.proofs.lemmas.Bool.{lt-ltb, le-ltb}
use Rattle.std.proofs.lemmas.List.Elements.{filter_map-append}
use Rattle.script_lang.specs.declared.fault.ScriptCause.{ScriptCause}
use Rattle.script_lang.specs.declared.fault.ScriptFault.{ScriptFault}
use Rattle.script_lang.specs.declared.fault.ScriptFault.TheVariants.{Bad}
use Rattle.rtp_units.specs.declared.shared.RtxLine.{RtxLine}
use Rattle.rtp_units.specs.declared.shared.Fid.{Fid}
use Rattle.script_lang.specs.declared.script.SessionLine.{SessionLine}
use Rattle.script_lang.specs.declared.script.PtLine.{PtLine}
use Rattle.script_lang.specs.declared.setting.Setting.{Setting}
use Rattle.script_lang.specs.declared.script.Item.{Item}
use Rattle.script_lang.specs.declared.entry.Entry.{Entry}
use Rattle.script_lang.specs.declared.entry.Entry.TheVariants as entry
use Rattle.script_lang.specs.Entries.{entry_of, entry_fits, action_fits}
use Rattle.script_lang.specs.Settings.{is_time_within}
use Rattle.script_lang.specs.Facts.{Placed, Facts, facts_of, of_kind, as_session, as_pt, as_rtx, as_fid, as_setting, as_item}
use Rattle.script_lang.specs.Grammar.{line_behind, entry_in_line, entry_of_form, unless, lines_behind, with_line, go_on, read_script, closed}
use Rattle.script_lang.specs.Reading.{with_entry, with_optional, lines_left, AfterLine, Answers}
use Rattle.script_lang.proofs.SoundLemmas.{sound_at_first, sound_with}
use Rattle.script_lang.proofs.BoolLemmas.{both_true, bind_ok}
use Rattle.script_lang.proofs.FitsLemmas.{entry_of_fits}
use Rattle.script_lang.proofs.FlushLemmas.{flush_of_timed, flush_of_other}

of_kind-kept : {A : Type 0} (as_kind : Entry → Option A) (placed : List Placed) (p : Placed) → as_kind p.entry ≡ None → of_kind as_kind (placed ++ p ∷ []) ≡ of_kind as_kind placed
of_kind-kept as_kind placed p h =
    filter_map-append (λ (q : Placed). as_kind q.entry) placed (p ∷ []) ∙ ap (λ o. of_kind as_kind placed ++ cons_option o []) h ∙ append-nil (of_kind as_kind placed)

of_kind-added : {A : Type 0} (as_kind : Entry → Option A) (placed : List Placed) (p : Placed) (x : A) → as_kind p.entry ≡ Some x
    → of_kind as_kind (placed ++ p ∷ []) ≡ of_kind as_kind placed ++ x ∷ []
of_kind-added as_kind placed p x h =
    filter_map-append (λ (q : Placed). as_kind q.entry) placed (p ∷ []) ∙ ap (λ o. of_kind as_kind placed ++ cons_option o []) h

-- facts with the same parts are the same
facts_same : {a a' : List SessionLine} {b b' : List PtLine} {c c' : List RtxLine} {d d' : List Fid} {e e' : List Setting} {f f' : List Item} {g g' : List (Option ℕ)}
    → a ≡ a' → b ≡ b' → c ≡ c' → d ≡ d' → e ≡ e' → f ≡ f' → g ≡ g'
    → ◌≡◌ {A = Facts} (record { sessions = a; pts = b; rtx = c; fids = d; settings = e; items = f; flushes = g })
    (record { sessions = a'; pts = b'; rtx = c'; fids = d'; settings = e'; items = f'; flushes = g' })
facts_same p q r s t u v = cc

-- the facts with one line more
pub facts_with : (placed : List Placed) (n : ℕ) (e : Entry) → entry_fits e ≡ true
    → facts_of (placed ++ record { line = n; entry = e } ∷ []) ≡ with_entry (facts_of placed) n e
unfolding facts_of
facts_with placed n (entry.Session l) h = facts_same
    (of_kind-added as_session placed (record { line = n; entry = entry.Session l }) l refl)
    (of_kind-kept as_pt placed (record { line = n; entry = entry.Session l }) refl)
    (of_kind-kept as_rtx placed (record { line = n; entry = entry.Session l }) refl)
    (of_kind-kept as_fid placed (record { line = n; entry = entry.Session l }) refl)
    (of_kind-kept as_setting placed (record { line = n; entry = entry.Session l }) refl)
    (of_kind-kept as_item placed (record { line = n; entry = entry.Session l }) refl)
    (flush_of_other placed (record { line = n; entry = entry.Session l }) refl)
facts_with placed n (entry.Pt l) h = facts_same
    (of_kind-kept as_session placed (record { line = n; entry = entry.Pt l }) refl)
    (of_kind-added as_pt placed (record { line = n; entry = entry.Pt l }) l refl)
    (of_kind-kept as_rtx placed (record { line = n; entry = entry.Pt l }) refl)
    (of_kind-kept as_fid placed (record { line = n; entry = entry.Pt l }) refl)
    (of_kind-kept as_setting placed (record { line = n; entry = entry.Pt l }) refl)
    (of_kind-kept as_item placed (record { line = n; entry = entry.Pt l }) refl)
    (flush_of_other placed (record { line = n; entry = entry.Pt l }) refl)
facts_with placed n (entry.Rtx l) h = facts_same
    (of_kind-kept as_session placed (record { line = n; entry = entry.Rtx l }) refl)
    (of_kind-kept as_pt placed (record { line = n; entry = entry.Rtx l }) refl)
    (of_kind-added as_rtx placed (record { line = n; entry = entry.Rtx l }) l refl)
    (of_kind-kept as_fid placed (record { line = n; entry = entry.Rtx l }) refl)
    (of_kind-kept as_setting placed (record { line = n; entry = entry.Rtx l }) refl)
    (of_kind-kept as_item placed (record { line = n; entry = entry.Rtx l }) refl)
    (flush_of_other placed (record { line = n; entry = entry.Rtx l }) refl)
facts_with placed n (entry.Fid l) h = facts_same
    (of_kind-kept as_session placed (record { line = n; entry = entry.Fid l }) refl)
    (of_kind-kept as_pt placed (record { line = n; entry = entry.Fid l }) refl)
    (of_kind-kept as_rtx placed (record { line = n; entry = entry.Fid l }) refl)
    (of_kind-added as_fid placed (record { line = n; entry = entry.Fid l }) l refl)
    (of_kind-kept as_setting placed (record { line = n; entry = entry.Fid l }) refl)
    (of_kind-kept as_item placed (record { line = n; entry = entry.Fid l }) refl)
    (flush_of_other placed (record { line = n; entry = entry.Fid l }) refl)
facts_with placed n (entry.Setting k) h = facts_same
    (of_kind-kept as_session placed (record { line = n; entry = entry.Setting k }) refl)
    (of_kind-kept as_pt placed (record { line = n; entry = entry.Setting k }) refl)
    (of_kind-kept as_rtx placed (record { line = n; entry = entry.Setting k }) refl)
    (of_kind-kept as_fid placed (record { line = n; entry = entry.Setting k }) refl)
    (of_kind-added as_setting placed (record { line = n; entry = entry.Setting k }) k refl)
    (of_kind-kept as_item placed (record { line = n; entry = entry.Setting k }) refl)
    (flush_of_other placed (record { line = n; entry = entry.Setting k }) refl)
facts_with placed n (entry.Timed i) h = facts_same
    (of_kind-kept as_session placed (record { line = n; entry = entry.Timed i }) refl)
    (of_kind-kept as_pt placed (record { line = n; entry = entry.Timed i }) refl)
    (of_kind-kept as_rtx placed (record { line = n; entry = entry.Timed i }) refl)
    (of_kind-kept as_fid placed (record { line = n; entry = entry.Timed i }) refl)
    (of_kind-kept as_setting placed (record { line = n; entry = entry.Timed i }) refl)
    (of_kind-added as_item placed (record { line = n; entry = entry.Timed i }) i refl)
    (flush_of_timed placed n i.time i.action (both_true (is_time_within 0 4294967295 i.time) (action_fits i.action) h).1)

-- ---- reading so far

-- how many bytes are left, and one more
abbrev pub size_left : Option (Bor (List ℕ)) → ℕ
size_left None = 0
size_left (Some text) = length text.now + 1

-- The draft stands for lines that passed, and the lines that are left lead to what all lines lead to.
pub record ReadSoFar (draft : Facts) (number : ℕ) (left : Option (Bor (List ℕ))) (bytes : List ℕ) : Type 0 where
  pub placed : List Placed
  pub stands : draft ≡ facts_of placed
  pub sound : IsSound draft
  pub onward : lines_behind (number + 1) placed (lines_left left) ≡ lines_behind 1 [] (lines_of bytes)
  pub count : number + size_left left ≤ length bytes + 1

pub nothing_read : (bytes : Bor (List ℕ)) (draft : Facts) → draft ≡ facts_of [] → ReadSoFar draft 0 (Some bytes) bytes.now
nothing_read bytes draft e = record {
  placed = [];
  stands = e;
  sound = subst IsSound (sym e) sound_at_first;
  onward = refl;
  count = omega arith;
}

-- ---- one line

no_ok : {A C : Type 0} (x : C) (k : A) → Err x ≡ Ok k → ⊥
no_ok x k h = cc

none_said : (r : Result (Option Entry) ScriptCause) (e : Entry) → r ≡ Ok None → r ≡ Ok (Some e) → ⊥
none_said r e h k = cc

same_said : (r : Result (Option Entry) ScriptCause) (x e : Entry) → r ≡ Ok (Some x) → r ≡ Ok (Some e) → x ≡ e
same_said r x e h k = cc

pub less_left : (text : Bor (List ℕ)) (behind : Option (Bor (List ℕ))) (n most : ℕ) → IfSome behind (λ rest. length rest.now < length text.now)
    → n + (length text.now + 1) ≤ most + 1 → n + 1 + size_left behind ≤ most + 1
less_left text None n most h k = omega arith
less_left text (Some rest) n most h k = omega arith

pub unless_ok : (c : Option ScriptCause) (e f : Entry) → unless c e ≡ Ok f → (c ≡ None) × (e ≡ f)
unless_ok None e f h = (refl, cc)
unless_ok (Some c) e f h = absurd (no_ok c f h)

pub chosen_ok : (b : Bool) (c : ScriptCause) (r : Result Entry ScriptCause) (e : Entry) → (if b then Err c else r) ≡ Ok e → r ≡ Ok e
chosen_ok true c r e h = absurd (no_ok c e h)
chosen_ok false c r e h = h

form_passes : (f : Facts) (line : Option WrittenLine) (e : Entry) → entry_of_form f line ≡ Ok e → (cause_of f e ≡ None) × (entry_fits e ≡ true)
unfolding entry_of_form
form_passes f None e h = absurd (no_ok cause.Word e h)
form_passes f (Some line) e h =
    let r = chosen_ok (not (is_timed line) && nat_lt 0 (length f.items)) cause.Order _ e h in
    let b = bind_ok (entry_of line) (λ entry. unless (cause_of f entry) entry) e r in
    let u = unless_ok (cause_of f b.0) b.0 e b.2 in
    subst (λ k. (cause_of f k ≡ None) × (entry_fits k ≡ true)) u.1 (u.0, entry_of_fits line b.0 b.1)

text_passes : (f : Facts) (line : List ℕ) (words : List (List ℕ)) (e : Entry) → entry_in_line f line words ≡ Ok e → (cause_of f e ≡ None) × (entry_fits e ≡ true)
unfolding entry_in_line
text_passes f line words e h = elim (is_text line) as (λ b. (if b then entry_of_form f (form_of words) else Err cause.Text) ≡ Ok e → (cause_of f e ≡ None) × (entry_fits e ≡ true)) [
  | true ↦ λ k. form_passes f (form_of words) e k
  | false ↦ λ k. absurd (no_ok cause.Text e k)
] h

line_passes : (f : Facts) (line : List ℕ) (e : Entry) → line_behind f line ≡ Ok (Some e) → (cause_of f e ≡ None) × (entry_fits e ≡ true)
unfolding line_behind
line_passes f line e h = elim (is_passed_over (words_of line)) as (λ b. (if b then Ok None else (entry_in_line f line (words_of line) >>= λ entry. Ok (Some entry))) ≡ Ok (Some e) → (cause_of f e ≡ None) × (entry_fits e ≡ true)) [
  | true ↦ λ k. absurd (none_said (Ok None) e refl k)
  | false ↦ λ k. let b = bind_ok (entry_in_line f line (words_of line)) (λ entry. Ok (Some entry)) (Some e) k in
      subst (λ k. (cause_of f k ≡ None) × (entry_fits k ≡ true)) (same_said (Ok (Some b.0)) b.0 e refl b.2) (text_passes f line (words_of line) b.0 b.1)
] h

-- a line that is not passed over says what its words say
pub line_said : (f : Facts) (line : List ℕ) (words : List (List ℕ)) (e : Entry) → words ≡ words_of line → is_passed_over words ≡ false → entry_in_line f line words ≡ Ok e
    → line_behind f line ≡ Ok (Some e)
unfolding line_behind
line_said f line words e w p h =
    ap (λ (ws : List (List ℕ)). if is_passed_over ws then Ok None else (entry_in_line f line ws >>= λ entry. Ok (Some entry))) (sym w)
    ∙ ap (λ b. if b then Ok None else (entry_in_line f line words >>= λ entry. Ok (Some entry))) p
    ∙ ap (λ r. r >>= λ entry. Ok (Some entry)) h

-- what a line said is taken up
pub with_line_facts : (placed : List Placed) (draft new : Facts) (n : ℕ) (line : List ℕ) (e : Option Entry) → draft ≡ facts_of placed → IsSound draft
    → line_behind draft line ≡ Ok e → new ≡ with_optional draft n e → (new ≡ facts_of (with_line n placed e)) × IsSound new
with_line_facts placed draft new n line None stands sound said is = (is ∙ stands, subst IsSound (sym is) sound)
with_line_facts placed draft new n line (Some e) stands sound said is =
    let p = line_passes draft line e said in
    (is ∙ ap (λ f. with_entry f n e) stands ∙ sym (facts_with placed n e p.1), subst IsSound (sym is) (sound_with draft n e sound p.0 p.1))

pub line_read : (draft new : Facts) (number : ℕ) (text : Bor (List ℕ)) (behind : Option (Bor (List ℕ))) (bytes line : List ℕ)
    → ReadSoFar draft number (Some text) bytes → lines_of text.now ≡ line ∷ lines_left behind → IfSome behind (λ rest. length rest.now < length text.now)
    → (e : Option Entry) → line_behind draft line ≡ Ok e → new ≡ with_optional draft (number + 1) e
    → ReadSoFar new (number + 1) behind bytes
unfolding lines_behind
line_read draft new number text behind bytes line r first shorter e said is =
    let w = with_line_facts r.placed draft new (number + 1) line e r.stands r.sound said is in
    let here : line_behind (facts_of r.placed) line ≡ Ok e = ap (λ f. line_behind f line) (sym r.stands) ∙ said in
    let split : lines_behind (number + 1) r.placed (line ∷ lines_left behind) ≡ lines_behind 1 [] (lines_of bytes) = ap (lines_behind (number + 1) r.placed) (sym first) ∙ r.onward in
    record {
      placed = with_line (number + 1) r.placed e;
      stands = w.0;
      sound = w.1;
      onward = sym (ap (go_on (λ placed. lines_behind (number + 1 + 1) placed (lines_left behind)) (number + 1) r.placed) here) ∙ split;
      count = less_left text behind number (length bytes) shorter r.count;
    }

pub line_failed : (draft : Facts) (number : ℕ) (text : Bor (List ℕ)) (behind : Option (Bor (List ℕ))) (bytes line : List ℕ) (c : ScriptCause)
    → ReadSoFar draft number (Some text) bytes → lines_of text.now ≡ line ∷ lines_left behind → line_behind draft line ≡ Err c
    → lines_behind 1 [] (lines_of bytes) ≡ Err (Bad (number + 1) c)
unfolding lines_behind
line_failed draft number text behind bytes line c r first said =
    let here : line_behind (facts_of r.placed) line ≡ Err c = ap (λ f. line_behind f line) (sym r.stands) ∙ said in
    let split : lines_behind (number + 1) r.placed (line ∷ lines_left behind) ≡ lines_behind 1 [] (lines_of bytes) = ap (lines_behind (number + 1) r.placed) (sym first) ∙ r.onward in
    sym split ∙ ap (go_on (λ placed. lines_behind (number + 1 + 1) placed (lines_left behind)) (number + 1) r.placed) here

-- ---- the whole script

pub too_long : (bytes : List ℕ) → 1048576 < length bytes → read_script bytes ≡ Err (Bad 0 cause.Size)
unfolding read_script
too_long bytes h = ap (λ b. if b then Err (Bad 0 cause.Size) else (lines_behind 1 [] (lines_of bytes) >>= λ placed. closed (facts_of placed))) (lt-ltb 1048576 (length bytes) h)

pub not_too_long : (bytes : List ℕ) → length bytes ≤ 1048576 → read_script bytes ≡ (lines_behind 1 [] (lines_of bytes) >>= λ placed. closed (facts_of placed))
unfolding read_script
not_too_long bytes h = ap (λ b. if b then Err (Bad 0 cause.Size) else (lines_behind 1 [] (lines_of bytes) >>= λ placed. closed (facts_of placed))) (le-ltb 1048576 (length bytes) h)

pub all_read : (draft : Facts) (number : ℕ) (bytes : List ℕ) → length bytes ≤ 1048576 → ReadSoFar draft number None bytes → read_script bytes ≡ closed draft
unfolding lines_behind
all_read draft number bytes h r =
    not_too_long bytes h ∙ ap (λ l. l >>= λ placed. closed (facts_of placed)) (sym r.onward) ∙ ap closed (sym r.stands)

pub some_bad : (draft : Facts) (number : ℕ) (bytes : List ℕ) (c : ScriptCause) → length bytes ≤ 1048576 → lines_behind 1 [] (lines_of bytes) ≡ Err (Bad number c)
    → read_script bytes ≡ Err (Bad number c)
some_bad draft number bytes c h e = not_too_long bytes h ∙ ap (λ l. l >>= λ placed. closed (facts_of placed)) e

-- a line that is bad ends the reading
pub failed_at : (fault : ScriptFault) (draft new : Facts) (number : ℕ) (text : Bor (List ℕ)) (behind : Option (Bor (List ℕ))) (bytes line : List ℕ) → length bytes ≤ 1048576
    → ReadSoFar draft number (Some text) bytes → lines_of text.now ≡ line ∷ lines_left behind
    → AfterLine (Err fault) (line_behind draft line) (number + 1) draft new → Answers {A = Contents} (Err fault) (read_script bytes)
failed_at (Bad n c) draft new number text behind bytes line h r first after =
    some_bad draft (number + 1) bytes c h (line_failed draft number text behind bytes line c r first after.1) ∙ ap (λ k. Err (Bad k c)) (sym after.0)
failed_at OutOfMemory draft new number text behind bytes line h r first after = tt

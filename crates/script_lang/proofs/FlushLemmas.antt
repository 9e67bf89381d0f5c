-- The flushes of the eight sessions, by lines and by items.
use Rattle.std.proofs.Common.{◌≡◌, ◌≤◌, ℕ, suc, zero, List, [], ◌∷◌, ◌++◌, map, get_or, true, false, not, Option, Some, None, sym, ◌∙◌, ap, refl, arith, nat_eq, nat_le, if◌then◌else◌}
use Rattle.std.specs.Prelude.{slice_set, slice_index_or}
use Rattle.std.specs.Option.{is_some}
use Rattle.std.specs.List.{list_all}
use Rattle.std.proofs.lemmas.List.{map-set}
use Rattle.std.proofs.lemmas.List.Sums.{fold-append}
use Rattle.std.proofs.lemmas.List.Folds.{list_all-map}
use Rattle.std.proofs.lemmas.Option.{none-some}
use Rattle.std.proofs.lemmas.Bool.{leb-true}
use Rattle.std.proofs.Math.ListN.{get_or-map}
use Rattle.script_lang.specs.Settings.{is_within}
use Rattle.script_lang.proofs.BoolLemmas.{both_true}
use Rattle.script_lang.specs.declared.script.Item.{Item}
use Rattle.script_lang.specs.declared.script.Action.{Action}
use Rattle.script_lang.specs.declared.script.Action.TheVariants as action
use Rattle.script_lang.specs.declared.entry.Entry.TheVariants as entry
use Rattle.script_lang.specs.Facts.{Placed, as_item, session_numbers, flush_of, flush_by, flush_by_action}
use Rattle.script_lang.specs.Entries.{action_fits}
use Rattle.script_lang.specs.Contents.{flushes_behind, flushing_by}
use Rattle.script_lang.specs.Grammar.{last_open}
use Rattle.script_lang.specs.Reading.{flushes_behind_action}

-- one session's value changes
pub at_session : {A : Type 0} (f : ℕ → A) (s : ℕ) (v : A) → s ≤ 7
    → map (λ k. if nat_eq s k then v else f k) session_numbers ≡ slice_set (map f session_numbers) s v
at_session f zero v h = refl
at_session f (suc zero) v h = refl
at_session f (suc (suc zero)) v h = refl
at_session f (suc (suc (suc zero))) v h = refl
at_session f (suc (suc (suc (suc zero)))) v h = refl
at_session f (suc (suc (suc (suc (suc zero))))) v h = refl
at_session f (suc (suc (suc (suc (suc (suc zero)))))) v h = refl
at_session f (suc (suc (suc (suc (suc (suc (suc zero))))))) v h = refl
at_session f (suc (suc (suc (suc (suc (suc (suc (suc s)))))))) v h = absurd (omega arith)

-- the range of a session's number
pub within_seven : (s : ℕ) → is_within 0 7 s ≡ true → s ≤ 7
within_seven s h = leb-true s 7 (both_true (nat_le 0 s) (nat_le s 7) h).1

-- the value of one session
pub of_session : {A : Type 0} (f : ℕ → A) (s : ℕ) (d : A) → s ≤ 7 → get_or (map f session_numbers) s d ≡ f s
of_session f zero d h = refl
of_session f (suc zero) d h = refl
of_session f (suc (suc zero)) d h = refl
of_session f (suc (suc (suc zero))) d h = refl
of_session f (suc (suc (suc (suc zero)))) d h = refl
of_session f (suc (suc (suc (suc (suc zero))))) d h = refl
of_session f (suc (suc (suc (suc (suc (suc zero)))))) d h = refl
of_session f (suc (suc (suc (suc (suc (suc (suc zero))))))) d h = refl
of_session f (suc (suc (suc (suc (suc (suc (suc (suc s)))))))) d h = absurd (omega arith)

pub map_ext : {A B : Type 0} (f g : A → B) (xs : List A) → ((x : A) → f x ≡ g x) → map f xs ≡ map g xs
map_ext f g [] e = refl
map_ext f g (x ∷ xs) e = ap (λ y. y ∷ map f xs) (e x) ∙ ap (λ ys. g x ∷ ys) (map_ext f g xs e)

-- one item more
flushes_more : (items : List Item) (i : Item) (s : ℕ) → flushes_behind (items ++ i ∷ []) s ≡ flushing_by s (flushes_behind items s) i
flushes_more items i s = fold-append (flushing_by s) false items (i ∷ [])

-- the lines where flushes began stay those of the sessions that flush
pub flushes_keep : (flushes : List (Option ℕ)) (items : List Item) (time line : ℕ) (a : Action) → action_fits a ≡ true
    → map is_some flushes ≡ map (flushes_behind items) session_numbers
    → map is_some (flushes_behind_action flushes line a) ≡ map (flushes_behind (items ++ record { time = time; action = a } ∷ [])) session_numbers
flushes_keep flushes items time line action.Clock fits h =
    h ∙ map_ext _ _ session_numbers (λ s. sym (flushes_more items (record { time = time; action = action.Clock }) s))
flushes_keep flushes items time line (action.Latency session ns) fits h =
    h ∙ map_ext _ _ session_numbers (λ s. sym (flushes_more items (record { time = time; action = action.Latency session ns }) s))
flushes_keep flushes items time line (action.FlushStart session) fits h =
    map-set is_some flushes session (Some line) ∙ ap (λ l. slice_set l session true) h
    ∙ sym (at_session (flushes_behind items) session true (within_seven session fits))
    ∙ map_ext _ _ session_numbers (λ s. sym (flushes_more items (record { time = time; action = action.FlushStart session }) s))
flushes_keep flushes items time line (action.FlushStop session) fits h =
    map-set is_some flushes session None ∙ ap (λ l. slice_set l session false) h
    ∙ sym (at_session (flushes_behind items) session false (within_seven session fits))
    ∙ map_ext _ _ session_numbers (λ s. sym (flushes_more items (record { time = time; action = action.FlushStop session }) s))

-- a session flushes where a line says so
pub is_flushing_by_items : (flushes : List (Option ℕ)) (items : List Item) (s : ℕ) → s ≤ 7
    → map is_some flushes ≡ map (flushes_behind items) session_numbers → is_some (slice_index_or flushes s None) ≡ flushes_behind items s
is_flushing_by_items flushes items s le h =
    sym (get_or-map is_some flushes s None) ∙ ap (λ l. get_or l s false) h ∙ of_session (flushes_behind items) s false le

-- no flush is open
pub none_open : (flushes : List (Option ℕ)) → last_open flushes ≡ None → list_all (λ (l : Option ℕ). not (is_some l)) flushes ≡ true
none_open [] h = refl
none_open (None ∷ flushes) h = none_open flushes h
none_open (Some line ∷ flushes) h = absurd (none-some _ (sym h))

pub closed_by_items : (flushes : List (Option ℕ)) (items : List Item) → map is_some flushes ≡ map (flushes_behind items) session_numbers → last_open flushes ≡ None
    → list_all (λ s. not (flushes_behind items s)) session_numbers ≡ true
closed_by_items flushes items h none =
    sym (list_all-map not (flushes_behind items) session_numbers) ∙ sym (ap (list_all not) h) ∙ list_all-map not is_some flushes ∙ none_open flushes none

-- ---- the same by lines

-- one line more
flush_more : (placed : List Placed) (p : Placed) (s : ℕ) → flush_of (placed ++ p ∷ []) s ≡ flush_by s (flush_of placed s) p
flush_more placed p s = fold-append (flush_by s) None placed (p ∷ [])

pub flush_of_timed : (placed : List Placed) (line time : ℕ) (a : Action) → action_fits a ≡ true
    → map (flush_of (placed ++ record { line = line; entry = entry.Timed (record { time = time; action = a }) } ∷ [])) session_numbers
    ≡ flushes_behind_action (map (flush_of placed) session_numbers) line a
flush_of_timed placed line time action.Clock fits = map_ext _ _ session_numbers (λ s. flush_more placed (record { line = line; entry = entry.Timed (record { time = time; action = action.Clock }) }) s)
flush_of_timed placed line time (action.Latency session ns) fits = map_ext _ _ session_numbers (λ s. flush_more placed (record { line = line; entry = entry.Timed (record { time = time; action = action.Latency session ns }) }) s)
flush_of_timed placed line time (action.FlushStart session) fits =
    map_ext _ _ session_numbers (λ s. flush_more placed (record { line = line; entry = entry.Timed (record { time = time; action = action.FlushStart session }) }) s) ∙ at_session (flush_of placed) session (Some line) (within_seven session fits)
flush_of_timed placed line time (action.FlushStop session) fits =
    map_ext _ _ session_numbers (λ s. flush_more placed (record { line = line; entry = entry.Timed (record { time = time; action = action.FlushStop session }) }) s) ∙ at_session (flush_of placed) session None (within_seven session fits)

-- a line that is not timed changes no flush
pub flush_of_other : (placed : List Placed) (p : Placed) → as_item p.entry ≡ None → map (flush_of (placed ++ p ∷ [])) session_numbers ≡ map (flush_of placed) session_numbers
flush_of_other placed p h = map_ext _ _ session_numbers (λ s. flush_more placed p s ∙ ap (λ o. elim o [ None ↦ flush_of placed s | Some i ↦ flush_by_action s p.line (flush_of placed s) i.action ]) h)

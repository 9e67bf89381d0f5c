-- Items in order of time: those of a script, and parts of them up to a time.
use Rattle.std.proofs.Common.{◌≡◌, ℕ, ◌+◌, ◌-◌, ◌<◌, ◌≤◌, Bool, true, false, cond, List, [], ◌∷◌, ◌++◌, length, take, drop, get_or, add-one, Option, Some, None, inl, inr, refl, sym, ap, subst, ◌∙◌, arith, zero-le}
use Rattle.std.specs.Prelude.{◌==◌, ◌*◌, ◌/◌, ◌%◌, nat_le, nat_lt, not, ◌&&◌, map, unwrap_or, if◌then◌else◌}
use Rattle.std.specs.List.{list_all, position_or_len}
use Rattle.std.proofs.lemmas.Bool.{and_parts, eqb-true, or_parts, not-true, ltb-false, leb-true, leb-false, le-leb, lt-leb, lt-ltb, le-ltb, cases_lt, cond-true, cond-false}
use Rattle.std.proofs.lemmas.List.Recursion.{is_position_or_len}
use Rattle.std.proofs.Math.Seq.{take-suc, drop-cons}
use Rattle.std.proofs.lemmas.List.{drop-drop, map-append, take-append-drop, take_all, length-drop}
use Rattle.replay_model.specs.Fitting.{IsAction, IsItem}
use Rattle.replay_model.specs.Inputs.{OfScript, items_to, items_behind}
use Rattle.script_lang.specs.declared.script.Action.{Action}
use Rattle.script_lang.specs.declared.script.Action.TheVariants as action
use Rattle.script_lang.specs.declared.script.Item.{Item}
use Rattle.script_lang.specs.declared.script.SessionLine.{SessionLine}
use Rattle.script_lang.specs.Contents.{Contents, IsScript, each_behind, is_next_item, action_alternates}
use Rattle.script_lang.specs.Entries.{item_fits, action_fits}
use Rattle.script_lang.specs.Settings.{is_within, is_time_within}
use Rattle.script_lang.specs.Tests.{has_later, action_lacks_session}
use Rattle.replay_command.specs.Plays.{AreItems, time_behind}

-- ---- a script's items

-- a time in nanoseconds, by its range in milliseconds
time_within : (least most ns : ℕ) → is_time_within least most ns ≡ true → (1000000 * least ≤ ns) × (ns ≤ 1000000 * most)
time_within least most ns h =
    let both = and_parts (ns % 1000000 == 0) (is_within least most (ns / 1000000)) h in
    let range = and_parts (nat_le least (ns / 1000000)) (nat_le (ns / 1000000) most) both.1 in
    let rest : ns % 1000000 ≡ 0 = eqb-true (ns % 1000000) 0 both.0 in
    let low : least ≤ ns / 1000000 = leb-true least (ns / 1000000) range.0 in
    let high : ns / 1000000 ≤ most = leb-true (ns / 1000000) most range.1 in
    (omega (arith, rest, low), omega (arith, rest, high))

is_action : (a : Action) → action_fits a ≡ true → IsAction a
is_action action.Clock fits = tt
is_action (action.FlushStart session) fits = tt
is_action (action.FlushStop session) fits = tt
is_action (action.Latency session ns) fits = (time_within 0 600000 ns (and_parts (is_within 0 7 session) (is_time_within 0 600000 ns) fits).1).1

is_item : (i : Item) → item_fits i ≡ true → IsItem i
is_item i fits =
    let both = and_parts (is_time_within 0 4294967295 i.time) (action_fits i.action) fits in
    let most : i.time ≤ 4294967295000000 = (time_within 0 4294967295 i.time both.0).1 in
    record { early = omega (arith, most); action = is_action i.action both.1 }

-- the last of earlier items is not later
last_first : (before : List Item) (last : Item) (t : ℕ) → has_later (before ++ last ∷ []) t ≡ false → last.time ≤ t
last_first [] last t none = ltb-false t last.time (or_parts (nat_lt t last.time) false none).0
last_first (x ∷ before) last t none = last_first before last t (or_parts (nat_lt t x.time) (has_later (before ++ last ∷ []) t) none).1

next_on : (sessions : List SessionLine) (before : List Item) (last i : Item) → is_next_item sessions (before ++ last ∷ []) i ≡ true → last.time ≤ i.time
next_on sessions before last i is =
    let all : List Item = before ++ last ∷ [] in
    let both = and_parts (not (action_lacks_session sessions i.action) && not (has_later all i.time)) (action_alternates all i.action) is in
    last_first before last i.time (not-true (has_later all i.time) (and_parts (not (action_lacks_session sessions i.action)) (not (has_later all i.time)) both.0).1)

items_on : (sessions : List SessionLine) (before : List Item) (last : Item) (items : List Item) → list_all item_fits items ≡ true → each_behind (is_next_item sessions) (before ++ last ∷ []) items ≡ true
    → AreItems last.time items
items_on sessions before last [] fits next = tt
items_on sessions before last (i ∷ items) fits next =
    let here = and_parts (item_fits i) (list_all item_fits items) fits in
    let behind = and_parts (is_next_item sessions (before ++ last ∷ []) i) (each_behind (is_next_item sessions) ((before ++ last ∷ []) ++ i ∷ []) items) next in
    (next_on sessions before last i behind.0, is_item i here.0, items_on sessions (before ++ last ∷ []) i items here.1 behind.1)

-- from 0 on
pub items_of_script : (c : Contents) → IsScript c → AreItems 0 c.items
items_of_script c script = at c.items script.items_fit script.next_items
  where
    at : (items : List Item) → list_all item_fits items ≡ true → each_behind (is_next_item c.sessions) [] items ≡ true → AreItems 0 items
    at [] fits next = tt
    at (i ∷ items) fits next =
        let here = and_parts (item_fits i) (list_all item_fits items) fits in
        let behind = and_parts (is_next_item c.sessions [] i) (each_behind (is_next_item c.sessions) (i ∷ []) items) next in
        (zero-le, is_item i here.0, items_on c.sessions [] i items here.1 behind.1)

-- ---- items up to a time, and behind it

-- P holds of the choice by a test of two numbers, if it holds either way
by_order : (P : List Item → Type 0) (m n : ℕ) (x y : List Item) → (m ≤ n → P x) → (n < m → P y) → P (if nat_le m n then x else y)
by_order P m n x y low high = at (nat_le m n) refl
  where
    at : (b : Bool) → nat_le m n ≡ b → P (if b then x else y)
    at true is = low (leb-true m n is)
    at false is = high (leb-false m n is)

pub few_to : (t : ℕ) (items : List Item) → length (items_to t items) ≤ length items
few_to t [] = zero-le
few_to t (i ∷ items) = by_order (λ (l : List Item). length l ≤ length (i ∷ items)) i.time t (i ∷ items_to t items) [] (λ _. omega (arith, few_to t items)) (λ _. zero-le)

pub taken : (t : ℕ) (items : List Item) → take (length (items_to t items)) items ≡ items_to t items
taken t [] = refl
taken t (i ∷ items) = by_order (λ (l : List Item). take (length l) (i ∷ items) ≡ l) i.time t (i ∷ items_to t items) [] (λ _. ap (λ (l : List Item). i ∷ l) (taken t items)) (λ _. refl)

pub dropped : (t : ℕ) (items : List Item) → drop (length (items_to t items)) items ≡ items_behind t items
dropped t [] = refl
dropped t (i ∷ items) = at (nat_le i.time t) (dropped t items)
  where
    at : (b : Bool) → drop (length (items_to t items)) items ≡ items_behind t items → drop (length (if b then i ∷ items_to t items else [])) (i ∷ items) ≡ (if b then items_behind t items else i ∷ items)
    at true rest = rest
    at false rest = refl

-- how many there are, by the first one that is later
count_step : (t : ℕ) (i : Item) (items : List Item) → length (items_to t (i ∷ items)) ≡ cond (nat_lt t i.time) 0 (1 + length (items_to t items))
count_step t i items = elim (cases_lt t i.time) [
  | inl late ↦ rw (lt-ltb t i.time late, lt-leb i.time t late) refl
  | inr up ↦ rw (le-ltb t i.time up, le-leb i.time t up) (omega arith)
]

pub count_is : (t : ℕ) (items : List Item) (o : Option ℕ) → let n = position_or_len (λ (i : Item). nat_lt t i.time) items in o ≡ cond (nat_lt n (length items)) (Some n) None → unwrap_or o (length items) ≡ length (items_to t items)
count_is t items o is =
    let n : ℕ = position_or_len (λ (i : Item). nat_lt t i.time) items in
    let same : length (items_to t items) ≡ n = is_position_or_len (λ (l : List Item). length (items_to t l)) (λ (i : Item). nat_lt t i.time) refl (count_step t) items in
    elim (cases_lt n (length items)) [
      | inl some ↦ ap (λ (o : Option ℕ). unwrap_or o (length items)) (is ∙ cond-true (nat_lt n (length items)) (Some n) None (lt-ltb n (length items) some)) ∙ sym same
      | inr none ↦ ap (λ (o : Option ℕ). unwrap_or o (length items)) (is ∙ cond-false (nat_lt n (length items)) (Some n) None (le-ltb n (length items) none)) ∙ omega (arith, same, few_to t items)
    ]

-- items from a time on up to a later one
pub are_to : (from t : ℕ) (items : List Item) → AreItems from items → AreItems from (items_to t items)
are_to from t [] are = tt
are_to from t (i ∷ items) are = by_order (AreItems from) i.time t (i ∷ items_to t items) [] (λ _. (are.0, are.1, are_to i.time t items are.2)) (λ _. tt)

pub are_behind : (from t : ℕ) (items : List Item) → AreItems from items → AreItems t (items_behind t items)
are_behind from t [] are = tt
are_behind from t (i ∷ items) are = by_order (AreItems t) i.time t (items_behind t items) (i ∷ items) (λ _. are_behind i.time t items are.2) (λ late. (omega (arith, late), are.1, are.2))

pub time_to : (from t : ℕ) (items : List Item) → from ≤ t → time_behind from (items_to t items) ≤ t
time_to from t [] low = low
time_to from t (i ∷ items) low = by_order (λ (l : List Item). time_behind from l ≤ t) i.time t (i ∷ items_to t items) [] (λ up. time_to i.time t items up) (λ _. low)

-- ---- items one by one

pub time_of_last : (t : ℕ) (items : List Item) (k : ℕ) (d : Item) → k < length items → (get_or items k d).time ≡ time_behind t (take (k + 1) items)
time_of_last t items k d lt = sym (ap (λ (n : ℕ). time_behind t (take n items)) (add-one k) ∙ ap (time_behind t) (take-suc items k d lt) ∙ at t (take k items) (get_or items k d))
  where
    at : (t : ℕ) (xs : List Item) (x : Item) → time_behind t (xs ++ x ∷ []) ≡ x.time
    at t [] x = refl
    at t (y ∷ xs) x = at y.time xs x

rest_is : (items : List Item) (k : ℕ) (d : Item) → k < length items → drop k items ≡ get_or items k d ∷ drop (k + 1) items
rest_is items k d lt = drop-cons items k d lt ∙ ap (λ (n : ℕ). get_or items k d ∷ drop n items) (sym (add-one k))

pub are_next : (t : ℕ) (items : List Item) (k : ℕ) (d : Item) → k < length items → AreItems t (drop k items) → AreItems (get_or items k d).time (drop (k + 1) items)
are_next t items k d lt are = let all : AreItems t (get_or items k d ∷ drop (k + 1) items) = subst (AreItems t) (rest_is items k d lt) are in all.2

pub one_more : (items : List Item) (k : ℕ) (d : Item) → k < length items → map OfScript (take k items) ++ OfScript (get_or items k d) ∷ [] ≡ map OfScript (take (k + 1) items)
one_more items k d lt = sym (ap (λ (n : ℕ). map OfScript (take n items)) (add-one k) ∙ ap (map OfScript) (take-suc items k d lt) ∙ map-append OfScript (take k items) (get_or items k d ∷ []))

pub all_parts : (items : List Item) (k : ℕ) (d : Item) → k < length items → map OfScript items ≡ map OfScript (take k items) ++ (OfScript (get_or items k d) ∷ [] ++ map OfScript (drop (k + 1) items))
all_parts items k d lt =
    ap (map OfScript) (sym (take-append-drop k items)) ∙ map-append OfScript (take k items) (drop k items) ∙ ap (λ (l : List Item). map OfScript (take k items) ++ map OfScript l) (rest_is items k d lt)

-- ---- the items that are due, by how many were given and how many come now

-- those behind the given ones, as a part of the slice
pub behind_is : (given : ℕ) (items : List Item) → take (length items - given) (drop given items) ≡ drop given items
behind_is given items = take_all (length items - given) (drop given items) (omega (arith, length-drop given items))

pub due_is : (t given n : ℕ) (items xs : List Item) → items ≡ xs → n ≡ length (items_to t (drop given items)) → take ((given + n) - given) (drop given items) ≡ items_to t (drop given xs)
due_is t given n items xs same count =
    let k : (given + n) - given ≡ length (items_to t (drop given items)) = omega (arith, count) in
    ap (λ (m : ℕ). take m (drop given items)) k ∙ taken t (drop given items) ∙ ap (λ (l : List Item). items_to t (drop given l)) same

pub due_count : (t given n : ℕ) (items xs : List Item) → items ≡ xs → n ≡ length (items_to t (drop given items)) → n ≡ length (items_to t (drop given xs))
due_count t given n items xs same count = count ∙ ap (λ (l : List Item). length (items_to t (drop given l))) same

pub due_are : (at from t given n : ℕ) (items xs : List Item) → items ≡ xs → n ≡ length (items_to t (drop given items)) → at ≡ from → AreItems from (drop given xs) → AreItems at (take ((given + n) - given) (drop given items))
due_are at from t given n items xs same count now are =
    subst (λ (m : ℕ). AreItems m (take ((given + n) - given) (drop given items))) (sym now) (subst (AreItems from) (sym (due_is t given n items xs same count)) (are_to from t (drop given xs) are))

pub due_time : (last at from t given n : ℕ) (items xs : List Item) → items ≡ xs → n ≡ length (items_to t (drop given items)) → at ≡ from → from ≤ t → last ≡ time_behind at (take ((given + n) - given) (drop given items)) → last ≤ t
due_time last at from t given n items xs same count now low is =
    omega (arith, is ∙ ap (time_behind at) (due_is t given n items xs same count) ∙ ap (λ (m : ℕ). time_behind m (items_to t (drop given xs))) now, time_to from t (drop given xs) low)

pub left_are : (from t given n : ℕ) (xs : List Item) → n ≡ length (items_to t (drop given xs)) → AreItems from (drop given xs) → AreItems t (drop (given + n) xs)
left_are from t given n xs count are =
    subst (AreItems t) (sym (sym (drop-drop n given xs) ∙ ap (λ (m : ℕ). drop m (drop given xs)) count ∙ dropped t (drop given xs))) (are_behind from t (drop given xs) are)

pub few_given : (given n : ℕ) (items xs : List Item) → items ≡ xs → given ≤ length xs → n ≤ length (drop given items) → given + n ≤ length xs
few_given given n items xs same few bound = omega (arith, ap length same, few, bound, length-drop given items)

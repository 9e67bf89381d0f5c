-- The maps and the flushes of a draft.
use Rattle.std.proofs.Common.{◌≡◌, ◌<◌, ◌-◌, ◌+◌, ℕ, List, [], ◌∷◌, ◌++◌, length, Bool, true, false, ◌||◌, cond, Option, Some, None, max, fold, refl, ap, sym, ◌∙◌, arith, rules, nat_lt, length-append, ◌≤◌}
use Rattle.std.specs.List.{filter_map, list_any}
use Rattle.std.specs.Prelude.{slice_get}
use Rattle.std.specs.Option.{is_some, option_map_or}
use Rattle.std.specs.Map.{lookup}
use Rattle.std.proofs.lemmas.List.Folds.{list_any-append}
use Rattle.indexmap.specs.IndexMap.{insert_entry}
use Rattle.script_lang.specs.declared.script.Item.{Item}
use Rattle.script_lang.specs.Grammar.{last_open}
use Rattle.script_lang.specs.Tests.{has_later}
use Rattle.script_lang.specs.Reading.{IsInOrder, is_last_later}
use Rattle.script_lang.proofs.BoolLemmas.{none_true}
use Rattle.std.proofs.lemmas.Option.{slice_get-get_or}
use Rattle.std.proofs.lemmas.List.{places}
use Rattle.std.proofs.lemmas.Bool.{ltb-true, ltb-false, lt-ltb}
use Rattle.std.proofs.Math.Bool.{or-false}

-- the greatest of some line and the lines that are there
abbrev pub last_after : Option ℕ → List (Option ℕ) → Option ℕ
last_after None lines = last_open lines
last_after (Some line) lines = Some (fold max line (filter_map (λ (l : Option ℕ). l) lines))

-- a look-up finds a value where an entry's key passes
pub is_found : {K X : Type 0} (test : K → Bool) (es : List (K × X)) → is_some (lookup test es) ≡ list_any (λ (e : K × X). test e.0) es
is_found test [] = refl
is_found test (e ∷ es) = elim (test e.0) as (λ b. is_some (cond b (Some e.1) (lookup test es)) ≡ (b || list_any (λ (e : _ × _). test e.0) es)) [ true ↦ refl | false ↦ is_found test es ]

-- a new key goes last
pub inserted : {K X : Type 0} (eq : K → K → Bool) (es : List (K × X)) (k : K) (v : X) → list_any (λ (e : K × X). eq k e.0) es ≡ false
    → insert_entry eq es k v ≡ es ++ (k, v) ∷ []
inserted eq [] k v h = refl
inserted eq (e ∷ es) k v h =
    let d = none_true (eq k e.0) _ h in
    ap (λ b. cond b ((e.0, v) ∷ es) (e ∷ insert_entry eq es k v)) d.0 ∙ ap (λ rest. e ∷ rest) (inserted eq es k v d.1)

-- ---- the last item is the latest

last_of : (items : List Item) (i : Item) → slice_get (items ++ i ∷ []) (length (items ++ i ∷ []) - 1) ≡ Some i
last_of items i =
    let len : length (items ++ i ∷ []) ≡ length items + 1 = length-append items (i ∷ []) in
    let here : length (items ++ i ∷ []) - 1 ≡ length items = omega (arith, len) in
    let within : length items < length (items ++ i ∷ []) = omega (arith, len) in
    rw here (slice_get-get_or (items ++ i ∷ []) (length items) i within ∙ ap (λ (x : Item). Some x) (search (rules, places)))

later_than : (o : Option Item) (t u : ℕ) → option_map_or (λ (i : Item). nat_lt u i.time) o false ≡ false
    → (option_map_or (λ (i : Item). nat_lt t i.time) o false || nat_lt t u) ≡ nat_lt t u
later_than None t u h = refl
later_than (Some x) t u h =
    let le : x.time ≤ u = ltb-false u x.time h in
    elim (nat_lt t x.time) as (λ b. nat_lt t x.time ≡ b → (b || nat_lt t u) ≡ nat_lt t u) [
      | true ↦ λ e. let lt : t < x.time = ltb-true t x.time e in sym (lt-ltb t u (omega arith))
      | false ↦ λ e. refl
    ] refl

pub in_order_behind : (items : List Item) (i : Item) → IsInOrder items → has_later items i.time ≡ false → IsInOrder (items ++ i ∷ [])
in_order_behind items i h k time =
    let left : has_later (items ++ i ∷ []) time ≡ (has_later items time || (nat_lt time i.time || false)) = list_any-append (λ (x : Item). nat_lt time x.time) items (i ∷ []) in
    let last : is_last_later (items ++ i ∷ []) time ≡ nat_lt time i.time = ap (λ o. option_map_or (λ (x : Item). nat_lt time x.time) o false) (last_of items i) in
    let whole : (is_last_later items time || nat_lt time i.time) ≡ nat_lt time i.time = later_than (slice_get items (length items - 1)) time i.time (sym (h i.time) ∙ k) in
    left ∙ ap (λ b. has_later items time || b) (or-false (nat_lt time i.time)) ∙ ap (λ b. b || nat_lt time i.time) (h time) ∙ whole ∙ sym last

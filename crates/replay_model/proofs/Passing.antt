-- Records go on one by one: their times, and the items between them.
use Rattle.std.proofs.Common.{ℕ, ◌≡◌, Bool, true, false, refl, sym, ap, ◌∙◌, List, [], ◌∷◌, ◌++◌}
use Rattle.std.specs.Prelude.{map, nat_le, if◌then◌else◌}
use Rattle.std.proofs.lemmas.List.{append_assoc, append-nil}
use Rattle.pcap_file.specs.Capture.{Record}
use Rattle.script_lang.specs.declared.script.Item.{Item}
use Rattle.timeline.specs.Times.{Timed, timed_after, at_times_after}
use Rattle.replay_model.specs.Inputs.{Input, OfCapture, OfScript, items_to, items_behind, inputs, items_left, all_inputs, records_in, items_in}

pub times_next : (before rs : List Record) (r : Record) → at_times_after before (rs ++ r ∷ []) ≡ at_times_after before rs ++ timed_after (before ++ rs) r ∷ []
times_next before [] r = ap (λ (xs : List Record). timed_after xs r ∷ []) (sym (append-nil before))
times_next before (x ∷ rs) r =
    ap (λ (ts : List Timed). timed_after before x ∷ ts)
    (times_next (before ++ x ∷ []) rs r ∙ ap (λ (xs : List Record). at_times_after (before ++ x ∷ []) rs ++ timed_after xs r ∷ []) (append_assoc before (x ∷ []) rs))

pub inputs_more : (items : List Item) (rs more : List Timed) → inputs items (rs ++ more) ≡ inputs items rs ++ inputs (items_left items rs) more
inputs_more items [] more = refl
inputs_more items (r ∷ rs) more =
    ap (λ (xs : List Input). map OfScript (items_to r.time items) ++ OfCapture r ∷ xs) (inputs_more (items_behind r.time items) rs more)
    ∙ sym (append_assoc (map OfScript (items_to r.time items)) (OfCapture r ∷ inputs (items_behind r.time items) rs) (inputs (items_left (items_behind r.time items) rs) more))

pub inputs_next : (items : List Item) (rs : List Timed) (r : Timed) → inputs items (rs ++ r ∷ []) ≡ (inputs items rs ++ map OfScript (items_to r.time (items_left items rs))) ++ OfCapture r ∷ []
inputs_next items rs r = inputs_more items rs (r ∷ []) ∙ sym (append_assoc (inputs items rs) (map OfScript (items_to r.time (items_left items rs))) (OfCapture r ∷ []))

pub left_more : (items : List Item) (rs more : List Timed) → items_left items (rs ++ more) ≡ items_left (items_left items rs) more
left_more items [] more = refl
left_more items (r ∷ rs) more = left_more (items_behind r.time items) rs more

-- ---- all of them come

records_then : (xs ys : List Input) → records_in (xs ++ ys) ≡ records_in xs ++ records_in ys
records_then [] ys = refl
records_then (OfCapture r ∷ xs) ys = ap (λ (rs : List Timed). r ∷ rs) (records_then xs ys)
records_then (OfScript i ∷ xs) ys = records_then xs ys

no_records : (items : List Item) → records_in (map OfScript items) ≡ []
no_records [] = refl
no_records (i ∷ items) = no_records items

pub records_part : (items : List Item) (rs : List Timed) → records_in (inputs items rs) ≡ rs
records_part items [] = refl
records_part items (r ∷ rs) =
    records_then (map OfScript (items_to r.time items)) (OfCapture r ∷ inputs (items_behind r.time items) rs)
    ∙ ap (λ (xs : List Timed). xs ++ r ∷ records_in (inputs (items_behind r.time items) rs)) (no_records (items_to r.time items))
    ∙ ap (λ (xs : List Timed). r ∷ xs) (records_part (items_behind r.time items) rs)

pub records_all : (items : List Item) (rs : List Timed) → records_in (all_inputs items rs) ≡ rs
records_all items rs =
    records_then (inputs items rs) (map OfScript (items_left items rs))
    ∙ ap (λ (xs : List Timed). records_in (inputs items rs) ++ xs) (no_records (items_left items rs))
    ∙ append-nil (records_in (inputs items rs)) ∙ records_part items rs

items_then : (xs ys : List Input) → items_in (xs ++ ys) ≡ items_in xs ++ items_in ys
items_then [] ys = refl
items_then (OfCapture r ∷ xs) ys = items_then xs ys
items_then (OfScript i ∷ xs) ys = ap (λ (is : List Item). i ∷ is) (items_then xs ys)

only_items : (items : List Item) → items_in (map OfScript items) ≡ items
only_items [] = refl
only_items (i ∷ items) = ap (λ (is : List Item). i ∷ is) (only_items items)

parted : (t : ℕ) (items : List Item) → items_to t items ++ items_behind t items ≡ items
parted t [] = refl
parted t (i ∷ items) =
    elim (nat_le i.time t) as (λ (b : Bool). (if b then i ∷ items_to t items else []) ++ (if b then items_behind t items else i ∷ items) ≡ i ∷ items) [
      | true ↦ ap (λ (is : List Item). i ∷ is) (parted t items)
      | false ↦ refl
    ]

items_part : (items : List Item) (rs : List Timed) → items_in (inputs items rs) ++ items_left items rs ≡ items
items_part items [] = refl
items_part items (r ∷ rs) =
    ap (λ (xs : List Item). xs ++ items_left (items_behind r.time items) rs)
    (items_then (map OfScript (items_to r.time items)) (OfCapture r ∷ inputs (items_behind r.time items) rs)
    ∙ ap (λ (xs : List Item). xs ++ items_in (inputs (items_behind r.time items) rs)) (only_items (items_to r.time items)))
    ∙ append_assoc (items_to r.time items) (items_in (inputs (items_behind r.time items) rs)) (items_left (items_behind r.time items) rs)
    ∙ ap (λ (xs : List Item). items_to r.time items ++ xs) (items_part (items_behind r.time items) rs)
    ∙ parted r.time items

pub items_all : (items : List Item) (rs : List Timed) → items_in (all_inputs items rs) ≡ items
items_all items rs =
    items_then (inputs items rs) (map OfScript (items_left items rs))
    ∙ ap (λ (xs : List Item). items_in (inputs items rs) ++ xs) (only_items (items_left items rs))
    ∙ items_part items rs

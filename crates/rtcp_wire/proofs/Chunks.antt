-- Chunks and their items one after the other, as loops go over them.
use Rattle.std.proofs.Common.{◌≡◌, ℕ, suc, ◌+◌, ◌-◌, ◌≤◌, ◌<◌, List, [], ◌∷◌, ◌++◌, Option, Some, None, refl, sym, ap, ◌∙◌, append_assoc, arith}
use Rattle.std.specs.Prelude.{option_map}
use Rattle.std.proofs.lemmas.List.{append-nil}
use Rattle.rtcp_wire.specs.declared.packet.SdesItem.{SdesItem}
use Rattle.rtcp_wire.specs.declared.packet.Chunk.{Chunk}
use Rattle.rtcp_wire.specs.Sdes.{with_item, item_then, items_at, chunk_at, with_chunk, chunks_at}

-- ---- items

abbrev pub with_items : List SdesItem → Option (List SdesItem × List ℕ) → Option (List SdesItem × List ℕ)
with_items front None = None
with_items front (Some (items, rest)) = Some (front ++ items, rest)

regroup : (front : List SdesItem) (item : SdesItem) (others : Option (List SdesItem × List ℕ)) → with_items front (with_item item others) ≡ with_items (front ++ item ∷ []) others
regroup front item None = refl
regroup front item (Some (items, rest)) = ap (λ (is : List SdesItem). Some (is, rest)) (sym (append_assoc front (item ∷ []) items))

pub items_go : (front : List SdesItem) (steps i : ℕ) (b behind : List ℕ) (item : SdesItem) (total : Option (List SdesItem × List ℕ)) → i < steps
    → ((go : List ℕ → Option (List SdesItem × List ℕ)) → item_then go b ≡ with_item item (go behind)) → with_items front (items_at (steps - i) b) ≡ total
    → with_items (front ++ item ∷ []) (items_at (steps - (i + 1)) behind) ≡ total
unfolding items_at
items_go front steps i b behind item total lt h so_far =
    let k : steps - i ≡ suc (steps - (i + 1)) = omega arith in
    let one : items_at (steps - i) b ≡ with_item item (items_at (steps - (i + 1)) behind) = rw k (h (items_at (steps - (i + 1)))) in
    sym (ap (with_items front) one ∙ regroup front item (items_at (steps - (i + 1)) behind)) ∙ so_far

pub items_end : (front : List SdesItem) (steps i : ℕ) (b behind : List ℕ) (total : Option (List SdesItem × List ℕ)) → i < steps
    → ((go : List ℕ → Option (List SdesItem × List ℕ)) → item_then go b ≡ Some ([], behind)) → with_items front (items_at (steps - i) b) ≡ total → Some (front, behind) ≡ total
unfolding items_at
items_end front steps i b behind total lt h so_far =
    let k : steps - i ≡ suc (steps - (i + 1)) = omega arith in
    let one : items_at (steps - i) b ≡ Some ([], behind) = rw k (h (items_at (steps - (i + 1)))) in
    sym (ap (with_items front) one ∙ ap (λ (is : List SdesItem). Some (is, behind)) (append-nil front)) ∙ so_far

pub items_bad : (front : List SdesItem) (steps i : ℕ) (b : List ℕ) (total : Option (List SdesItem × List ℕ)) → i < steps
    → ((go : List ℕ → Option (List SdesItem × List ℕ)) → item_then go b ≡ None) → with_items front (items_at (steps - i) b) ≡ total → None ≡ total
unfolding items_at
items_bad front steps i b total lt h so_far =
    let k : steps - i ≡ suc (steps - (i + 1)) = omega arith in
    let one : items_at (steps - i) b ≡ None = rw k (h (items_at (steps - (i + 1)))) in
    sym (ap (with_items front) one) ∙ so_far

pub items_none_left : (front : List SdesItem) (steps i : ℕ) (b : List ℕ) (total : Option (List SdesItem × List ℕ)) → steps ≤ i → with_items front (items_at (steps - i) b) ≡ total → None ≡ total
unfolding items_at
items_none_left front steps i b total le so_far =
    let k : steps - i ≡ 0 = omega arith in
    let one : items_at (steps - i) b ≡ None = rw k refl in
    sym (ap (with_items front) one) ∙ so_far

-- ---- chunks

abbrev pub with_chunks : List Chunk → Option (List Chunk) → Option (List Chunk)
with_chunks front others = option_map (λ cs. front ++ cs) others

regroup_chunks : (front : List Chunk) (chunk : Chunk) (others : Option (List Chunk)) → with_chunks front (with_chunk chunk others) ≡ with_chunks (front ++ chunk ∷ []) others
regroup_chunks front chunk None = refl
regroup_chunks front chunk (Some cs) = ap (λ (xs : List Chunk). Some xs) (sym (append_assoc front (chunk ∷ []) cs))

pub chunks_go : (front : List Chunk) (count i : ℕ) (b behind : List ℕ) (chunk : Chunk) (total : Option (List Chunk)) → i < count → Some (chunk, behind) ≡ chunk_at b
    → with_chunks front (chunks_at (count - i) b) ≡ total → with_chunks (front ++ chunk ∷ []) (chunks_at (count - (i + 1)) behind) ≡ total
unfolding chunks_at
chunks_go front count i b behind chunk total lt h so_far =
    let k : count - i ≡ suc (count - (i + 1)) = omega arith in
    let one : chunks_at (count - i) b ≡ with_chunk chunk (chunks_at (count - (i + 1)) behind) = rw (k, ← h) refl in
    sym (ap (with_chunks front) one ∙ regroup_chunks front chunk (chunks_at (count - (i + 1)) behind)) ∙ so_far

pub chunks_bad : (front : List Chunk) (count i : ℕ) (b : List ℕ) (total : Option (List Chunk)) → i < count → None ≡ chunk_at b → with_chunks front (chunks_at (count - i) b) ≡ total → None ≡ total
unfolding chunks_at
chunks_bad front count i b total lt h so_far =
    let k : count - i ≡ suc (count - (i + 1)) = omega arith in
    let one : chunks_at (count - i) b ≡ None = rw (k, ← h) refl in
    sym (ap (with_chunks front) one) ∙ so_far

pub chunks_end : (front : List Chunk) (count i : ℕ) (b : List ℕ) (total : Option (List Chunk)) → count ≤ i → with_chunks front (chunks_at (count - i) b) ≡ total → Some front ≡ total
unfolding chunks_at
chunks_end front count i b total le so_far =
    let k : count - i ≡ 0 = omega arith in
    let one : chunks_at (count - i) b ≡ Some [] = rw k refl in
    sym (ap (with_chunks front) one ∙ ap (λ (xs : List Chunk). Some xs) (append-nil front)) ∙ so_far

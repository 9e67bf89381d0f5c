-- What was written of a body reads as the packet.
use Rattle.std.proofs.Common.{◌≡◌, ℕ, zero, suc, ◌+◌, ◌-◌, ◌*◌, ◌%◌, ◌^◌, ◌≤◌, ◌<◌, true, false, List, [], ◌∷◌, ◌++◌, length, take, drop, get_or, replicate, Option, Some, None, Result, Ok, Err, refl, sym, ap, ◌∙◌, arith, append_assoc}
use Rattle.std.specs.Prelude.{nat_lt, ◌==◌, slice_index, OnOk, ℤ, pos, negsuc, ◌≤ℤ◌}
use Rattle.std.specs.List.{flat_map, AllByRecursion}
use Rattle.std.specs.Int.{w64}
use Rattle.std.proofs.lemmas.Bool.{le-ltb}
use Rattle.std.proofs.lemmas.Bool.Decides.{nat_tests}
use Rattle.std.proofs.lemmas.Int.{ints}
use Rattle.std.proofs.lemmas.List.{length-append, length-replicate, drop_at, take_at, get_or-append-add}
use Rattle.std.proofs.lemmas.List.FromFn.{fill_by_all}
use Rattle.byteorder.specs.Endian.{big_bytes, low_bytes, twos_complement}
use Rattle.rtp_wire.specs.Network.{number16, number32}
use Rattle.rtcp_wire.specs.declared.block.ReportBlock.{ReportBlock}
use Rattle.rtcp_wire.specs.declared.packet.SdesItem.{SdesItem}
use Rattle.rtcp_wire.specs.declared.packet.Chunk.{Chunk}
use Rattle.rtcp_wire.specs.declared.packet.Nack.{Nack}
use Rattle.rtcp_wire.specs.Sdes.{with_item, item_then, items_at, gap, chunk_at, chunks_at}
use Rattle.rtcp_wire.specs.Bodies.{number24, signed24, block_at, blocks_at, numbers_at, entry_at, entries_at, reason_at}
use Rattle.rtcp_wire.specs.Laws.{length-numbers_bytes, length-blocks, length-entries}
use Rattle.rtcp_wire.specs.Written.{numbers_bytes, block_bytes, items_bytes, chunk_bytes, reason_bytes, entry_bytes, LossFits, ItemFits, ChunkFits, AreSmall, BlockInRange, EntryInRange, ChunkInRange}

-- three pieces that were added one after the other, the last by a call that may have failed
pub three_pushed : {E : Type 0} (r : Result (Unit {0}) E) (old one two new a b x : List ℕ) → one ≡ old ++ a → two ≡ one ++ b → OnOk r (new ≡ two ++ x) → OnOk r (new ≡ old ++ (a ++ b ++ x))
three_pushed (Ok u) old one two new a b x e1 e2 e3 = e3 ∙ rw (e2, e1) (simp append_assoc)
three_pushed (Err e) old one two new a b x e1 e2 e3 = tt

pub four_pushed : {E : Type 0} (r : Result (Unit {0}) E) (old one two three new a b x y : List ℕ) → one ≡ old ++ a → two ≡ one ++ b → three ≡ two ++ x → OnOk r (new ≡ three ++ y) → OnOk r (new ≡ old ++ (a ++ b ++ x ++ y))
four_pushed (Ok u) old one two three new a b x y e1 e2 e3 e4 = e4 ∙ rw (e3, e2, e1) (simp append_assoc)
four_pushed (Err e) old one two three new a b x y e1 e2 e3 e4 = tt

-- ---- numbers at their places

pub number16_back : (n : ℕ) (rest : List ℕ) → n < 2 ^ 16 → number16 (big_bytes 2 n ++ rest) 0 ≡ n
number16_back n rest lt = omega arith

pub number32_back : (n : ℕ) (rest : List ℕ) → n < 2 ^ 32 → number32 (big_bytes 4 n ++ rest) 0 ≡ n
number32_back n rest lt = omega arith

number24_back : (n : ℕ) (rest : List ℕ) → n < 2 ^ 24 → number24 (big_bytes 3 n ++ rest) 0 ≡ n
number24_back n rest lt = omega arith

index_behind : (xs ys : List ℕ) (i j : ℕ) → i ≡ length xs + j → slice_index (xs ++ ys) i ≡ slice_index ys j
index_behind xs ys i j e = rw e (get_or-append-add xs ys j 0)

number16_behind : (xs ys : List ℕ) (i j : ℕ) → i ≡ length xs + j → number16 (xs ++ ys) i ≡ number16 ys j
number16_behind xs ys i j e = omega (arith, index_behind xs ys i j e, index_behind xs ys (i + 1) (j + 1) (omega arith))

number24_behind : (xs ys : List ℕ) (i j : ℕ) → i ≡ length xs + j → number24 (xs ++ ys) i ≡ number24 ys j
number24_behind xs ys i j e =
    omega (arith, index_behind xs ys i j e, index_behind xs ys (i + 1) (j + 1) (omega arith), index_behind xs ys (i + 2) (j + 2) (omega arith))

number32_behind : (xs ys : List ℕ) (i j : ℕ) → i ≡ length xs + j → number32 (xs ++ ys) i ≡ number32 ys j
number32_behind xs ys i j e =
    omega (arith, index_behind xs ys i j e, index_behind xs ys (i + 1) (j + 1) (omega arith), index_behind xs ys (i + 2) (j + 2) (omega arith), index_behind xs ys (i + 3) (j + 3) (omega arith))

number_back : (xs rest : List ℕ) (k : ℕ) → k < length xs → slice_index xs k < 2 ^ 32 → number32 (numbers_bytes xs ++ rest) (4 * k) ≡ slice_index xs k
number_back [] rest k lt fits = absurd (omega arith)
number_back (x ∷ xs) rest zero lt fits = number32_back x (numbers_bytes xs ++ rest) fits
number_back (x ∷ xs) rest (suc k) lt fits = number32_behind (big_bytes 4 x) (numbers_bytes xs ++ rest) (4 * suc k) (4 * k) (omega arith) ∙ number_back xs rest k (omega arith) fits

pub numbers_back : (xs rest : List ℕ) → AreSmall xs → numbers_at (numbers_bytes xs ++ rest) (length xs) ≡ xs
numbers_back xs rest fits =
    sym (fill_by_all (λ k. number32 (numbers_bytes xs ++ rest) (4 * k)) xs (length xs) 0 refl (λ k lt. sym (number_back xs rest k lt (fits k))))

-- ---- report blocks

low_half : (x : ℕ) → x < 8388608 → twos_complement 3 x ≡ pos x
low_half x lt =
    let test : nat_lt x 8388608 ≡ true = grind (arith, nat_tests) in
    rw test refl

high_half : (x n : ℕ) → 8388608 ≤ x → x + suc n ≡ 16777216 → twos_complement 3 x ≡ negsuc n
high_half x n le e =
    let test : nat_lt x 8388608 ≡ false = grind (arith, nat_tests) in
    let under : nat_lt x 16777216 ≡ true = grind (arith, nat_tests) in
    rw (test, under) (ap negsuc (omega arith))

loss_of : (z : ℤ) → negsuc 8388607 ≤ℤ z → z ≤ℤ pos 8388607 → twos_complement 3 (low_bytes w64 3 z) ≡ z
loss_of (pos n) low high =
    let small : n ≤ 8388607 = omega (arith, ints) in
    let same : low_bytes w64 3 (pos n) ≡ n = omega arith in
    ap (twos_complement 3) same ∙ low_half n (omega arith)
loss_of (negsuc n) low high =
    let small : n ≤ 8388607 = omega (arith, ints) in
    high_half (low_bytes w64 3 (negsuc n)) n (omega arith) (omega arith)

signed_back : (z : ℤ) (rest : List ℕ) → negsuc 8388607 ≤ℤ z → z ≤ℤ pos 8388607 → signed24 (big_bytes 3 (low_bytes w64 3 z) ++ rest) 0 ≡ z
signed_back z rest low high =
    let number = number24_back (low_bytes w64 3 z) rest (omega arith) in
    rw number (loss_of z low high)

signed24_behind : (xs ys : List ℕ) (i j : ℕ) → i ≡ length xs + j → signed24 (xs ++ ys) i ≡ signed24 ys j
signed24_behind xs ys i j e = ap (twos_complement 3) (number24_behind xs ys i j e)

block_behind : (xs ys : List ℕ) (i j : ℕ) → i ≡ length xs + j → block_at (xs ++ ys) i ≡ block_at ys j
block_behind xs ys i j e = λ d. record {
  ssrc = number32_behind xs ys i j e d;
  fraction = index_behind xs ys (i + 4) (j + 4) (omega arith) d;
  lost = signed24_behind xs ys (i + 5) (j + 5) (omega arith) d;
  greatest = number32_behind xs ys (i + 8) (j + 8) (omega arith) d;
  jitter = number32_behind xs ys (i + 12) (j + 12) (omega arith) d;
  lsr = number32_behind xs ys (i + 16) (j + 16) (omega arith) d;
  dlsr = number32_behind xs ys (i + 20) (j + 20) (omega arith) d;
}

one_block_back : (b : ReportBlock) (rest : List ℕ) → BlockInRange b → LossFits b → block_at (block_bytes b ++ rest) 0 ≡ b
one_block_back b rest r loss = λ d. record {
  ssrc = number32_back b.ssrc [] r.ssrc d;
  fraction = b.fraction;
  lost = signed_back b.lost [] loss.0 loss.1 d;
  greatest = number32_back b.greatest [] (r.others 0) d;
  jitter = number32_back b.jitter [] (r.others 1) d;
  lsr = number32_back b.lsr [] (r.others 2) d;
  dlsr = number32_back b.dlsr [] (r.others 3) d;
}

block_back : (bs : List ReportBlock) (rest : List ℕ) (k : ℕ) (d : ReportBlock) → k < length bs → AllByRecursion BlockInRange bs → AllByRecursion LossFits bs → block_at (flat_map block_bytes bs ++ rest) (24 * k) ≡ get_or bs k d
block_back [] rest k d lt ranges loss = absurd (omega arith)
block_back (b ∷ bs) rest zero d lt ranges loss =
    ap (λ (xs : List ℕ). block_at xs 0) (append_assoc (block_bytes b) (flat_map block_bytes bs) rest) ∙ one_block_back b (flat_map block_bytes bs ++ rest) ranges.0 loss.0
block_back (b ∷ bs) rest (suc k) d lt ranges loss =
    ap (λ (xs : List ℕ). block_at xs (24 * suc k)) (append_assoc (block_bytes b) (flat_map block_bytes bs) rest)
    ∙ block_behind (block_bytes b) (flat_map block_bytes bs ++ rest) (24 * suc k) (24 * k) (omega arith) ∙ block_back bs rest k d (omega arith) ranges.1 loss.1

no_block : ReportBlock
no_block = record { ssrc = 0; fraction = 0; lost = pos 0; greatest = 0; jitter = 0; lsr = 0; dlsr = 0 }

pub blocks_back : (front : List ℕ) (bs : List ReportBlock) (rest : List ℕ) (at : ℕ) → length front ≡ at → AllByRecursion BlockInRange bs → AllByRecursion LossFits bs
    → blocks_at (front ++ (flat_map block_bytes bs ++ rest)) at (length bs) ≡ bs
blocks_back front bs rest at len ranges loss =
    sym (fill_by_all (λ k. block_at (front ++ (flat_map block_bytes bs ++ rest)) (at + 24 * k)) bs (length bs) no_block refl
    (λ k lt. sym (block_behind front (flat_map block_bytes bs ++ rest) (at + 24 * k) (24 * k) (omega arith) ∙ block_back bs rest k no_block lt ranges loss)))

-- ---- entries

-- the entry at this place
abbrev pair_at : List ℕ → ℕ → Nack
pair_at bytes at = record { pid = number16 bytes at; blp = number16 bytes (2 + at) }

pair_behind : (xs ys : List ℕ) (i j : ℕ) → i ≡ length xs + j → pair_at (xs ++ ys) i ≡ pair_at ys j
pair_behind xs ys i j e = λ d. record { pid = number16_behind xs ys i j e d; blp = number16_behind xs ys (2 + i) (2 + j) (omega arith) d }

pair_back : (e : Nack) (rest : List ℕ) → EntryInRange e → pair_at (entry_bytes e ++ rest) 0 ≡ e
pair_back e rest r = λ d. record { pid = number16_back e.pid [] r.pid d; blp = number16_back e.blp [] r.blp d }

entry_back : (es : List Nack) (k : ℕ) (d : Nack) → k < length es → AllByRecursion EntryInRange es → pair_at (flat_map entry_bytes es) (4 * k) ≡ get_or es k d
entry_back [] k d lt ranges = absurd (omega arith)
entry_back (e ∷ es) zero d lt ranges = pair_back e (flat_map entry_bytes es) ranges.0
entry_back (e ∷ es) (suc k) d lt ranges = pair_behind (entry_bytes e) (flat_map entry_bytes es) (4 * suc k) (4 * k) (omega arith) ∙ entry_back es k d (omega arith) ranges.1

pub entries_back : (front : List ℕ) (es : List Nack) → length front ≡ 8 → AllByRecursion EntryInRange es → entries_at (front ++ flat_map entry_bytes es) (length es) ≡ es
entries_back front es len ranges =
    sym (fill_by_all (entry_at (front ++ flat_map entry_bytes es)) es (length es) (record { pid = 0; blp = 0 }) refl (λ k lt. sym (
    (λ d. record {
      pid = number16_behind front (flat_map entry_bytes es) (8 + 4 * k) (4 * k) (omega arith) d;
      blp = number16_behind front (flat_map entry_bytes es) (10 + 4 * k) (2 + 4 * k) (omega arith) d;
    }) ∙ entry_back es k (record { pid = 0; blp = 0 }) lt ranges)))

-- ---- descriptions

item_when : (go : List ℕ → Option (List SdesItem × List ℕ)) (kind len : ℕ) (rest : List ℕ) → 0 < kind → len ≤ length rest → item_then go (kind ∷ len ∷ rest) ≡ with_item (record { kind = kind; text = take len rest }) (go (drop len rest))
item_when go kind len rest some fits =
    let kind_test : (kind == 0) ≡ false = grind (arith, nat_tests) in
    rw (kind_test, le-ltb (length rest) len fits) refl

pub items_back : (items : List SdesItem) (more : List ℕ) (n : ℕ) → length items < n → AllByRecursion ItemFits items → items_at n (items_bytes items ++ (0 ∷ more)) ≡ Some (items, more)
unfolding items_at
items_back items more zero lt fits = absurd (omega arith)
items_back [] more (suc n) lt fits = refl
items_back (i ∷ is) more (suc n) lt fits =
    let behind = items_bytes is ++ (0 ∷ more) in
    let parts : (i.text ++ items_bytes is) ++ (0 ∷ more) ≡ i.text ++ behind = append_assoc i.text (items_bytes is) (0 ∷ more) in
    ap (λ (xs : List ℕ). item_then (items_at n) (i.kind ∷ length i.text ∷ xs)) parts
    ∙ item_when (items_at n) i.kind (length i.text) (i.text ++ behind) fits.0.0 (omega (arith, length-append i.text behind))
    ∙ rw (take_at i.text behind (length i.text) refl, drop_at i.text behind (length i.text) refl, items_back is more n (omega arith) fits.1) refl

items_short : (items : List SdesItem) → length items ≤ length (items_bytes items)
items_short [] = omega arith
items_short (i ∷ is) = omega (arith, items_short is, length-append i.text (items_bytes is))

chunk_when : (b : List ℕ) (items : List SdesItem) (rest : List ℕ) (g : ℕ) → 4 ≤ length b → items_at (length b) (drop 4 b) ≡ Some (items, rest) → gap (length b - length rest) ≡ g → g ≤ length rest
    → chunk_at b ≡ Some (record { ssrc = number32 b 0; items = items }, drop g rest)
unfolding chunk_at
chunk_when b items rest g long h e fits = rw (le-ltb (length b) 4 long, h, e, le-ltb (length rest) g fits) refl

pub chunk_back : (c : Chunk) (more : List ℕ) → ChunkFits c → ChunkInRange c → chunk_at (chunk_bytes c ++ more) ≡ Some (c, more)
chunk_back c more fits small =
    let front = big_bytes 4 c.ssrc ++ items_bytes c.items in
    let z = 4 - length front % 4 in
    let g = z - 1 in
    let rest = replicate {A = ℕ} g 0 ++ more in
    let b = chunk_bytes c ++ more in
    let zeros : replicate {A = ℕ} z 0 ≡ 0 ∷ replicate {A = ℕ} g 0 = ap (λ (n : ℕ). replicate {A = ℕ} n 0) (let e : z ≡ suc g = omega arith in e) in
    let parts : b ≡ front ++ (0 ∷ rest) = append_assoc front (replicate z 0) more ∙ ap (λ (xs : List ℕ). front ++ (xs ++ more)) zeros in
    let len : length b ≡ length front + 1 + length rest = ap length parts ∙ omega (arith, length-append front (0 ∷ rest)) in
    let behind : drop 4 b ≡ items_bytes c.items ++ (0 ∷ rest) = ap (drop 4) parts in
    let count : length rest ≡ g + length more = omega (arith, length-append (replicate g 0) more, length-replicate {A = ℕ} g 0) in
    let read : items_at (length b) (drop 4 b) ≡ Some (c.items, rest) = ap (items_at (length b)) behind ∙ items_back c.items rest (length b) (omega (arith, len, items_short c.items)) fits in
    let found = chunk_when b c.items rest g (omega (arith, len)) read (omega (arith, len)) (omega (arith, count)) in
    let ssrc : number32 b 0 ≡ c.ssrc = number32_back c.ssrc [] small in
    found ∙ (λ d. Some (record { ssrc = ssrc d; items = c.items }, drop_at (replicate g 0) more g (length-replicate {A = ℕ} g 0) d))

pub chunks_back : (cs : List Chunk) → AllByRecursion ChunkFits cs → AllByRecursion ChunkInRange cs → chunks_at (length cs) (flat_map chunk_bytes cs) ≡ Some cs
unfolding chunks_at
chunks_back [] fits ranges = refl
chunks_back (c ∷ cs) fits ranges = rw (chunk_back c (flat_map chunk_bytes cs) fits.0 ranges.0, chunks_back cs fits.1 ranges.1) refl

pub length-chunks : (cs : List Chunk) → length (flat_map chunk_bytes cs) % 4 ≡ 0
length-chunks [] = refl
length-chunks (c ∷ cs) =
    let front = big_bytes 4 c.ssrc ++ items_bytes c.items in
    omega (arith, length-chunks cs, length-append (chunk_bytes c) (flat_map chunk_bytes cs), length-append front (replicate (4 - length front % 4) 0), length-replicate {A = ℕ} (4 - length front % 4) 0)

-- ---- reasons

reason_when : (len : ℕ) (rest : List ℕ) → len ≤ length rest → reason_at (len ∷ rest) ≡ Some (Some (take len rest))
reason_when len rest fits = rw (le-ltb (length rest) len fits) refl

pub reason_back : (reason : Option (List ℕ)) → reason_at (reason_bytes reason) ≡ Some reason
reason_back None = refl
reason_back (Some text) =
    let zeros = replicate (gap (1 + length text)) 0 in
    reason_when (length text) (text ++ zeros) (omega (arith, length-append text zeros)) ∙ ap (λ (t : List ℕ). Some (Some t)) (take_at text zeros (length text) refl)

pub length-reason : (reason : Option (List ℕ)) → length (reason_bytes reason) % 4 ≡ 0
length-reason None = refl
length-reason (Some text) = omega (arith, length-append text (replicate (gap (1 + length text)) 0), length-replicate {A = ℕ} (gap (1 + length text)) 0)

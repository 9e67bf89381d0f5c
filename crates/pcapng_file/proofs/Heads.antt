-- What stands at a block's border, by the tests in their order, and the records from there on.
use Rattle.std.proofs.Common.{◌≡◌, ℕ, zero, suc, ◌+◌, ◌-◌, ◌%◌, ◌≤◌, ◌<◌, Bool, true, false, List, [], ◌++◌, length, take, drop, Option, Some, None, Result, Ok, Err, refl, sym, ap, ◌∙◌, append_assoc, arith}
use Rattle.std.specs.Prelude.{nat_lt, nat_le, ◌==◌, ◌&&◌, if◌then◌else◌}
use Rattle.std.proofs.lemmas.Bool.{lt-ltb, le-ltb}
use Rattle.std.proofs.lemmas.Bool.Decides.{nat_tests}
use Rattle.std.proofs.lemmas.List.{length-drop, length-append, drop_at}
use Rattle.pcap_file.specs.Capture.{Record}
use Rattle.pcap_file.specs.Numbers.{number_at}
use Rattle.pcap_file.specs.declared.order.Order.{Order}
use Rattle.pcapng_file.specs.declared.fault.NgFault.{NgFault}
use Rattle.pcapng_file.specs.declared.fault.NgFault.TheVariants.{CutBlock, Order as NoOrder, Block, TooMany}
use Rattle.pcapng_file.specs.declared.frame.Frame.{Frame}
use Rattle.pcapng_file.specs.declared.frame.Kind.{Kind}
use Rattle.pcapng_file.specs.declared.frame.Kind.TheVariants.{Section, Interface, Packet, Simple, Other}
use Rattle.pcapng_file.specs.Faults.{IsOfBytes}
use Rattle.pcapng_file.specs.Blocks.{Mark, Meaning, Head, AtEnd, AtFault, AtBlock, NgCapture, kind_of, order_of, least_of, frame_in, frame_of, meaning_of, block_of, records_of, is_too_many, mark_after, counted, head_in, head_of, with_front, empty, step_from, walk, blocks_from}

-- ---- a frame

abbrev framed : Result Frame NgFault → Frame → Type 0
framed r frame = r ≡ Ok frame

pub least_some : (kind : Kind) → 12 ≤ least_of kind
least_some Section = omega arith
least_some Interface = omega arith
least_some Packet = omega arith
least_some Simple = omega arith
least_some Other = omega arith

tested : (b c : Bool) (made frame : Frame) (offset : ℕ) → framed (if b && c then Ok made else Err (Block offset)) frame → (c ≡ true) × (made ≡ frame)
tested true true made frame offset e = (refl, cc)
tested true false made frame offset e = absurd cc
tested false c made frame offset e = absurd cc

frame_in_some : (offset : ℕ) (front : List ℕ) (order : Option Order) (frame : Frame) → framed (frame_in offset front order) frame → 12 ≤ frame.total
frame_in_some offset front None frame e = absurd cc
frame_in_some offset front (Some order) frame e =
    let n = number_at order 4 4 front in
    let kind = kind_of order front in
    let made : Frame = record { order = order; kind = kind; total = n } in
    let is = tested (n % 4 == 0) (nat_le (least_of kind) n) made frame offset e in
    let le : least_of kind ≤ n = le_by (least_of kind) n is.0 in
    omega (arith, least_some kind, le, ap (λ (f : Frame). f.total) is.1)
  where
    le_by : (m n : ℕ) → nat_le m n ≡ true → m ≤ n
    le_by m n e = grind (arith, nat_tests)

pub frame_some : (order : Order) (offset : ℕ) (front : List ℕ) (frame : Frame) → frame_of order offset front ≡ Ok frame → 12 ≤ frame.total
unfolding frame_of
frame_some order offset front frame e = frame_in_some offset front (order_of order front) frame e

bad_test : (b : Bool) (made : Frame) (offset : ℕ) (fault : NgFault) → (let r : Result Frame NgFault = if b then Ok made else Err (Block offset) in r ≡ Err fault) → fault ≡ Block offset
bad_test true made offset fault e = absurd cc
bad_test false made offset fault e = cc

frame_in_bad : (offset : ℕ) (front : List ℕ) (order : Option Order) (fault : NgFault) → frame_in offset front order ≡ Err fault → IsOfBytes fault
frame_in_bad offset front None fault e = let is : fault ≡ NoOrder offset = cc in rw is tt
frame_in_bad offset front (Some order) fault e =
    let n = number_at order 4 4 front in
    let kind = kind_of order front in
    let is = bad_test (n % 4 == 0 && nat_le (least_of kind) n) (record { order = order; kind = kind; total = n }) offset fault e in
    rw is tt

pub frame_bad : (order : Order) (offset : ℕ) (front : List ℕ) (fault : NgFault) → frame_of order offset front ≡ Err fault → IsOfBytes fault
unfolding frame_of
frame_bad order offset front fault e = frame_in_bad offset front (order_of order front) fault e

-- ---- a block behind its front

pub block_cut : (mark : Mark) (frame : Frame) (bytes : List ℕ) → length bytes < frame.total → block_of mark frame bytes ≡ Err (CutBlock mark.offset)
unfolding block_of
block_cut mark frame bytes cut = rw (lt-ltb (length bytes) frame.total cut) refl

pub block_by : (mark : Mark) (frame : Frame) (bytes : List ℕ) → frame.total ≤ length bytes
    → block_of mark frame bytes ≡ (if number_at frame.order 4 (frame.total - 4) bytes == frame.total then meaning_of mark frame (take (frame.total - 4) bytes) else Err (Block mark.offset))
unfolding block_of
block_by mark frame bytes whole = rw (le-ltb (length bytes) frame.total whole) refl

-- ---- a block's border

pub head_empty : (mark : Mark) → head_of mark [] ≡ AtEnd
unfolding head_of
head_empty mark = refl

pub head_cut : (mark : Mark) (bytes : List ℕ) → 0 < length bytes → length bytes < 12 → head_of mark bytes ≡ AtFault (CutBlock mark.offset)
unfolding head_of
head_cut mark bytes some short = grind (arith, nat_tests)

pub head_whole : (mark : Mark) (bytes : List ℕ) → 12 ≤ length bytes → head_of mark bytes ≡ head_in mark bytes (frame_of mark.order mark.offset (take 12 bytes))
unfolding head_of
head_whole mark bytes whole = grind (arith, nat_tests)

counted_in : (mark new made : Mark) (frame : Frame) (b : Bool) (total : ℕ) (rs records : List Record)
    → (if b then AtFault (TooMany mark.offset) else AtBlock made frame.total rs) ≡ AtBlock new total records → total ≡ frame.total
counted_in mark new made frame true total rs records e = absurd cc
counted_in mark new made frame false total rs records e = cc

counted_some : (mark new : Mark) (frame : Frame) (meaning : Result Meaning NgFault) (total : ℕ) (records : List Record) → counted mark frame meaning ≡ AtBlock new total records → total ≡ frame.total
counted_some mark new frame (Err fault) total records e = absurd cc
counted_some mark new frame (Ok meaning) total records e = counted_in mark new (mark_after mark frame meaning) frame (is_too_many mark meaning) total (records_of meaning) records e

head_in_some : (mark new : Mark) (bytes : List ℕ) (made : Result Frame NgFault) (total : ℕ) (records : List Record) → ((frame : Frame) → made ≡ Ok frame → 12 ≤ frame.total) → head_in mark bytes made ≡ AtBlock new total records → 0 < total
head_in_some mark new bytes (Err fault) total records some e = absurd cc
head_in_some mark new bytes (Ok frame) total records some e = omega (arith, counted_some mark new frame (block_of mark frame bytes) total records e, some frame refl)

tests_some : (none cut : Bool) (mark new : Mark) (bytes : List ℕ) (made : Result Frame NgFault) (total : ℕ) (records : List Record) → ((frame : Frame) → made ≡ Ok frame → 12 ≤ frame.total)
    → (if none then AtEnd else if cut then AtFault (CutBlock mark.offset) else head_in mark bytes made) ≡ AtBlock new total records → (0 < total) × (none ≡ false)
tests_some true cut mark new bytes made total records some e = absurd cc
tests_some false true mark new bytes made total records some e = absurd cc
tests_some false false mark new bytes made total records some e = (head_in_some mark new bytes made total records some e, refl)

head_some : (mark new : Mark) (bytes : List ℕ) (total : ℕ) (records : List Record) → head_of mark bytes ≡ AtBlock new total records → (0 < total) × (0 < length bytes)
unfolding head_of
head_some mark new bytes total records e =
    let is = tests_some (length bytes == 0) (nat_lt (length bytes) 12) mark new bytes (frame_of mark.order mark.offset (take 12 bytes)) total records (λ frame is. frame_some mark.order mark.offset (take 12 bytes) frame is) e in
    (is.0, not_none (length bytes) is.1)
  where
    not_none : (n : ℕ) → (n == 0) ≡ false → 0 < n
    not_none zero e = absurd cc
    not_none (suc n) e = omega arith

-- ---- the records from a place on

step_same : (f g : Mark → List ℕ → NgCapture) (bytes : List ℕ) (h : Head) → ((new : Mark) (total : ℕ) (records : List Record) → h ≡ AtBlock new total records → f new (drop total bytes) ≡ g new (drop total bytes))
    → step_from f bytes h ≡ step_from g bytes h
step_same f g bytes AtEnd same = refl
step_same f g bytes (AtFault fault) same = refl
step_same f g bytes (AtBlock new total records) same = ap (λ (c : NgCapture). with_front records c) (same new total records refl)

-- more steps than bytes change nothing
walk_enough : (m n : ℕ) (mark : Mark) (bytes : List ℕ) → length bytes < m → length bytes < n → walk m mark bytes ≡ walk n mark bytes
unfolding walk
walk_enough zero n mark bytes p q = absurd (omega arith)
walk_enough (suc m) zero mark bytes p q = absurd (omega arith)
walk_enough (suc m) (suc n) mark bytes p q =
    step_same (walk m) (walk n) bytes (head_of mark bytes) (λ new total records e.
    let some = head_some mark new bytes total records e in
    let len = length-drop total bytes in
    walk_enough m n new (drop total bytes) (omega (arith, some.0, some.1)) (omega (arith, some.0, some.1)))

blocks_step : (mark : Mark) (bytes : List ℕ) → blocks_from mark bytes ≡ step_from (walk (length bytes)) bytes (head_of mark bytes)
unfolding blocks_from walk
blocks_step mark bytes = let k : length bytes + 1 ≡ suc (length bytes) = omega arith in ap (λ (n : ℕ). walk n mark bytes) k

pub blocks_end : (mark : Mark) (bytes : List ℕ) → head_of mark bytes ≡ AtEnd → blocks_from mark bytes ≡ empty None
blocks_end mark bytes e = blocks_step mark bytes ∙ ap (λ (h : Head). step_from (walk (length bytes)) bytes h) e

pub blocks_fault : (mark : Mark) (bytes : List ℕ) (fault : NgFault) → head_of mark bytes ≡ AtFault fault → blocks_from mark bytes ≡ empty (Some fault)
blocks_fault mark bytes fault e = blocks_step mark bytes ∙ ap (λ (h : Head). step_from (walk (length bytes)) bytes h) e

blocks_more : (mark new : Mark) (bytes : List ℕ) (total : ℕ) (records : List Record) → head_of mark bytes ≡ AtBlock new total records → blocks_from mark bytes ≡ with_front records (blocks_from new (drop total bytes))
unfolding blocks_from
blocks_more mark new bytes total records e =
    let some = head_some mark new bytes total records e in
    let rest = drop total bytes in
    blocks_step mark bytes ∙ ap (λ (h : Head). step_from (walk (length bytes)) bytes h) e
    ∙ ap (λ (c : NgCapture). with_front records c) (walk_enough (length bytes) (length rest + 1) new rest (omega (arith, length-drop total bytes, some.0, some.1)) (omega arith))

-- a block in front of anything
pub blocks_behind : (mark new : Mark) (front taken more : List ℕ) (total : ℕ) (records : List Record) → length front + length taken ≡ total → head_of mark (front ++ (taken ++ more)) ≡ AtBlock new total records
    → blocks_from mark (front ++ (taken ++ more)) ≡ with_front records (blocks_from new more)
blocks_behind mark new front taken more total records long e =
    let len : length (front ++ taken) ≡ total = length-append front taken ∙ long in
    blocks_more mark new (front ++ (taken ++ more)) total records e
    ∙ ap (λ (xs : List ℕ). with_front records (blocks_from new xs)) (ap (λ (xs : List ℕ). drop total xs) (sym (append_assoc front taken more)) ∙ drop_at (front ++ taken) more total len)

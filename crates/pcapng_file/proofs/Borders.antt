-- What stands behind a block, and where the block of a packet ends.
use Rattle.std.proofs.Common.{◌≡◌, ℕ, ◌+◌, ◌-◌, ◌*◌, ◌^◌, ◌%◌, ◌≤◌, Bool, true, false, List, [], ◌∷◌, ◌++◌, length, take, drop, Option, Some, None, Result, Ok, Err, inl, inr, ◌⊎◌, refl, sym, ap, ◌∙◌, subst, arith}
use Rattle.std.specs.Prelude.{nat_lt, nat_le, slice_index, ◌==◌, ◌&&◌, ◌||◌, if◌then◌else◌}
use Rattle.std.proofs.lemmas.Bool.{ne_eqb}
use Rattle.std.proofs.lemmas.Bool.Decides.{nat_tests}
use Rattle.std.proofs.lemmas.List.{length-take, take-append-drop, drop_at}
use Rattle.rtp_io.specs.Outside.{Disk}
use Rattle.pcap_file.specs.Capture.{Record}
use Rattle.pcap_file.specs.Numbers.{number_at}
use Rattle.pcap_file.specs.declared.order.Order.{Order}
use Rattle.pcap_file.specs.declared.order.Order.TheVariants.{Little, Big}
use Rattle.pcapng_file.specs.declared.fault.NgFault.{NgFault}
use Rattle.pcapng_file.specs.declared.fault.NgFault.TheVariants.{CutBlock, Block, Version, TooMany}
use Rattle.pcapng_file.specs.declared.frame.Frame.{Frame}
use Rattle.pcapng_file.specs.declared.frame.Kind.{Kind}
use Rattle.pcapng_file.specs.declared.frame.Kind.TheVariants.{Section, Interface as OfInterface, Packet, Simple, Other}
use Rattle.pcapng_file.specs.declared.interface.Interface.{Interface}
use Rattle.pcapng_file.specs.declared.packet.Plan.{Plan}
use Rattle.pcapng_file.specs.Blocks.{Mark, Meaning, NewSection, NewInterface, NewPacket, Nothing, Head, AtEnd, AtFault, AtBlock, is_section, kind_of, order_of, least_of, frame_in, frame_of, section_of, new_interface, packet_plan, simple_plan, new_packet, meaning_by, meaning_of, block_of, records_of, is_too_many, mark_after, counted, head_in, head_of}
use Rattle.pcapng_file.specs.Ends.{packet_order, packet_size, record_end}
use Rattle.pcapng_file.specs.Reading.{TakesBlock}
use Rattle.pcapng_file.proofs.Heads.{head_whole}
use Rattle.pcapng_file.proofs.Numbers.{number_front}

-- ---- the numbers of a packet block

number_taken : (order : Order) (place : ℕ) (bytes : List ℕ) → place + 4 ≤ 12 → 12 ≤ length bytes → number_at order 4 place (take 12 bytes) ≡ number_at order 4 place bytes
number_taken order place bytes within long =
    sym (number_front order 4 place (take 12 bytes) (drop 12 bytes) (omega (arith, length-take 12 bytes)))
    ∙ ap (λ (xs : List ℕ). number_at order 4 place xs) (take-append-drop 12 bytes)

-- the type of a packet
IsType : ℕ → Type 0
IsType n = (n ≡ 6) ⊎ (n ≡ 3)

low_type : (a b c d n : ℕ) → a + 256 * (b + 256 * (c + 256 * (d + 256 * 0))) ≡ n → (n ≡ 6) ⊎ (n ≡ 3) → (a == 0) ≡ false
low_type a b c d n e is = ne_eqb a 0 (λ none. elim is [ inl six ↦ omega arith | inr three ↦ omega arith ])

high_type : (a b c d n : ℕ) → a * 256 ^ 3 + (b * 256 ^ 2 + (c * 256 ^ 1 + (d * 256 ^ 0 + 0))) ≡ n → (n ≡ 6) ⊎ (n ≡ 3) → a ≡ 0
high_type a b c d n e is = elim is [ inl six ↦ omega arith | inr three ↦ omega arith ]

order_told : (order : Order) (bytes : List ℕ) → (number_at order 4 0 bytes ≡ 6) ⊎ (number_at order 4 0 bytes ≡ 3) → packet_order bytes ≡ order
unfolding number_at
order_told Little bytes is =
    let i = slice_index bytes in
    rw (low_type (i 0) (i 1) (i 2) (i 3) (number_at Little 4 0 bytes) refl is) refl
order_told Big bytes is =
    let i = slice_index bytes in
    rw (high_type (i 0) (i 1) (i 2) (i 3) (number_at Big 4 0 bytes) refl is) refl

-- ---- the frame of a packet block

IsPacketKind : Kind → Type 0
IsPacketKind kind = (kind ≡ Packet) ⊎ (kind ≡ Simple)

abbrev kind_by : Bool → Bool → Bool → Bool → Kind
kind_by a b c d = if a then Section else if b then OfInterface else if c then Packet else if d then Simple else Other

kind_packet : (a b c d : Bool) → kind_by a b c d ≡ Packet → c ≡ true
kind_packet true b c d e = absurd cc
kind_packet false true c d e = absurd cc
kind_packet false false true d e = refl
kind_packet false false false true e = absurd cc
kind_packet false false false false e = absurd cc

kind_simple : (a b c d : Bool) → kind_by a b c d ≡ Simple → d ≡ true
kind_simple true b c d e = absurd cc
kind_simple false true c d e = absurd cc
kind_simple false false true d e = absurd cc
kind_simple false false false true e = refl
kind_simple false false false false e = absurd cc

tells : (m n : ℕ) → (m == n) ≡ true → m ≡ n
tells m n e = grind (arith, nat_tests)

kind_type : (order : Order) (front : List ℕ) (kind : Kind) → kind ≡ kind_of order front → (kind ≡ Packet) ⊎ (kind ≡ Simple) → (number_at order 4 0 front ≡ 6) ⊎ (number_at order 4 0 front ≡ 3)
kind_type order front kind is of =
    let n = number_at order 4 0 front in
    elim of [
      | inl packet ↦ inl (tells n 6 (kind_packet (is_section front) (n == 1) (n == 6) (n == 3) (sym is ∙ packet)))
      | inr simple ↦ inr (tells n 3 (kind_simple (is_section front) (n == 1) (n == 6) (n == 3) (sym is ∙ simple)))
    ]

-- what a frame has of its front
pub record FrameOf (front : List ℕ) (frame : Frame) : Type 0 where
  pub kind : frame.kind ≡ kind_of frame.order front
  pub total : frame.total ≡ number_at frame.order 4 4 front

made_of : (c : Bool) (order : Order) (offset : ℕ) (front : List ℕ) (frame : Frame)
    → (let made : Result Frame NgFault = if c then Ok (record { order = order; kind = kind_of order front; total = number_at order 4 4 front }) else Err (Block offset) in made ≡ Ok frame)
    → FrameOf front frame
made_of true order offset front frame e =
    let made : Frame = record { order = order; kind = kind_of order front; total = number_at order 4 4 front } in
    let is : made ≡ frame = cc in
    subst (λ (f : Frame). FrameOf front f) is (record { kind = refl; total = refl })
made_of false order offset front frame e = absurd cc

frame_parts : (offset : ℕ) (front : List ℕ) (order : Option Order) (frame : Frame) → frame_in offset front order ≡ Ok frame → FrameOf front frame
frame_parts offset front None frame e = absurd cc
frame_parts offset front (Some order) frame e =
    made_of (number_at order 4 4 front % 4 == 0 && nat_le (least_of (kind_of order front)) (number_at order 4 4 front)) order offset front frame e

frame_is : (order : Order) (offset : ℕ) (front : List ℕ) (frame : Frame) → frame_of order offset front ≡ Ok frame → FrameOf front frame
unfolding frame_of
frame_is order offset front frame e = frame_parts offset front (order_of order front) frame e

-- ---- what a block says that has a record

abbrev packeted : Result Meaning NgFault → Record → Type 0
packeted said r = said ≡ Ok (NewPacket r)

section_none : (b : Bool) (offset : ℕ) (r : Record) → packeted (if b then Ok NewSection else Err (Version offset)) r → ⊥
section_none true offset r e = cc
section_none false offset r e = cc

interface_none : (made : Result Interface NgFault) (r : Record) → packeted (new_interface made) r → ⊥
interface_none (Ok interface) r e = cc
interface_none (Err fault) r e = cc

packet_offset : (offset : ℕ) (bytes : List ℕ) (plan : Result Plan NgFault) (r : Record) → packeted (new_packet offset bytes plan) r → r.offset ≡ offset
packet_offset offset bytes (Err fault) r e = absurd cc
packet_offset offset bytes (Ok plan) r e =
    let made : Record = record { link = plan.link; offset = offset; stamp = plan.stamp; original = plan.original; bytes = take plan.captured bytes } in
    let is : made ≡ r = cc in
    ap (λ (r : Record). r.offset) (sym is)

meaning_packet : (mark : Mark) (order : Order) (total : ℕ) (block : List ℕ) (kind : Kind) (r : Record) → packeted (meaning_by mark order total block kind) r → ((kind ≡ Packet) ⊎ (kind ≡ Simple)) × (r.offset ≡ mark.offset)
unfolding section_of
meaning_packet mark order total block Section r e = absurd (section_none (number_at order 2 12 block == 1) mark.offset r e)
meaning_packet mark order total block OfInterface r e = absurd (interface_none _ r e)
meaning_packet mark order total block Packet r e = (inl refl, packet_offset mark.offset (drop 28 block) (packet_plan mark order (total - 32) block) r e)
meaning_packet mark order total block Simple r e = (inr refl, packet_offset mark.offset (drop 12 block) (simple_plan mark order (total - 16) block) r e)
meaning_packet mark order total block Other r e = absurd cc

block_said : (cut same : Bool) (said : Result Meaning NgFault) (offset : ℕ) (r : Record) → packeted (if cut then Err (CutBlock offset) else if same then said else Err (Block offset)) r → packeted said r
block_said true same said offset r e = absurd cc
block_said false true said offset r e = e
block_said false false said offset r e = absurd cc

block_packet : (mark : Mark) (frame : Frame) (bytes : List ℕ) (r : Record) → packeted (block_of mark frame bytes) r → ((frame.kind ≡ Packet) ⊎ (frame.kind ≡ Simple)) × (r.offset ≡ mark.offset)
unfolding block_of meaning_of
block_packet mark frame bytes r e =
    let said = meaning_of mark frame (take (frame.total - 4) bytes) in
    meaning_packet mark frame.order frame.total (take (frame.total - 4) bytes) frame.kind r
    (block_said (nat_lt (length bytes) frame.total) (number_at frame.order 4 (frame.total - 4) bytes == frame.total) said mark.offset r e)

-- ---- a block

pub record Behind (mark new : Mark) (bytes : List ℕ) (total : ℕ) (records : List Record) : Type 0 where
  pub placed : new.offset ≡ mark.offset + total
  pub counted : new.records ≡ mark.records + length records
  pub few : new.records ≤ 100000000
  pub ends : (r : Record) → records ≡ r ∷ [] → (r.offset ≡ mark.offset) × (packet_size bytes ≡ total)

few_records : (mark : Mark) (meaning : Meaning) → is_too_many mark meaning ≡ false → mark.records + length (records_of meaning) ≤ 100000000
few_records mark meaning few = by_last (nat_le 200000000 mark.blocks) (nat_lt 100000000 (mark.records + length (records_of meaning))) (λ e. grind (arith, nat_tests)) few
  where
    by_last : (a b : Bool) → (b ≡ false → mark.records + length (records_of meaning) ≤ 100000000) → (a || b) ≡ false → mark.records + length (records_of meaning) ≤ 100000000
    by_last true b f e = absurd cc
    by_last false b f e = f e

only_packet : (meaning : Meaning) (r : Record) → records_of meaning ≡ r ∷ [] → meaning ≡ NewPacket r
only_packet NewSection r e = absurd cc
only_packet (NewInterface interface) r e = absurd cc
only_packet (NewPacket found) r e = let is : found ≡ r = cc in ap (λ (x : Record). NewPacket x) is
only_packet Nothing r e = absurd cc

size_told : (frame : Frame) (bytes : List ℕ) → 12 ≤ length bytes → FrameOf (take 12 bytes) frame → (frame.kind ≡ Packet) ⊎ (frame.kind ≡ Simple) → packet_size bytes ≡ frame.total
unfolding packet_size
size_told frame bytes long is kind =
    let kinds = kind_type frame.order (take 12 bytes) frame.kind is.kind kind in
    let typed : (number_at frame.order 4 0 bytes ≡ 6) ⊎ (number_at frame.order 4 0 bytes ≡ 3) = subst (λ (n : ℕ). (n ≡ 6) ⊎ (n ≡ 3)) (number_taken frame.order 0 bytes (omega arith) long) kinds in
    ap (λ (order : Order). number_at order 4 4 bytes) (order_told frame.order bytes typed) ∙ sym (number_taken frame.order 4 bytes (omega arith) long) ∙ sym is.total

meant : (mark : Mark) (frame : Frame) (bytes : List ℕ) (meaning : Meaning) → 12 ≤ length bytes → FrameOf (take 12 bytes) frame → block_of mark frame bytes ≡ Ok meaning → is_too_many mark meaning ≡ false
    → Behind mark (mark_after mark frame meaning) bytes frame.total (records_of meaning)
meant mark frame bytes meaning long is said few = record {
  placed = refl;
  counted = refl;
  few = few_records mark meaning few;
  ends = λ r one.
      let packet = block_packet mark frame bytes r (said ∙ ap (λ (m : Meaning). Ok m) (only_packet meaning r one)) in
      (packet.1, size_told frame bytes long is packet.0);
}

few_by : (many : Bool) (mark new made : Mark) (bytes : List ℕ) (total size : ℕ) (records found : List Record) → (many ≡ false → Behind mark made bytes size found)
    → (if many then AtFault (TooMany mark.offset) else AtBlock made size found) ≡ AtBlock new total records → Behind mark new bytes total records
few_by true mark new made bytes total size records found is e = absurd cc
few_by false mark new made bytes total size records found is e =
    let m : made ≡ new = cc in
    let t : size ≡ total = cc in
    let f : found ≡ records = cc in
    subst (λ (x : Mark). Behind mark x bytes total records) m (subst (λ (n : ℕ). Behind mark made bytes n records) t (subst (λ (rs : List Record). Behind mark made bytes size rs) f (is refl)))

counted_behind : (mark new : Mark) (frame : Frame) (bytes : List ℕ) (total : ℕ) (records : List Record) (said : Result Meaning NgFault) → 12 ≤ length bytes → FrameOf (take 12 bytes) frame → block_of mark frame bytes ≡ said
    → counted mark frame said ≡ AtBlock new total records → Behind mark new bytes total records
counted_behind mark new frame bytes total records (Err fault) long is said e = absurd cc
counted_behind mark new frame bytes total records (Ok meaning) long is said e =
    few_by (is_too_many mark meaning) mark new (mark_after mark frame meaning) bytes total frame.total records (records_of meaning) (λ few. meant mark frame bytes meaning long is said few) e

framed_behind : (mark new : Mark) (bytes : List ℕ) (total : ℕ) (records : List Record) (made : Result Frame NgFault) → 12 ≤ length bytes → frame_of mark.order mark.offset (take 12 bytes) ≡ made
    → head_in mark bytes made ≡ AtBlock new total records → Behind mark new bytes total records
framed_behind mark new bytes total records (Err fault) long is e = absurd cc
framed_behind mark new bytes total records (Ok frame) long is e =
    counted_behind mark new frame bytes total records (block_of mark frame bytes) long (frame_is mark.order mark.offset (take 12 bytes) frame is) refl e

tests_long : (none cut : Bool) (mark new : Mark) (bytes : List ℕ) (made : Head) (total : ℕ) (records : List Record) → (if none then AtEnd else if cut then AtFault (CutBlock mark.offset) else made) ≡ AtBlock new total records → cut ≡ false
tests_long true cut mark new bytes made total records e = absurd cc
tests_long false true mark new bytes made total records e = absurd cc
tests_long false false mark new bytes made total records e = refl

head_long : (mark new : Mark) (bytes : List ℕ) (total : ℕ) (records : List Record) → head_of mark bytes ≡ AtBlock new total records → 12 ≤ length bytes
unfolding head_of
head_long mark new bytes total records e =
    long (length bytes) (tests_long (length bytes == 0) (nat_lt (length bytes) 12) mark new bytes (head_in mark bytes (frame_of mark.order mark.offset (take 12 bytes))) total records e)
  where
    long : (n : ℕ) → nat_lt n 12 ≡ false → 12 ≤ n
    long n e = grind (arith, nat_tests)

pub behind_block : (mark new : Mark) (bytes : List ℕ) (total : ℕ) (records : List Record) → head_of mark bytes ≡ AtBlock new total records → Behind mark new bytes total records
behind_block mark new bytes total records e =
    let long = head_long mark new bytes total records e in
    framed_behind mark new bytes total records (frame_of mark.order mark.offset (take 12 bytes)) long refl (sym (head_whole mark bytes long) ∙ e)

-- ---- a block that was taken, of which these bytes were taken before

-- where its record ends, behind so many bytes
pub block_ends : (mark new : Mark) (r : Record) (front x y : List ℕ) (a b : Disk) (block : TakesBlock mark new (r ∷ []) front x y a b) (blocks more : List ℕ) → length blocks ≡ mark.offset
    → record_end (blocks ++ (front ++ (block.taken ++ more))) r ≡ new.offset
block_ends mark new r front x y a b block blocks more here =
    let bytes = front ++ (block.taken ++ more) in
    let behind = behind_block mark new bytes block.total (r ∷ []) (block.stands more) in
    let at = behind.ends r refl in
    let cut : drop r.offset (blocks ++ bytes) ≡ bytes = drop_at blocks bytes r.offset (here ∙ sym at.0) in
    ap (λ (xs : List ℕ). r.offset + packet_size xs) cut ∙ ap (λ (n : ℕ). r.offset + n) at.1 ∙ ap (λ (n : ℕ). n + block.total) at.0 ∙ sym behind.placed

pub block_behind : (mark new : Mark) (records : List Record) (front x y : List ℕ) (a b : Disk) (block : TakesBlock mark new records front x y a b)
    → Behind mark new (front ++ (block.taken ++ [])) block.total records
block_behind mark new records front x y a b block = behind_block mark new (front ++ (block.taken ++ [])) block.total records (block.stands [])

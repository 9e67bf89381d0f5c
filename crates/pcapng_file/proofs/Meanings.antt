-- What a block says, by the parts in which it is read.
use Rattle.std.proofs.Common.{◌≡◌, ℕ, ◌+◌, ◌-◌, ◌*◌, ◌^◌, ◌≤◌, List, ◌++◌, length, take, drop, Option, Result, Ok, Err, refl, sym, ap, ◌∙◌, append_assoc, arith}
use Rattle.std.specs.Prelude.{slice_get}
use Rattle.std.proofs.lemmas.Bool.{ne_eqb}
use Rattle.std.proofs.lemmas.List.{length-append, drop_at, take-append-le}
use Rattle.std.proofs.Math.Seq.{drop-append-add}
use Rattle.rtp_io.specs.Outside.{Disk}
use Rattle.pcap_file.specs.Numbers.{number_at}
use Rattle.pcap_file.specs.declared.order.Order.{Order}
use Rattle.pcap_file.specs.declared.order.Order.TheVariants.{Little, Big}
use Rattle.pcapng_file.proofs.Numbers.{number_front}
use Rattle.pcapng_file.specs.declared.fault.NgFault.{NgFault}
use Rattle.pcapng_file.specs.declared.fault.NgFault.TheVariants.{Version}
use Rattle.pcapng_file.specs.declared.frame.Frame.{Frame}
use Rattle.pcapng_file.specs.declared.frame.Kind.{Kind}
use Rattle.pcapng_file.specs.declared.frame.Kind.TheVariants.{Section, Interface as OfInterface, Packet, Simple, Other}
use Rattle.pcapng_file.specs.declared.options.Said.{Said}
use Rattle.pcapng_file.specs.declared.packet.Plan.{Plan}
use Rattle.pcapng_file.specs.Options.{filled, options_say}
use Rattle.pcapng_file.specs.Pieces.{TakesPart}
use Rattle.pcapng_file.specs.Blocks.{Mark, Meaning, NewSection, NewPacket, Nothing, section_of, interface_of, new_interface, plan_in, packet_plan, simple_in, simple_plan, new_packet, meaning_by, meaning_of}
use Rattle.pcapng_file.proofs.Parts.{part_then, part_as}

-- numbers behind a front
pub number_behind : (order : Order) (size place k : ℕ) (front rest : List ℕ) → length front ≡ k → number_at order size (k + place) (front ++ rest) ≡ number_at order size place rest
unfolding number_at
number_behind Little size place k front rest e = rw (← e, drop-append-add front rest place) refl
number_behind Big size place k front rest e = rw (← e, drop-append-add front rest place) refl

by_kind : (mark : Mark) (frame : Frame) (block : List ℕ) (kind : Kind) → frame.kind ≡ kind → meaning_of mark frame block ≡ meaning_by mark frame.order frame.total block kind
unfolding meaning_of
by_kind mark frame block kind is = ap (λ (k : Kind). meaning_by mark frame.order frame.total block k) is

-- ---- a section header

pub version_new : (mark : Mark) (frame : Frame) (block : List ℕ) (major : ℕ) → frame.kind ≡ Section → major ≡ number_at frame.order 2 12 block → major ≡ 1 → Ok NewSection ≡ meaning_of mark frame block
unfolding section_of
version_new mark frame block major kind read one = sym (by_kind mark frame block Section kind ∙ rw (← read, one) refl)

pub version_bad : (mark : Mark) (frame : Frame) (block : List ℕ) (major : ℕ) → frame.kind ≡ Section → major ≡ number_at frame.order 2 12 block → (major ≡ 1 → ⊥) → Err (Version mark.offset) ≡ meaning_of mark frame block
unfolding section_of
version_bad mark frame block major kind read other = sym (by_kind mark frame block Section kind ∙ rw (← read, ne_eqb major 1 other) refl)

-- the version stands behind the front
pub version_part : (order : Order) (front version : List ℕ) (major size : ℕ) (x y z : List ℕ) (a b c : Disk) → length front ≡ 12 → length version ≡ 4 → 4 ≤ size → major ≡ number_at order 2 0 version
    → TakesPart (λ taken. taken ≡ version) 4 x y a b → TakesPart (λ _. Unit {0}) (size - 4) y z b c → TakesPart (λ taken. major ≡ number_at order 2 12 (front ++ taken)) size x z a c
version_part order front version major size x y z a b c long len some read first second =
    part_then (λ taken. taken ≡ version) (λ _. Unit {0}) (λ taken. major ≡ number_at order 2 12 (front ++ taken)) 4 (size - 4) size x y z a b c first second (omega arith) (λ p q lp lq p-is q-is.
    read ∙ ap (λ (v : List ℕ). number_at order 2 0 v) (sym p-is)
    ∙ sym (number_behind order 2 0 12 front (p ++ q) long ∙ number_front order 2 0 p q (omega arith)))

-- the version stands in the front
pub version_front : (order : Order) (front : List ℕ) (major size : ℕ) (x y : List ℕ) (a b : Disk) → length front ≡ 24 → major ≡ number_at order 2 12 front → TakesPart (λ _. Unit {0}) size x y a b
    → TakesPart (λ taken. major ≡ number_at order 2 12 (front ++ taken)) size x y a b
version_front order front major size x y a b long read part =
    part_as (λ _. Unit {0}) (λ taken. major ≡ number_at order 2 12 (front ++ taken)) size size x y a b part refl (λ p lp _. read ∙ sym (number_front order 2 12 front p (omega arith)))

-- ---- an interface

interface_meaning : (mark : Mark) (frame : Frame) (front snap options : List ℕ) (said : Option Said) → frame.kind ≡ OfInterface → length front ≡ 12 → length snap ≡ 4 → said ≡ options_say frame.order options
    → meaning_of mark frame (front ++ (snap ++ options)) ≡ new_interface (interface_of mark.offset (length mark.interfaces) (number_at frame.order 2 8 front) (number_at frame.order 4 0 snap) said)
interface_meaning mark frame front snap options said kind long len says =
    let block = front ++ (snap ++ options) in
    let link : number_at frame.order 2 8 block ≡ number_at frame.order 2 8 front = number_front frame.order 2 8 front (snap ++ options) (omega arith) in
    let limit : number_at frame.order 4 12 block ≡ number_at frame.order 4 0 snap = number_behind frame.order 4 0 12 front (snap ++ options) long ∙ number_front frame.order 4 0 snap options (omega arith) in
    let at : drop 16 block ≡ options = ap (λ (xs : List ℕ). drop 16 xs) (sym (append_assoc front snap options)) ∙ drop_at (front ++ snap) options 16 (omega (arith, length-append front snap)) in
    by_kind mark frame block OfInterface kind ∙ rw (link, limit, at, ← says) refl

pub interface_part : (mark : Mark) (frame : Frame) (front snap : List ℕ) (said : Option Said) (verdict : Result Meaning NgFault) (x y z : List ℕ) (a b c : Disk) → frame.kind ≡ OfInterface → length front ≡ 12 → length snap ≡ 4 → 20 ≤ frame.total
    → TakesPart (λ taken. taken ≡ snap) 4 x y a b → TakesPart (λ taken. said ≡ options_say frame.order taken) (frame.total - 20) y z b c
    → verdict ≡ new_interface (interface_of mark.offset (length mark.interfaces) (number_at frame.order 2 8 front) (number_at frame.order 4 0 snap) said)
    → TakesPart (λ taken. verdict ≡ meaning_of mark frame (front ++ taken)) (frame.total - 16) x z a c
interface_part mark frame front snap said verdict x y z a b c kind long len least first second made =
    part_then (λ taken. taken ≡ snap) (λ taken. said ≡ options_say frame.order taken) (λ taken. verdict ≡ meaning_of mark frame (front ++ taken)) 4 (frame.total - 20) (frame.total - 16) x y z a b c first second (omega arith) (λ p q lp lq p-is q-is.
    made ∙ sym (ap (λ (xs : List ℕ). meaning_of mark frame (front ++ (xs ++ q))) p-is ∙ interface_meaning mark frame front snap q said kind long len q-is))

-- ---- packets

packet_meaning : (mark : Mark) (frame : Frame) (front fields bytes : List ℕ) (plan : Result Plan NgFault) → frame.kind ≡ Packet → length front ≡ 12 → length fields ≡ 16
    → plan ≡ plan_in mark.offset (frame.total - 32) (number_at frame.order 4 0 fields * 2 ^ 32 + number_at frame.order 4 4 fields) (number_at frame.order 4 8 fields) (number_at frame.order 4 12 fields) (slice_get mark.interfaces (number_at frame.order 4 8 front))
    → meaning_of mark frame (front ++ (fields ++ bytes)) ≡ new_packet mark.offset bytes plan
unfolding packet_plan
packet_meaning mark frame front fields bytes plan kind long len is =
    let order = frame.order in
    let block = front ++ (fields ++ bytes) in
    let e8 : number_at order 4 8 block ≡ number_at order 4 8 front = number_front order 4 8 front (fields ++ bytes) (omega arith) in
    let e12 : number_at order 4 12 block ≡ number_at order 4 0 fields = number_behind order 4 0 12 front (fields ++ bytes) long ∙ number_front order 4 0 fields bytes (omega arith) in
    let e16 : number_at order 4 16 block ≡ number_at order 4 4 fields = number_behind order 4 4 12 front (fields ++ bytes) long ∙ number_front order 4 4 fields bytes (omega arith) in
    let e20 : number_at order 4 20 block ≡ number_at order 4 8 fields = number_behind order 4 8 12 front (fields ++ bytes) long ∙ number_front order 4 8 fields bytes (omega arith) in
    let e24 : number_at order 4 24 block ≡ number_at order 4 12 fields = number_behind order 4 12 12 front (fields ++ bytes) long ∙ number_front order 4 12 fields bytes (omega arith) in
    let at : drop 28 block ≡ bytes = ap (λ (xs : List ℕ). drop 28 xs) (sym (append_assoc front fields bytes)) ∙ drop_at (front ++ fields) bytes 28 (omega (arith, length-append front fields)) in
    by_kind mark frame block Packet kind ∙ rw (e8, e12, e16, e20, e24, at, ← is) refl

pub packet_part : (mark : Mark) (frame : Frame) (front fields : List ℕ) (plan : Result Plan NgFault) (verdict : Result Meaning NgFault) (x y z : List ℕ) (a b c : Disk) → frame.kind ≡ Packet → length front ≡ 12 → length fields ≡ 16 → 32 ≤ frame.total
    → plan ≡ plan_in mark.offset (frame.total - 32) (number_at frame.order 4 0 fields * 2 ^ 32 + number_at frame.order 4 4 fields) (number_at frame.order 4 8 fields) (number_at frame.order 4 12 fields) (slice_get mark.interfaces (number_at frame.order 4 8 front))
    → TakesPart (λ taken. taken ≡ fields) 16 x y a b → TakesPart (λ taken. verdict ≡ new_packet mark.offset taken plan) (frame.total - 32) y z b c
    → TakesPart (λ taken. verdict ≡ meaning_of mark frame (front ++ taken)) (frame.total - 16) x z a c
packet_part mark frame front fields plan verdict x y z a b c kind long len least is first second =
    part_then (λ taken. taken ≡ fields) (λ taken. verdict ≡ new_packet mark.offset taken plan) (λ taken. verdict ≡ meaning_of mark frame (front ++ taken)) 16 (frame.total - 32) (frame.total - 16) x y z a b c first second (omega arith) (λ p q lp lq p-is q-is.
    q-is ∙ sym (ap (λ (xs : List ℕ). meaning_of mark frame (front ++ (xs ++ q))) p-is ∙ packet_meaning mark frame front fields q plan kind long len is))

simple_meaning : (mark : Mark) (frame : Frame) (front bytes : List ℕ) (plan : Result Plan NgFault) → frame.kind ≡ Simple → length front ≡ 12
    → plan ≡ simple_in mark.offset mark.stamp (frame.total - 16) (number_at frame.order 4 8 front) (slice_get mark.interfaces 0) → meaning_of mark frame (front ++ bytes) ≡ new_packet mark.offset bytes plan
unfolding simple_plan
simple_meaning mark frame front bytes plan kind long is =
    let e8 : number_at frame.order 4 8 (front ++ bytes) ≡ number_at frame.order 4 8 front = number_front frame.order 4 8 front bytes (omega arith) in
    let at : drop 12 (front ++ bytes) ≡ bytes = drop_at front bytes 12 long in
    by_kind mark frame (front ++ bytes) Simple kind ∙ rw (e8, at, ← is) refl

pub simple_part : (mark : Mark) (frame : Frame) (front : List ℕ) (plan : Result Plan NgFault) (verdict : Result Meaning NgFault) (x y : List ℕ) (a b : Disk) → frame.kind ≡ Simple → length front ≡ 12
    → plan ≡ simple_in mark.offset mark.stamp (frame.total - 16) (number_at frame.order 4 8 front) (slice_get mark.interfaces 0)
    → TakesPart (λ taken. verdict ≡ new_packet mark.offset taken plan) (frame.total - 16) x y a b → TakesPart (λ taken. verdict ≡ meaning_of mark frame (front ++ taken)) (frame.total - 16) x y a b
simple_part mark frame front plan verdict x y a b kind long is part =
    part_as (λ taken. verdict ≡ new_packet mark.offset taken plan) (λ taken. verdict ≡ meaning_of mark frame (front ++ taken)) (frame.total - 16) (frame.total - 16) x y a b part refl (λ p lp p-is. p-is ∙ sym (simple_meaning mark frame front p plan kind long is))

pub other_meaning : (mark : Mark) (frame : Frame) (block : List ℕ) → frame.kind ≡ Other → Ok Nothing ≡ meaning_of mark frame block
other_meaning mark frame block kind = sym (by_kind mark frame block Other kind)

-- the bytes of a packet, and what stands behind them
pub bytes_part : (offset room : ℕ) (plan : Plan) (planned : Result Plan NgFault) (bytes : List ℕ) (verdict : Result Meaning NgFault) (x y z : List ℕ) (a b c : Disk) → planned ≡ Ok plan → filled plan.captured ≤ room
    → TakesPart (λ taken. bytes ≡ take plan.captured taken) (filled plan.captured) x y a b → TakesPart (λ _. Unit {0}) (room - filled plan.captured) y z b c
    → verdict ≡ Ok (NewPacket (record { link = plan.link; offset = offset; stamp = plan.stamp; original = plan.original; bytes = bytes }))
    → TakesPart (λ taken. verdict ≡ new_packet offset taken planned) room x z a c
bytes_part offset room plan planned bytes verdict x y z a b c is-planned fit first second is =
    part_then (λ taken. bytes ≡ take plan.captured taken) (λ _. Unit {0}) (λ taken. verdict ≡ new_packet offset taken planned) (filled plan.captured) (room - filled plan.captured) room x y z a b c first second (omega arith) (λ p q lp lq p-is q-is.
    is ∙ ap (λ (xs : List ℕ). Ok (NewPacket (record { link = plan.link; offset = offset; stamp = plan.stamp; original = plan.original; bytes = xs }))) (p-is ∙ sym (take-append-le plan.captured p q (omega arith)))
    ∙ ap (λ (r : Result Plan NgFault). new_packet offset (p ++ q) r) (sym is-planned))

-- The blocks of a pcapng file, by the bytes of the whole file, and the packet records in them.
use Rattle.std.specs.Prelude.{ℕ, zero, suc, ◌+◌, ◌*◌, ◌-◌, ◌%◌, ◌^◌, min, List, [], ◌∷◌, ◌++◌, length, take, drop, slice_get, Option, Some, None, unwrap_or, Result, Ok, Err, pos, nat_lt, nat_le, nat_eq, ◌==◌, ◌&&◌, ◌||◌, if◌then◌else◌, Bool}
use Rattle.std.specs.List.{starts_with}
use Rattle.pcap_file.specs.Numbers.{number_at}
use Rattle.pcap_file.specs.Capture.{Record, is_link}
use Rattle.pcap_file.specs.declared.order.Order.{Order}
use Rattle.pcap_file.specs.declared.order.Order.TheVariants.{Little, Big}
use Rattle.pcapng_file.specs.declared.fault.NgFault.{NgFault}
use Rattle.pcapng_file.specs.declared.fault.NgFault.TheVariants.{CutBlock, Order as NoOrder, Block, Version, Link, Options, Resolution, Many, Interface as NoInterface, Length, Time, TooMany}
use Rattle.pcapng_file.specs.declared.frame.Frame.{Frame}
use Rattle.pcapng_file.specs.declared.frame.Kind.{Kind}
use Rattle.pcapng_file.specs.declared.frame.Kind.TheVariants.{Section, Interface as OfInterface, Packet, Simple, Other}
use Rattle.pcapng_file.specs.declared.interface.Interface.{Interface}
use Rattle.pcapng_file.specs.declared.options.Said.{Said}
use Rattle.pcapng_file.specs.declared.packet.Plan.{Plan}
use Rattle.pcapng_file.specs.Options.{filled, options_say}
use Rattle.pcapng_file.specs.Times.{units_of, stamp_of}

-- the packet records in order, and the fault that ends them, if one does
pub record NgCapture : Type 0 where
  pub records : List Record
  pub fault : Option NgFault

-- what the blocks before a place said
pub record Mark : Type 0 where
  -- the byte order of the section
  pub order : Order
  -- its interfaces
  pub interfaces : List Interface
  -- the stamp of the packet record before, or 0
  pub stamp : ℕ
  -- how many blocks of whatever type there were, and how many packet records
  pub blocks : ℕ
  pub records : ℕ
  -- the offset behind them
  pub offset : ℕ

-- ---- a block's front, 12 bytes: type, total length, and the first four bytes of the body

-- The type of a section header reads the same in both orders.
abbrev pub is_section : List ℕ → Bool
is_section front = starts_with nat_eq front (0x0a ∷ 0x0d ∷ 0x0d ∷ 0x0a ∷ [])

abbrev pub kind_of : Order → List ℕ → Kind
kind_of order front =
    if is_section front then Section
    else if number_at order 4 0 front == 1 then OfInterface
    else if number_at order 4 0 front == 6 then Packet
    else if number_at order 4 0 front == 3 then Simple
    else Other

-- A section header's body begins with the magic, in the order of the section's numbers.
abbrev pub order_of : Order → List ℕ → Option Order
order_of order front =
    if is_section front then (if number_at Little 4 8 front == 0x1a2b3c4d then Some Little else if number_at Big 4 8 front == 0x1a2b3c4d then Some Big else None)
    else Some order

-- the least total length
abbrev pub least_of : Kind → ℕ
least_of Section = 28
least_of OfInterface = 20
least_of Packet = 32
least_of Simple = 16
least_of Other = 12

abbrev pub frame_in : ℕ → List ℕ → Option Order → Result Frame NgFault
frame_in offset front None = Err (NoOrder offset)
frame_in offset front (Some order) =
    if number_at order 4 4 front % 4 == 0 && nat_le (least_of (kind_of order front)) (number_at order 4 4 front)
    then Ok (record { order = order; kind = kind_of order front; total = number_at order 4 4 front })
    else Err (Block offset)

unfoldable pub frame_of : Order → ℕ → List ℕ → Result Frame NgFault
frame_of order offset front = frame_in offset front (order_of order front)

-- ---- what a block says, where block has its bytes but for the total length at its end

pub data Meaning : Type 0 where
  NewSection : Meaning
  NewInterface : Interface → Meaning
  NewPacket : Record → Meaning
  Nothing : Meaning

-- A section header: the magic at 8, the major version at 12.
unfoldable pub section_of : Order → ℕ → List ℕ → Result Meaning NgFault
section_of order offset block = if number_at order 2 12 block == 1 then Ok NewSection else Err (Version offset)

-- An interface: link type at 8, snap length at 12, options from 16 on. Without options there are 10 ^ 6 units in a second and no offset.
abbrev pub interface_in_units : ℕ → ℕ → ℕ → ℕ → Said → Option ℕ → Result Interface NgFault
interface_in_units offset count link snap said None = Err (Resolution offset)
interface_in_units offset count link snap said (Some units) =
    if nat_le 1024 count then Err (Many offset)
    else Ok (record { link = link; snap = snap; units = units; seconds = unwrap_or said.seconds (pos 0) })

abbrev pub interface_by : ℕ → ℕ → ℕ → ℕ → Option Said → Result Interface NgFault
interface_by offset count link snap None = Err (Options offset)
interface_by offset count link snap (Some said) = interface_in_units offset count link snap said (units_of (unwrap_or said.resolution 6))

unfoldable pub interface_of : ℕ → ℕ → ℕ → ℕ → Option Said → Result Interface NgFault
interface_of offset count link snap said = if is_link link then interface_by offset count link snap said else Err (Link offset)

abbrev pub new_interface : Result Interface NgFault → Result Meaning NgFault
new_interface (Ok interface) = Ok (NewInterface interface)
new_interface (Err fault) = Err fault

-- what a packet's numbers say of its record, or their first fault: room is how many bytes its block has for those captured and for options
abbrev pub is_long : ℕ → ℕ → Bool
is_long room captured = nat_lt 262144 captured || nat_lt room (filled captured)

abbrev pub plan_at : ℕ → Interface → ℕ → ℕ → Option ℕ → Result Plan NgFault
plan_at offset interface captured original None = Err (Time offset)
plan_at offset interface captured original (Some stamp) = Ok (record { link = interface.link; stamp = stamp; captured = captured; original = original })

abbrev pub plan_in : ℕ → ℕ → ℕ → ℕ → ℕ → Option Interface → Result Plan NgFault
plan_in offset room ticks captured original None = Err (NoInterface offset)
plan_in offset room ticks captured original (Some interface) =
    if is_long room captured then Err (Length offset)
    else plan_at offset interface captured original (stamp_of interface ticks)

-- A packet: interface at 8, the two halves of its time at 12 and 16, the higher first, captured length at 20, original length at 24, its bytes from 28 on.
unfoldable pub packet_plan : Mark → Order → ℕ → List ℕ → Result Plan NgFault
packet_plan mark order room block =
    plan_in mark.offset room (number_at order 4 12 block * 2 ^ 32 + number_at order 4 16 block) (number_at order 4 20 block) (number_at order 4 24 block)
    (slice_get mark.interfaces (number_at order 4 8 block))

abbrev pub simple_in : ℕ → ℕ → ℕ → ℕ → Option Interface → Result Plan NgFault
simple_in offset stamp room original None = Err (NoInterface offset)
simple_in offset stamp room original (Some interface) =
    let captured = if interface.snap == 0 then original else min original interface.snap in
    if is_long room captured then Err (Length offset)
    else Ok (record { link = interface.link; stamp = stamp; captured = captured; original = original })

-- A simple packet, of the first interface: original length at 8, its bytes from 12 on. Its stamp is that of the packet record before.
unfoldable pub simple_plan : Mark → Order → ℕ → List ℕ → Result Plan NgFault
simple_plan mark order room block = simple_in mark.offset mark.stamp room (number_at order 4 8 block) (slice_get mark.interfaces 0)

-- the record of these bytes
abbrev pub new_packet : ℕ → List ℕ → Result Plan NgFault → Result Meaning NgFault
new_packet offset bytes (Err fault) = Err fault
new_packet offset bytes (Ok plan) =
    Ok (NewPacket (record { link = plan.link; offset = offset; stamp = plan.stamp; original = plan.original; bytes = take plan.captured bytes }))

abbrev pub meaning_by : Mark → Order → ℕ → List ℕ → Kind → Result Meaning NgFault
meaning_by mark order total block Section = section_of order mark.offset block
meaning_by mark order total block OfInterface =
    new_interface (interface_of mark.offset (length mark.interfaces) (number_at order 2 8 block) (number_at order 4 12 block) (options_say order (drop 16 block)))
meaning_by mark order total block Packet = new_packet mark.offset (drop 28 block) (packet_plan mark order (total - 32) block)
meaning_by mark order total block Simple = new_packet mark.offset (drop 12 block) (simple_plan mark order (total - 16) block)
meaning_by mark order total block Other = Ok Nothing

unfoldable pub meaning_of : Mark → Frame → List ℕ → Result Meaning NgFault
meaning_of mark frame block = meaning_by mark frame.order frame.total block frame.kind

-- ---- a block in the file

-- what the block at the front of these bytes says: it is whole, and its total length stands at its end again
unfoldable pub block_of : Mark → Frame → List ℕ → Result Meaning NgFault
block_of mark frame bytes =
    if nat_lt (length bytes) frame.total then Err (CutBlock mark.offset)
    else if number_at frame.order 4 (frame.total - 4) bytes == frame.total then meaning_of mark frame (take (frame.total - 4) bytes)
    else Err (Block mark.offset)

-- the records that a block adds
abbrev pub records_of : Meaning → List Record
records_of NewSection = []
records_of (NewInterface interface) = []
records_of (NewPacket r) = r ∷ []
records_of Nothing = []

abbrev pub is_too_many : Mark → Meaning → Bool
is_too_many mark meaning = nat_le 200000000 mark.blocks || nat_lt 100000000 (mark.records + length (records_of meaning))

-- A section header forgets the interfaces of the section before.
abbrev pub order_after : Mark → Frame → Meaning → Order
order_after mark frame NewSection = frame.order
order_after mark frame (NewInterface interface) = mark.order
order_after mark frame (NewPacket r) = mark.order
order_after mark frame Nothing = mark.order

abbrev pub interfaces_after : Mark → Meaning → List Interface
interfaces_after mark NewSection = []
interfaces_after mark (NewInterface interface) = mark.interfaces ++ interface ∷ []
interfaces_after mark (NewPacket r) = mark.interfaces
interfaces_after mark Nothing = mark.interfaces

abbrev pub stamp_after : Mark → Meaning → ℕ
stamp_after mark NewSection = mark.stamp
stamp_after mark (NewInterface interface) = mark.stamp
stamp_after mark (NewPacket r) = r.stamp
stamp_after mark Nothing = mark.stamp

abbrev pub mark_after : Mark → Frame → Meaning → Mark
mark_after mark frame meaning = record {
  order = order_after mark frame meaning;
  interfaces = interfaces_after mark meaning;
  stamp = stamp_after mark meaning;
  blocks = mark.blocks + 1;
  records = mark.records + length (records_of meaning);
  offset = mark.offset + frame.total;
}

-- what stands at a block's border: the end, the first fault, or a block with its length, the records that it adds, and the mark behind it
pub data Head : Type 0 where
  AtEnd : Head
  AtFault : NgFault → Head
  AtBlock : Mark → ℕ → List Record → Head

abbrev pub counted : Mark → Frame → Result Meaning NgFault → Head
counted mark frame (Err fault) = AtFault fault
counted mark frame (Ok meaning) =
    if is_too_many mark meaning then AtFault (TooMany mark.offset) else AtBlock (mark_after mark frame meaning) frame.total (records_of meaning)

abbrev pub head_in : Mark → List ℕ → Result Frame NgFault → Head
head_in mark bytes (Err fault) = AtFault fault
head_in mark bytes (Ok frame) = counted mark frame (block_of mark frame bytes)

unfoldable pub head_of : Mark → List ℕ → Head
head_of mark bytes =
    if length bytes == 0 then AtEnd
    else if nat_lt (length bytes) 12 then AtFault (CutBlock mark.offset)
    else head_in mark bytes (frame_of mark.order mark.offset (take 12 bytes))

-- ---- the whole file

abbrev pub with_front : List Record → NgCapture → NgCapture
with_front front capture = record { records = front ++ capture.records; fault = capture.fault }

abbrev pub empty : Option NgFault → NgCapture
empty fault = record { records = []; fault = fault }

abbrev pub step_from : (Mark → List ℕ → NgCapture) → List ℕ → Head → NgCapture
step_from behind bytes AtEnd = empty None
step_from behind bytes (AtFault fault) = empty (Some fault)
step_from behind bytes (AtBlock mark total records) = with_front records (behind mark (drop total bytes))

-- the records from a block's border on; a block takes 12 bytes at least, so as many steps as bytes serve
unfoldable pub walk : ℕ → Mark → List ℕ → NgCapture
walk zero mark bytes = empty None
walk (suc steps) mark bytes = step_from (walk steps) bytes (head_of mark bytes)

unfoldable pub blocks_from : Mark → List ℕ → NgCapture
blocks_from mark bytes = walk (length bytes + 1) mark bytes

-- before the first block
abbrev pub start : Mark
start = record { order = Little; interfaces = []; stamp = 0; blocks = 0; records = 0; offset = 0 }

unfoldable pub ng_capture : List ℕ → NgCapture
ng_capture bytes = blocks_from start bytes

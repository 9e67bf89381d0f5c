-- The UDP datagram in a frame. Each definition answers what the first test that fails says.
use Rattle.std.specs.Prelude.{ℕ, zero, suc, ◌+◌, ◌-◌, ◌*◌, ◌/◌, ◌%◌, List, ◌∷◌, ◌++◌, length, drop, slice_index, slice_range, replicate, Result, Ok, Err, nat_lt, ◌==◌, ◌||◌, if◌then◌else◌, Bool}
use Rattle.rtp_units.specs.declared.shared.Address.{Address}
use Rattle.pcap_file.specs.Numbers.{number_at}
use Rattle.pcap_file.specs.Capture.{Record}
use Rattle.pcap_file.specs.declared.order.Order.TheVariants as order
use Rattle.pcap_file.specs.declared.udp.Skip.{Skip}
use Rattle.pcap_file.specs.declared.udp.Skip.TheVariants.{Cut, NotIp, Fragment, NotUdp, Malformed, Big}
use Rattle.pcap_file.specs.declared.udp.Datagram.{Datagram}
use Rattle.pcap_file.specs.declared.network.Carried.{Carried}

-- a datagram without where its payload lies in memory
pub record Sent : Type 0 where
  pub from : Address
  pub to : Address
  pub payload : List ℕ

abbrev pub sent : Result Datagram Skip → Result Sent Skip
sent (Ok datagram) = Ok (record { from = datagram.from; to = datagram.to; payload = datagram.payload.now })
sent (Err skip) = Err skip

-- the number in the two bytes from a place on, in network order
abbrev pub net16 : ℕ → List ℕ → ℕ
net16 place bytes = number_at order.Big 2 place bytes

abbrev pub address : ℕ → List ℕ → ℕ → Address
address family ip port = record { family = family; ip = ip; port = port }

-- UDP: source port, destination port, length and checksum, of two bytes each, and the payload
unfoldable pub udp : ℕ → List ℕ → List ℕ → List ℕ → Result Sent Skip
udp family from to bytes =
    if nat_lt (length bytes) 8 then Err Malformed
    else if nat_lt (net16 4 bytes) 8 then Err Malformed
    else if nat_lt (length bytes) (net16 4 bytes) then Err Malformed
    else if nat_lt 9216 (net16 4 bytes - 8) then Err Big
    else Ok (record { from = address family from (net16 0 bytes); to = address family to (net16 2 bytes); payload = slice_range bytes 8 (net16 4 bytes) })

abbrev pub version : List ℕ → ℕ
version bytes = slice_index bytes 0 / 16

-- ---- IPv4: the header length counts words of four bytes

abbrev pub header_length : List ℕ → ℕ
header_length bytes = 4 * (slice_index bytes 0 % 16)

-- more fragments follow, or this isn't the first
abbrev pub is_fragment : List ℕ → Bool
is_fragment bytes = net16 6 bytes / 8192 % 2 == 1 || nat_lt 0 (net16 6 bytes % 8192)

-- An IPv4 address fills the first four of sixteen bytes.
abbrev pub widened : List ℕ → List ℕ
widened ip = ip ++ replicate 12 0

unfoldable pub ipv4 : List ℕ → Result Sent Skip
ipv4 bytes =
    if nat_lt (length bytes) 20 then Err Malformed
    else if version bytes == 4
    then (if nat_lt (header_length bytes) 20 then Err Malformed
    else if nat_lt (net16 2 bytes) (header_length bytes) then Err Malformed
    else if nat_lt (length bytes) (net16 2 bytes) then Err Malformed
    else if is_fragment bytes then Err Fragment
    else if slice_index bytes 9 == 17
    then udp 4 (widened (slice_range bytes 12 16)) (widened (slice_range bytes 16 20)) (slice_range bytes (header_length bytes) (net16 2 bytes))
    else Err NotUdp)
    else Err Malformed

-- ---- IPv6

-- what stands behind headers: its type and its bytes
pub record Inner : Type 0 where
  pub kind : ℕ
  pub bytes : List ℕ

abbrev pub inner_of : Result Carried Skip → Result Inner Skip
inner_of (Ok carried) = Ok (record { kind = carried.kind; bytes = carried.bytes.now })
inner_of (Err skip) = Err skip

-- hop-by-hop options, routing and destination options
abbrev pub is_extension : ℕ → Bool
is_extension kind = kind == 0 || kind == 43 || kind == 60

-- an extension header: the type of what follows, its own length in words of eight bytes less one, and more
abbrev pub extension_length : List ℕ → ℕ
extension_length bytes = (slice_index bytes 1 + 1) * 8

-- what stands behind the extension headers; each has eight bytes at least, so as many steps as bytes serve
unfoldable pub behind_extensions : ℕ → ℕ → List ℕ → Result Inner Skip
behind_extensions zero kind bytes = Err Malformed
behind_extensions (suc steps) kind bytes =
    if is_extension kind
    then (if nat_lt (length bytes) 2 then Err Malformed
    else if nat_lt (length bytes) (extension_length bytes) then Err Malformed
    else behind_extensions steps (slice_index bytes 0) (drop (extension_length bytes) bytes))
    else Ok (record { kind = kind; bytes = bytes })

abbrev pub upper : List ℕ → List ℕ → Result Inner Skip → Result Sent Skip
upper from to (Err skip) = Err skip
upper from to (Ok inner) =
    if inner.kind == 44 then Err Fragment
    else if inner.kind == 17 then udp 6 from to inner.bytes
    else Err NotUdp

unfoldable pub ipv6 : List ℕ → Result Sent Skip
ipv6 bytes =
    if nat_lt (length bytes) 40 then Err Malformed
    else if version bytes == 6
    then (if nat_lt (length bytes) (40 + net16 4 bytes) then Err Malformed
    else upper (slice_range bytes 8 24) (slice_range bytes 24 40) (behind_extensions (net16 4 bytes + 1) (slice_index bytes 6) (slice_range bytes 40 (40 + net16 4 bytes))))
    else Err Malformed

-- ---- what comes first in a frame, by its link type

-- EtherTypes, which Linux cooked captures have too
unfoldable pub by_type : ℕ → List ℕ → Result Sent Skip
by_type kind bytes = if kind == 0x0800 then ipv4 bytes else if kind == 0x86dd then ipv6 bytes else Err NotIp

-- an IP packet alone, by its version
unfoldable pub raw : List ℕ → Result Sent Skip
raw bytes =
    if length bytes == 0 then Err Malformed
    else if version bytes == 4 then ipv4 bytes
    else if version bytes == 6 then ipv6 bytes
    else Err NotIp

abbrev pub is_tag : ℕ → Bool
is_tag kind = kind == 0x8100 || kind == 0x88a8

-- Behind the EtherType of a tag stand two bytes of the tag and a new EtherType.
unfoldable pub untagged : ℕ → List ℕ → Result Inner Skip
untagged kind (a ∷ b ∷ high ∷ low ∷ bytes) =
    if is_tag kind then untagged (high * 256 + low) bytes
    else Ok (record { kind = kind; bytes = a ∷ b ∷ high ∷ low ∷ bytes })
untagged kind bytes = if is_tag kind then Err Malformed else Ok (record { kind = kind; bytes = bytes })

abbrev pub typed : Result Inner Skip → Result Sent Skip
typed (Err skip) = Err skip
typed (Ok inner) = by_type inner.kind inner.bytes

unfoldable pub ethernet : List ℕ → Result Sent Skip
ethernet bytes = if nat_lt (length bytes) 14 then Err Malformed else typed (untagged (net16 12 bytes) (drop 14 bytes))

-- Four bytes of a NULL frame tell the address family, and are not looked at.
unfoldable pub null : List ℕ → Result Sent Skip
null bytes = if nat_lt (length bytes) 4 then Err Malformed else raw (drop 4 bytes)

-- a Linux cooked header of this length, with the protocol at a place of it
unfoldable pub cooked : ℕ → ℕ → List ℕ → Result Sent Skip
cooked size place bytes = if nat_lt (length bytes) size then Err Malformed else by_type (net16 place bytes) (drop size bytes)

unfoldable pub frame : ℕ → List ℕ → Result Sent Skip
frame link bytes =
    if link == 0 then null bytes
    else if link == 1 then ethernet bytes
    else if link == 101 then raw bytes
    else if link == 113 then cooked 16 14 bytes
    else if link == 276 then cooked 20 0 bytes
    else if link == 228 then ipv4 bytes
    else if link == 229 then ipv6 bytes
    else Err NotIp

-- the datagram of a record, or why it has none
unfoldable pub datagram_of : Record → Result Sent Skip
datagram_of r = if nat_lt (length r.bytes) r.original then Err Cut else frame r.link r.bytes

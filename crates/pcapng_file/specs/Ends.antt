-- Where packet records end in the file.
use Rattle.std.specs.Prelude.{ℕ, ◌+◌, List, drop, slice_index, ◌==◌, if◌then◌else◌}
use Rattle.pcap_file.specs.Numbers.{number_at}
use Rattle.pcap_file.specs.Capture.{Record}
use Rattle.pcap_file.specs.declared.order.Order.{Order}
use Rattle.pcap_file.specs.declared.order.Order.TheVariants.{Little, Big}

-- The order of a packet block's numbers: its type is 3 or 6, and the first byte of that is 0 in big
-- order alone.
abbrev pub packet_order : List ℕ → Order
packet_order block = if slice_index block 0 == 0 then Big else Little

-- how many bytes a packet block has: its total length, which is behind its type
unfoldable pub packet_size : List ℕ → ℕ
packet_size block = number_at (packet_order block) 4 4 block

-- A record ends where its block ends.
abbrev pub record_end : List ℕ → Record → ℕ
record_end bytes r = r.offset + packet_size (drop r.offset bytes)

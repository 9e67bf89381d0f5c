-- Numbers in bytes.
use Rattle.std.specs.Prelude.{ℕ, List, drop}
use Rattle.byteorder.specs.Endian.{little_number, big_number}
use Rattle.pcap_file.specs.declared.order.Order.{Order}
use Rattle.pcap_file.specs.declared.order.Order.TheVariants.{Little, Big}

-- the number of so many bytes from a place on
unfoldable pub number_at : Order → ℕ → ℕ → List ℕ → ℕ
number_at Little size place bytes = little_number size (drop place bytes)
number_at Big size place bytes = big_number size (drop place bytes)

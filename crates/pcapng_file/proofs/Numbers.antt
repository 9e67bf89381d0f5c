-- Numbers in bytes in front of others.
use Rattle.std.proofs.Common.{◌≡◌, ℕ, ◌+◌, ◌≤◌, List, ◌++◌, length, drop, ap, ◌∙◌, arith}
use Rattle.std.proofs.lemmas.List.{drop-append-le, length-drop}
use Rattle.byteorder.specs.Endian.{little_number, big_number}
use Rattle.byteorder.specs.Numbers.{little_from-append, big_from-append}
use Rattle.pcap_file.specs.Numbers.{number_at}
use Rattle.pcap_file.specs.declared.order.Order.{Order}
use Rattle.pcap_file.specs.declared.order.Order.TheVariants.{Little, Big}

pub number_front : (order : Order) (size place : ℕ) (front rest : List ℕ) → place + size ≤ length front → number_at order size place (front ++ rest) ≡ number_at order size place front
unfolding number_at
number_front Little size place front rest le =
    ap (little_number size) (drop-append-le place front rest (omega arith)) ∙ little_from-append size (drop place front) rest (omega (arith, length-drop place front))
number_front Big size place front rest le =
    ap (big_number size) (drop-append-le place front rest (omega arith)) ∙ big_from-append size (drop place front) rest (omega (arith, length-drop place front))

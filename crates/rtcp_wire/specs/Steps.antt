-- One step of reading the items of a chunk, whatever reads the bytes behind it.
use Rattle.std.specs.Prelude.{◌≡◌, ◌<◌, ℕ, List, [], length, Option, Some, None}
use Rattle.rtcp_wire.specs.Sdes.{with_item, item_then}
use Rattle.rtcp_wire.specs.declared.packet.SdesItem.{SdesItem}
use Rattle.rtcp_wire.specs.declared.sdes.Step.{Step}
use Rattle.rtcp_wire.specs.declared.sdes.Step.TheVariants.{Bad, End, Item}

abbrev pub IsStep : List ℕ → Step → Type 0
IsStep bytes Bad = (go : List ℕ → Option (List SdesItem × List ℕ)) → item_then go bytes ≡ None
IsStep bytes (End behind) = ((go : List ℕ → Option (List SdesItem × List ℕ)) → item_then go bytes ≡ Some ([], behind.now)) × (length behind.now < length bytes)
IsStep bytes (Item item behind) = ((go : List ℕ → Option (List SdesItem × List ℕ)) → item_then go bytes ≡ with_item item (go behind.now)) × (length behind.now < length bytes)

-- Descriptions of sources as bytes (RFC 3550, section 6.5).
use Rattle.std.specs.Prelude.{ℕ, zero, suc, ◌-◌, ◌%◌, ◌==◌, nat_lt, if◌then◌else◌, List, [], ◌∷◌, length, take, drop, Option, Some, None, option_map}
use Rattle.rtp_wire.specs.Network.{number32}
use Rattle.rtcp_wire.specs.declared.packet.SdesItem.{SdesItem}
use Rattle.rtcp_wire.specs.declared.packet.Chunk.{Chunk}

-- an item in front of others
abbrev pub with_item : SdesItem → Option (List SdesItem × List ℕ) → Option (List SdesItem × List ℕ)
with_item item None = None
with_item item (Some (items, rest)) = Some (item ∷ items, rest)

-- a length and that many bytes of text, behind the item's type
abbrev pub text_then : (List ℕ → Option (List SdesItem × List ℕ)) → ℕ → List ℕ → Option (List SdesItem × List ℕ)
text_then behind kind [] = None
text_then behind kind (len ∷ rest) =
    if nat_lt (length rest) len then None else with_item (record { kind = kind; text = take len rest }) (behind (drop len rest))

-- a zero byte ends the items
abbrev pub item_then : (List ℕ → Option (List SdesItem × List ℕ)) → List ℕ → Option (List SdesItem × List ℕ)
item_then behind [] = None
item_then behind (kind ∷ rest) = if kind == 0 then Some ([], rest) else text_then behind kind rest

-- The items that these bytes begin with, at most so many less one, and the bytes behind the zero byte that ends them.
unfoldable pub items_at : ℕ → List ℕ → Option (List SdesItem × List ℕ)
items_at zero bytes = None
items_at (suc n) bytes = item_then (items_at n) bytes

-- how many bytes lead from a place to the next multiple of 4
abbrev pub gap : ℕ → ℕ
gap n = (4 - n % 4) % 4

-- the bytes up to the next multiple of 4 of the chunk are passed over
abbrev pub chunk_then : List ℕ → Option (List SdesItem × List ℕ) → Option (Chunk × List ℕ)
chunk_then bytes None = None
chunk_then bytes (Some (items, rest)) =
    if nat_lt (length rest) (gap (length bytes - length rest)) then None
    else Some (record { ssrc = number32 bytes 0; items = items }, drop (gap (length bytes - length rest)) rest)

-- the chunk that these bytes begin with, and the bytes behind it; an item takes a byte at least
unfoldable pub chunk_at : List ℕ → Option (Chunk × List ℕ)
chunk_at bytes = if nat_lt (length bytes) 4 then None else chunk_then bytes (items_at (length bytes) (drop 4 bytes))

abbrev pub with_chunk : Chunk → Option (List Chunk) → Option (List Chunk)
with_chunk chunk others = option_map (λ cs. chunk ∷ cs) others

abbrev pub chunks_then : (List ℕ → Option (List Chunk)) → Option (Chunk × List ℕ) → Option (List Chunk)
chunks_then behind None = None
chunks_then behind (Some (chunk, rest)) = with_chunk chunk (behind rest)

-- so many chunks; what follows the last is dropped
unfoldable pub chunks_at : ℕ → List ℕ → Option (List Chunk)
chunks_at zero bytes = Some []
chunks_at (suc n) bytes = chunks_then (chunks_at n) (chunk_at bytes)

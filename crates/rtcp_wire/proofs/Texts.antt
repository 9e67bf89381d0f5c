-- A text that is read has at most as many bytes as its length byte can say.
use Rattle.std.proofs.Common.{◌≡◌, ℕ, zero, suc, ◌+◌, ◌-◌, ◌≤◌, ◌<◌, Bool, true, false, cond, List, [], ◌∷◌, length, get_or, take, drop, Option, Some, None, Result, Ok, Err, refl, sym, ap, subst, ◌∙◌, arith, inl, inr}
use Rattle.std.specs.Prelude.{nat_lt, ◌==◌, if◌then◌else◌, option_map, IfOk}
use Rattle.std.specs.Global.{Vec}
use Rattle.std.specs.List.{AllByRecursion}
use Rattle.std.proofs.lemmas.Bool.{cases_lt}
use Rattle.std.proofs.lemmas.List.{length-take, get_or-drop, get_or-take, get_or_past}
use Rattle.rtp_wire.specs.Network.{number32}
use Rattle.rtcp_wire.specs.declared.packet.SdesItem.{SdesItem}
use Rattle.rtcp_wire.specs.declared.packet.Chunk.{Chunk}
use Rattle.rtcp_wire.specs.declared.packet.Rtcp.{Rtcp}
use Rattle.rtcp_wire.specs.declared.packet.Rtcp.TheVariants.{Sr, Rr, Sdes, Bye, App, Nacks, Feedback, Unknown}
use Rattle.rtcp_wire.specs.declared.fault.RtcpFault.{RtcpFault}
use Rattle.rtcp_wire.specs.Answers.{Gives}
use Rattle.rtcp_wire.specs.Sdes.{with_item, text_then, item_then, items_at, gap, chunk_then, chunk_at, with_chunk, chunks_then, chunks_at}
use Rattle.rtcp_wire.specs.Bodies.{reason_at, sr_of, rr_of, sdes_of, bye_of, app_of, nacks_of, feedback_of, packet_of}
use Rattle.rtcp_wire.specs.Compound.{count_of, kind_of, size_of, padding_of, body_of, compound_of}
use Rattle.rtcp_wire.specs.Grammar.{BeginsWith, ArePackets, IsCompound, TextFits, TextsFit, HasShortTexts}

abbrev pub IsBytes : List ℕ → Type 0
IsBytes bytes = (i : ℕ) → get_or bytes i 0 < 256

bytes_behind : (n : ℕ) (bytes : List ℕ) → IsBytes bytes → IsBytes (drop n bytes)
bytes_behind n bytes h i = rw get_or-drop (h (n + i))

bytes_before : (n : ℕ) (bytes : List ℕ) → IsBytes bytes → IsBytes (take n bytes)
bytes_before n bytes h i =
    elim (cases_lt i n) [
      | inl lt ↦ rw (get_or-take n bytes i 0 lt) (h i)
      | inr le ↦ rw (get_or_past (take n bytes) i 0 (omega (arith, length-take n bytes))) (omega arith)
    ]

-- what was read, if it was, and the bytes behind it
abbrev ItemsFit : Option (List SdesItem × List ℕ) → Type 0
ItemsFit None = Unit {0}
ItemsFit (Some (items, rest)) = AllByRecursion TextFits items × IsBytes rest

front_fits : (item : SdesItem) (others : Option (List SdesItem × List ℕ)) → TextFits item → ItemsFit others → ItemsFit (with_item item others)
front_fits item None t h = tt
front_fits item (Some (items, rest)) t h = ((t, h.0), h.1)

text_cut : (b : Bool) (item : SdesItem) (others : Option (List SdesItem × List ℕ)) → TextFits item → ItemsFit others → ItemsFit (cond b None (with_item item others))
text_cut true item others t h = tt
text_cut false item others t h = front_fits item others t h

text_fits : (go : List ℕ → Option (List SdesItem × List ℕ)) (kind : ℕ) (bytes : List ℕ) → ((b : List ℕ) → IsBytes b → ItemsFit (go b)) → IsBytes bytes → ItemsFit (text_then go kind bytes)
text_fits go kind [] rest h = tt
text_fits go kind (len ∷ bytes) rest h =
    text_cut (nat_lt (length bytes) len) (record { kind = kind; text = take len bytes }) (go (drop len bytes)) (omega (arith, h 0, length-take len bytes)) (rest (drop len bytes) (bytes_behind len bytes (λ i. h (suc i))))

item_end : (b : Bool) (go : List ℕ → Option (List SdesItem × List ℕ)) (kind : ℕ) (bytes : List ℕ) → ((b : List ℕ) → IsBytes b → ItemsFit (go b)) → IsBytes bytes → ItemsFit (cond b (Some ([], bytes)) (text_then go kind bytes))
item_end true go kind bytes rest h = (tt, h)
item_end false go kind bytes rest h = text_fits go kind bytes rest h

item_fits : (go : List ℕ → Option (List SdesItem × List ℕ)) (bytes : List ℕ) → ((b : List ℕ) → IsBytes b → ItemsFit (go b)) → IsBytes bytes → ItemsFit (item_then go bytes)
item_fits go [] rest h = tt
item_fits go (kind ∷ bytes) rest h = item_end (kind == 0) go kind bytes rest (λ i. h (suc i))

items_fit : (n : ℕ) (bytes : List ℕ) → IsBytes bytes → ItemsFit (items_at n bytes)
unfolding items_at
items_fit zero bytes h = tt
items_fit (suc n) bytes h = item_fits (items_at n) bytes (items_fit n) h

abbrev ChunkFits : Option (Chunk × List ℕ) → Type 0
ChunkFits None = Unit {0}
ChunkFits (Some (chunk, rest)) = TextsFit chunk × IsBytes rest

chunk_cut : (b : Bool) (chunk : Chunk) (rest : List ℕ) → TextsFit chunk → IsBytes rest → ChunkFits (cond b None (Some (chunk, rest)))
chunk_cut true chunk rest t h = tt
chunk_cut false chunk rest t h = (t, h)

chunk_end : (bytes : List ℕ) (found : Option (List SdesItem × List ℕ)) → ItemsFit found → ChunkFits (chunk_then bytes found)
chunk_end bytes None h = tt
chunk_end bytes (Some (items, rest)) h =
    chunk_cut (nat_lt (length rest) (gap (length bytes - length rest))) (record { ssrc = number32 bytes 0; items = items }) (drop (gap (length bytes - length rest)) rest) h.0 (bytes_behind (gap (length bytes - length rest)) rest h.1)

none_fits : (b : Bool) (found : Option (Chunk × List ℕ)) → ChunkFits found → ChunkFits (cond b None found)
none_fits true found h = tt
none_fits false found h = h

chunk_fits : (bytes : List ℕ) → IsBytes bytes → ChunkFits (chunk_at bytes)
unfolding chunk_at
chunk_fits bytes h = none_fits (nat_lt (length bytes) 4) (chunk_then bytes (items_at (length bytes) (drop 4 bytes))) (chunk_end bytes (items_at (length bytes) (drop 4 bytes)) (items_fit (length bytes) (drop 4 bytes) (bytes_behind 4 bytes h)))

abbrev ChunksFit : Option (List Chunk) → Type 0
ChunksFit None = Unit {0}
ChunksFit (Some chunks) = AllByRecursion TextsFit chunks

front_chunk : (chunk : Chunk) (others : Option (List Chunk)) → TextsFit chunk → ChunksFit others → ChunksFit (with_chunk chunk others)
front_chunk chunk None t h = tt
front_chunk chunk (Some cs) t h = (t, h)

chunks_end : (go : List ℕ → Option (List Chunk)) (found : Option (Chunk × List ℕ)) → ((b : List ℕ) → IsBytes b → ChunksFit (go b)) → ChunkFits found → ChunksFit (chunks_then go found)
chunks_end go None rest h = tt
chunks_end go (Some (chunk, bytes)) rest h = front_chunk chunk (go bytes) h.0 (rest bytes h.1)

chunks_fit : (n : ℕ) (bytes : List ℕ) → IsBytes bytes → ChunksFit (chunks_at n bytes)
unfolding chunks_at
chunks_fit zero bytes h = tt
chunks_fit (suc n) bytes h = chunks_end (chunks_at n) (chunk_at bytes) (chunks_fit n) (chunk_fits bytes h)

-- ---- packets

abbrev PacketFits : Option Rtcp → Type 0
PacketFits None = Unit {0}
PacketFits (Some p) = HasShortTexts p

either : (b : Bool) (x y : Option Rtcp) → PacketFits x → PacketFits y → PacketFits (cond b x y)
either true x y p q = p
either false x y p q = q

sdes_fits : (found : Option (List Chunk)) → ChunksFit found → PacketFits (option_map Sdes found)
sdes_fits None h = tt
sdes_fits (Some chunks) h = h

bye_fits : (ssrcs : List ℕ) (found : Option (Option (List ℕ))) → PacketFits (option_map (λ reason. Bye ssrcs reason) found)
bye_fits ssrcs None = tt
bye_fits ssrcs (Some reason) = tt

packet_fits : (kind count : ℕ) (b : List ℕ) → IsBytes b → PacketFits (packet_of kind count b)
unfolding packet_of
packet_fits kind count b h =
    either (kind == 200) _ _ (either (nat_lt (length b) _) _ _ tt tt)
    (either (kind == 201) _ _ (either (nat_lt (length b) _) _ _ tt tt)
    (either (kind == 202) _ _ (sdes_fits (chunks_at count b) (chunks_fit count b h))
    (either (kind == 203) _ _ (either (nat_lt (length b) _) _ _ tt (bye_fits _ _))
    (either (kind == 204) _ _ (either (nat_lt (length b) 8) _ _ tt tt)
    (either (kind == 205) _ _ (either (count == 1) _ _ (either (nat_lt (length b) 8) _ _ tt tt) (either (nat_lt (length b) 8) _ _ tt tt))
    (either (kind == 206) _ _ (either (nat_lt (length b) 8) _ _ tt tt) tt))))))

begins_fits : (b : List ℕ) (p : Rtcp) → IsBytes b → BeginsWith b p → HasShortTexts p
begins_fits b p h begins =
    subst (λ (x : Option Rtcp). PacketFits x) begins.body (packet_fits (kind_of b) (count_of b) (body_of b) (bytes_before (size_of b - 4 - padding_of b) (drop 4 b) (bytes_behind 4 b h)))

are_fits : (b : List ℕ) (ps : List Rtcp) → IsBytes b → ArePackets b ps → AllByRecursion HasShortTexts ps
are_fits b [] h are = absurd are
are_fits b (p ∷ []) h are = (begins_fits b p h are.0, tt)
are_fits b (p ∷ q ∷ ps) h are = (begins_fits b p h are.0, are_fits (drop (size_of b) b) (q ∷ ps) (bytes_behind (size_of b) b h) are.3)

pub texts_fit : (r : Result (Vec Rtcp) RtcpFault) (b : List ℕ) → IsBytes b → IfOk r (λ packets. IsCompound b packets.items) → IfOk r (λ packets. AllByRecursion HasShortTexts packets.items)
texts_fit (Ok v) b h found = are_fits b v.items h found.each
texts_fit (Err fault) b h found = tt

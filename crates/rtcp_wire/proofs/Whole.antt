-- What was written of packets reads as those packets.
use Rattle.std.proofs.Common.{◌≡◌, ℕ, zero, suc, ◌+◌, ◌-◌, ◌*◌, ◌/◌, ◌%◌, ◌≤◌, ◌<◌, true, false, List, [], ◌∷◌, ◌++◌, length, take, drop, Some, None, Ok, refl, sym, ap, subst, ◌∙◌, arith, ◌⊎◌, inl, inr}
use Rattle.std.specs.Prelude.{◌==◌, option_map}
use Rattle.std.specs.List.{flat_map, AllByRecursion}
use Rattle.std.proofs.lemmas.Bool.{le-ltb, cases_eq}
use Rattle.std.proofs.lemmas.Bool.Decides.{nat_tests}
use Rattle.std.proofs.lemmas.List.{length-append, drop_at, take_at}
use Rattle.byteorder.specs.Endian.{big_bytes}
use Rattle.rtp_wire.specs.Network.{number32}
use Rattle.rtcp_wire.specs.declared.packet.Rtcp.{Rtcp}
use Rattle.rtcp_wire.specs.declared.packet.Rtcp.TheVariants.{Sr, Rr, Sdes, Bye, App, Nacks, Feedback, Unknown}
use Rattle.rtcp_wire.specs.Bodies.{blocks_at, numbers_at, entries_at, reason_at, sr_of, rr_of, sdes_of, bye_of, app_of, nacks_of, feedback_of, packet_of}
use Rattle.rtcp_wire.specs.Compound.{version_of, has_padding, count_of, kind_of, size_of, padding_of, body_of, is_bad_padding, is_bad_first, header_fault, headers_fault, packet_or_fault, with_packet, packets_at, compound_of}
use Rattle.rtcp_wire.specs.Laws.{length-numbers_bytes, length-blocks, length-entries}
use Rattle.rtcp_wire.specs.Written.{numbers_bytes, block_bytes, chunk_bytes, reason_bytes, entry_bytes, body_bytes, kind_byte, count_bits, packet_bytes, compound_bytes, BodyFits, PacketFits, Begins, IsWritable, InRange}
use Rattle.rtcp_wire.proofs.Heads.{none}
use Rattle.rtcp_wire.proofs.ReadBack.{number16_back, number32_back, numbers_back, blocks_back, entries_back, chunks_back, length-chunks, reason_back, length-reason}

-- ---- bodies that are long enough

sr_long : (count : ℕ) (b : List ℕ) → 24 + 24 * count ≤ length b
    → sr_of count b ≡ Some (Sr (number32 b 0) (number32 b 4) (number32 b 8) (number32 b 12) (number32 b 16) (number32 b 20) (record { items = blocks_at b 24 count }) (drop (24 + 24 * count) b))
sr_long count b le = rw (le-ltb (length b) (24 + 24 * count) le) refl

rr_long : (count : ℕ) (b : List ℕ) → 4 + 24 * count ≤ length b → rr_of count b ≡ Some (Rr (number32 b 0) (record { items = blocks_at b 4 count }) (drop (4 + 24 * count) b))
rr_long count b le = rw (le-ltb (length b) (4 + 24 * count) le) refl

bye_long : (count : ℕ) (b : List ℕ) → 4 * count ≤ length b → bye_of count b ≡ option_map (λ reason. Bye (numbers_at b count) reason) (reason_at (drop (4 * count) b))
bye_long count b le = rw (le-ltb (length b) (4 * count) le) refl

app_long : (count : ℕ) (b : List ℕ) → 8 ≤ length b → app_of count b ≡ Some (App count (number32 b 0) (take 4 (drop 4 b)) (drop 8 b))
app_long count b le = rw (le-ltb (length b) 8 le) refl

nacks_long : (b : List ℕ) → 8 ≤ length b → nacks_of b ≡ Some (Nacks (number32 b 0) (number32 b 4) (entries_at b ((length b - 8) / 4)))
nacks_long b le = rw (le-ltb (length b) 8 le) refl

feedback_long : (kind count : ℕ) (b : List ℕ) → 8 ≤ length b → feedback_of kind count b ≡ Some (Feedback kind count (number32 b 0) (number32 b 4) (drop 8 b))
feedback_long kind count b le = rw (le-ltb (length b) 8 le) refl

-- ---- the type's body

other_format : (format : ℕ) (b : List ℕ) → (format ≡ 1 → ⊥) → packet_of 205 format b ≡ feedback_of 205 format b
unfolding packet_of
other_format format b other =
    let test : (format == 1) ≡ false = grind (arith, nat_tests) in
    rw test refl

payload_feedback : (format : ℕ) (b : List ℕ) → packet_of 206 format b ≡ feedback_of 206 format b
unfolding packet_of
payload_feedback format b = refl

feedback_body : (kind format : ℕ) (b : List ℕ) → 205 ≤ kind → kind ≤ 206 → (kind ≡ 205 → format ≡ 1 → ⊥) → packet_of kind format b ≡ feedback_of kind format b
feedback_body kind format b low high other =
    elim (cases_eq kind 205) [
      | inl e ↦ subst (λ (k : ℕ). packet_of k format b ≡ feedback_of k format b) (sym e) (other_format format b (other e))
      | inr other_kind ↦
          let e : 206 ≡ kind = omega arith in
          subst (λ (k : ℕ). packet_of k format b ≡ feedback_of k format b) e (payload_feedback format b)
    ]

unknown_body : (kind count : ℕ) (b : List ℕ) → (kind < 200) ⊎ (206 < kind) → packet_of kind count b ≡ Some (Unknown kind count b)
unfolding packet_of
unknown_body kind count b far =
    let t0 : (kind == 200) ≡ false = grind (arith, nat_tests) in
    let t1 : (kind == 201) ≡ false = grind (arith, nat_tests) in
    let t2 : (kind == 202) ≡ false = grind (arith, nat_tests) in
    let t3 : (kind == 203) ≡ false = grind (arith, nat_tests) in
    let t4 : (kind == 204) ≡ false = grind (arith, nat_tests) in
    let t5 : (kind == 205) ≡ false = grind (arith, nat_tests) in
    let t6 : (kind == 206) ≡ false = grind (arith, nat_tests) in
    rw (t0, t1, t2, t3, t4, t5, t6) refl

of_200 : (count : ℕ) (b : List ℕ) → packet_of 200 count b ≡ sr_of count b
unfolding packet_of
of_200 count b = refl

of_201 : (count : ℕ) (b : List ℕ) → packet_of 201 count b ≡ rr_of count b
unfolding packet_of
of_201 count b = refl

of_202 : (count : ℕ) (b : List ℕ) → packet_of 202 count b ≡ sdes_of count b
unfolding packet_of
of_202 count b = refl

of_203 : (count : ℕ) (b : List ℕ) → packet_of 203 count b ≡ bye_of count b
unfolding packet_of
of_203 count b = refl

of_204 : (count : ℕ) (b : List ℕ) → packet_of 204 count b ≡ app_of count b
unfolding packet_of
of_204 count b = refl

of_205 : (b : List ℕ) → packet_of 205 1 b ≡ nacks_of b
unfolding packet_of
of_205 b = refl

body_back : (p : Rtcp) → BodyFits p → InRange p → packet_of (kind_byte p) (count_bits p) (body_bytes p) ≡ Some p
body_back (Sr ssrc seconds fraction rtp packets octets blocks rest) fits ranges =
    let numbers = numbers_bytes (ssrc ∷ seconds ∷ fraction ∷ rtp ∷ packets ∷ octets ∷ []) in
    let front = numbers ++ flat_map block_bytes blocks.items in
    let len : length front ≡ 24 + 24 * length blocks.items = omega (arith, length-blocks blocks.items) in
    let rest_is : drop (24 + 24 * length blocks.items) (front ++ rest) ≡ rest = drop_at front rest (24 + 24 * length blocks.items) len in
    let blocks_is : blocks_at (front ++ rest) 24 (length blocks.items) ≡ blocks.items = blocks_back numbers blocks.items rest 24 refl ranges.1 fits.0 in
    of_200 (length blocks.items) (front ++ rest) ∙ sr_long (length blocks.items) (front ++ rest) (omega (arith, len, length-append front rest))
    ∙ (λ d. Some (Sr (number32_back ssrc [] (ranges.0 0) d) (number32_back seconds [] (ranges.0 1) d) (number32_back fraction [] (ranges.0 2) d)
    (number32_back rtp [] (ranges.0 3) d) (number32_back packets [] (ranges.0 4) d) (number32_back octets [] (ranges.0 5) d) (record { items = blocks_is d }) (rest_is d)))
body_back (Rr ssrc blocks rest) fits ranges =
    let numbers = numbers_bytes (ssrc ∷ []) in
    let front = numbers ++ flat_map block_bytes blocks.items in
    let len : length front ≡ 4 + 24 * length blocks.items = omega (arith, length-blocks blocks.items) in
    let rest_is : drop (4 + 24 * length blocks.items) (front ++ rest) ≡ rest = drop_at front rest (4 + 24 * length blocks.items) len in
    let blocks_is : blocks_at (front ++ rest) 4 (length blocks.items) ≡ blocks.items = blocks_back numbers blocks.items rest 4 refl ranges.1 fits.0 in
    of_201 (length blocks.items) (front ++ rest) ∙ rr_long (length blocks.items) (front ++ rest) (omega (arith, len, length-append front rest))
    ∙ (λ d. Some (Rr (number32_back ssrc [] (ranges.0 0) d) (record { items = blocks_is d }) (rest_is d)))
body_back (Sdes chunks) fits ranges = of_202 (length chunks) (flat_map chunk_bytes chunks) ∙ ap (option_map Sdes) (chunks_back chunks fits.1 ranges)
body_back (Bye ssrcs reason) fits ranges =
    let front = numbers_bytes ssrcs in
    let b = front ++ reason_bytes reason in
    let len = length-numbers_bytes ssrcs in
    let behind : drop (4 * length ssrcs) b ≡ reason_bytes reason = drop_at front (reason_bytes reason) (4 * length ssrcs) len in
    let reason_is : reason_at (drop (4 * length ssrcs) b) ≡ Some reason = ap reason_at behind ∙ reason_back reason in
    let ssrcs_is : numbers_at b (length ssrcs) ≡ ssrcs = numbers_back ssrcs (reason_bytes reason) ranges in
    of_203 (length ssrcs) b ∙ bye_long (length ssrcs) b (omega (arith, len, length-append front (reason_bytes reason))) ∙ (λ d. option_map (λ r. Bye (ssrcs_is d) r) (reason_is d))
body_back (App subtype ssrc name rest) fits ranges =
    let front = numbers_bytes (ssrc ∷ []) ++ name in
    let b = front ++ rest in
    let name_is : take 4 (drop 4 b) ≡ name = take_at name rest 4 ranges.1 in
    let rest_is : drop 8 b ≡ rest = drop_at front rest 8 (omega (arith, ranges.1)) in
    of_204 subtype b ∙ app_long subtype b (omega (arith, ranges.1, length-append front rest)) ∙ (λ d. Some (App subtype (number32_back ssrc [] (ranges.0 0) d) (name_is d) (rest_is d)))
body_back (Nacks sender media list) fits ranges =
    let front = numbers_bytes (sender ∷ media ∷ []) in
    let b = front ++ flat_map entry_bytes list in
    let len = length-entries list in
    let count : (length b - 8) / 4 ≡ length list = omega (arith, len) in
    let list_is : entries_at b ((length b - 8) / 4) ≡ list = ap (entries_at b) count ∙ entries_back front list refl ranges.1 in
    of_205 b ∙ nacks_long b (omega arith) ∙ (λ d. Some (Nacks (number32_back sender [] (ranges.0 0) d) (number32_back media [] (ranges.0 1) d) (list_is d)))
body_back (Feedback kind format sender media rest) fits ranges =
    let front = numbers_bytes (sender ∷ media ∷ []) in
    let b = front ++ rest in
    let rest_is : drop 8 b ≡ rest = drop_at front rest 8 refl in
    feedback_body kind format b fits.0 fits.1 fits.2 ∙ feedback_long kind format b (omega arith) ∙ (λ d. Some (Feedback kind format (number32_back sender [] (ranges 0) d) (number32_back media [] (ranges 1) d) (rest_is d)))
body_back (Unknown kind count rest) fits ranges = unknown_body kind count rest fits.0

body_words : (p : Rtcp) → BodyFits p → InRange p → length (body_bytes p) % 4 ≡ 0
body_words (Sr ssrc seconds fraction rtp packets octets blocks rest) fits ranges = omega (arith, length-blocks blocks.items, length-append (flat_map block_bytes blocks.items) rest, fits.1)
body_words (Rr ssrc blocks rest) fits ranges = omega (arith, length-blocks blocks.items, length-append (flat_map block_bytes blocks.items) rest, fits.1)
body_words (Sdes chunks) fits ranges = length-chunks chunks
body_words (Bye ssrcs reason) fits ranges = omega (arith, length-numbers_bytes ssrcs, length-append (numbers_bytes ssrcs) (reason_bytes reason), length-reason reason)
body_words (App subtype ssrc name rest) fits ranges = omega (arith, length-append name rest, ranges.1, fits.1)
body_words (Nacks sender media list) fits ranges = omega (arith, length-entries list)
body_words (Feedback kind format sender media rest) fits ranges = omega (arith, fits.4)
body_words (Unknown kind count rest) fits ranges = fits.2

-- ---- headers

-- what the header of a packet that was written says, whatever follows
record Heads (c k : ℕ) (body more b : List ℕ) : Type 0 where
  long : length b ≡ 4 + length body + length more
  size : size_of b ≡ 4 + length body
  version : version_of b ≡ 2
  bit : has_padding b ≡ false
  count : count_of b ≡ c
  kind : kind_of b ≡ k
  behind : drop (4 + length body) b ≡ more
  inside : drop 4 b ≡ body ++ more

headed : (c k : ℕ) (body more : List ℕ) → c ≤ 31 → length body % 4 ≡ 0 → length body ≤ 262140 → Heads c k body more ((((128 + c) ∷ k ∷ []) ++ big_bytes 2 (length body / 4) ++ body) ++ more)
headed c k body more small words few =
    let pad : (128 + c) / 32 % 2 ≡ 0 = omega arith in
    let number = number16_back (length body / 4) [] (omega arith) in
    record {
      long = omega (arith, length-append body more);
      size = omega (arith, number, words);
      version = omega arith;
      bit = rw pad refl;
      count = omega arith;
      kind = refl;
      behind = drop_at (((128 + c) ∷ k ∷ []) ++ big_bytes 2 (length body / 4) ++ body) more (4 + length body) (omega arith);
      inside = refl;
    }

pub first_is_good : (o k : ℕ) → (o ≡ 0 → (200 ≤ k) × (k ≤ 206)) → is_bad_first o k ≡ false
first_is_good o k h =
    elim (cases_eq o 0) [
      | inl e ↦ let fits = h e in grind (arith, nat_tests)
      | inr other_kind ↦ grind (arith, nat_tests)
    ]

pub no_padding : (b : List ℕ) → has_padding b ≡ false → is_bad_padding b ≡ false
no_padding b e = rw e refl

no_fault : (c k : ℕ) (body more b : List ℕ) (o : ℕ) → Heads c k body more b → (o ≡ 0 → (200 ≤ k) × (k ≤ 206)) → header_fault o b ≡ None
no_fault c k body more b o h first =
    none o b (omega (arith, h.long)) h.version (omega (arith, h.long, h.size)) (no_padding b h.bit) (subst (λ (x : ℕ). is_bad_first o x ≡ false) (sym h.kind) (first_is_good o k first))

the_body : (c k : ℕ) (body more b : List ℕ) → Heads c k body more b → body_of b ≡ body
the_body c k body more b h =
    let none_there : padding_of b ≡ 0 = rw h.bit refl in
    let count : size_of b - 4 - padding_of b ≡ length body = omega (arith, h.size, none_there) in
    ap (λ (n : ℕ). take n (drop 4 b)) count ∙ ap (take (length body)) h.inside ∙ take_at body more (length body) refl

-- ---- one step

pub last_header : (n o : ℕ) (b : List ℕ) → header_fault o b ≡ None → length b ≡ size_of b → headers_fault (suc n) o b ≡ None
unfolding headers_fault
last_header n o b h e =
    let test : (length b == size_of b) ≡ true = grind (arith, nat_tests) in
    rw (h, test) refl

pub next_header : (n o : ℕ) (b : List ℕ) → header_fault o b ≡ None → (length b ≡ size_of b → ⊥) → headers_fault (suc n) o b ≡ headers_fault n (o + size_of b) (drop (size_of b) b)
unfolding headers_fault
next_header n o b h longer =
    let test : (length b == size_of b) ≡ false = grind (arith, nat_tests) in
    rw (h, test) refl

pub last_packet : (n o : ℕ) (b : List ℕ) (p : Rtcp) → packet_or_fault o b ≡ Ok p → length b ≡ size_of b → packets_at (suc n) o b ≡ Ok (p ∷ [])
unfolding packets_at
last_packet n o b p h e =
    let test : (length b == size_of b) ≡ true = grind (arith, nat_tests) in
    rw (h, test) refl

pub next_packet : (n o : ℕ) (b : List ℕ) (p : Rtcp) → packet_or_fault o b ≡ Ok p → (length b ≡ size_of b → ⊥) → packets_at (suc n) o b ≡ with_packet p (packets_at n (o + size_of b) (drop (size_of b) b))
unfolding packets_at
next_packet n o b p h longer =
    let test : (length b == size_of b) ≡ false = grind (arith, nat_tests) in
    rw (h, test) refl

few : (p : Rtcp) → BodyFits p → InRange p → count_bits p ≤ 31
few (Sr ssrc seconds fraction rtp packets octets blocks rest) fits ranges = ranges.2
few (Rr ssrc blocks rest) fits ranges = ranges.2
few (Sdes chunks) fits ranges = fits.0
few (Bye ssrcs reason) fits ranges = fits.0
few (App subtype ssrc name rest) fits ranges = fits.0
few (Nacks sender media list) fits ranges = omega arith
few (Feedback kind format sender media rest) fits ranges = fits.3
few (Unknown kind count rest) fits ranges = fits.1

the_heads : (p : Rtcp) (more : List ℕ) → PacketFits p → InRange p → Heads (count_bits p) (kind_byte p) (body_bytes p) more (packet_bytes p ++ more)
the_heads p more fits ranges = headed (count_bits p) (kind_byte p) (body_bytes p) more (few p fits.body ranges) (body_words p fits.body ranges) fits.words

the_packet : (p : Rtcp) (more : List ℕ) (o : ℕ) → PacketFits p → InRange p → packet_or_fault o (packet_bytes p ++ more) ≡ Ok p
the_packet p more o fits ranges =
    let b = packet_bytes p ++ more in
    let h = the_heads p more fits ranges in
    let read : packet_of (kind_of b) (count_of b) (body_of b) ≡ Some p = rw (h.count, the_body (count_bits p) (kind_byte p) (body_bytes p) more b h) (body_back p fits.body ranges) in
    rw read refl

-- ---- all packets

headers_back : (packets : List Rtcp) (n o : ℕ) → length packets ≤ n → 0 < length packets → (o ≡ 0 → Begins packets) → AllByRecursion PacketFits packets → AllByRecursion InRange packets
    → headers_fault n o (compound_bytes packets) ≡ None
headers_back [] n o le some first fits ranges = absurd (omega arith)
headers_back (p ∷ ps) zero o le some first fits ranges = absurd (omega arith)
headers_back (p ∷ []) (suc n) o le some first fits ranges =
    let h = the_heads p [] fits.0 ranges.0 in
    last_header n o (packet_bytes p ++ []) (no_fault (count_bits p) (kind_byte p) (body_bytes p) [] (packet_bytes p ++ []) o h first) (h.long ∙ omega (arith, h.size))
headers_back (p ∷ q ∷ ps) (suc n) o le some first fits ranges =
    let more = compound_bytes (q ∷ ps) in
    let b = packet_bytes p ++ more in
    let h = the_heads p more fits.0 ranges.0 in
    let longer : 4 ≤ length more = omega (arith, (the_heads q (compound_bytes ps) fits.1.0 ranges.1.0).long) in
    let rest = headers_back (q ∷ ps) n (o + size_of b) (omega arith) (omega arith) (λ e. absurd (omega (arith, e, h.size))) fits.1 ranges.1 in
    next_header n o b (no_fault (count_bits p) (kind_byte p) (body_bytes p) more b o h first) (λ e. omega (arith, e, h.long, h.size, longer))
    ∙ ap (headers_fault n (o + size_of b)) (ap (λ (m : ℕ). drop m b) h.size ∙ h.behind) ∙ rest

packets_back : (packets : List Rtcp) (n o : ℕ) → length packets ≤ n → 0 < length packets → AllByRecursion PacketFits packets → AllByRecursion InRange packets → packets_at n o (compound_bytes packets) ≡ Ok packets
packets_back [] n o le some fits ranges = absurd (omega arith)
packets_back (p ∷ ps) zero o le some fits ranges = absurd (omega arith)
packets_back (p ∷ []) (suc n) o le some fits ranges =
    let h = the_heads p [] fits.0 ranges.0 in
    last_packet n o (packet_bytes p ++ []) p (the_packet p [] o fits.0 ranges.0) (h.long ∙ omega (arith, h.size))
packets_back (p ∷ q ∷ ps) (suc n) o le some fits ranges =
    let more = compound_bytes (q ∷ ps) in
    let b = packet_bytes p ++ more in
    let h = the_heads p more fits.0 ranges.0 in
    let longer : 4 ≤ length more = omega (arith, (the_heads q (compound_bytes ps) fits.1.0 ranges.1.0).long) in
    let rest = packets_back (q ∷ ps) n (o + size_of b) (omega arith) (omega arith) fits.1 ranges.1 in
    next_packet n o b p (the_packet p more o fits.0 ranges.0) (λ e. omega (arith, e, h.long, h.size, longer))
    ∙ ap (λ (xs : List ℕ). with_packet p (packets_at n (o + size_of b) xs)) (ap (λ (m : ℕ). drop m b) h.size ∙ h.behind) ∙ ap (with_packet p) rest

enough : (packets : List Rtcp) → length packets ≤ length (compound_bytes packets)
enough [] = omega arith
enough (p ∷ ps) = omega (arith, enough ps, length-append (body_bytes p) (compound_bytes ps))

some_packets : (packets : List Rtcp) → Begins packets → 0 < length packets
some_packets [] h = absurd h
some_packets (p ∷ ps) h = omega arith

pub compound_back : (packets : List Rtcp) → IsWritable packets → AllByRecursion InRange packets → compound_of (compound_bytes packets) ≡ Ok packets
unfolding compound_of
compound_back packets fits ranges =
    let some = some_packets packets fits.begins in
    let all = length (compound_bytes packets) in
    rw (headers_back packets all 0 (enough packets) some (λ e. fits.begins) fits.each ranges, packets_back packets all 0 (enough packets) some fits.each ranges) refl

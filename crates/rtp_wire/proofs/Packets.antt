-- The fields that a view shows are those of the grammar, and no other packet has the same bytes.
use Rattle.std.proofs.Common.{◌≡◌, ℕ, ◌+◌, ◌-◌, ◌*◌, ◌≤◌, ◌<◌, Bool, true, false, cond, List, length, take, drop, Option, Some, None, refl, sym, ap, subst, ◌∙◌, arith}
use Rattle.std.proofs.lemmas.Bool.Decides.{nat_tests}
use Rattle.std.proofs.lemmas.List.{length-take, length-drop}
use Rattle.std.proofs.lemmas.List.FromFn.{length-map-range_with_len, get_or-map-range_with_len, fill_by_all}
use Rattle.rtp_wire.specs.declared.fault.RtpFault.{RtpFault}
use Rattle.rtp_wire.specs.Network.{number16, number32}
use Rattle.rtp_wire.specs.Packet.{Packet, IsPacket, has_padding, has_extension, csrc_count, csrcs_end, extension_size, HasExtension, HasPadding, header_end, payload_place, last_byte, is_bad_padding, first_fault}
use Rattle.rtp_wire.specs.View.{csrcs_of, extension_of, padding_of, payload_of, packet_of, IsHeaderEnd, IsRead}
use Rattle.rtp_wire.proofs.Faults.{none_without, none_with}

-- an extension that is shown is there
has_extension_of : (bytes : List ℕ) (at : ℕ) (b : Bool) → has_extension bytes ≡ b → at + (cond b (4 + 4 * number16 bytes (at + 2)) 0) ≤ length bytes → HasExtension bytes at (extension_of bytes b at)
has_extension_of bytes at true e fits =
    let len : length (take (4 * number16 bytes (at + 2)) (drop (at + 4) bytes)) ≡ 4 * number16 bytes (at + 2) = omega (arith, length-take (4 * number16 bytes (at + 2)) (drop (at + 4) bytes), length-drop (at + 4) bytes) in
    (e, refl, len, ap (λ (n : ℕ). take n (drop (at + 4) bytes)) (sym len))
has_extension_of bytes at false e fits = e

size_of : (bytes : List ℕ) (at : ℕ) (b : Bool) → at + (cond b (4 + 4 * number16 bytes (at + 2)) 0) ≤ length bytes → extension_size (extension_of bytes b at) ≡ cond b (4 + 4 * number16 bytes (at + 2)) 0
size_of bytes at true fits = omega (arith, length-take (4 * number16 bytes (at + 2)) (drop (at + 4) bytes), length-drop (at + 4) bytes)
size_of bytes at false fits = refl

end_of : (bytes : List ℕ) (b : Bool) (at n : ℕ) → cond b (at + 4 + 4 * n) at ≡ at + (cond b (4 + 4 * n) 0)
end_of bytes true at n = omega arith
end_of bytes false at n = omega arith

has_padding_of : (bytes : List ℕ) (b : Bool) (left : ℕ) → (b ≡ true → is_bad_padding (last_byte bytes) left ≡ false) → HasPadding bytes (cond b (last_byte bytes) 0) b
has_padding_of bytes true left h = let good = h refl in (grind (arith, nat_tests), refl)
has_padding_of bytes false left h = refl

good_padding : (bytes : List ℕ) (end : ℕ) → IsHeaderEnd bytes end → first_fault bytes ≡ None → has_padding bytes ≡ true → is_bad_padding (last_byte bytes) (length bytes - header_end bytes) ≡ false
unfolding first_fault
good_padding bytes end h fits p = grind (arith, nat_tests, h.fixed, h.version, h.csrcs, h.whole)

-- the end of the header by the parts that are shown
header_of : (bytes : List ℕ) → csrcs_end bytes ≤ length bytes → header_end bytes ≤ length bytes → 12 + 4 * length (csrcs_of bytes (csrc_count bytes)) + extension_size (extension_of bytes (has_extension bytes) (csrcs_end bytes)) ≡ header_end bytes
header_of bytes c h =
    let count = length-map-range_with_len (λ k. number32 bytes (12 + 4 * k)) 0 (csrc_count bytes) in
    let end = end_of bytes (has_extension bytes) (csrcs_end bytes) (number16 bytes (csrcs_end bytes + 2)) in
    let size = size_of bytes (csrcs_end bytes) (has_extension bytes) (subst (λ (n : ℕ). n ≤ length bytes) end h) in
    omega (arith, count, end, size)

pub is_packet : (bytes : List ℕ) (end padding : ℕ) → IsRead bytes end padding → IsPacket (packet_of bytes)
is_packet bytes end padding r =
    let count = length-map-range_with_len (λ k. number32 bytes (12 + 4 * k)) 0 (csrc_count bytes) in
    let place = header_of bytes r.header.csrcs r.header.whole in
    let at : 12 + 4 * length (csrcs_of bytes (csrc_count bytes)) ≡ csrcs_end bytes = omega (arith, count) in
    let end_is = end_of bytes (has_extension bytes) (csrcs_end bytes) (number16 bytes (csrcs_end bytes + 2)) in
    let fits = subst (λ (n : ℕ). n ≤ length bytes) end_is r.header.whole in
    let len : length (payload_of bytes (header_end bytes) (padding_of bytes)) ≡ length bytes - padding_of bytes - header_end bytes = omega (arith, length-take (length bytes - padding_of bytes - header_end bytes) (drop (header_end bytes) bytes), length-drop (header_end bytes) bytes) in
    record {
      version = r.header.version;
      marker = refl;
      pt = refl;
      seq = refl;
      timestamp = refl;
      ssrc = refl;
      csrc_count = count;
      csrcs = λ k lt. get_or-map-range_with_len (λ k. number32 bytes (12 + 4 * k)) 0 (csrc_count bytes) k k 0 (omega (arith, count)) (omega arith);
      extension = subst (λ (n : ℕ). HasExtension bytes n (extension_of bytes (has_extension bytes) (csrcs_end bytes))) (sym at) (has_extension_of bytes (csrcs_end bytes) (has_extension bytes) refl fits);
      payload = sym (ap (λ (m : ℕ). take (length (payload_of bytes (header_end bytes) (padding_of bytes))) (drop m bytes)) place ∙ ap (λ (n : ℕ). take n (drop (header_end bytes) bytes)) len);
      padding = has_padding_of bytes (has_padding bytes) (length bytes - header_end bytes) (good_padding bytes end r.header r.fits);
      whole = omega (arith, len, place, r.count, r.room, r.header.value);
    }

-- ---- no other packet has the same bytes

the_extension : (bytes : List ℕ) (at : ℕ) (e : Option (ℕ × List ℕ)) → HasExtension bytes at e → e ≡ extension_of bytes (has_extension bytes) at
the_extension bytes at None h = rw h refl
the_extension bytes at (Some (profile, words)) (x, p, n, w) =
    let same : words ≡ take (4 * number16 bytes (at + 2)) (drop (at + 4) bytes) = subst (λ (n : ℕ). words ≡ take n (drop (at + 4) bytes)) n w in
    rw (x, p) (ap (λ (w : List ℕ). Some (number16 bytes at, w)) same)

the_padding : (bytes : List ℕ) (padding : ℕ) (b : Bool) → HasPadding bytes padding b → padding ≡ cond b (last_byte bytes) 0
the_padding bytes padding true h = h.1
the_padding bytes padding false h = h

the_size : (bytes : List ℕ) (at : ℕ) (e : Option (ℕ × List ℕ)) → HasExtension bytes at e → extension_size e ≡ cond (has_extension bytes) (4 + 4 * number16 bytes (at + 2)) 0
the_size bytes at None h = rw h refl
the_size bytes at (Some (profile, words)) (x, p, n, w) = rw x (omega (arith, n))

pub record IsOf (p : Packet) : Type 0 where
  pub fits : first_fault p.bytes ≡ None
  pub fields : p ≡ packet_of p.bytes

pub good_count : (padding last left : ℕ) → 0 < padding → padding ≡ last → padding ≤ left → is_bad_padding last left ≡ false
good_count padding last left some e fits = grind (arith, nat_tests)

no_fault : (bytes : List ℕ) (padding : ℕ) (b : Bool) → has_padding bytes ≡ b → IsHeaderEnd bytes (header_end bytes) → HasPadding bytes padding b → header_end bytes + padding ≤ length bytes → first_fault bytes ≡ None
no_fault bytes padding true e h p room = none_with bytes (header_end bytes) h (good_count padding (last_byte bytes) (length bytes - header_end bytes) p.0 p.1 (omega arith))
no_fault bytes padding false e h p room = none_without bytes (header_end bytes) h e

pub only_packet : (p : Packet) → IsPacket p → IsOf p
only_packet p h =
    let at : 12 + 4 * length p.csrcs ≡ csrcs_end p.bytes = omega (arith, h.csrc_count) in
    let x = subst (λ (n : ℕ). HasExtension p.bytes n p.extension) at h.extension in
    let extension = the_extension p.bytes (csrcs_end p.bytes) p.extension x in
    let size = the_size p.bytes (csrcs_end p.bytes) p.extension x in
    let end = end_of p.bytes (has_extension p.bytes) (csrcs_end p.bytes) (number16 p.bytes (csrcs_end p.bytes + 2)) in
    let place : payload_place p ≡ header_end p.bytes = omega (arith, at, size, end) in
    let csrcs : p.csrcs ≡ csrcs_of p.bytes (csrc_count p.bytes) = fill_by_all (λ k. number32 p.bytes (12 + 4 * k)) p.csrcs (csrc_count p.bytes) 0 h.csrc_count (λ k lt. h.csrcs k (omega (arith, h.csrc_count))) in
    let padding = the_padding p.bytes p.padding (has_padding p.bytes) h.padding in
    let len : length p.payload ≡ length p.bytes - padding_of p.bytes - header_end p.bytes = omega (arith, h.whole, place, padding) in
    let payload : p.payload ≡ payload_of p.bytes (header_end p.bytes) (padding_of p.bytes) = h.payload ∙ ap (λ (m : ℕ). take (length p.payload) (drop m p.bytes)) place ∙ ap (λ (n : ℕ). take n (drop (header_end p.bytes) p.bytes)) len in
    let header : IsHeaderEnd p.bytes (header_end p.bytes) = record { fixed = omega (arith, h.whole); version = h.version; csrcs = omega (arith, h.whole, at); whole = omega (arith, h.whole, place); value = refl } in
    record {
      fits = no_fault p.bytes p.padding (has_padding p.bytes) refl header h.padding (omega (arith, h.whole, place));
      fields = λ i. record {
        marker = h.marker i;
        pt = h.pt i;
        seq = h.seq i;
        timestamp = h.timestamp i;
        ssrc = h.ssrc i;
        csrcs = csrcs i;
        extension = extension i;
        payload = payload i;
        padding = padding i;
        bytes = p.bytes;
      };
    }

pub is_only : (p : Packet) (bytes : List ℕ) → IsPacket p → p.bytes ≡ bytes → packet_of bytes ≡ p
is_only p bytes h e = sym ((only_packet p h).fields ∙ ap packet_of e)

pub no_other : (p : Packet) (bytes : List ℕ) (fault : RtpFault) → IsPacket p → p.bytes ≡ bytes → first_fault bytes ≡ Some fault → ⊥
no_other p bytes fault h e f =
    let none : first_fault bytes ≡ None = subst (λ (b : List ℕ). first_fault b ≡ None) e (only_packet p h).fits in
    let both : Some fault ≡ None = sym f ∙ none in
    cc

-- ---- what a reader knows of the padding

pub padding_without : (bytes : List ℕ) (end : ℕ) → IsHeaderEnd bytes end → has_padding bytes ≡ false → IsRead bytes end 0
padding_without bytes end h p = record { header = h; fits = none_without bytes end h p; count = rw p refl; room = omega (arith, h.whole, h.value) }

pub padding_with : (bytes : List ℕ) (end : ℕ) → IsHeaderEnd bytes end → has_padding bytes ≡ true → 0 < last_byte bytes → last_byte bytes ≤ length bytes - end → IsRead bytes end (last_byte bytes)
padding_with bytes end h p some fits =
    record {
      header = h;
      fits = none_with bytes end h (good_count (last_byte bytes) (last_byte bytes) (length bytes - end) some refl fits);
      count = rw p refl;
      room = omega (arith, h.whole, h.value);
    }

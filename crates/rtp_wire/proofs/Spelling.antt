-- The bytes that are written are a packet with the fields that they were written from.
use Rattle.std.proofs.Common.{◌≡◌, ℕ, zero, suc, ◌+◌, ◌*◌, ◌/◌, ◌%◌, ◌^◌, ◌≤◌, ◌<◌, Bool, true, false, cond, List, [], ◌∷◌, ◌++◌, length, take, drop, Option, Some, None, refl, sym, ap, subst, ◌∙◌, arith, append_assoc}
use Rattle.std.specs.Prelude.{◌==◌, slice_index, IfSome, is_some, option_map}
use denote.Ref.{Bor}
use Rattle.std.proofs.lemmas.Bool.Decides.{nat_tests}
use Rattle.std.proofs.lemmas.List.{length-append, drop-drop, drop_at, take_at, take_all, get_or-append-add}
use Rattle.byteorder.specs.Endian.{big_bytes}
use Rattle.rtp_wire.specs.Network.{number16, number32}
use Rattle.rtp_wire.specs.Packet.{Packet, AreWords, IsPacket, has_extension, extension_size, HasExtension, HasPadding, payload_place}
use Rattle.rtp_wire.specs.Written.{fixed_bytes, csrc_bytes, extension_bytes, spelling}

-- ---- numbers at their places

pub number16-big_bytes : (n : ℕ) (rest : List ℕ) → n < 2 ^ 16 → number16 (big_bytes 2 n ++ rest) 0 ≡ n
number16-big_bytes n rest lt = omega arith

pub number32-big_bytes : (n : ℕ) (rest : List ℕ) → n < 2 ^ 32 → number32 (big_bytes 4 n ++ rest) 0 ≡ n
number32-big_bytes n rest lt = omega arith

pub slice_index_behind : (xs ys : List ℕ) (i j : ℕ) → i ≡ length xs + j → slice_index (xs ++ ys) i ≡ slice_index ys j
slice_index_behind xs ys i j e = rw e (get_or-append-add xs ys j 0)

pub number16_behind : (xs ys : List ℕ) (i j : ℕ) → i ≡ length xs + j → number16 (xs ++ ys) i ≡ number16 ys j
number16_behind xs ys i j e =
    omega (arith, slice_index_behind xs ys i j e, slice_index_behind xs ys (i + 1) (j + 1) (omega arith))

pub number32_behind : (xs ys : List ℕ) (i j : ℕ) → i ≡ length xs + j → number32 (xs ++ ys) i ≡ number32 ys j
number32_behind xs ys i j e =
    omega (arith, slice_index_behind xs ys i j e, slice_index_behind xs ys (i + 1) (j + 1) (omega arith), slice_index_behind xs ys (i + 2) (j + 2) (omega arith), slice_index_behind xs ys (i + 3) (j + 3) (omega arith))

-- ---- CSRCs

pub length-csrc_bytes : (csrcs : List ℕ) → length (csrc_bytes csrcs) ≡ 4 * length csrcs
length-csrc_bytes [] = refl
length-csrc_bytes (x ∷ xs) = omega (arith, length-csrc_bytes xs)

pub csrc_at : (csrcs rest : List ℕ) (k : ℕ) → k < length csrcs → slice_index csrcs k < 2 ^ 32 → number32 (csrc_bytes csrcs ++ rest) (4 * k) ≡ slice_index csrcs k
csrc_at [] rest k lt fits = absurd (omega arith)
csrc_at (x ∷ xs) rest zero lt fits = number32-big_bytes x (csrc_bytes xs ++ rest) fits
csrc_at (x ∷ xs) rest (suc k) lt fits = number32_behind (big_bytes 4 x) (csrc_bytes xs ++ rest) (4 * suc k) (4 * k) (omega arith) ∙ csrc_at xs rest k (omega arith) fits

-- ---- the whole packet

-- what the fields of a packet without padding keep
pub record Fits (p : Packet) : Type 0 where
  pub pt : p.pt ≤ 127
  pub seq : p.seq < 2 ^ 16
  pub timestamp : p.timestamp < 2 ^ 32
  pub ssrc : p.ssrc < 2 ^ 32
  pub count : length p.csrcs ≤ 15
  pub csrcs : (k : ℕ) → slice_index p.csrcs k < 2 ^ 32
  pub profile : IfSome p.extension (λ x. x.0 < 2 ^ 16)
  pub words : IfSome p.extension (λ x. AreWords x.1)
  pub padding : p.padding ≡ 0

bit_of : (e : Option (ℕ × List ℕ)) (n : ℕ) → n ≤ 15 → (((128 + (cond (is_some e) 16 0) + n) / 16 % 2 == 1) ≡ is_some e) × ((128 + (cond (is_some e) 16 0) + n) / 64 ≡ 2) × (((128 + (cond (is_some e) 16 0) + n) / 32 % 2 == 1) ≡ false) × ((128 + (cond (is_some e) 16 0) + n) % 16 ≡ n)
bit_of None n le = (grind (arith, nat_tests), omega arith, grind (arith, nat_tests), omega arith)
bit_of (Some x) n le = (grind (arith, nat_tests), omega arith, grind (arith, nat_tests), omega arith)

marker_of : (b : Bool) (n : ℕ) → n ≤ 127 → (b ≡ ((cond b 128 0 + n) / 128 == 1)) × (n ≡ (cond b 128 0 + n) % 128)
marker_of true n le = (grind (arith, nat_tests), omega arith)
marker_of false n le = (grind (arith, nat_tests), omega arith)

drop_behind : (xs ys : List ℕ) (n j : ℕ) → length xs ≡ n → drop (n + j) (xs ++ ys) ≡ drop j ys
drop_behind xs ys n j e = sym (drop-drop j n (xs ++ ys)) ∙ ap (drop j) (drop_at xs ys n e)

has_extension_at : (bytes front rest : List ℕ) (at : ℕ) (e : Option (ℕ × List ℕ)) → bytes ≡ front ++ (extension_bytes e ++ rest) → length front ≡ at → has_extension bytes ≡ is_some e
    → IfSome e (λ x. x.0 < 2 ^ 16) → IfSome e (λ x. AreWords x.1) → HasExtension bytes at e
has_extension_at bytes front rest at None whole len bit profile_fits words_fit = bit
has_extension_at bytes front rest at (Some (profile, words)) whole len bit profile_fits words_fit =
    let behind = extension_bytes (Some (profile, words)) ++ rest in
    let first : number16 bytes at ≡ profile = ap (λ (b : List ℕ). number16 b at) whole ∙ number16_behind front behind at 0 (omega arith) ∙ number16-big_bytes profile [] profile_fits in
    let second : number16 bytes (at + 2) ≡ length words / 4 = ap (λ (b : List ℕ). number16 b (at + 2)) whole ∙ number16_behind front behind (at + 2) 2 (omega arith) ∙ number16-big_bytes (length words / 4) [] (omega (arith, words_fit.few)) in
    let part : drop (at + 4) bytes ≡ words ++ rest = ap (λ (b : List ℕ). drop (at + 4) b) whole ∙ drop_behind front behind at 4 len in
    (bit, sym first, omega (arith, second, words_fit.whole), sym (ap (take (length words)) part ∙ take_at words rest (length words) refl))

length-extension_bytes : (e : Option (ℕ × List ℕ)) → length (extension_bytes e) ≡ extension_size e
length-extension_bytes None = refl
length-extension_bytes (Some (profile, words)) = omega arith

-- the packet with the bytes that spell it
abbrev with_spelling : Packet → Packet
with_spelling p = record p { bytes = spelling p }

made : (p : Packet) → Fits p → IsPacket (with_spelling p)
made p f =
    let front = fixed_bytes p ++ csrc_bytes p.csrcs in
    let behind = extension_bytes p.extension ++ p.payload in
    let whole : spelling p ≡ front ++ behind = append_assoc front (extension_bytes p.extension) p.payload in
    let first = bit_of p.extension (length p.csrcs) f.count in
    let second = marker_of p.marker p.pt f.pt in
    let len : length front ≡ 12 + 4 * length p.csrcs = omega (arith, length-csrc_bytes p.csrcs) in
    let size = length-extension_bytes p.extension in
    let part : drop (payload_place p) (spelling p) ≡ p.payload = ap (drop (payload_place p)) whole ∙ drop_behind front behind (12 + 4 * length p.csrcs) (extension_size p.extension) len ∙ drop_at (extension_bytes p.extension) p.payload (extension_size p.extension) size in
    record {
      version = first.1;
      marker = second.0;
      pt = second.1;
      seq = sym (number16-big_bytes p.seq [] f.seq);
      timestamp = sym (number32-big_bytes p.timestamp [] f.timestamp);
      ssrc = sym (number32-big_bytes p.ssrc [] f.ssrc);
      csrc_count = sym first.3;
      csrcs = λ k lt. sym (ap (λ (b : List ℕ). number32 b (12 + 4 * k)) whole ∙ number32_behind (fixed_bytes p) (csrc_bytes p.csrcs ++ behind) (12 + 4 * k) (4 * k) (omega arith) ∙ csrc_at p.csrcs behind k lt (f.csrcs k));
      extension = has_extension_at (spelling p) front p.payload (12 + 4 * length p.csrcs) p.extension whole len first.0 f.profile f.words;
      payload = sym (ap (take (length p.payload)) part ∙ take_all (length p.payload) p.payload (omega arith));
      padding = subst (λ (b : Bool). HasPadding (spelling p) p.padding b) (sym first.2) f.padding;
      whole = ap length whole ∙ length-append front behind ∙ omega (arith, len, size, length-append (extension_bytes p.extension) p.payload, f.padding);
    }

pub spelled : (p : Packet) → Fits p → p.bytes ≡ spelling p → IsPacket p
spelled p f e =
    let same : with_spelling p ≡ p = λ i. record p { bytes = sym e i } in
    subst (λ (q : Packet). IsPacket q) same (made p f)

-- what holds of an extension in memory holds of its value
pub seen_if : (e : Option (ℕ × Bor (List ℕ))) (P : ℕ × List ℕ → Type 0) → IfSome e (λ x. P (x.0, x.1.now)) → IfSome (option_map (λ x. (x.0, x.1.now)) e) P
seen_if None P h = tt
seen_if (Some x) P h = h

-- pieces that were added one after the other
pub joined : (start one two three whole a b x y : List ℕ) → start ≡ [] → one ≡ start ++ a → two ≡ one ++ b → three ≡ two ++ x → whole ≡ three ++ y → whole ≡ a ++ b ++ x ++ y
joined start one two three whole a b x y e0 e1 e2 e3 e4 = cc

-- The payload of a datagram is short and of bytes.
use Rattle.std.proofs.Common.{ℕ, zero, suc, ◌≡◌, ◌+◌, ◌-◌, ◌*◌, ◌≤◌, ◌<◌, Bool, true, false, refl, List, [], ◌∷◌, length, drop, arith}
use Rattle.std.specs.Prelude.{All, Result, Ok, Err, slice_index, slice_range, nat_lt, ◌==◌, if◌then◌else◌}
use Rattle.std.proofs.lemmas.Grind.{common_steps}
use Rattle.std.proofs.lemmas.List.{length-take}
use Rattle.std.proofs.lemmas.List.Elements.{All-drop, All-take}
use Rattle.pcap_file.specs.Capture.{Record}
use Rattle.pcap_file.specs.Datagrams.{Sent, Inner, net16, udp, version, header_length, is_fragment, widened, ipv4, is_extension, extension_length, behind_extensions, upper, ipv6, by_type, raw, is_tag, untagged, typed, ethernet, null, cooked, frame, datagram_of}
use Rattle.pcap_file.specs.declared.udp.Skip.{Skip}
use Rattle.pcap_file.specs.declared.udp.Skip.TheVariants.{Cut, NotIp, Fragment, NotUdp, Malformed, Big}

abbrev pub IsByte : ℕ → Type 0
IsByte b = b < 256

-- if there is a payload, it is short, and of bytes
abbrev pub IsGood : Result Sent Skip → Type 0
IsGood (Ok d) = (length d.payload ≤ 9216) × All IsByte d.payload
IsGood (Err why) = Unit {0}

pub record Good (o : Result Sent Skip) : Type 0 where
  pub fact : IsGood o

-- what stands behind headers is of bytes
abbrev IsInner : Result Inner Skip → Type 0
IsInner (Ok inner) = All IsByte inner.bytes
IsInner (Err why) = Unit {0}

record GoodInner (o : Result Inner Skip) : Type 0 where
  fact : IsInner o

pub pick : {A : Type 0} (P : A → Type 0) (b : Bool) (x y : A) → (b ≡ true → P x) → (b ≡ false → P y) → P (if b then x else y)
pick P true x y f g = f refl
pick P false x y f g = g refl

bad : (why : Skip) → Good (Err why)
bad why = record { fact = tt }

bad_inner : (why : Skip) → GoodInner (Err why)
bad_inner why = record { fact = tt }

range_bytes : (xs : List ℕ) (i j : ℕ) → All IsByte xs → All IsByte (slice_range xs i j)
range_bytes xs i j h = All-take IsByte (j - i) (drop i xs) (All-drop IsByte i xs h)

range_short : (xs : List ℕ) (i j : ℕ) → length (slice_range xs i j) ≤ j - i
range_short xs i j = omega (arith, length-take (j - i) (drop i xs))

udp_good : (family : ℕ) (from to bytes : List ℕ) → All IsByte bytes → Good (udp family from to bytes)
unfolding udp
udp_good family from to bytes h =
    pick Good (nat_lt (length bytes) 8) _ _ (λ _. bad Malformed) (λ _.
    pick Good (nat_lt (net16 4 bytes) 8) _ _ (λ _. bad Malformed) (λ _.
    pick Good (nat_lt (length bytes) (net16 4 bytes)) _ _ (λ _. bad Malformed) (λ _.
    pick Good (nat_lt 9216 (net16 4 bytes - 8)) _ _ (λ _. bad Big) (λ e.
    let most : net16 4 bytes - 8 ≤ 9216 = grind (arith, common_steps) in
    record { fact = (omega (arith, range_short bytes 8 (net16 4 bytes)), range_bytes bytes 8 (net16 4 bytes) h) }))))

ipv4_good : (bytes : List ℕ) → All IsByte bytes → Good (ipv4 bytes)
unfolding ipv4
ipv4_good bytes h =
    pick Good (nat_lt (length bytes) 20) _ _ (λ _. bad Malformed) (λ _.
    pick Good (version bytes == 4) _ _
    (λ _.
    pick Good (nat_lt (header_length bytes) 20) _ _ (λ _. bad Malformed) (λ _.
    pick Good (nat_lt (net16 2 bytes) (header_length bytes)) _ _ (λ _. bad Malformed) (λ _.
    pick Good (nat_lt (length bytes) (net16 2 bytes)) _ _ (λ _. bad Malformed) (λ _.
    pick Good (is_fragment bytes) _ _ (λ _. bad Fragment) (λ _.
    pick Good (slice_index bytes 9 == 17) _ _
    (λ _. udp_good 4 (widened (slice_range bytes 12 16)) (widened (slice_range bytes 16 20)) (slice_range bytes (header_length bytes) (net16 2 bytes)) (range_bytes bytes (header_length bytes) (net16 2 bytes) h))
    (λ _. bad NotUdp))))))
    (λ _. bad Malformed))

behind_good : (steps kind : ℕ) (bytes : List ℕ) → All IsByte bytes → GoodInner (behind_extensions steps kind bytes)
unfolding behind_extensions
behind_good zero kind bytes h = bad_inner Malformed
behind_good (suc steps) kind bytes h =
    pick GoodInner (is_extension kind) _ _
    (λ _.
    pick GoodInner (nat_lt (length bytes) 2) _ _ (λ _. bad_inner Malformed) (λ _.
    pick GoodInner (nat_lt (length bytes) (extension_length bytes)) _ _ (λ _. bad_inner Malformed) (λ _.
    behind_good steps (slice_index bytes 0) (drop (extension_length bytes) bytes) (All-drop IsByte (extension_length bytes) bytes h))))
    (λ _. record { fact = h })

upper_good : (from to : List ℕ) (o : Result Inner Skip) → GoodInner o → Good (upper from to o)
upper_good from to (Err why) h = bad why
upper_good from to (Ok inner) h =
    pick Good (inner.kind == 44) _ _ (λ _. bad Fragment) (λ _.
    pick Good (inner.kind == 17) _ _ (λ _. udp_good 6 from to inner.bytes h.fact) (λ _. bad NotUdp))

ipv6_good : (bytes : List ℕ) → All IsByte bytes → Good (ipv6 bytes)
unfolding ipv6
ipv6_good bytes h =
    pick Good (nat_lt (length bytes) 40) _ _ (λ _. bad Malformed) (λ _.
    pick Good (version bytes == 6) _ _
    (λ _.
    pick Good (nat_lt (length bytes) (40 + net16 4 bytes)) _ _ (λ _. bad Malformed) (λ _.
    upper_good (slice_range bytes 8 24) (slice_range bytes 24 40) _ (behind_good (net16 4 bytes + 1) (slice_index bytes 6) (slice_range bytes 40 (40 + net16 4 bytes)) (range_bytes bytes 40 (40 + net16 4 bytes) h))))
    (λ _. bad Malformed))

type_good : (kind : ℕ) (bytes : List ℕ) → All IsByte bytes → Good (by_type kind bytes)
unfolding by_type
type_good kind bytes h = pick Good (kind == 0x0800) _ _ (λ _. ipv4_good bytes h) (λ _. pick Good (kind == 0x86dd) _ _ (λ _. ipv6_good bytes h) (λ _. bad NotIp))

raw_good : (bytes : List ℕ) → All IsByte bytes → Good (raw bytes)
unfolding raw
raw_good bytes h =
    pick Good (length bytes == 0) _ _ (λ _. bad Malformed) (λ _.
    pick Good (version bytes == 4) _ _ (λ _. ipv4_good bytes h) (λ _.
    pick Good (version bytes == 6) _ _ (λ _. ipv6_good bytes h) (λ _. bad NotIp)))

untagged_good : (kind : ℕ) (bytes : List ℕ) → All IsByte bytes → GoodInner (untagged kind bytes)
unfolding untagged
untagged_good kind (a ∷ b ∷ high ∷ low ∷ bytes) h =
    pick GoodInner (is_tag kind) _ _ (λ _. untagged_good (high * 256 + low) bytes (All-drop IsByte 4 (a ∷ b ∷ high ∷ low ∷ bytes) h)) (λ _. record { fact = h })
untagged_good kind [] h = pick GoodInner (is_tag kind) _ _ (λ _. bad_inner Malformed) (λ _. record { fact = h })
untagged_good kind (a ∷ []) h = pick GoodInner (is_tag kind) _ _ (λ _. bad_inner Malformed) (λ _. record { fact = h })
untagged_good kind (a ∷ b ∷ []) h = pick GoodInner (is_tag kind) _ _ (λ _. bad_inner Malformed) (λ _. record { fact = h })
untagged_good kind (a ∷ b ∷ d ∷ []) h = pick GoodInner (is_tag kind) _ _ (λ _. bad_inner Malformed) (λ _. record { fact = h })

typed_good : (o : Result Inner Skip) → GoodInner o → Good (typed o)
typed_good (Err why) h = bad why
typed_good (Ok inner) h = type_good inner.kind inner.bytes h.fact

ethernet_good : (bytes : List ℕ) → All IsByte bytes → Good (ethernet bytes)
unfolding ethernet
ethernet_good bytes h =
    pick Good (nat_lt (length bytes) 14) _ _ (λ _. bad Malformed) (λ _. typed_good (untagged (net16 12 bytes) (drop 14 bytes)) (untagged_good (net16 12 bytes) (drop 14 bytes) (All-drop IsByte 14 bytes h)))

null_good : (bytes : List ℕ) → All IsByte bytes → Good (null bytes)
unfolding null
null_good bytes h = pick Good (nat_lt (length bytes) 4) _ _ (λ _. bad Malformed) (λ _. raw_good (drop 4 bytes) (All-drop IsByte 4 bytes h))

cooked_good : (size place : ℕ) (bytes : List ℕ) → All IsByte bytes → Good (cooked size place bytes)
unfolding cooked
cooked_good size place bytes h = pick Good (nat_lt (length bytes) size) _ _ (λ _. bad Malformed) (λ _. type_good (net16 place bytes) (drop size bytes) (All-drop IsByte size bytes h))

frame_good : (link : ℕ) (bytes : List ℕ) → All IsByte bytes → Good (frame link bytes)
unfolding frame
frame_good link bytes h =
    pick Good (link == 0) _ _ (λ _. null_good bytes h) (λ _.
    pick Good (link == 1) _ _ (λ _. ethernet_good bytes h) (λ _.
    pick Good (link == 101) _ _ (λ _. raw_good bytes h) (λ _.
    pick Good (link == 113) _ _ (λ _. cooked_good 16 14 bytes h) (λ _.
    pick Good (link == 276) _ _ (λ _. cooked_good 20 0 bytes h) (λ _.
    pick Good (link == 228) _ _ (λ _. ipv4_good bytes h) (λ _.
    pick Good (link == 229) _ _ (λ _. ipv6_good bytes h) (λ _. bad NotIp)))))))

pub datagram_good : (r : Record) → All IsByte r.bytes → Good (datagram_of r)
unfolding datagram_of
datagram_good r h = pick Good (nat_lt (length r.bytes) r.original) _ _ (λ _. bad Cut) (λ _. frame_good r.link r.bytes h)

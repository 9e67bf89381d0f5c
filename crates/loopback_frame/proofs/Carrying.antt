-- A frame is read as the datagram that it was made of.
use Rattle.std.proofs.Common.{◌≡◌, ◌<◌, ◌≤◌, ℕ, zero, suc, ◌+◌, ◌-◌, ◌^◌, Bool, true, false, cond, List, ◌∷◌, ◌++◌, length, take, Ok, Result, refl, ap, ◌∙◌, arith}
use Rattle.std.specs.Prelude.{nat_lt, ◌==◌}
use Rattle.std.proofs.lemmas.Bool.{le-ltb}
use Rattle.std.proofs.lemmas.List.{take_all}
use Rattle.std.proofs.Math.Nat.{mod-eq_of_lt}
use Rattle.std.proofs.Math.Dec.{eqb-suc-zero}
use Rattle.byteorder.specs.Endian.{big_bytes}
use Rattle.byteorder.specs.Numbers.{big_from-bytes}
use Rattle.pcap_file.specs.Numbers.{number_at}
use Rattle.pcap_file.specs.declared.udp.Skip.{Skip}
use Rattle.pcap_file.specs.Datagrams.{Sent, address, widened, net16, datagram_of, frame, raw, ipv4, udp}
use Rattle.loopback_frame.specs.Frames.{loopback, udp_header, frame_of}
use Rattle.loopback_frame.specs.Carried.{sent_between, AreCarried}

no : {A : Type 0} (b : Bool) (x y : A) → b ≡ false → cond b x y ≡ y
no true x y e = absurd cc
no false x y e = refl

not_less : (a b : ℕ) → b ≤ a → nat_lt a b ≡ false
not_less a b h = le-ltb a b h

not_zero : (n : ℕ) → 0 < n → (n == 0) ≡ false
not_zero zero h = absurd (omega arith)
not_zero (suc n) h = eqb-suc-zero n

-- a number that stands at the front
front : (x : ℕ) (rest : List ℕ) → x < 2 ^ 16 → net16 0 (big_bytes 2 x ++ rest) ≡ x
unfolding number_at
front x rest h = big_from-bytes 2 x rest ∙ mod-eq_of_lt h

abbrev datagram : ℕ → List ℕ → List ℕ
datagram port payload = udp_header port (length payload) ++ payload

udp_read : (port : ℕ) (payload : List ℕ) → port < 2 ^ 16 → length payload ≤ 9216
    → udp 4 (widened loopback) (widened loopback) (datagram port payload)
    ≡ Ok (sent_between port payload)
unfolding udp number_at
udp_read port payload p h =
    let n = length payload in
    let bytes = datagram port payload in
    let here : net16 0 bytes ≡ port =
    front port (big_bytes 2 port ++ (big_bytes 2 (8 + n) ++ (0 ∷ 0 ∷ payload))) p in
    let there : net16 2 bytes ≡ port =
    front port (big_bytes 2 (8 + n) ++ (0 ∷ 0 ∷ payload)) p in
    let size : net16 4 bytes ≡ 8 + n = front (8 + n) (0 ∷ 0 ∷ payload) (omega arith) in
    let long : length bytes ≡ 8 + n = omega arith in
    let body : take (net16 4 bytes - 8) payload ≡ payload =
    take_all (net16 4 bytes - 8) payload (omega (arith, size)) in
    let ip = widened loopback in
    let made = λ (a b : ℕ) (l : List ℕ).
    let x : Sent = record { from = address 4 ip a; to = address 4 ip b; payload = l } in
    let r : Result Sent Skip = Ok x in r in
    no (nat_lt (length bytes) 8) _ _ (not_less (length bytes) 8 (omega (arith, long)))
    ∙ no (nat_lt (net16 4 bytes) 8) _ _ (not_less (net16 4 bytes) 8 (omega (arith, size)))
    ∙ no (nat_lt (length bytes) (net16 4 bytes)) _ _
    (not_less (length bytes) (net16 4 bytes) (omega (arith, size, long)))
    ∙ no (nat_lt 9216 (net16 4 bytes - 8)) _ _
    (not_less 9216 (net16 4 bytes - 8) (omega (arith, size)))
    ∙ ap (λ (a : ℕ). made a (net16 2 bytes) (take (net16 4 bytes - 8) payload)) here
    ∙ ap (λ (b : ℕ). made port b (take (net16 4 bytes - 8) payload)) there
    ∙ ap (λ (l : List ℕ). made port port l) body

ipv4_read : (port : ℕ) (payload : List ℕ) → port < 2 ^ 16 → length payload ≤ 9216
    → ipv4 (frame_of port payload) ≡ Ok (sent_between port payload)
unfolding ipv4 number_at
ipv4_read port payload p h =
    let n = length payload in
    let bytes = frame_of port payload in
    let inner = datagram port payload in
    let size : net16 2 bytes ≡ 20 + (8 + n) =
    front (20 + (8 + n))
    (0 ∷ 0 ∷ 0 ∷ 0 ∷ 64 ∷ 17 ∷ 0 ∷ 0 ∷ 127 ∷ 0 ∷ 0 ∷ 1 ∷ 127 ∷ 0 ∷ 0 ∷ 1 ∷ inner) (omega arith) in
    let long : length bytes ≡ 28 + n = omega arith in
    let all : take (net16 2 bytes - 20) inner ≡ inner =
    take_all (net16 2 bytes - 20) inner (omega (arith, size)) in
    no (nat_lt (length bytes) 20) _ _ (not_less (length bytes) 20 (omega (arith, long)))
    ∙ no (nat_lt (net16 2 bytes) 20) _ _ (not_less (net16 2 bytes) 20 (omega (arith, size)))
    ∙ no (nat_lt (length bytes) (net16 2 bytes)) _ _
    (not_less (length bytes) (net16 2 bytes) (omega (arith, size, long)))
    ∙ ap (udp 4 (widened loopback) (widened loopback)) all
    ∙ udp_read port payload p h

pub carried : AreCarried
unfolding datagram_of frame raw
carried offset stamp port payload p h =
    let bytes = frame_of port payload in
    no (nat_lt (length bytes) (length bytes)) _ _ (not_less (length bytes) (length bytes) (omega arith))
    ∙ no (length bytes == 0) _ _ (not_zero (length bytes) (omega arith))
    ∙ ipv4_read port payload p h

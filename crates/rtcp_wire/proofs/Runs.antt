-- The headers and the packets one after the other, as loops go over them.
use Rattle.std.proofs.Common.{◌≡◌, ℕ, zero, suc, ◌+◌, ◌-◌, ◌≤◌, ◌<◌, true, false, List, [], ◌∷◌, ◌++◌, length, drop, Option, Some, None, Result, Ok, Err, refl, sym, ap, ◌∙◌, append_assoc, arith}
use Rattle.std.specs.Prelude.{◌==◌}
use Rattle.std.proofs.lemmas.Bool.Decides.{nat_tests}
use Rattle.std.proofs.lemmas.List.{append-nil}
use Rattle.rtcp_wire.specs.declared.packet.Rtcp.{Rtcp}
use Rattle.rtcp_wire.specs.declared.fault.RtcpFault.{RtcpFault}
use Rattle.rtcp_wire.specs.declared.fault.RtcpFault.TheVariants.{Short, Version, Length, Padding, First, Body, OutOfMemory}
use Rattle.rtcp_wire.specs.Answers.{Fails}
use Rattle.rtcp_wire.specs.Compound.{size_of, header_fault, fault_then, headers_fault, packet_or_fault, with_packet, packets_at}
use Rattle.rtcp_wire.proofs.Heads.{has_header}
use Rattle.rtcp_wire.specs.Heads.{HasHeader}

-- a header that fails is the first that does
pub headers_stop : (steps i o : ℕ) (b : List ℕ) (fault : RtcpFault) (total : Option RtcpFault) → i < steps → header_fault o b ≡ Some fault → headers_fault (steps - i) o b ≡ total → total ≡ Some fault
unfolding headers_fault
headers_stop steps i o b fault total lt h so_far =
    let k : steps - i ≡ suc (steps - (i + 1)) = omega arith in
    let one : headers_fault (steps - i) o b ≡ Some fault = rw (k, h) refl in
    sym so_far ∙ one

pub headers_end : (steps i o size : ℕ) (b : List ℕ) (total : Option RtcpFault) → i < steps → header_fault o b ≡ None → size ≡ size_of b → size ≡ length b → headers_fault (steps - i) o b ≡ total → total ≡ None
unfolding headers_fault
headers_end steps i o size b total lt h s same so_far =
    let k : steps - i ≡ suc (steps - (i + 1)) = omega arith in
    let test : (length b == size_of b) ≡ true = grind (arith, nat_tests) in
    let one : headers_fault (steps - i) o b ≡ None = rw (k, h, test) refl in
    sym so_far ∙ one

pub headers_go : (steps i o size : ℕ) (b : List ℕ) (total : Option RtcpFault) → i < steps → header_fault o b ≡ None → size ≡ size_of b → (size ≡ length b → ⊥) → headers_fault (steps - i) o b ≡ total
    → headers_fault (steps - (i + 1)) (o + size) (drop size b) ≡ total
unfolding headers_fault
headers_go steps i o size b total lt h s more so_far =
    let k : steps - i ≡ suc (steps - (i + 1)) = omega arith in
    let test : (length b == size_of b) ≡ false = grind (arith, nat_tests) in
    let one : headers_fault (steps - i) o b ≡ headers_fault (steps - (i + 1)) (o + size_of b) (drop (size_of b) b) = rw (k, h, test) refl in
    rw s (sym one ∙ so_far)

pub headers_none_left : (steps i o : ℕ) (b : List ℕ) (total : Option RtcpFault) → steps ≤ i → headers_fault (steps - i) o b ≡ total → total ≡ Some (Short o)
unfolding headers_fault
headers_none_left steps i o b total le so_far =
    let k : steps - i ≡ 0 = omega arith in
    let one : headers_fault (steps - i) o b ≡ Some (Short o) = rw k refl in
    sym so_far ∙ one

passes : (go : ℕ → List ℕ → Option RtcpFault) (o : ℕ) (b : List ℕ) (h : Option RtcpFault) → fault_then go o b h ≡ None → h ≡ None
passes go o b None e = refl
passes go o b (Some fault) e = absurd cc

head_passes : (n o : ℕ) (b : List ℕ) → headers_fault n o b ≡ None → header_fault o b ≡ None
unfolding headers_fault
head_passes zero o b e = absurd cc
head_passes (suc n) o b e = passes (headers_fault n) o b (header_fault o b) e

pub headed : (n o : ℕ) (b : List ℕ) → headers_fault n o b ≡ None → HasHeader b
headed n o b e = has_header o b (head_passes n o b e)

pub headers_still : (steps i o size : ℕ) (b : List ℕ) → i < steps → size ≡ size_of b → (size ≡ length b → ⊥) → headers_fault (steps - i) o b ≡ None → headers_fault (steps - (i + 1)) (o + size) (drop size b) ≡ None
headers_still steps i o size b lt s more e = headers_go steps i o size b None lt (head_passes (steps - i) o b e) s more e

-- ---- packets

-- what was read before, and what is still read
abbrev pub with_front : List Rtcp → Result (List Rtcp) RtcpFault → Result (List Rtcp) RtcpFault
with_front front (Ok packets) = Ok (front ++ packets)
with_front front (Err fault) = Err fault

regroup : (front : List Rtcp) (p : Rtcp) (others : Result (List Rtcp) RtcpFault) → with_front front (with_packet p others) ≡ with_front (front ++ p ∷ []) others
regroup front p (Ok packets) = ap (λ (ps : List Rtcp). Ok ps) (sym (append_assoc front (p ∷ []) packets))
regroup front p (Err fault) = refl

pub packets_go : (front : List Rtcp) (steps i o size : ℕ) (b : List ℕ) (p : Rtcp) (total : Result (List Rtcp) RtcpFault) → i < steps → packet_or_fault o b ≡ Ok p → size ≡ size_of b → (size ≡ length b → ⊥)
    → with_front front (packets_at (steps - i) o b) ≡ total → with_front (front ++ p ∷ []) (packets_at (steps - (i + 1)) (o + size) (drop size b)) ≡ total
unfolding packets_at
packets_go front steps i o size b p total lt h s more so_far =
    let k : steps - i ≡ suc (steps - (i + 1)) = omega arith in
    let test : (length b == size_of b) ≡ false = grind (arith, nat_tests) in
    let one : packets_at (steps - i) o b ≡ with_packet p (packets_at (steps - (i + 1)) (o + size_of b) (drop (size_of b) b)) = rw (k, h, test) refl in
    rw s (sym (ap (with_front front) one ∙ regroup front p (packets_at (steps - (i + 1)) (o + size_of b) (drop (size_of b) b))) ∙ so_far)

pub packets_end : (front : List Rtcp) (steps i o size : ℕ) (b : List ℕ) (p : Rtcp) (total : Result (List Rtcp) RtcpFault) → i < steps → packet_or_fault o b ≡ Ok p → size ≡ size_of b → size ≡ length b
    → with_front front (packets_at (steps - i) o b) ≡ total → total ≡ Ok (front ++ p ∷ [])
unfolding packets_at
packets_end front steps i o size b p total lt h s same so_far =
    let k : steps - i ≡ suc (steps - (i + 1)) = omega arith in
    let test : (length b == size_of b) ≡ true = grind (arith, nat_tests) in
    let one : packets_at (steps - i) o b ≡ Ok (p ∷ []) = rw (k, h, test) refl in
    sym so_far ∙ ap (with_front front) one

fails_with : (e : RtcpFault) {X : Type 0} {Y : Type 0} (r : Result X RtcpFault) (total : Result Y RtcpFault) → ((f : RtcpFault) → r ≡ Err f → total ≡ Err f) → Fails e r → Fails e total
fails_with OutOfMemory r total h given = tt
fails_with (Short o) r total h given = h (Short o) given
fails_with (Version o) r total h given = h (Version o) given
fails_with (Length o) r total h given = h (Length o) given
fails_with (Padding o) r total h given = h (Padding o) given
fails_with (First o) r total h given = h (First o) given
fails_with (Body o kind) r total h given = h (Body o kind) given

packets_stop : (front : List Rtcp) (steps i o : ℕ) (b : List ℕ) (total : Result (List Rtcp) RtcpFault) → i < steps → with_front front (packets_at (steps - i) o b) ≡ total
    → (f : RtcpFault) → packet_or_fault o b ≡ Err f → total ≡ Err f
unfolding packets_at
packets_stop front steps i o b total lt so_far f h =
    let k : steps - i ≡ suc (steps - (i + 1)) = omega arith in
    let one : packets_at (steps - i) o b ≡ Err f = rw (k, h) refl in
    sym so_far ∙ ap (with_front front) one

pub packets_fail : (e : RtcpFault) (front : List Rtcp) (steps i o : ℕ) (b : List ℕ) (total : Result (List Rtcp) RtcpFault) → i < steps → with_front front (packets_at (steps - i) o b) ≡ total → Fails e (packet_or_fault o b) → Fails e total
packets_fail e front steps i o b total lt so_far given = fails_with e (packet_or_fault o b) total (packets_stop front steps i o b total lt so_far) given

pub packets_none_left : (front : List Rtcp) (steps i o : ℕ) (b : List ℕ) (total : Result (List Rtcp) RtcpFault) → steps ≤ i → with_front front (packets_at (steps - i) o b) ≡ total → total ≡ Ok front
unfolding packets_at
packets_none_left front steps i o b total le so_far =
    let k : steps - i ≡ 0 = omega arith in
    let one : packets_at (steps - i) o b ≡ Ok [] = rw k refl in
    sym so_far ∙ ap (with_front front) one ∙ ap (λ (ps : List Rtcp). Ok ps) (append-nil front)

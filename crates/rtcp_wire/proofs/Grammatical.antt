-- The packets that a datagram defines are those of the grammar, and no others.
use Rattle.std.proofs.Common.{◌≡◌, ℕ, zero, suc, ◌+◌, ◌-◌, ◌%◌, ◌≤◌, ◌<◌, Bool, true, false, List, [], ◌∷◌, length, drop, Option, Some, None, Result, Ok, Err, refl, sym, ap, subst, ◌∙◌, arith, inl, inr}
use Rattle.std.specs.Prelude.{◌==◌, ◌&&◌, ◌||◌, not, IfOk}
use Rattle.std.specs.Global.{Vec}
use Rattle.std.proofs.lemmas.Bool.{cases_eq}
use Rattle.std.proofs.lemmas.Bool.Decides.{nat_tests}
use Rattle.std.proofs.lemmas.List.{length-drop}
use Rattle.rtcp_wire.specs.declared.packet.Rtcp.{Rtcp}
use Rattle.rtcp_wire.specs.declared.fault.RtcpFault.{RtcpFault}
use Rattle.rtcp_wire.specs.Answers.{Gives}
use Rattle.rtcp_wire.specs.Bodies.{packet_of}
use Rattle.rtcp_wire.specs.Compound.{has_padding, count_of, kind_of, size_of, final_byte, body_of, is_bad_count, is_bad_padding, header_fault, fault_then, headers_fault, body_or_fault, packet_or_fault, with_packet, packet_then, packets_at, compound_behind, compound_of}
use Rattle.rtcp_wire.specs.Grammar.{BeginsWith, PaddingFits, ArePackets, IsCompound}
use Rattle.rtcp_wire.proofs.Heads.{none, has_header, good_padding, good_version, good_first}
use Rattle.rtcp_wire.proofs.Whole.{first_is_good, no_padding, last_header, next_header, last_packet, next_packet}

-- ---- the parts of a step

packet_is : (o k : ℕ) (found : Option Rtcp) (p : Rtcp) → body_or_fault o k found ≡ Ok p → found ≡ Some p
packet_is o k None p e = absurd cc
packet_is o k (Some q) p e = let same : q ≡ p = cc in ap (λ (x : Rtcp). Some x) same

step_ok : (go : ℕ → List ℕ → Result (List Rtcp) RtcpFault) (o : ℕ) (b : List ℕ) (found : Result Rtcp RtcpFault) (ps : List Rtcp) → packet_then go o b found ≡ Ok ps → (p : Rtcp) × (found ≡ Ok p)
step_ok go o b (Ok p) ps e = (p, refl)
step_ok go o b (Err fault) ps e = absurd cc

with_ok : (p : Rtcp) (others : Result (List Rtcp) RtcpFault) (ps : List Rtcp) → with_packet p others ≡ Ok ps → (qs : List Rtcp) × (others ≡ Ok qs) × (ps ≡ p ∷ qs)
with_ok p (Ok qs) ps e = let same : p ∷ qs ≡ ps = cc in (qs, refl, sym same)
with_ok p (Err fault) ps e = absurd cc

passes : (go : ℕ → List ℕ → Option RtcpFault) (o : ℕ) (b : List ℕ) (h : Option RtcpFault) → fault_then go o b h ≡ None → h ≡ None
passes go o b None e = refl
passes go o b (Some fault) e = absurd cc

header_none : (n o : ℕ) (b : List ℕ) → headers_fault (suc n) o b ≡ None → header_fault o b ≡ None
unfolding headers_fault
header_none n o b e = passes (headers_fault n) o b (header_fault o b) e

packet_found : (n o : ℕ) (b : List ℕ) (ps : List Rtcp) → packets_at (suc n) o b ≡ Ok ps → (p : Rtcp) × (packet_or_fault o b ≡ Ok p)
unfolding packets_at
packet_found n o b ps e = step_ok (packets_at n) o b (packet_or_fault o b) ps e

no_steps : (o : ℕ) (b : List ℕ) → headers_fault 0 o b ≡ None → ⊥
unfolding headers_fault
no_steps o b e = cc

fits : (whole : Bool) (count body : ℕ) → (true && (not whole || is_bad_count count body)) ≡ false → (0 < count) × (count % 4 ≡ 0) × (count ≤ body)
fits true count body e = (grind (arith, nat_tests), grind (arith, nat_tests), grind (arith, nat_tests))
fits false count body e = absurd cc

padding_fits : (b : List ℕ) → is_bad_padding b ≡ false → PaddingFits b
padding_fits b e p = fits (length b == size_of b) (final_byte b) (size_of b - 4) (subst (λ (x : Bool). (x && (not (length b == size_of b) || is_bad_count (final_byte b) (size_of b - 4))) ≡ false) p e)

padding_none : (b : List ℕ) (has : Bool) → has_padding b ≡ has → (length b ≡ size_of b → ⊥) → is_bad_padding b ≡ false → has ≡ false
padding_none b false e longer good = refl
padding_none b true e longer good =
    let test : (length b == size_of b) ≡ false = grind (arith, nat_tests) in
    let bad : is_bad_padding b ≡ true = rw (e, test) refl in
    let both : true ≡ false = sym bad ∙ good in
    absurd cc

begins : (o : ℕ) (b : List ℕ) (p : Rtcp) → header_fault o b ≡ None → packet_or_fault o b ≡ Ok p → BeginsWith b p
begins o b p h e =
    let head = has_header o b h in
    record { long = head.long; version = good_version o b h; whole = head.whole; body = packet_is o (kind_of b) (packet_of (kind_of b) (count_of b) (body_of b)) p e }

-- ---- what is defined is in the grammar

more_of : (p : Rtcp) (b : List ℕ) (qs : List Rtcp) → BeginsWith b p → size_of b < length b → has_padding b ≡ false → ArePackets (drop (size_of b) b) qs → ArePackets b (p ∷ qs)
more_of p b [] h lt pad rest = absurd rest
more_of p b (q ∷ qs) h lt pad rest = (h, lt, pad, rest)

abbrev done : List Rtcp → Result (List Rtcp) RtcpFault
done ps = Ok ps

the_list : {ps qs : List Rtcp} → done ps ≡ done qs → ps ≡ qs
the_list e = cc

packets_are : (n o : ℕ) (b : List ℕ) (ps : List Rtcp) → headers_fault n o b ≡ None → packets_at n o b ≡ Ok ps → ArePackets b ps
packets_are zero o b ps h e = absurd (no_steps o b h)
packets_are (suc n) o b ps h e =
    let head = header_none n o b h in
    let found = packet_found n o b ps e in
    let good = good_padding o b head in
    let first = begins o b found.0 head found.1 in
    elim (cases_eq (length b) (size_of b)) [
      | inl same ↦
          let one : found.0 ∷ [] ≡ ps = (let both : Ok (found.0 ∷ []) ≡ Ok ps = sym (last_packet n o b found.0 found.1 same) ∙ e in the_list both) in
          subst (λ (qs : List Rtcp). ArePackets b qs) one (first, sym same, padding_fits b good)
      | inr longer ↦
          let others = with_ok found.0 (packets_at n (o + size_of b) (drop (size_of b) b)) ps (sym (next_packet n o b found.0 found.1 longer) ∙ e) in
          let rest = packets_are n (o + size_of b) (drop (size_of b) b) others.0 (sym (next_header n o b head longer) ∙ h) others.1 in
          let more : size_of b < length b = omega (arith, first.whole, longer) in
          subst (λ (qs : List Rtcp). ArePackets b qs) (sym others.2) (more_of found.0 b others.0 first more (padding_none b (has_padding b) refl longer good) rest)
    ]

-- ---- what is in the grammar is defined

good_count : (count body : ℕ) → 0 < count → count % 4 ≡ 0 → count ≤ body → is_bad_count count body ≡ false
good_count count body some words fits = grind (arith, nat_tests)

padding_good : (b : List ℕ) (has : Bool) → has_padding b ≡ has → length b ≡ size_of b → PaddingFits b → is_bad_padding b ≡ false
padding_good b false e same f = rw e refl
padding_good b true e same f =
    let good = f e in
    let test : (length b == size_of b) ≡ true = grind (arith, nat_tests) in
    rw (e, test) (good_count (final_byte b) (size_of b - 4) good.0 good.1 good.2)

packet_read : (o : ℕ) (b : List ℕ) (p : Rtcp) → BeginsWith b p → packet_or_fault o b ≡ Ok p
packet_read o b p h = rw h.body refl

headers_pass : (ps : List Rtcp) (n o : ℕ) (b : List ℕ) → length ps ≤ n → (o ≡ 0 → (200 ≤ kind_of b) × (kind_of b ≤ 206)) → ArePackets b ps → headers_fault n o b ≡ None
headers_pass [] n o b le first h = absurd h
headers_pass (p ∷ ps) zero o b le first h = absurd (omega arith)
headers_pass (p ∷ []) (suc n) o b le first h =
    last_header n o b (none o b h.0.long h.0.version h.0.whole (padding_good b (has_padding b) refl (sym h.1) h.2) (first_is_good o (kind_of b) first)) (sym h.1)
headers_pass (p ∷ q ∷ ps) (suc n) o b le first h =
    next_header n o b (none o b h.0.long h.0.version h.0.whole (no_padding b h.2) (first_is_good o (kind_of b) first)) (λ e. omega (arith, e, h.1))
    ∙ headers_pass (q ∷ ps) n (o + size_of b) (drop (size_of b) b) (omega arith) (λ e. absurd (omega (arith, e))) h.3

packets_read : (ps : List Rtcp) (n o : ℕ) (b : List ℕ) → length ps ≤ n → ArePackets b ps → packets_at n o b ≡ Ok ps
packets_read [] n o b le h = absurd h
packets_read (p ∷ ps) zero o b le h = absurd (omega arith)
packets_read (p ∷ []) (suc n) o b le h = last_packet n o b p (packet_read o b p h.0) (sym h.1)
packets_read (p ∷ q ∷ ps) (suc n) o b le h =
    next_packet n o b p (packet_read o b p h.0) (λ e. omega (arith, e, h.1)) ∙ ap (with_packet p) (packets_read (q ∷ ps) n (o + size_of b) (drop (size_of b) b) (omega arith) h.3)

enough : (ps : List Rtcp) (b : List ℕ) → ArePackets b ps → length ps ≤ length b
enough [] b h = omega arith
enough (p ∷ []) b h = omega (arith, h.0.long)
enough (p ∷ q ∷ ps) b h = omega (arith, enough (q ∷ ps) (drop (size_of b) b) h.3, length-drop (size_of b) b, h.0.whole)

-- ---- both

compound_ok : (h : Option RtcpFault) (r : Result (List Rtcp) RtcpFault) (ps : List Rtcp) → compound_behind h r ≡ Ok ps → (h ≡ None) × (r ≡ Ok ps)
compound_ok None r ps e = (refl, e)
compound_ok (Some fault) r ps e = absurd cc

first_kind : (n : ℕ) (b : List ℕ) → headers_fault n 0 b ≡ None → (200 ≤ kind_of b) × (kind_of b ≤ 206)
first_kind zero b h = absurd (no_steps 0 b h)
first_kind (suc n) b h =
    let good = good_first 0 b (header_none n 0 b h) in
    (grind (arith, nat_tests), grind (arith, nat_tests))

pub is_compound : (b : List ℕ) (ps : List Rtcp) → compound_of b ≡ Ok ps → IsCompound b ps
unfolding compound_of
is_compound b ps e =
    let both = compound_ok (headers_fault (length b) 0 b) (packets_at (length b) 0 b) ps e in
    let kind = first_kind (length b) b both.0 in
    record { each = packets_are (length b) 0 b ps both.0 both.1; from = kind.0; to = kind.1 }

pub compound_is : (b : List ℕ) (ps : List Rtcp) → IsCompound b ps → compound_of b ≡ Ok ps
unfolding compound_of
compound_is b ps h =
    let all = enough ps b h.each in
    rw (headers_pass ps (length b) 0 b all (λ e. (h.from, h.to)) h.each, packets_read ps (length b) 0 b all h.each) refl

pub found : (r : Result (Vec Rtcp) RtcpFault) (b : List ℕ) → Gives (λ packets. packets.items) r (compound_of b) → IfOk r (λ packets. IsCompound b packets.items)
found (Ok v) b e = is_compound b v.items e
found (Err fault) b e = tt

-- A remembered packet is as long as a datagram may be, so a retransmission of it fits one too.
use Rattle.std.proofs.Common.{◌≡◌, ◌≤◌, ℕ, zero, suc, ◌+◌, Bool, true, false, List, [], ◌∷◌, ◌++◌, length, Option, Some, None, Ok, refl, ap, subst, ◌∙◌, arith, take, length-append}
use Rattle.std.specs.Prelude.{if◌then◌else◌, option_map, find}
use Rattle.std.specs.List.{AllByRecursion}
use Rattle.std.specs.Option.{option_and_then}
use Rattle.circular_buffer.specs.Buffer.{Buffer, buffer}
use Rattle.byteorder.specs.Endian.{big_bytes}
use Rattle.byteorder.specs.Numbers.{length-bytes_high_first}
use Rattle.rtp_wire.specs.Packet.{Packet, IsPacket}
use Rattle.rtx.specs.declared.outlet.Outlet.{Outlet}
use Rattle.rtx.specs.declared.answers.Retransmission.{Retransmission}
use Rattle.rtx.specs.Sending.{Stream, is_stream, Setting, latest_in, outlet_of, retransmission_packet}
use Rattle.rtx.specs.Answering.{Call, Remembers, Answers, packets_of, is_remembered, latest_of, paired, sought_by, sought, number_of, IsAnswer}
use Rattle.nack_answering.specs.Standing.{IsSmall}

-- A packet that a datagram may carry.
pub record IsShort (p : Packet) : Type 0 where
  pub packet : IsPacket p
  pub short : length p.bytes ≤ 9216

put_short : (b : Bool) (p : Packet) (ps : List Packet) → IsShort p → AllByRecursion IsShort ps
    → AllByRecursion IsShort (if b then p ∷ ps else ps)
put_short true p ps one all = (one, all)
put_short false p ps one all = all

all_short : (calls : List Call) (stream : Stream) → AllByRecursion IsSmall calls
    → AllByRecursion IsShort (packets_of calls stream)
all_short [] stream small = tt
all_short (Remembers session p ∷ before) stream small =
    put_short (is_stream stream (session, p.ssrc)) p (packets_of before stream)
    (record { packet = small.0.0; short = small.0.1 }) (all_short before stream small.1)
all_short (Answers session ssrc seq ∷ before) stream small = all_short before stream small.1

take_short : (n : ℕ) (ps : List Packet) → AllByRecursion IsShort ps
    → AllByRecursion IsShort (take n ps)
take_short zero ps all = tt
take_short (suc n) [] all = tt
take_short (suc n) (p ∷ ps) all = (all.0, take_short n ps all.1)

found_by : (b : Bool) (q p : Packet) (rest : Option Packet) → IsShort q
    → ((r : Packet) → rest ≡ Some r → IsShort r)
    → (if b then Some q else rest) ≡ Some p → IsShort p
found_by true q p rest one others e = let same : q ≡ p = cc in subst IsShort same one
found_by false q p rest one others e = others p e

find_short : (test : Packet → Bool) (ps : List Packet) → AllByRecursion IsShort ps
    → (p : Packet) → find test ps ≡ Some p → IsShort p
find_short test [] all p e = absurd cc
find_short test (q ∷ qs) all p e =
    found_by (test q) q p (find test qs) all.0 (find_short test qs all.1) e

kept_short : (b : Bool) (n seq : ℕ) (ps : List Packet) (p : Packet) → AllByRecursion IsShort ps
    → option_and_then (λ (k : Buffer Packet). latest_in k.items seq)
    (if b then Some (buffer (take n ps) n) else None) ≡ Some p → IsShort p
kept_short true n seq ps p all e = find_short _ (take n ps) (take_short n ps all) p e
kept_short false n seq ps p all e = absurd cc

placed_is : (o : Option Outlet) (q p : Packet) (x : Outlet)
    → option_map (paired q) o ≡ Some (p, x) → q ≡ p
placed_is None q p x e = absurd cc
placed_is (Some y) q p x e = let one : paired q y ≡ (p, x) = cc in ap (λ (z : Packet × Outlet). z.0) one

sought_is : (s : Setting) (session ssrc : ℕ) (found : Option Packet) (p : Packet) (x : Outlet)
    → ((q : Packet) → found ≡ Some q → IsShort q)
    → sought_by s session ssrc found ≡ Some (p, x) → IsShort p
sought_is s session ssrc None p x each e = absurd cc
sought_is s session ssrc (Some q) p x each e =
    subst IsShort (placed_is (outlet_of s.lines s.fids session ssrc q.pt) q p x e) (each q refl)

-- The packet that a request finds is one.
pub sought_short : (s : Setting) (calls : List Call) (session ssrc seq : ℕ) (p : Packet) (x : Outlet)
    → AllByRecursion IsSmall calls → sought s calls session ssrc seq ≡ Some (p, x) → IsShort p
sought_short s calls session ssrc seq p x small e =
    sought_is s session ssrc (latest_of s calls (session, ssrc) seq) p x
    (λ q. kept_short (is_remembered calls (session, ssrc)) s.per_stream seq
    (packets_of calls (session, ssrc)) q (all_short calls (session, ssrc) small)) e

-- Its number takes two bytes more.
pub retransmission_fits : (o : Outlet) (number : ℕ) (p : Packet) (bytes : List ℕ) → IsShort p
    → IsPacket (retransmission_packet o number p bytes) → length bytes ≤ 9218
retransmission_fits o number p bytes short packet =
    let all = short.packet.whole in
    let whole = packet.whole in
    let two : length (big_bytes 2 p.seq ++ p.payload) ≡ 2 + length p.payload =
    length-append (big_bytes 2 p.seq) p.payload
    ∙ ap (λ (n : ℕ). n + length p.payload) (length-bytes_high_first 2 p.seq) in
    omega (arith, short.short, all, whole, two)

-- So does a retransmission that answers a request.
pub answer_fits : (s : Setting) (calls : List Call) (session ssrc seq : ℕ) (x : Retransmission)
    → AllByRecursion IsSmall calls → IsAnswer s calls session ssrc seq (Ok (Some x))
    → length x.bytes ≤ 9218
answer_fits s calls session ssrc seq x small a =
    let o = a.1 in
    retransmission_fits o (number_of s calls (o.session, o.ssrc)) a.0 x.bytes
    (sought_short s calls session ssrc seq a.0 o small a.2) a.5

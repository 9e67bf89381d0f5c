-- Streams in the order of first sight, one packet more.
use Rattle.std.proofs.Common.{◌≡◌, ◌<◌, ◌≤◌, ◌&&◌, ◌||◌, ℕ, zero, suc, Bool, true, false, cond, nat_eq, List, [], ◌∷◌, ◌++◌, length, take, refl, sym, ap, subst, ◌∙◌, arith}
use Rattle.std.specs.List.{list_any}
use Rattle.std.proofs.lemmas.Bool.{eq-eqb, eqb-true}
use Rattle.std.proofs.lemmas.Bool.Decides.{nat_tests}
use Rattle.std.proofs.lemmas.List.{take-append-le, take_all, length-append, length-take}
use Rattle.rtp_wire.specs.Packet.{Packet}
use Rattle.rtx.specs.Sending.{Stream, is_stream}
use Rattle.rtx.specs.Answering.{Call, Remembers, Answers, streams_next, streams_seen, streams_of, is_remembered, packets_of}

-- ---- streams

pub both : (p q : Bool) → (p && q) ≡ true → (p ≡ true) × (q ≡ true)
both true q e = (refl, e)
both false q e = absurd cc

pub same_stream : (a b : Stream) → is_stream a b ≡ true → a ≡ b
same_stream a b e =
    let parts = both (nat_eq a.0 b.0) (nat_eq a.1 b.1) e in
    λ i. (eqb-true a.0 b.0 parts.0 i, eqb-true a.1 b.1 parts.1 i)

pub is_itself : (a : Stream) → is_stream a a ≡ true
is_itself a = let p : nat_eq a.0 a.0 ≡ true = eq-eqb a.0 a.0 refl in let q : nat_eq a.1 a.1 ≡ true = eq-eqb a.1 a.1 refl in rw (p, q) refl

eq_turned : (a b : ℕ) → nat_eq a b ≡ nat_eq b a
eq_turned a b = grind (arith, nat_tests)

pub turned : (a b : Stream) → is_stream a b ≡ is_stream b a
turned a b = λ i. eq_turned a.0 b.0 i && eq_turned a.1 b.1 i

-- ---- among streams

any_by : (b rest more : Bool) → (rest ≡ true → more ≡ true) → (b || rest) ≡ true → (b || more) ≡ true
any_by true rest more h e = refl
any_by false rest more h e = h e

any_in_front : (xs : List Stream) (n : ℕ) (q : Stream) → list_any (is_stream q) (take n xs) ≡ true → list_any (is_stream q) xs ≡ true
any_in_front [] zero q e = absurd cc
any_in_front [] (suc n) q e = absurd cc
any_in_front (x ∷ xs) zero q e = absurd cc
any_in_front (x ∷ xs) (suc n) q e = any_by (is_stream q x) (list_any (is_stream q) (take n xs)) (list_any (is_stream q) xs) (any_in_front xs n q) e

or_assoc : (a b c : Bool) → (a || (b || c)) ≡ ((a || b) || c)
or_assoc true b c = refl
or_assoc false b c = refl

any_push : (xs : List Stream) (s q : Stream) → list_any (is_stream q) (xs ++ s ∷ []) ≡ (list_any (is_stream q) xs || is_stream q s)
any_push [] s q = elim (is_stream q s) as (λ b. (b || false) ≡ b) [ true ↦ refl | false ↦ refl ]
any_push (x ∷ xs) s q = ap (λ (b : Bool). is_stream q x || b) (any_push xs s q) ∙ or_assoc (is_stream q x) (list_any (is_stream q) xs) (is_stream q s)

-- ---- those that are remembered, one packet more

pub streams_known : (calls : List Call) (session : ℕ) (p : Packet) → is_remembered calls (session, p.ssrc) ≡ true → streams_of (Remembers session p ∷ calls) ≡ streams_of calls
streams_known calls session p e =
    ap (λ (b : Bool). take 64 (streams_next (streams_seen calls) (session, p.ssrc) b)) (any_in_front (streams_seen calls) 64 (session, p.ssrc) e)

few : (xs : List Stream) → length (take 64 xs) < 64 → take 64 xs ≡ xs
few xs lt = take_all 64 xs (omega (arith, length-take 64 xs))

pub all_seen : (calls : List Call) → length (streams_of calls) < 64 → streams_of calls ≡ streams_seen calls
all_seen calls lt = few (streams_seen calls) lt

pub streams_new : (calls : List Call) (session : ℕ) (p : Packet) → is_remembered calls (session, p.ssrc) ≡ false → length (streams_of calls) < 64
    → streams_of (Remembers session p ∷ calls) ≡ streams_of calls ++ (session, p.ssrc) ∷ []
streams_new calls session p new lt =
    let xs = streams_seen calls in
    let s : Stream = (session, p.ssrc) in
    let all : take 64 xs ≡ xs = few xs lt in
    let none : list_any (is_stream s) xs ≡ false = ap (λ (ys : List Stream). list_any (is_stream s) ys) (sym all) ∙ new in
    ap (λ (b : Bool). take 64 (streams_next xs s b)) none ∙ take_all 64 (xs ++ s ∷ []) (omega (arith, length-append xs (s ∷ []), length-take 64 xs)) ∙ ap (λ (ys : List Stream). ys ++ s ∷ []) (sym all)

full_by : (xs : List Stream) (s : Stream) (b : Bool) → 64 ≤ length xs → take 64 (streams_next xs s b) ≡ take 64 xs
full_by xs s true le = refl
full_by xs s false le = take-append-le 64 xs (s ∷ []) le

pub streams_full : (calls : List Call) (session : ℕ) (p : Packet) → 64 ≤ length (streams_of calls) → streams_of (Remembers session p ∷ calls) ≡ streams_of calls
streams_full calls session p le =
    full_by (streams_seen calls) (session, p.ssrc) (list_any (is_stream (session, p.ssrc)) (streams_seen calls)) (omega (arith, length-take 64 (streams_seen calls)))

pub remembered_new : (calls : List Call) (session : ℕ) (p : Packet) (q : Stream) → streams_of (Remembers session p ∷ calls) ≡ streams_of calls ++ (session, p.ssrc) ∷ []
    → is_remembered (Remembers session p ∷ calls) q ≡ (is_remembered calls q || is_stream q (session, p.ssrc))
remembered_new calls session p q e = ap (λ (ys : List Stream). list_any (is_stream q) ys) e ∙ any_push (streams_of calls) (session, p.ssrc) q

-- ---- a stream that was not seen has no packet

or_false : (a b : Bool) → (a || b) ≡ false → (a ≡ false) × (b ≡ false)
or_false true b e = absurd cc
or_false false b e = (refl, e)

unseen_by : (b : Bool) (xs : List Stream) (s q : Stream) → list_any (is_stream s) xs ≡ b → list_any (is_stream q) (streams_next xs s b) ≡ false → (list_any (is_stream q) xs ≡ false) × (is_stream q s ≡ false)
unseen_by true xs s q seen none = (none, other (is_stream q s) refl)
  where
    other : (b : Bool) → is_stream q s ≡ b → is_stream q s ≡ false
    other true e =
        let here : list_any (is_stream q) xs ≡ true = subst (λ (x : Stream). list_any (is_stream x) xs ≡ true) (sym (same_stream q s e)) seen in
        absurd (let both : false ≡ true = sym none ∙ here in cc)
    other false e = e
unseen_by false xs s q seen none = or_false (list_any (is_stream q) xs) (is_stream q s) (sym (any_push xs s q) ∙ none)

pub no_packet : (calls : List Call) (q : Stream) → list_any (is_stream q) (streams_seen calls) ≡ false → packets_of calls q ≡ []
no_packet [] q none = refl
no_packet (Remembers session p ∷ before) q none =
    let s : Stream = (session, p.ssrc) in
    let parts = unseen_by (list_any (is_stream s) (streams_seen before)) (streams_seen before) s q refl none in
    ap (λ (b : Bool). cond b (p ∷ packets_of before q) (packets_of before q)) parts.1 ∙ no_packet before q parts.0
no_packet (Answers session ssrc seq ∷ before) q none = no_packet before q none

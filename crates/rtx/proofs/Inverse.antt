-- Restoring gives back what was sent.
use Rattle.std.proofs.Common.{◌≡◌, ◌<◌, ◌≤◌, ◌^◌, ℕ, zero, suc, Bool, true, false, cond, nat_eq, List, [], ◌∷◌, ◌++◌, length, take, Option, Some, None, Ok, refl, sym, ap, subst, ◌∙◌, arith}
use Rattle.std.specs.Prelude.{find, filter, option_map}
use Rattle.std.specs.Option.{option_or, option_and_then}
use Rattle.std.proofs.lemmas.Bool.{eq-eqb, eqb-true}
use Rattle.std.proofs.lemmas.Bool.Decides.{nat_tests}
use Rattle.circular_buffer.specs.Buffer.{buffer}
use Rattle.rtp_units.specs.declared.shared.RtxLine.{RtxLine}
use Rattle.rtp_units.specs.declared.shared.Fid.{Fid}
use Rattle.rtp_wire.specs.Network.{number16}
use Rattle.rtp_wire.specs.Packet.{Packet}
use Rattle.byteorder.specs.Endian.{big_bytes}
use Rattle.rtx.specs.declared.outlet.Outlet.{Outlet}
use Rattle.rtx.specs.Pairs.{carries, repeats, has_retransmission, has_original, original_of, retransmission_of}
use Rattle.rtx.specs.Requests.{associated}
use Rattle.rtx.specs.Restoring.{Receiving, original, stream_of, found}
use Rattle.rtx.specs.Sending.{Stream, is_stream, Setting, latest_in, outlet, rtx_ssrc_of, outlet_by, outlet_of, retransmission_packet}
use Rattle.rtx.specs.Answering.{Call, Remembers, Answers, packets_of, is_remembered, latest_of, paired, sought_by}
use Rattle.rtx.specs.Inverse.{IsInverse}
use Rattle.rtx.proofs.Found.{known}
use Rattle.rtx.proofs.Seen.{both, same_stream}

-- ---- a number in front

number_in_front : (n : ℕ) (rest : List ℕ) → n < 2 ^ 16 → number16 (big_bytes 2 n ++ rest) 0 ≡ n
number_in_front n rest lt = omega arith

-- ---- the first that passes

module _ {X : Type 0} where
  passes_by : (b : Bool) (t : X → Bool) (x y : X) (rest : Option X) → t y ≡ b → cond b (Some y) rest ≡ Some x → (rest ≡ Some x → t x ≡ true) → t x ≡ true
  passes_by true t x y rest is e h = let same : y ≡ x = cc in ap t (sym same) ∙ is
  passes_by false t x y rest is e h = h e

  pub passes : (t : X → Bool) (xs : List X) (x : X) → find t xs ≡ Some x → t x ≡ true
  passes t [] x e = absurd cc
  passes t (y ∷ ys) x e = passes_by (t y) t x y (find t ys) refl e (passes t ys x)

  none_by : (b c : Bool) (t u : X → Bool) (x y : X) (ys : List X) → t y ≡ b → length (cond b (y ∷ filter t ys) (filter t ys)) ≡ 0 → cond c (Some y) (find u ys) ≡ Some x → t x ≡ true
      → (length (filter t ys) ≡ 0 → find u ys ≡ Some x → ⊥) → ⊥
  none_by true c t u x y ys is none e passes rest = omega arith
  none_by false true t u x y ys is none e passes rest =
      let same : y ≡ x = cc in let both : false ≡ true = sym is ∙ ap t same ∙ passes in cc
  none_by false false t u x y ys is none e passes rest = rest none e

  -- what none passes isn't found by another test
  none_found : (t u : X → Bool) (xs : List X) (x : X) → length (filter t xs) ≡ 0 → find u xs ≡ Some x → t x ≡ true → ⊥
  none_found t u [] x none e passes = cc
  none_found t u (y ∷ ys) x none e passes = none_by (t y) (u y) t u x y ys refl none e passes (λ n f. none_found t u ys x n f passes)

  only_by : (b c : Bool) (t u : X → Bool) (x y : X) (ys : List X) → t y ≡ b → length (cond b (y ∷ filter t ys) (filter t ys)) ≡ 1 → cond c (Some y) (find u ys) ≡ Some x → t x ≡ true
      → (length (filter t ys) ≡ 1 → find u ys ≡ Some x → find t ys ≡ Some x) → cond b (Some y) (find t ys) ≡ Some x
  only_by true true t u x y ys is one e passes rest = e
  only_by true false t u x y ys is one e passes rest = absurd (none_found t u ys x (omega arith) e passes)
  only_by false true t u x y ys is one e passes rest =
      absurd (let same : y ≡ x = cc in let both : false ≡ true = sym is ∙ ap t same ∙ passes in cc)
  only_by false false t u x y ys is one e passes rest = rest one e

  -- the only one that passes is found
  only : (t u : X → Bool) (xs : List X) (x : X) → length (filter t xs) ≡ 1 → find u xs ≡ Some x → t x ≡ true → find t xs ≡ Some x
  only t u [] x one e passes = absurd cc
  only t u (y ∷ ys) x one e passes = only_by (t y) (u y) t u x y ys refl one e passes (λ n f. only t u ys x n f passes)

-- ---- the packets of a stream have its SSRC

abbrev Are : ℕ → List Packet → Type 0
Are ssrc [] = Unit {0}
Are ssrc (p ∷ ps) = (p.ssrc ≡ ssrc) × Are ssrc ps

are_front : (ssrc n : ℕ) (ps : List Packet) → Are ssrc ps → Are ssrc (take n ps)
are_front ssrc zero ps a = tt
are_front ssrc (suc n) [] a = tt
are_front ssrc (suc n) (p ∷ ps) a = (a.0, are_front ssrc n ps a.1)

are_by : (b : Bool) (q : Stream) (session : ℕ) (p : Packet) (ps : List Packet) → is_stream q (session, p.ssrc) ≡ b → Are q.1 ps → Are q.1 (cond b (p ∷ ps) ps)
are_by true q session p ps is a = (sym (ap (λ (x : Stream). x.1) (same_stream q (session, p.ssrc) is)), a)
are_by false q session p ps is a = a

are_of : (calls : List Call) (q : Stream) → Are q.1 (packets_of calls q)
are_of [] q = tt
are_of (Remembers session p ∷ before) q = are_by (is_stream q (session, p.ssrc)) q session p (packets_of before q) refl (are_of before q)
are_of (Answers session ssrc seq ∷ before) q = are_of before q

found_are_by : (b : Bool) (ssrc : ℕ) (p q : Packet) (rest : Option Packet) → q.ssrc ≡ ssrc → cond b (Some q) rest ≡ Some p → (rest ≡ Some p → p.ssrc ≡ ssrc) → p.ssrc ≡ ssrc
found_are_by true ssrc p q rest is e h = let same : q ≡ p = cc in ap (λ (x : Packet). x.ssrc) (sym same) ∙ is
found_are_by false ssrc p q rest is e h = h e

found_are : (ssrc seq : ℕ) (ps : List Packet) (p : Packet) → Are ssrc ps → find (λ x. nat_eq x.seq seq) ps ≡ Some p → p.ssrc ≡ ssrc
found_are ssrc seq [] p a e = absurd cc
found_are ssrc seq (q ∷ ps) p a e = found_are_by (nat_eq q.seq seq) ssrc p q (find (λ x. nat_eq x.seq seq) ps) a.0 e (found_are ssrc seq ps p a.1)

-- ---- the packet that is sought

latest_by : (b : Bool) (n : ℕ) (calls : List Call) (q : Stream) (seq : ℕ) (p : Packet)
    → option_and_then (λ x. latest_in x.items seq) (cond b (Some (buffer (take n (packets_of calls q)) n)) None) ≡ Some p → (p.ssrc ≡ q.1) × (p.seq ≡ seq)
latest_by true n calls q seq p e =
    let ps = packets_of calls q in
    (found_are q.1 seq (take n ps) p (are_front q.1 n ps (are_of calls q)) e, eqb-true p.seq seq (passes (λ x. nat_eq x.seq seq) (take n ps) p e))
latest_by false n calls q seq p e = absurd cc

record Parts (s : Setting) (session ssrc : ℕ) (x : Option Packet) (p : Packet) (o : Outlet) : Type 0 where
  packet : x ≡ Some p
  outlet : outlet_of s.lines s.fids session ssrc p.pt ≡ Some o

parts_by : (s : Setting) (session ssrc : ℕ) (q p : Packet) (o : Outlet) (out : Option Outlet) → outlet_of s.lines s.fids session ssrc q.pt ≡ out → option_map (paired q) out ≡ Some (p, o)
    → Parts s session ssrc (Some q) p o
parts_by s session ssrc q p o None is e = absurd cc
parts_by s session ssrc q p o (Some out) is e =
    let same : (q, out) ≡ (p, o) = cc in
    let packet : q ≡ p = ap (λ (x : Packet × Outlet). x.0) same in
    record {
      packet = ap (λ (x : Packet). Some x) packet;
      outlet = ap (λ (x : Packet). outlet_of s.lines s.fids session ssrc x.pt) (sym packet) ∙ is ∙ ap (λ (x : Packet × Outlet). Some x.1) same;
    }

parts : (s : Setting) (session ssrc : ℕ) (x : Option Packet) (p : Packet) (o : Outlet) → sought_by s session ssrc x ≡ Some (p, o) → Parts s session ssrc x p o
parts s session ssrc None p o e = absurd cc
parts s session ssrc (Some q) p o e = parts_by s session ssrc q p o (outlet_of s.lines s.fids session ssrc q.pt) refl e

-- ---- the outlet and its line

record Line (s : Setting) (session ssrc pt : ℕ) (o : Outlet) : Type 0 where
  line : RtxLine
  found : find (repeats session pt) s.lines ≡ Some line
  rtx_ssrc : rtx_ssrc_of s.fids line session ssrc ≡ Some o.ssrc
  same_session : o.session ≡ line.session
  same_pt : o.pt ≡ line.pt

line_by_ssrc : (s : Setting) (session ssrc pt : ℕ) (o : Outlet) (l : RtxLine) (x : Option ℕ) → find (repeats session pt) s.lines ≡ Some l → rtx_ssrc_of s.fids l session ssrc ≡ x
    → option_map (outlet l) x ≡ Some o → Line s session ssrc pt o
line_by_ssrc s session ssrc pt o l None is x e = absurd cc
line_by_ssrc s session ssrc pt o l (Some y) is x e =
    let same : outlet l y ≡ o = cc in
    record {
      line = l;
      found = is;
      rtx_ssrc = x ∙ ap (λ (z : Outlet). Some z.ssrc) same;
      same_session = sym (ap (λ (z : Outlet). z.session) same);
      same_pt = sym (ap (λ (z : Outlet). z.pt) same);
    }

line_by : (s : Setting) (session ssrc pt : ℕ) (o : Outlet) (x : Option RtxLine) → find (repeats session pt) s.lines ≡ x → outlet_by s.fids session ssrc x ≡ Some o → Line s session ssrc pt o
line_by s session ssrc pt o None is e = absurd cc
line_by s session ssrc pt o (Some l) is e = line_by_ssrc s session ssrc pt o l (rtx_ssrc_of s.fids l session ssrc) is refl e

-- ---- the stream that is found

pair_by : (s : Setting) (l : RtxLine) (session ssrc rtx_ssrc : ℕ) (x : Option Fid) → find (has_original session ssrc) s.fids ≡ x → option_map (λ f. f.rtx_ssrc) x ≡ Some rtx_ssrc
    → length (filter (has_retransmission session rtx_ssrc) s.fids) ≡ 1 → original_of s.fids session rtx_ssrc ≡ Some ssrc
pair_by s l session ssrc rtx_ssrc None is e one = absurd cc
pair_by s l session ssrc rtx_ssrc (Some f) is e one =
    let r : f.rtx_ssrc ≡ rtx_ssrc = cc in
    let has = both (nat_eq f.session session) (nat_eq f.ssrc ssrc) (passes (has_original session ssrc) s.fids f is) in
    let is_it : has_retransmission session rtx_ssrc f ≡ true = let q : nat_eq f.rtx_ssrc rtx_ssrc ≡ true = eq-eqb f.rtx_ssrc rtx_ssrc r in rw (has.0, q) refl in
    ap (option_map (λ g. g.ssrc)) (only (has_retransmission session rtx_ssrc) (has_original session ssrc) s.fids f one is is_it) ∙ ap (λ (n : ℕ). Some n) (eqb-true f.ssrc ssrc has.1)

-- in its own session a stream is paired, and in another one it keeps its SSRC
stream_by : (b : Bool) (s : Setting) (r : Receiving) (l : RtxLine) (session ssrc rtx_ssrc : ℕ) → nat_eq l.session session ≡ b → l.osession ≡ session → r.setting.fids ≡ s.fids
    → cond b (retransmission_of s.fids session ssrc) (Some ssrc) ≡ Some rtx_ssrc → (l.session ≡ session → length (filter (has_retransmission l.session rtx_ssrc) s.fids) ≡ 1) → stream_of r l rtx_ssrc ≡ Some ssrc
stream_by true s r l session ssrc rtx_ssrc is o fids e one =
    let here : l.session ≡ session = eqb-true l.session session is in
    let own : nat_eq l.osession l.session ≡ true = eq-eqb l.osession l.session (o ∙ sym here) in
    let single : length (filter (has_retransmission session rtx_ssrc) s.fids) ≡ 1 = subst (λ (n : ℕ). length (filter (has_retransmission n rtx_ssrc) s.fids) ≡ 1) here (one here) in
    let pair : original_of r.setting.fids l.session rtx_ssrc ≡ Some ssrc =
    (λ i. original_of (fids i) (here i) rtx_ssrc) ∙ pair_by s l session ssrc rtx_ssrc (find (has_original session ssrc) s.fids) refl e single
    in
    ap (λ (b : Bool). cond b (option_or (original_of r.setting.fids l.session rtx_ssrc) (associated r.associations l.session rtx_ssrc)) (Some rtx_ssrc)) own
    ∙ ap (λ (x : Option ℕ). option_or x (associated r.associations l.session rtx_ssrc)) pair
stream_by false s r l session ssrc rtx_ssrc is o fids e one =
    let other : nat_eq l.osession l.session ≡ false = ap (λ (n : ℕ). nat_eq n l.session) o ∙ turned session l.session ∙ is in
    let same : ssrc ≡ rtx_ssrc = cc in
    ap (λ (b : Bool). cond b (option_or (original_of r.setting.fids l.session rtx_ssrc) (associated r.associations l.session rtx_ssrc)) (Some rtx_ssrc)) other ∙ ap (λ (n : ℕ). Some n) (sym same)
  where
    turned : (a b : ℕ) → nat_eq a b ≡ nat_eq b a
    turned a b = grind (arith, nat_tests)

-- ---- the whole

pub inverse : IsInverse
inverse = λ s calls session ssrc seq p o number sent bytes r small e one lines fids.
    let q = retransmission_packet o number p sent in
    let x = parts s session ssrc (latest_of s calls (session, ssrc) seq) p o e in
    let own = latest_by (is_remembered calls (session, ssrc)) s.per_stream calls (session, ssrc) seq p x.packet in
    let y = line_by s session ssrc p.pt o (find (repeats session p.pt) s.lines) refl x.outlet in
    let l = y.line in
    let has = both (nat_eq l.osession session) (nat_eq l.apt p.pt) (passes (repeats session p.pt) s.lines l y.found) in
    let o_session : l.osession ≡ session = eqb-true l.osession session has.0 in
    let apt : l.apt ≡ p.pt = eqb-true l.apt p.pt has.1 in
    let carried : carries o.session o.pt l ≡ true =
    let a : nat_eq l.session o.session ≡ true = eq-eqb l.session o.session (sym y.same_session) in let b : nat_eq l.pt o.pt ≡ true = eq-eqb l.pt o.pt (sym y.same_pt) in rw (a, b) refl
    in
    let line : find (carries o.session o.pt) r.setting.lines ≡ Some l =
    ap (find (carries o.session o.pt)) lines ∙ only (carries o.session o.pt) (repeats session p.pt) s.lines l one.line y.found carried
    in
    let stream : stream_of r l o.ssrc ≡ Some ssrc =
    stream_by (nat_eq l.session session) s r l session ssrc o.ssrc refl o_session fids y.rtx_ssrc (λ same.
    subst (λ (n : ℕ). length (filter (has_retransmission n o.ssrc) s.fids) ≡ 1) y.same_session (one.pair (y.same_session ∙ same)))
    in
    let whole : 2 ≤ length q.payload = omega arith in
    let is : found r o.session q ≡ Ok (original l q ssrc false) = known r o.session q l ssrc whole line stream in
    let own_number : p.seq < 2 ^ 16 = subst (λ (n : ℕ). n < 2 ^ 16) (sym own.1) small in
    let number_is : number16 q.payload 0 ≡ p.seq = number_in_front p.seq p.payload own_number in (
      original l q ssrc false,
      is,
      o_session,
      refl,
      number_is ∙ own.1,
      λ i. record {
        marker = p.marker;
        pt = apt i;
        seq = number_is i;
        timestamp = p.timestamp;
        ssrc = sym own.0 i;
        csrcs = p.csrcs;
        extension = p.extension;
        payload = p.payload;
        padding = 0;
        bytes = bytes;
      },
    )

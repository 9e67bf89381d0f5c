-- A history stands for its calls, one call more.
use Rattle.std.proofs.Common.{◌≡◌, ◌<◌, ◌≤◌, ◌||◌, ℕ, ◌+◌, ◌%◌, Bool, true, false, cond, zero, suc, List, [], ◌∷◌, length, take, Option, Some, None, refl, sym, ap, subst, ◌∙◌, arith}
use Rattle.std.specs.Prelude.{option_map, unwrap_or, is_some}
use Rattle.std.specs.Option.{option_and_then}
use Rattle.std.specs.Map.{lookup}
use Rattle.std.specs.List.{list_any}
use Rattle.std.proofs.lemmas.List.{length-append}
use Rattle.circular_buffer.specs.Buffer.{Buffer, buffer}
use Rattle.rtp_wire.specs.Packet.{Packet}
use Rattle.rtx.specs.declared.outlet.Outlet.{Outlet}
use Rattle.rtx.specs.Sending.{Stream, is_stream, Setting, Sending, latest_in, outlet_of, pushed}
use Rattle.rtx.specs.Answering.{Call, Remembers, Answers, streams_of, is_remembered, packets_of, kept_of, latest_of, paired, sought_by, sought, goes_out, number_of, StandsFor}
use Rattle.rtx.proofs.Seen.{same_stream, is_itself, turned, streams_known, streams_new, streams_full, all_seen, remembered_new, no_packet}

take_less : (m : ℕ) (ps : List Packet) → take m (take (suc m) ps) ≡ take m ps
take_less zero ps = refl
take_less (suc m) [] = refl
take_less (suc m) (p ∷ ps) = ap (λ (qs : List Packet). p ∷ qs) (take_less m ps)

-- what was let go before doesn't come back
take_again : (n : ℕ) (p : Packet) (ps : List Packet) → take n (p ∷ take n ps) ≡ take n (p ∷ ps)
take_again zero p ps = refl
take_again (suc m) p ps = ap (λ (qs : List Packet). p ∷ qs) (take_less m ps)

-- a packet of another stream
packets_other : (calls : List Call) (session : ℕ) (p : Packet) (q : Stream) → is_stream (session, p.ssrc) q ≡ false → packets_of (Remembers session p ∷ calls) q ≡ packets_of calls q
packets_other calls session p q other = ap (λ (b : Bool). cond b (p ∷ packets_of calls q) (packets_of calls q)) (turned q (session, p.ssrc) ∙ other)

packets_own : (calls : List Call) (session : ℕ) (p : Packet) → packets_of (Remembers session p ∷ calls) (session, p.ssrc) ≡ p ∷ packets_of calls (session, p.ssrc)
packets_own calls session p = ap (λ (b : Bool). cond b (p ∷ packets_of calls (session, p.ssrc)) (packets_of calls (session, p.ssrc))) (is_itself (session, p.ssrc))

abbrev any : Stream → List Stream → Bool
any q xs = list_any (is_stream q) xs

abbrev last_of : ℕ → List Packet → Buffer Packet
last_of n packets = buffer (take n packets) n

abbrev if_kept : Bool → Buffer Packet → Option (Buffer Packet)
if_kept b x = cond b (Some x) None

-- ---- a packet of a stream that is remembered

known_by : (b : Bool) (n : ℕ) (calls : List Call) (session : ℕ) (p : Packet) (q : Stream) → is_stream (session, p.ssrc) q ≡ b → is_remembered calls (session, p.ssrc) ≡ true
    → kept_of n (Remembers session p ∷ calls) q ≡ cond b (option_map (pushed p) (kept_of n calls (session, p.ssrc))) (kept_of n calls q)
known_by true n calls session p q is known =
    let s : Stream = (session, p.ssrc) in
    let here : kept_of n (Remembers session p ∷ calls) s ≡ Some (last_of n (p ∷ packets_of calls s)) =
    ap (λ (xs : List Stream). if_kept (any s xs) (last_of n (packets_of (Remembers session p ∷ calls) s))) (streams_known calls session p known)
    ∙ ap (λ (b : Bool). if_kept b (last_of n (packets_of (Remembers session p ∷ calls) s))) known ∙ ap (λ (ps : List Packet). Some (last_of n ps)) (packets_own calls session p)
    in
    let before : kept_of n calls s ≡ Some (last_of n (packets_of calls s)) = ap (λ (b : Bool). if_kept b (last_of n (packets_of calls s))) known in
    ap (kept_of n (Remembers session p ∷ calls)) (sym (same_stream s q is)) ∙ here ∙ sym (ap (λ (ps : List Packet). Some (buffer ps n)) (take_again n p (packets_of calls s))) ∙ sym (ap (option_map (pushed p)) before)
known_by false n calls session p q is known =
    ap (λ (xs : List Stream). if_kept (any q xs) (last_of n (packets_of (Remembers session p ∷ calls) q))) (streams_known calls session p known)
    ∙ ap (λ (ps : List Packet). if_kept (is_remembered calls q) (last_of n ps)) (packets_other calls session p q is)

-- ---- the first packet of a stream

or_not : (b : Bool) → (b || false) ≡ b
or_not true = refl
or_not false = refl

new_by : (b : Bool) (n : ℕ) (calls : List Call) (session : ℕ) (p : Packet) (q : Stream) → is_stream (session, p.ssrc) q ≡ b → is_remembered calls (session, p.ssrc) ≡ false
    → length (streams_of calls) < 64 → kept_of n (Remembers session p ∷ calls) q ≡ cond b (Some (pushed p (buffer [] n))) (kept_of n calls q)
new_by true n calls session p q is new lt =
    let s : Stream = (session, p.ssrc) in
    let all = all_seen calls lt in
    let none : packets_of calls s ≡ [] = no_packet calls s (ap (any s) (sym all) ∙ new) in
    let kept : is_remembered (Remembers session p ∷ calls) s ≡ true =
    remembered_new calls session p s (streams_new calls session p new lt) ∙ ap (λ (b : Bool). b || is_stream s s) new ∙ is_itself s
    in
    ap (kept_of n (Remembers session p ∷ calls)) (sym (same_stream s q is)) ∙ ap (λ (b : Bool). if_kept b (last_of n (packets_of (Remembers session p ∷ calls) s))) kept
    ∙ ap (λ (ps : List Packet). Some (last_of n ps)) (packets_own calls session p ∙ ap (λ (ps : List Packet). p ∷ ps) none)
new_by false n calls session p q is new lt =
    let s : Stream = (session, p.ssrc) in
    let same : is_remembered (Remembers session p ∷ calls) q ≡ is_remembered calls q =
    remembered_new calls session p q (streams_new calls session p new lt) ∙ ap (λ (b : Bool). is_remembered calls q || b) (turned q s ∙ is) ∙ or_not (is_remembered calls q)
    in
    ap (λ (b : Bool). if_kept b (last_of n (packets_of (Remembers session p ∷ calls) q))) same ∙ ap (λ (ps : List Packet). if_kept (is_remembered calls q) (last_of n ps)) (packets_other calls session p q is)

-- ---- a packet of a stream for which there is no room

full_by : (b : Bool) (n : ℕ) (calls : List Call) (session : ℕ) (p : Packet) (q : Stream) → is_stream (session, p.ssrc) q ≡ b → is_remembered calls (session, p.ssrc) ≡ false
    → 64 ≤ length (streams_of calls) → kept_of n (Remembers session p ∷ calls) q ≡ kept_of n calls q
full_by true n calls session p q is new le =
    let s : Stream = (session, p.ssrc) in
    let none : is_remembered calls q ≡ false = ap (is_remembered calls) (sym (same_stream s q is)) ∙ new in
    ap (λ (xs : List Stream). if_kept (any q xs) (last_of n (packets_of (Remembers session p ∷ calls) q))) (streams_full calls session p le)
    ∙ ap (λ (b : Bool). if_kept b (last_of n (packets_of (Remembers session p ∷ calls) q))) none ∙ sym (ap (λ (b : Bool). if_kept b (last_of n (packets_of calls q))) none)
full_by false n calls session p q is new le =
    ap (λ (xs : List Stream). if_kept (any q xs) (last_of n (packets_of (Remembers session p ∷ calls) q))) (streams_full calls session p le)
    ∙ ap (λ (ps : List Packet). if_kept (is_remembered calls q) (last_of n ps)) (packets_other calls session p q is)

-- ---- the history

pub adds_packet : (old new : Sending) (s : Setting) (calls : List Call) (session : ℕ) (p : Packet) → StandsFor old s calls → is_remembered calls (session, p.ssrc) ≡ true
    → new.setting ≡ old.setting → new.numbers ≡ old.numbers
    → ((q : Stream) → lookup (is_stream q) new.streams ≡ cond (is_stream (session, p.ssrc) q) (option_map (pushed p) (lookup (is_stream (session, p.ssrc)) old.streams)) (lookup (is_stream q) old.streams))
    → length new.streams ≡ length old.streams → StandsFor new s (Remembers session p ∷ calls)
adds_packet old new s calls session p h known setting numbers streams count =
    let n = s.per_stream in
    record {
      setting = setting ∙ h.setting;
      streams = λ q.
          streams q ∙ ap (λ (o : Option (Buffer Packet)). cond (is_stream (session, p.ssrc) q) (option_map (pushed p) o) (lookup (is_stream q) old.streams)) (h.streams (session, p.ssrc))
          ∙ ap (λ (o : Option (Buffer Packet)). cond (is_stream (session, p.ssrc) q) (option_map (pushed p) (kept_of n calls (session, p.ssrc))) o) (h.streams q)
          ∙ sym (known_by (is_stream (session, p.ssrc) q) n calls session p q refl known);
      count = count ∙ h.count ∙ ap (λ (xs : List Stream). length xs) (sym (streams_known calls session p known));
      numbers = λ q. ap (λ (ns : List (Stream × ℕ)). unwrap_or (lookup (is_stream q) ns) 0) numbers ∙ h.numbers q;
    }

pub adds_stream : (old new : Sending) (s : Setting) (calls : List Call) (session : ℕ) (p : Packet) → StandsFor old s calls → is_remembered calls (session, p.ssrc) ≡ false → length (streams_of calls) < 64
    → new.setting ≡ old.setting → new.numbers ≡ old.numbers
    → ((q : Stream) → lookup (is_stream q) new.streams ≡ cond (is_stream (session, p.ssrc) q) (Some (pushed p (buffer [] old.setting.per_stream))) (lookup (is_stream q) old.streams))
    → length new.streams ≡ length old.streams + 1 → StandsFor new s (Remembers session p ∷ calls)
adds_stream old new s calls session p h unknown lt setting numbers streams count =
    let n = s.per_stream in
    let more = streams_new calls session p unknown lt in
    record {
      setting = setting ∙ h.setting;
      streams = λ q.
          streams q ∙ ap (λ (x : Setting). cond (is_stream (session, p.ssrc) q) (Some (pushed p (buffer [] x.per_stream))) (lookup (is_stream q) old.streams)) h.setting
          ∙ ap (λ (o : Option (Buffer Packet)). cond (is_stream (session, p.ssrc) q) (Some (pushed p (buffer [] n))) o) (h.streams q)
          ∙ sym (new_by (is_stream (session, p.ssrc) q) n calls session p q refl unknown lt);
      count = omega (arith, count, h.count, ap (λ (xs : List Stream). length xs) more, length-append (streams_of calls) ((session, p.ssrc) ∷ []));
      numbers = λ q. ap (λ (ns : List (Stream × ℕ)). unwrap_or (lookup (is_stream q) ns) 0) numbers ∙ h.numbers q;
    }

pub adds_nothing : (h : Sending) (s : Setting) (calls : List Call) (session : ℕ) (p : Packet) → StandsFor h s calls → is_remembered calls (session, p.ssrc) ≡ false → 64 ≤ length (streams_of calls)
    → StandsFor h s (Remembers session p ∷ calls)
adds_nothing h s calls session p stands unknown le = record {
  setting = stands.setting;
  streams = λ q. stands.streams q ∙ sym (full_by (is_stream (session, p.ssrc) q) s.per_stream calls session p q refl unknown le);
  count = stands.count ∙ ap (λ (xs : List Stream). length xs) (sym (streams_full calls session p le));
  numbers = stands.numbers;
}

-- ---- answers

pub answers_none : (h : Sending) (s : Setting) (calls : List Call) (session ssrc seq : ℕ) → StandsFor h s calls → sought s calls session ssrc seq ≡ None → StandsFor h s (Answers session ssrc seq ∷ calls)
answers_none h s calls session ssrc seq stands none = record {
  setting = stands.setting;
  streams = stands.streams;
  count = stands.count;
  numbers = λ q. stands.numbers q ∙ sym (ap (λ (x : Option (Packet × Outlet)). cond (goes_out q x) ((number_of s calls q + 1) % 65536) (number_of s calls q)) none);
}

counts_by : (b : Bool) (s : Setting) (calls : List Call) (out q : Stream) (number : ℕ) (o : Option ℕ) → is_stream out q ≡ b → number ≡ number_of s calls out → unwrap_or o 0 ≡ number_of s calls q
    → unwrap_or (cond b (Some ((number + 1) % 65536)) o) 0 ≡ cond b ((number_of s calls q + 1) % 65536) (number_of s calls q)
counts_by true s calls out q number o is e old = ap (λ (n : ℕ). (n + 1) % 65536) (e ∙ ap (number_of s calls) (same_stream out q is))
counts_by false s calls out q number o is e old = old

pub answers_some : (old new : Sending) (s : Setting) (calls : List Call) (session ssrc seq : ℕ) (p : Packet) (o : Outlet) (number : ℕ) → StandsFor old s calls
    → sought s calls session ssrc seq ≡ Some (p, o) → new.setting ≡ old.setting → new.streams ≡ old.streams → number ≡ number_of s calls (o.session, o.ssrc)
    → ((q : Stream) → lookup (is_stream q) new.numbers ≡ cond (is_stream (o.session, o.ssrc) q) (Some ((number + 1) % 65536)) (lookup (is_stream q) old.numbers))
    → StandsFor new s (Answers session ssrc seq ∷ calls)
answers_some old new s calls session ssrc seq p o number h some setting streams e numbers = record {
  setting = setting ∙ h.setting;
  streams = λ q. ap (λ (es : List (Stream × Buffer Packet)). lookup (is_stream q) es) streams ∙ h.streams q;
  count = ap (λ (es : List (Stream × Buffer Packet)). length es) streams ∙ h.count;
  numbers = λ q.
      ap (λ (x : Option ℕ). unwrap_or x 0) (numbers q)
      ∙ counts_by (is_stream (o.session, o.ssrc) q) s calls (o.session, o.ssrc) q number (lookup (is_stream q) old.numbers) refl e (h.numbers q)
      ∙ sym (ap (λ (x : Option (Packet × Outlet)). cond (goes_out q x) ((number_of s calls q + 1) % 65536) (number_of s calls q)) some);
}

-- ---- what a look-up tells

some_is : (b : Bool) (x : Buffer Packet) → is_some (if_kept b x) ≡ b
some_is true x = refl
some_is false x = refl

pub is_known : (h : Sending) (s : Setting) (calls : List Call) (q : Stream) (b : Bool) → StandsFor h s calls → is_some (lookup (is_stream q) h.streams) ≡ b → is_remembered calls q ≡ b
is_known h s calls q b stands e = sym (some_is (is_remembered calls q) (last_of s.per_stream (packets_of calls q))) ∙ ap is_some (sym (stands.streams q)) ∙ e

pub latest_is : (h : Sending) (s : Setting) (calls : List Call) (q : Stream) (seq : ℕ) → StandsFor h s calls → option_and_then (λ b. latest_in b.items seq) (lookup (is_stream q) h.streams) ≡ latest_of s calls q seq
latest_is h s calls q seq stands = ap (option_and_then (λ b. latest_in b.items seq)) (stands.streams q)

pub sought_none : (h : Sending) (s : Setting) (calls : List Call) (session ssrc seq : ℕ) → StandsFor h s calls
    → option_and_then (λ b. latest_in b.items seq) (lookup (is_stream (session, ssrc)) h.streams) ≡ None → sought s calls session ssrc seq ≡ None
sought_none h s calls session ssrc seq stands none = ap (sought_by s session ssrc) (sym (latest_is h s calls (session, ssrc) seq stands) ∙ none)

pub sought_is : (h : Sending) (s : Setting) (calls : List Call) (session ssrc seq : ℕ) (p : Packet) (o : Option Outlet) → StandsFor h s calls
    → option_and_then (λ b. latest_in b.items seq) (lookup (is_stream (session, ssrc)) h.streams) ≡ Some p → o ≡ outlet_of h.setting.lines h.setting.fids session ssrc p.pt
    → sought s calls session ssrc seq ≡ option_map (paired p) o
sought_is h s calls session ssrc seq p o stands some out =
    ap (sought_by s session ssrc) (sym (latest_is h s calls (session, ssrc) seq stands) ∙ some)
    ∙ sym (ap (option_map (paired p)) (out ∙ ap (λ (x : Setting). outlet_of x.lines x.fids session ssrc p.pt) stands.setting))

-- ---- remembering, by what the code tests

key_known : (h : Sending) (s : Setting) (calls : List Call) (session ssrc : ℕ) (p : Packet) (b : Bool) → StandsFor h s calls → ssrc ≡ p.ssrc → is_some (lookup (is_stream (session, ssrc)) h.streams) ≡ b
    → is_remembered calls (session, p.ssrc) ≡ b
key_known h s calls session ssrc p b stands e test = is_known h s calls (session, p.ssrc) b stands (ap (λ (n : ℕ). is_some (lookup (is_stream (session, n)) h.streams)) (sym e) ∙ test)

pub remembered_is : (h value : Sending) (s : Setting) (calls : List Call) (session ssrc : ℕ) (p : Packet) (b : Bool) → h ≡ value → StandsFor value s calls → ssrc ≡ p.ssrc
    → is_some (lookup (is_stream (session, ssrc)) h.streams) ≡ b → is_remembered calls (session, p.ssrc) ≡ b
remembered_is h value s calls session ssrc p b same stands e test = key_known h s calls session ssrc p b (subst (λ (v : Sending). StandsFor v s calls) (sym same) stands) e test

pub streams_count : (h value : Sending) (s : Setting) (calls : List Call) → h ≡ value → StandsFor value s calls → length h.streams ≡ length (streams_of calls)
streams_count h value s calls same stands = ap (λ (v : Sending). length v.streams) same ∙ stands.count

pub remembers_known : (old value new : Sending) (s : Setting) (calls : List Call) (session ssrc : ℕ) (p sent : Packet) → old ≡ value → StandsFor value s calls → ssrc ≡ p.ssrc → sent ≡ p
    → is_some (lookup (is_stream (session, ssrc)) old.streams) ≡ true → new.setting ≡ old.setting → new.numbers ≡ old.numbers
    → ((q : Stream) → lookup (is_stream q) new.streams ≡ cond (is_stream (session, ssrc) q) (option_map (pushed sent) (lookup (is_stream (session, ssrc)) old.streams)) (lookup (is_stream q) old.streams))
    → length new.streams ≡ length old.streams → StandsFor new s (Remembers session p ∷ calls)
remembers_known old value new s calls session ssrc p sent same stands e es test setting numbers streams count =
    let h = subst (λ (v : Sending). StandsFor v s calls) (sym same) stands in
    adds_packet old new s calls session p h (key_known old s calls session ssrc p true h e test) setting numbers
    (λ q. streams q ∙ (λ i. cond (is_stream (session, e i) q) (option_map (pushed (es i)) (lookup (is_stream (session, e i)) old.streams)) (lookup (is_stream q) old.streams))) count

pub remembers_new : (old value new : Sending) (s : Setting) (calls : List Call) (session ssrc : ℕ) (p sent : Packet) → old ≡ value → StandsFor value s calls → ssrc ≡ p.ssrc → sent ≡ p
    → is_some (lookup (is_stream (session, ssrc)) old.streams) ≡ false → length old.streams < 64 → new.setting ≡ old.setting → new.numbers ≡ old.numbers
    → ((q : Stream) → lookup (is_stream q) new.streams ≡ cond (is_stream (session, ssrc) q) (Some (pushed sent (buffer [] old.setting.per_stream))) (lookup (is_stream q) old.streams))
    → length new.streams ≡ length old.streams + 1 → StandsFor new s (Remembers session p ∷ calls)
remembers_new old value new s calls session ssrc p sent same stands e es test lt setting numbers streams count =
    let h = subst (λ (v : Sending). StandsFor v s calls) (sym same) stands in
    adds_stream old new s calls session p h (key_known old s calls session ssrc p false h e test) (omega (arith, h.count)) setting numbers
    (λ q. streams q ∙ (λ i. cond (is_stream (session, e i) q) (Some (pushed (es i) (buffer [] old.setting.per_stream))) (lookup (is_stream q) old.streams))) count

pub remembers_nothing : (h value : Sending) (s : Setting) (calls : List Call) (session ssrc : ℕ) (p : Packet) → h ≡ value → StandsFor value s calls → ssrc ≡ p.ssrc
    → is_some (lookup (is_stream (session, ssrc)) h.streams) ≡ false → 64 ≤ length h.streams → StandsFor value s (Remembers session p ∷ calls)
remembers_nothing h value s calls session ssrc p same stands e test le =
    adds_nothing value s calls session p stands (remembered_is h value s calls session ssrc p false same stands e test) (omega (arith, streams_count h value s calls same stands))

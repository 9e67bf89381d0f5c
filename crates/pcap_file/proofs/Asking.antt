-- What asking twice for bytes says of the record at a place.
use Rattle.std.proofs.Common.{◌≡◌, ℕ, ◌+◌, ◌*◌, ◌≤◌, ◌<◌, List, [], ◌∷◌, ◌++◌, length, take, drop, IsTrue, refl, sym, ap, ◌∙◌, append_assoc, arith, inl, inr, ◌^◌, Bool, true, false}
use Rattle.std.specs.Prelude.{if◌then◌else◌}
use Rattle.std.proofs.lemmas.Bool.{cases_lt}
use Rattle.std.proofs.lemmas.List.{length-append, take_at, drop_at, nil_from_length}
use Rattle.rtp_io.specs.Outside.{Disk}
use Rattle.rtp_io.specs.Pulled.{Keeps, Takes, Ends}
use Rattle.rtp_io.specs.Laws.{told_then, takes_none, takes_then, takes_keeps, all_here}
use Rattle.pcap_file.specs.declared.fault.CaptureFault.TheVariants.{TooMany, CutRecord, Length, Fraction}
use Rattle.pcap_file.specs.declared.header.Format.{Format}
use Rattle.pcap_file.specs.Numbers.{number_at}
use Rattle.pcap_file.specs.Capture.{Record, Capture, AtFault, AtRecord, record_of, fraction_limit, fraction_unit, head, records_from}
use Rattle.pcap_file.specs.Reading.{IsRecord, IsEnd, IsNoRecord}
use Rattle.pcap_file.proofs.NumberLemmas.{number_front}
use Rattle.pcap_file.proofs.Heads.{head_empty, head_many, head_cut, head_long, head_fraction, head_short, head_whole, records_end, records_fault}

-- a fault of the bytes that are there is one of what comes
pub finds_none : (format : Format) (count offset have : ℕ) (held rest : List ℕ) (a b : Disk) → have ≡ 0 → Keeps held rest a b × Ends 16 have rest b → IsEnd format count offset held rest a b
finds_none format count offset have held rest a b zero-is is =
    let none : rest ≡ [] = nil_from_length rest (is.1.held ∙ zero-is) in
    record {
      keeps = is.0;
      none = none;
      at = λ t. ap (head format count offset) (all_here 16 have held rest a b is.0 is.1 t ∙ none) ∙ head_empty format count offset;
    }

pub finds_many : (format : Format) (count offset have : ℕ) (held rest : List ℕ) (a b : Disk) → (have ≡ 0 → ⊥) → 100000000 ≤ count → Keeps held rest a b × Ends 16 have rest b → IsTrue a.told
    → head format count offset (held ++ a.left) ≡ AtFault (TooMany offset)
finds_many format count offset have held rest a b some many is t =
    ap (head format count offset) (all_here 16 have held rest a b is.0 is.1 t) ∙ head_many format count offset rest (omega (arith, is.1.held)) many

pub finds_cut : (format : Format) (count offset have : ℕ) (held rest : List ℕ) (a b : Disk) → (have ≡ 0 → ⊥) → count < 100000000 → Keeps held rest a b × Ends 16 have rest b → IsTrue a.told
    → head format count offset (held ++ a.left) ≡ AtFault (CutRecord offset)
finds_cut format count offset have held rest a b some few is t =
    ap (head format count offset) (all_here 16 have held rest a b is.0 is.1 t) ∙ head_cut format count offset rest (omega (arith, is.1.held)) few (omega (arith, is.1.held, is.1.few))

few_bytes : (format : Format) (count offset : ℕ) (bytes : List ℕ) → length bytes < 16 → (records_from format count offset bytes).records ≡ []
few_bytes format count offset [] short = ap (λ (c : Capture). c.records) (records_end format count offset [] (head_empty format count offset))
few_bytes format count offset (x ∷ xs) short =
    elim (cases_lt count 100000000) [
      | inl few ↦ ap (λ (c : Capture). c.records) (records_fault format count offset (x ∷ xs) (CutRecord offset) (head_cut format count offset (x ∷ xs) (omega arith) few short))
      | inr many ↦ ap (λ (c : Capture). c.records) (records_fault format count offset (x ∷ xs) (TooMany offset) (head_many format count offset (x ∷ xs) (omega arith) many))
    ]

pub none_at_first : (format : Format) (count offset : ℕ) (held rest : List ℕ) (a b : Disk) → Keeps held rest a b × (length rest < 16) → IsNoRecord format count offset held rest a b
none_at_first format count offset held rest a b is = record { taken = []; takes = takes_none held rest a b is.0; none = few_bytes format count offset rest is.1 }

-- the numbers forbid the record
pub finds_more : (format : Format) (count offset : ℕ) (bytes held rest : List ℕ) (a b : Disk) → length bytes ≡ 16 → 100000000 ≤ count → Takes bytes held rest a b → IsTrue a.told
    → head format count offset (held ++ a.left) ≡ AtFault (TooMany offset)
finds_more format count offset bytes held rest a b len many takes t =
    ap (head format count offset) (takes.coming t) ∙ head_many format count offset (bytes ++ (rest ++ b.left)) (omega (arith, length-append bytes (rest ++ b.left))) many

pub finds_long : (format : Format) (count offset : ℕ) (bytes held rest : List ℕ) (a b : Disk) → length bytes ≡ 16 → count < 100000000 → 262144 < number_at format.order 4 8 bytes → Takes bytes held rest a b → IsTrue a.told
    → head format count offset (held ++ a.left) ≡ AtFault (Length offset)
finds_long format count offset bytes held rest a b len few long takes t =
    let more = rest ++ b.left in
    let e8 = number_front format.order 4 8 bytes more (omega arith) in
    ap (head format count offset) (takes.coming t) ∙ head_long format count offset (bytes ++ more) few (omega (arith, length-append bytes more)) (omega (arith, e8, long))

pub finds_fraction : (format : Format) (count offset : ℕ) (bytes held rest : List ℕ) (a b : Disk) → length bytes ≡ 16 → count < 100000000 → number_at format.order 4 8 bytes ≤ 262144
    → fraction_limit format ≤ number_at format.order 4 4 bytes → Takes bytes held rest a b → IsTrue a.told → head format count offset (held ++ a.left) ≡ AtFault (Fraction offset)
finds_fraction format count offset bytes held rest a b len few long high takes t =
    let more = rest ++ b.left in
    let e8 = number_front format.order 4 8 bytes more (omega arith) in
    let e4 = number_front format.order 4 4 bytes more (omega arith) in
    ap (head format count offset) (takes.coming t) ∙ head_fraction format count offset (bytes ++ more) few (omega (arith, length-append bytes more)) (omega (arith, e8, long)) (omega (arith, e4, high))

-- numbers that allow it
pub record Allows (format : Format) (count : ℕ) (bytes : List ℕ) : Type 0 where
  pub size : length bytes ≡ 16
  pub few : count < 100000000
  pub long : number_at format.order 4 8 bytes ≤ 262144
  pub fraction : number_at format.order 4 4 bytes < fraction_limit format

cut_behind : (format : Format) (count offset : ℕ) (bytes more : List ℕ) → Allows format count bytes → length more < number_at format.order 4 8 bytes → head format count offset (bytes ++ more) ≡ AtFault (CutRecord offset)
cut_behind format count offset bytes more ok short =
    let len = length-append bytes more in
    let e8 = number_front format.order 4 8 bytes more (omega (arith, ok.size)) in
    let e4 = number_front format.order 4 4 bytes more (omega (arith, ok.size)) in
    head_short format count offset (bytes ++ more) ok.few (omega (arith, ok.size)) (omega (arith, ok.long)) (omega (arith, ok.fraction)) (omega (arith, ok.size))

pub finds_short : (format : Format) (count offset have : ℕ) (bytes held mid rest : List ℕ) (a b c : Disk) → Allows format count bytes → Takes bytes held mid a b → Keeps mid rest b c × Ends (number_at format.order 4 8 bytes) have rest c → IsTrue a.told
    → head format count offset (held ++ a.left) ≡ AtFault (CutRecord offset)
finds_short format count offset have bytes held mid rest a b c ok takes is t =
    ap (head format count offset) (takes.coming t ∙ ap (λ (r : List ℕ). bytes ++ r) (all_here (number_at format.order 4 8 bytes) have mid rest b c is.0 is.1 (told_then a b takes.same t)))
    ∙ cut_behind format count offset bytes rest ok (omega (arith, is.1.held, is.1.few))

pub none_behind : (format : Format) (count offset : ℕ) (bytes held mid rest : List ℕ) (a b c : Disk) → Allows format count bytes → Takes bytes held mid a b → Keeps mid rest b c × (length rest < number_at format.order 4 8 bytes) → IsNoRecord format count offset held rest a c
none_behind format count offset bytes held mid rest a b c ok takes is = record {
  taken = bytes;
  takes = takes_keeps bytes held mid rest a b c takes is.0;
  none = ap (λ (c : Capture). c.records) (records_fault format count offset (bytes ++ rest) (CutRecord offset) (cut_behind format count offset bytes rest ok is.1));
}

abbrev pub record_is : ℕ → ℕ → ℕ → ℕ → List ℕ → Record
record_is link offset stamp original bytes = record { link = link; offset = offset; stamp = stamp; original = original; bytes = bytes }

-- a stamp ends before 2 ^ 32 seconds
stamp_early : (nanoseconds : Bool) (seconds fraction : ℕ) → seconds < 2 ^ 32 → fraction < (if nanoseconds then 1000000000 else 1000000)
    → seconds * 1000000000 + fraction * (if nanoseconds then 1 else 1000) < 2 ^ 32 * 1000000000
stamp_early true seconds fraction lt below = omega arith
stamp_early false seconds fraction lt below = omega arith

pub is_record : (format : Format) (count offset : ℕ) (bytes body held mid rest : List ℕ) (r : Record) (a b c : Disk) → Allows format count bytes → length body ≡ number_at format.order 4 8 bytes → number_at format.order 4 0 bytes < 2 ^ 32
    → r.link ≡ format.link → r.offset ≡ offset → r.stamp ≡ number_at format.order 4 0 bytes * 1000000000 + number_at format.order 4 4 bytes * fraction_unit format → r.original ≡ number_at format.order 4 12 bytes → r.bytes ≡ body
    → Takes bytes held mid a b → Takes body mid rest b c → IsRecord format count offset r held rest a c
is_record format count offset bytes body held mid rest r a b c ok len small link-is offset-is stamp-is original-is bytes-is first second = record {
  taken = bytes ++ body;
  takes = takes_then bytes body held mid rest a b c first second;
  bound = ok.few;
  long = length-append bytes body ∙ omega (arith, ok.size, ap length bytes-is);
  short = omega (arith, ok.long, ap length bytes-is);
  early = rw stamp-is (stamp_early format.nanoseconds (number_at format.order 4 0 bytes) (number_at format.order 4 4 bytes) small ok.fraction);
  stands = λ more.
      let all = body ++ more in
      let len-all = length-append bytes all in
      let len-body = length-append body more in
      let e0 = number_front format.order 4 0 bytes all (omega (arith, ok.size)) in
      let e4 = number_front format.order 4 4 bytes all (omega (arith, ok.size)) in
      let e8 = number_front format.order 4 8 bytes all (omega (arith, ok.size)) in
      let e12 = number_front format.order 4 12 bytes all (omega (arith, ok.size)) in
      let whole = head_whole format count offset (bytes ++ all) ok.few (omega (arith, ok.long)) (omega (arith, ok.fraction)) (omega (arith, ok.size)) in
      let body-is : take (number_at format.order 4 8 (bytes ++ all)) (drop 16 (bytes ++ all)) ≡ body =
      ap (λ (xs : List ℕ). take (number_at format.order 4 8 (bytes ++ all)) xs) (drop_at bytes all 16 ok.size) ∙ take_at body more (number_at format.order 4 8 (bytes ++ all)) (len ∙ sym e8) in
      let same : record_of format offset (bytes ++ all) ≡ r = made link-is offset-is stamp-is original-is bytes-is e0 e4 e12 body-is in
      ap (head format count offset) (append_assoc bytes body more) ∙ whole ∙ ap AtRecord same;
}
  where
    made : {n0 n4 n12 : ℕ} {xs : List ℕ} → r.link ≡ format.link → r.offset ≡ offset → r.stamp ≡ number_at format.order 4 0 bytes * 1000000000 + number_at format.order 4 4 bytes * fraction_unit format → r.original ≡ number_at format.order 4 12 bytes → r.bytes ≡ body
        → n0 ≡ number_at format.order 4 0 bytes → n4 ≡ number_at format.order 4 4 bytes → n12 ≡ number_at format.order 4 12 bytes → xs ≡ body
        → record_is format.link offset (n0 * 1000000000 + n4 * fraction_unit format) n12 xs ≡ r
    made l a b c d e0 e4 e12 x = rw (e0, e4, e12, x, ← l, ← a, ← b, ← c, ← d) refl

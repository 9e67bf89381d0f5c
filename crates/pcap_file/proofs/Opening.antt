-- What the file header says, test by test, and what asking for it says of the capture.
use Rattle.std.proofs.Common.{◌≡◌, ℕ, ◌<◌, true, false, List, [], ◌∷◌, ◌++◌, length, Option, Some, None, Result, Ok, Err, IsTrue, Bool, refl, sym, ap, subst, ◌∙◌, arith}
use Rattle.std.specs.Prelude.{nat_eq, if◌then◌else◌}
use Rattle.std.specs.List.{starts_with}
use Rattle.std.proofs.lemmas.Bool.{lt-ltb, le-ltb}
use Rattle.std.proofs.lemmas.List.{length-append, take_at, drop_at}
use Rattle.rtp_io.specs.Outside.{Disk}
use Rattle.rtp_io.specs.Pulled.{Keeps, Takes, Ends}
use Rattle.rtp_io.specs.Laws.{all_here}
use Rattle.pcap_file.specs.declared.order.Order.{Order}
use Rattle.pcap_file.specs.declared.header.Format.{Format}
use Rattle.pcap_file.specs.declared.fault.CaptureFault.{CaptureFault}
use Rattle.pcap_file.specs.declared.fault.CaptureFault.TheVariants.{CutHeader, Pcapng, Magic, Version, Link}
use Rattle.pcap_file.specs.Faults.{OnFault, IsOfBytes}
use Rattle.pcap_file.specs.Capture.{Capture, empty, order_of, is_version, is_link, is_nano, link_at, format_in, format_of, behind_header, capture_of}
use Rattle.pcap_file.specs.Reading.{StandsFor, TakesHeader, GaveNoHeader, TakesHead}
use Rattle.pcap_file.proofs.FaultLemmas.{of_bytes}

-- the first four bytes of a pcapng file
abbrev pub ng : List ℕ
ng = 0x0a ∷ 0x0d ∷ 0x0d ∷ 0x0a ∷ []

pub format_ng : (bytes : List ℕ) → starts_with nat_eq bytes ng ≡ true → Err Pcapng ≡ format_of bytes
unfolding format_of
format_ng bytes is = rw is refl

pub format_magic : (bytes : List ℕ) → starts_with nat_eq bytes ng ≡ false → order_of bytes ≡ None → Err Magic ≡ format_of bytes
unfolding format_of
format_magic bytes other none = rw other (ap (λ (o : Option Order). format_in o bytes) (sym none))

pub format_version : (bytes : List ℕ) (order : Order) → starts_with nat_eq bytes ng ≡ false → order_of bytes ≡ Some order → is_version order bytes ≡ false → Err Version ≡ format_of bytes
unfolding format_of
format_version bytes order other some bad = rw other (sym (ap (λ (o : Option Order). format_in o bytes) some ∙ rw bad refl))

pub format_link : (bytes : List ℕ) (order : Order) → starts_with nat_eq bytes ng ≡ false → order_of bytes ≡ Some order → is_version order bytes ≡ true → is_link (link_at order bytes) ≡ false → Err Link ≡ format_of bytes
unfolding format_of
format_link bytes order other some version bad = rw other (sym (ap (λ (o : Option Order). format_in o bytes) some ∙ rw (version, bad) refl))

pub format_whole : (bytes : List ℕ) (order : Order) (format : Format) → starts_with nat_eq bytes ng ≡ false → order_of bytes ≡ Some order → is_version order bytes ≡ true → is_link (link_at order bytes) ≡ true
    → format ≡ record { order = order; nanoseconds = is_nano order bytes; link = link_at order bytes } → Ok format ≡ format_of bytes
unfolding format_of
format_whole bytes order format other some version link is = rw other (sym (ap (λ (o : Option Order). format_in o bytes) some ∙ rw (version, link, is) refl))

capture_cut : (bytes : List ℕ) → length bytes < 24 → capture_of bytes ≡ empty (Some CutHeader)
unfolding capture_of
capture_cut bytes short = rw (lt-ltb (length bytes) 24 short) refl

pub capture_behind : (bytes more : List ℕ) → length bytes ≡ 24 → capture_of (bytes ++ more) ≡ behind_header (format_of bytes) more
unfolding capture_of
capture_behind bytes more len =
    rw (le-ltb (length (bytes ++ more)) 24 (omega (arith, length-append bytes more)), take_at bytes more 24 len, drop_at bytes more 24 len) refl

pub opens_cut : (have : ℕ) (held rest : List ℕ) (a b : Disk) → Keeps held rest a b × Ends 24 have rest b → IsTrue a.told → capture_of (held ++ a.left) ≡ empty (Some CutHeader)
opens_cut have held rest a b is t = ap capture_of (all_here 24 have held rest a b is.0 is.1 t) ∙ capture_cut rest (omega (arith, is.1.held, is.1.few))

pub opens_none : (held rest : List ℕ) (a b : Disk) → Keeps held rest a b × (length rest < 24) → GaveNoHeader held rest a b
opens_none held rest a b is = record { keeps = is.0; short = is.1; none = ap (λ (c : Capture). c.records) (capture_cut rest is.1) }

pub opens_bad : (bytes held rest : List ℕ) (fault : CaptureFault) (a b : Disk) → length bytes ≡ 24 → Err fault ≡ format_of bytes → IsOfBytes fault → Takes bytes held rest a b
    → OnFault fault (IsTrue a.told → capture_of (held ++ a.left) ≡ empty (Some fault)) (GaveNoHeader held rest a b) ⊥
opens_bad bytes held rest fault a b len bad of takes =
    of_bytes fault _ _ _ of (λ t. ap capture_of (takes.coming t) ∙ capture_behind bytes (rest ++ b.left) len ∙ ap (λ (f : Result Format CaptureFault). behind_header f (rest ++ b.left)) (sym bad))

pub opens_good : (bytes held rest : List ℕ) (format : Format) (a b : Disk) → length bytes ≡ 24 → Ok format ≡ format_of bytes → Takes bytes held rest a b
    → TakesHeader (record { format = format; count = 0; offset = 24; fault = None }) held rest a b
unfolding StandsFor
opens_good bytes held rest format a b len good takes = record {
  taken = bytes;
  takes = takes;
  counted = refl;
  placed = sym len;
  long = len;
  fault = refl;
  stands = λ more. capture_behind bytes more len ∙ ap (λ (f : Result Format CaptureFault). behind_header f more) (sym good);
}

-- ---- the beginning of either form

pub opens_ng : (head bytes held rest : List ℕ) (a b : Disk) → length bytes ≡ 24 → head ≡ bytes → starts_with nat_eq head ng ≡ true → Takes bytes held rest a b → TakesHead head held rest a b
opens_ng head bytes held rest a b len same begins takes =
    let size : length head ≡ 24 = ap length same ∙ len in
    let taken : Takes head held rest a b = subst (λ (xs : List ℕ). Takes xs held rest a b) (sym same) takes in
    record {
      takes = taken;
      size = size;
      begins = begins;
      finds = λ t. ap capture_of (taken.coming t) ∙ capture_behind head (rest ++ b.left) size ∙ ap (λ (f : Result Format CaptureFault). behind_header f (rest ++ b.left)) (sym (format_ng head begins));
    }

abbrev pub of_ng : Result Format CaptureFault
of_ng = Err Pcapng

abbrev pub tested : Bool → Bool → Format → Result Format CaptureFault
tested version link format = if version then (if link then Ok format else Err Link) else Err Version

tested_other : (version link : Bool) (format : Format) → of_ng ≡ tested version link format → ⊥
tested_other true true format is = cc
tested_other true false format is = cc
tested_other false link format is = cc

format_in_other : (order : Option Order) (bytes : List ℕ) → of_ng ≡ format_in order bytes → ⊥
format_in_other None bytes is = cc
format_in_other (Some order) bytes is = tested_other (is_version order bytes) (is_link (link_at order bytes)) (record { order = order; nanoseconds = is_nano order bytes; link = link_at order bytes }) is

pub format_other : (fault : CaptureFault) (bytes : List ℕ) → starts_with nat_eq bytes ng ≡ false → Err fault ≡ format_of bytes → fault ≡ Pcapng → ⊥
unfolding format_of
format_other fault bytes other bad is =
    let e : of_ng ≡ format_of bytes = ap (λ (f : CaptureFault). Err f) (sym is) ∙ bad in
    format_in_other (order_of bytes) bytes (rw other at e)

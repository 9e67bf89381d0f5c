-- The form of a file, and what it says of the capture.
use Rattle.std.proofs.Common.{◌≡◌, ℕ, ◌≤◌, ◌<◌, Bool, true, false, List, [], ◌∷◌, ◌++◌, length, take, Some, refl, sym, ◌∙◌, arith}
use Rattle.std.specs.Prelude.{nat_le, nat_eq, ◌&&◌}
use Rattle.std.specs.List.{starts_with}
use Rattle.std.proofs.lemmas.Bool.{le-ltb}
use Rattle.std.proofs.lemmas.Bool.Decides.{nat_tests}
use Rattle.std.proofs.lemmas.List.{length-append}
use Rattle.pcap_file.specs.declared.fault.CaptureFault.TheVariants.{Pcapng}
use Rattle.pcap_file.specs.Capture as pcap
use Rattle.pcap_file.specs.Capture.{capture_of as capture_of_bytes, format_of}
use Rattle.pcapng_file.specs.Blocks.{ng_capture}
use Rattle.capture_file.specs.Capture.{is_ng, capture_of, capture_of_pcap, capture_of_ng}

pub ng_is : (bytes : List ℕ) → is_ng bytes ≡ true → capture_of bytes ≡ capture_of_ng (ng_capture bytes)
unfolding capture_of
ng_is bytes is = rw is refl

pub pcap_is : (bytes : List ℕ) → is_ng bytes ≡ false → capture_of bytes ≡ capture_of_pcap (pcap.capture_of bytes)
unfolding capture_of
pcap_is bytes is = rw is refl

-- the first four bytes
abbrev begins : List ℕ → Bool
begins bytes = starts_with nat_eq bytes (0x0a ∷ 0x0d ∷ 0x0d ∷ 0x0a ∷ [])

begins_more : (passed more : List ℕ) → 24 ≤ length passed → begins (passed ++ more) ≡ begins passed
begins_more [] more long = absurd (omega arith)
begins_more (a ∷ []) more long = absurd (omega arith)
begins_more (a ∷ b ∷ []) more long = absurd (omega arith)
begins_more (a ∷ b ∷ c ∷ []) more long = absurd (omega arith)
begins_more (a ∷ b ∷ c ∷ d ∷ rest) more long = refl

begins_front : (bytes : List ℕ) → 24 ≤ length bytes → begins (take 24 bytes) ≡ begins bytes
begins_front [] long = absurd (omega arith)
begins_front (a ∷ []) long = absurd (omega arith)
begins_front (a ∷ b ∷ []) long = absurd (omega arith)
begins_front (a ∷ b ∷ c ∷ []) long = absurd (omega arith)
begins_front (a ∷ b ∷ c ∷ d ∷ rest) long = refl

pub long_form : (bytes : List ℕ) → 24 ≤ length bytes → is_ng bytes ≡ begins bytes
long_form bytes long =
    let enough : nat_le 24 (length bytes) ≡ true = grind (arith, nat_tests) in
    rw enough refl

pub short_form : (bytes : List ℕ) → length bytes < 24 → is_ng bytes ≡ false
short_form bytes short =
    let few : nat_le 24 (length bytes) ≡ false = grind (arith, nat_tests) in
    rw few refl

-- more bytes leave the form
pub form_more : (passed more : List ℕ) (form : Bool) → 24 ≤ length passed → is_ng passed ≡ form → is_ng (passed ++ more) ≡ form
form_more passed more form long is =
    long_form (passed ++ more) (omega (arith, length-append passed more)) ∙ begins_more passed more long ∙ sym (long_form passed long) ∙ is

ng_enough : (bytes : List ℕ) → is_ng bytes ≡ true → 24 ≤ length bytes
ng_enough bytes is = enough (nat_le 24 (length bytes)) (begins bytes) (λ e. grind (arith, nat_tests)) is
  where
    enough : (a b : Bool) → (a ≡ true → 24 ≤ length bytes) → (a && b) ≡ true → 24 ≤ length bytes
    enough true b f e = f refl
    enough false b f e = absurd cc

-- what a pcapng file is for the reading of pcap captures
pub ng_refused : (bytes : List ℕ) → is_ng bytes ≡ true → pcap.capture_of bytes ≡ pcap.empty (Some Pcapng)
unfolding capture_of_bytes format_of
ng_refused bytes is =
    let long = ng_enough bytes is in
    let first : begins (take 24 bytes) ≡ true = begins_front bytes long ∙ sym (long_form bytes long) ∙ is in
    rw (le-ltb (length bytes) 24 long, first) refl

-- No script begins a capture, no description does, and no settings and timed lines.
use Rattle.std.proofs.Common.{◌≡◌, ◌≢◌, ℕ, zero, suc, ◌+◌, ◌*◌, ◌<◌, Bool, true, false, List, [], ◌∷◌, length, take, drop, Option, Some, None, Ok, Err, refl, sym, subst, arith, ◌∙◌}
use Rattle.std.specs.Prelude.{nat_lt, nat_le, nat_eq, ◌==◌, ◌&&◌, ◌||◌, if◌then◌else◌}
use Rattle.std.specs.List.{starts_with}
use Rattle.std.proofs.lemmas.Bool.{lt-ltb, lt-leb, eqb-true}
use Rattle.std.proofs.lemmas.Grind.{common_steps}
use Rattle.std.proofs.lemmas.List.{length-take}
use Rattle.rtp_io.specs.Outside.{AreBytes}
use Rattle.pcap_file.specs.declared.fault.CaptureFault.TheVariants.{CutHeader, Pcapng}
use Rattle.pcap_file.specs.declared.order.Order.{Order}
use Rattle.pcap_file.specs.declared.order.Order.TheVariants.{Little, Big}
use Rattle.pcap_file.specs.Numbers.{number_at}
use Rattle.pcap_file.specs.Capture as pcap
use Rattle.pcap_file.specs.Capture.{capture_of as capture_of_pcap_bytes, format_of, format_in, order_of, behind_header, empty}
use Rattle.capture_file.specs.Capture.{capture_of, is_ng}
use Rattle.script_lang.specs.Contents.{Contents}
use Rattle.script_lang.specs.Grammar.{read_script}
use Rattle.sdp_profile.specs.Scripts.{described_script}

-- ---- a file that is no pcapng file

as_pcap : (bytes : List ℕ) → is_ng bytes ≡ false → (capture_of bytes).records ≡ (pcap.capture_of bytes).records
unfolding capture_of
as_pcap bytes is = rw is refl

short_is_pcap : (bytes : List ℕ) → length bytes < 24 → is_ng bytes ≡ false
short_is_pcap bytes short = rw (lt-leb 24 (length bytes) short) refl

no_pcap_records : (bytes : List ℕ) → length bytes < 24 → (pcap.capture_of bytes).records ≡ []
unfolding capture_of_pcap_bytes
no_pcap_records bytes short = rw (lt-ltb (length bytes) 24 short) refl

pub no_records : (bytes : List ℕ) → length bytes < 24 → (capture_of bytes).records ≡ []
no_records bytes short = as_pcap bytes (short_is_pcap bytes short) ∙ no_pcap_records bytes short

-- ---- a text that is no capture

-- nothing that is read so has one of these fronts
pub record BeginsNoCapture (Reads : List ℕ → Type 0) : Type 0 where
  pub big : (xs : List ℕ) → ¬ Reads (161 ∷ xs)
  pub little : (xs : List ℕ) → ¬ Reads (212 ∷ xs)
  pub nano : (xs : List ℕ) → ¬ Reads (77 ∷ 60 ∷ 178 ∷ xs)
  pub section : (xs : List ℕ) → ¬ Reads (10 ∷ 13 ∷ 13 ∷ 10 ∷ xs)

-- a capture's first bytes, by the four magic numbers and the type of a section header
pub record BeginsOtherwise (a b c d : ℕ) : Type 0 where
  pub big : a ≢ 161
  pub little : a ≢ 212
  pub nano : a ≡ 77 → b ≡ 60 → c ≢ 178
  pub section : a ≡ 10 → b ≡ 13 → c ≡ 13 → d ≢ 10

begins_otherwise : (Reads : List ℕ → Type 0) → BeginsNoCapture Reads → (a b c d : ℕ) (xs : List ℕ) → Reads (a ∷ b ∷ c ∷ d ∷ xs) → BeginsOtherwise a b c d
begins_otherwise Reads law a b c d xs is = record {
  big = λ e. law.big (b ∷ c ∷ d ∷ xs) (subst (λ (n : ℕ). Reads (n ∷ b ∷ c ∷ d ∷ xs)) e is);
  little = λ e. law.little (b ∷ c ∷ d ∷ xs) (subst (λ (n : ℕ). Reads (n ∷ b ∷ c ∷ d ∷ xs)) e is);
  nano = λ ea eb ec. law.nano (d ∷ xs) (subst (λ (n : ℕ). Reads (77 ∷ 60 ∷ n ∷ d ∷ xs)) ec
      (subst (λ (n : ℕ). Reads (77 ∷ n ∷ c ∷ d ∷ xs)) eb (subst (λ (n : ℕ). Reads (n ∷ b ∷ c ∷ d ∷ xs)) ea is)));
  section = λ ea eb ec ed. law.section xs (subst (λ (n : ℕ). Reads (10 ∷ 13 ∷ 13 ∷ n ∷ xs)) ed
      (subst (λ (n : ℕ). Reads (10 ∷ 13 ∷ n ∷ d ∷ xs)) ec
      (subst (λ (n : ℕ). Reads (10 ∷ n ∷ c ∷ d ∷ xs)) eb (subst (λ (n : ℕ). Reads (n ∷ b ∷ c ∷ d ∷ xs)) ea is))));
}

-- it is no pcapng file
no_head : (a b c d : ℕ) (xs : List ℕ) → BeginsOtherwise a b c d → is_ng (a ∷ b ∷ c ∷ d ∷ xs) ≡ false
no_head a b c d xs begins = at (nat_le 24 (length (a ∷ b ∷ c ∷ d ∷ xs))) (nat_eq 10 a) (nat_eq 13 b) (nat_eq 13 c) (nat_eq 10 d) refl refl refl refl
  where
    at : (long w x y z : Bool) → nat_eq 10 a ≡ w → nat_eq 13 b ≡ x → nat_eq 13 c ≡ y → nat_eq 10 d ≡ z → (long && (w && (x && (y && (z && true))))) ≡ false
    at false w x y z e f g h = refl
    at true false x y z e f g h = refl
    at true true false y z e f g h = refl
    at true true true false z e f g h = refl
    at true true true true false e f g h = refl
    at true true true true true e f g h = absurd (begins.section (sym (eqb-true 10 a e)) (sym (eqb-true 13 b f)) (sym (eqb-true 13 c g)) (sym (eqb-true 10 d h)))

other : (n m : ℕ) → n ≢ m → (n == m) ≡ false
other n m h = grind (arith, common_steps)

little_is : (a b c d : ℕ) (xs : List ℕ) → number_at Little 4 0 (a ∷ b ∷ c ∷ d ∷ xs) ≡ a + 256 * (b + 256 * (c + 256 * d))
unfolding number_at
little_is a b c d xs = omega arith

big_is : (a b c d : ℕ) (xs : List ℕ) → number_at Big 4 0 (a ∷ b ∷ c ∷ d ∷ xs) ≡ a * 16777216 + (b * 65536 + (c * 256 + d))
unfolding number_at
big_is a b c d xs = omega arith

no_order : (a b c d : ℕ) (xs : List ℕ) → a < 256 → b < 256 → c < 256 → d < 256 → BeginsOtherwise a b c d → order_of (a ∷ b ∷ c ∷ d ∷ xs) ≡ None
no_order a b c d xs la lb lc ld begins =
    let bytes = a ∷ b ∷ c ∷ d ∷ xs in
    let micro : (number_at Little 4 0 bytes == 0xa1b2c3d4) ≡ false = other (number_at Little 4 0 bytes) 0xa1b2c3d4 (λ e. begins.little (omega (arith, e, little_is a b c d xs))) in
    let nano : (number_at Little 4 0 bytes == 0xa1b23c4d) ≡ false =
    other (number_at Little 4 0 bytes) 0xa1b23c4d (λ e. begins.nano (omega (arith, e, little_is a b c d xs)) (omega (arith, e, little_is a b c d xs)) (omega (arith, e, little_is a b c d xs))) in
    let micro' : (number_at Big 4 0 bytes == 0xa1b2c3d4) ≡ false = other (number_at Big 4 0 bytes) 0xa1b2c3d4 (λ e. begins.big (omega (arith, e, big_is a b c d xs))) in
    let nano' : (number_at Big 4 0 bytes == 0xa1b23c4d) ≡ false = other (number_at Big 4 0 bytes) 0xa1b23c4d (λ e. begins.big (omega (arith, e, big_is a b c d xs))) in
    of_tests _ _ _ _ micro nano micro' nano'
  where
    of_tests : (m n m' n' : Bool) → m ≡ false → n ≡ false → m' ≡ false → n' ≡ false → (if m || n then Some Little else if m' || n' then Some Big else None) ≡ None
    of_tests false false false false e f g h = refl
    of_tests true n m' n' e f g h = absurd cc
    of_tests false true m' n' e f g h = absurd cc
    of_tests false false true n' e f g h = absurd cc
    of_tests false false false true e f g h = absurd cc

no_pcap : (a b c d : ℕ) (xs : List ℕ) → a < 256 → b < 256 → c < 256 → d < 256 → BeginsOtherwise a b c d → (pcap.capture_of (a ∷ b ∷ c ∷ d ∷ xs)).records ≡ []
unfolding capture_of_pcap_bytes format_of
no_pcap a b c d xs la lb lc ld begins = at (nat_lt (length (a ∷ b ∷ c ∷ d ∷ xs)) 24)
  where
    head : List ℕ
    head = a ∷ b ∷ c ∷ d ∷ take 20 xs

    by_order : (pcapng : Bool) (order : Option Order) → order ≡ None → (behind_header (if pcapng then Err Pcapng else format_in order head) (drop 20 xs)).records ≡ []
    by_order true order is = refl
    by_order false None is = refl
    by_order false (Some order) is = absurd cc

    at : (short : Bool) → (if short then empty (Some CutHeader) else behind_header (if starts_with nat_eq head (0x0a ∷ 0x0d ∷ 0x0d ∷ 0x0a ∷ []) then Err Pcapng else format_in (order_of head) head) (drop 20 xs)).records ≡ []
    at true = refl
    at false = by_order (starts_with nat_eq head (0x0a ∷ 0x0d ∷ 0x0d ∷ 0x0a ∷ [])) (order_of head) (no_order a b c d (take 20 xs) la lb lc ld begins)

no_capture : (a b c d : ℕ) (xs : List ℕ) → a < 256 → b < 256 → c < 256 → d < 256 → BeginsOtherwise a b c d → (capture_of (a ∷ b ∷ c ∷ d ∷ xs)).records ≡ []
no_capture a b c d xs la lb lc ld begins = as_pcap (a ∷ b ∷ c ∷ d ∷ xs) (no_head a b c d xs begins) ∙ no_pcap a b c d xs la lb lc ld begins

-- nor does a front of it
pub begins_no_capture : (Reads : List ℕ → Type 0) → BeginsNoCapture Reads → (text : List ℕ) (k : ℕ) → AreBytes text → Reads text → (capture_of (take k text)).records ≡ []
begins_no_capture Reads law text k bytes is = at text k bytes is
  where
    at : (text : List ℕ) (k : ℕ) → AreBytes text → Reads text → (capture_of (take k text)).records ≡ []
    at (a ∷ b ∷ c ∷ d ∷ xs) (suc (suc (suc (suc k)))) bytes is =
        no_capture a b c d (take k xs) (bytes 0 0 (omega arith)) (bytes 1 0 (omega arith)) (bytes 2 0 (omega arith)) (bytes 3 0 (omega arith)) (begins_otherwise Reads law a b c d xs is)
    at text zero bytes is = no_records (take zero text) (omega (arith, length-take zero text))
    at text (suc zero) bytes is = no_records (take 1 text) (omega (arith, length-take 1 text))
    at text (suc (suc zero)) bytes is = no_records (take 2 text) (omega (arith, length-take 2 text))
    at text (suc (suc (suc zero))) bytes is = no_records (take 3 text) (omega (arith, length-take 3 text))
    at [] k bytes is = no_records (take k []) (omega (arith, length-take {A = ℕ} k []))
    at (a ∷ []) k bytes is = no_records (take k (a ∷ [])) (omega (arith, length-take k (a ∷ [])))
    at (a ∷ b ∷ []) k bytes is = no_records (take k (a ∷ b ∷ [])) (omega (arith, length-take k (a ∷ b ∷ [])))
    at (a ∷ b ∷ c ∷ []) k bytes is = no_records (take k (a ∷ b ∷ c ∷ [])) (omega (arith, length-take k (a ∷ b ∷ c ∷ [])))

-- ---- what is read so

-- a script without a fault
abbrev pub IsScript : List ℕ → Type 0
IsScript text = (c : Contents) × (read_script text ≡ Ok c)

-- a description that makes a script with some other text
abbrev pub IsDescription : List ℕ → Type 0
IsDescription text =
    (times : List ℕ) × (c : Contents) × (described_script text times ≡ Ok c)

-- settings and timed lines that make a script with some description
abbrev pub AreTimes : List ℕ → Type 0
AreTimes text = (sdp : List ℕ) × (c : Contents) × (described_script sdp text ≡ Ok c)

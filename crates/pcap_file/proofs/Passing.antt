-- Passing over VLAN tags and extension headers, one at a time.
use Rattle.std.proofs.Common.{◌≡◌, ℕ, zero, suc, ◌+◌, ◌*◌, ◌≤◌, ◌<◌, Bool, true, false, List, [], ◌∷◌, length, drop, Result, Ok, Err, refl, ap, ◌∙◌, arith}
use Rattle.std.specs.Prelude.{slice_index, nat_lt, if◌then◌else◌}
use Rattle.std.proofs.lemmas.Bool.{lt-ltb, le-ltb}
use Rattle.std.proofs.lemmas.List.{length-drop}
use Rattle.pcap_file.specs.declared.udp.Skip.{Skip}
use Rattle.pcap_file.specs.declared.udp.Skip.TheVariants.{Malformed}
use Rattle.pcap_file.specs.Datagrams.{Inner, untagged, is_tag, behind_extensions, is_extension, extension_length}

pub untagged_more : (kind : ℕ) (bytes : List ℕ) → is_tag kind ≡ true → 4 ≤ length bytes → untagged kind bytes ≡ untagged (slice_index bytes 2 * 256 + slice_index bytes 3) (drop 4 bytes)
unfolding untagged
untagged_more kind [] is long = absurd (omega arith)
untagged_more kind (a ∷ []) is long = absurd (omega arith)
untagged_more kind (a ∷ b ∷ []) is long = absurd (omega arith)
untagged_more kind (a ∷ b ∷ c ∷ []) is long = absurd (omega arith)
untagged_more kind (a ∷ b ∷ high ∷ low ∷ bytes) is long = rw is refl

pub untagged_cut : (kind : ℕ) (bytes : List ℕ) → is_tag kind ≡ true → length bytes < 4 → untagged kind bytes ≡ Err Malformed
unfolding untagged
untagged_cut kind [] is short = rw is refl
untagged_cut kind (a ∷ []) is short = rw is refl
untagged_cut kind (a ∷ b ∷ []) is short = rw is refl
untagged_cut kind (a ∷ b ∷ c ∷ []) is short = rw is refl
untagged_cut kind (a ∷ b ∷ c ∷ d ∷ bytes) is short = absurd (omega arith)

pub untagged_end : (kind : ℕ) (bytes : List ℕ) → is_tag kind ≡ false → untagged kind bytes ≡ Ok (record { kind = kind; bytes = bytes })
unfolding untagged
untagged_end kind [] is = rw is refl
untagged_end kind (a ∷ []) is = rw is refl
untagged_end kind (a ∷ b ∷ []) is = rw is refl
untagged_end kind (a ∷ b ∷ c ∷ []) is = rw is refl
untagged_end kind (a ∷ b ∷ c ∷ d ∷ bytes) is = rw is refl

-- one extension header, where behind passes over the others
abbrev step : (ℕ → List ℕ → Result Inner Skip) → ℕ → List ℕ → Bool → Bool → Bool → Result Inner Skip
step behind kind bytes is short cut =
    if is
    then (if short then Err Malformed
    else if cut then Err Malformed
    else behind (slice_index bytes 0) (drop (extension_length bytes) bytes))
    else Ok (record { kind = kind; bytes = bytes })

step_same : (f g : ℕ → List ℕ → Result Inner Skip) (kind : ℕ) (bytes : List ℕ) (is short cut : Bool) → (short ≡ false → f (slice_index bytes 0) (drop (extension_length bytes) bytes) ≡ g (slice_index bytes 0) (drop (extension_length bytes) bytes))
    → step f kind bytes is short cut ≡ step g kind bytes is short cut
step_same f g kind bytes false short cut same = refl
step_same f g kind bytes true true cut same = refl
step_same f g kind bytes true false true same = refl
step_same f g kind bytes true false false same = same refl

some_bytes : (bytes : List ℕ) → nat_lt (length bytes) 2 ≡ false → 2 ≤ length bytes
some_bytes [] e = absurd cc
some_bytes (a ∷ []) e = absurd cc
some_bytes (a ∷ b ∷ bytes) e = omega arith

-- more steps than bytes change nothing
pub behind_enough : (m n kind : ℕ) (bytes : List ℕ) → length bytes < m → length bytes < n → behind_extensions m kind bytes ≡ behind_extensions n kind bytes
unfolding behind_extensions
behind_enough zero n kind bytes p q = absurd (omega arith)
behind_enough (suc m) zero kind bytes p q = absurd (omega arith)
behind_enough (suc m) (suc n) kind bytes p q =
    step_same (behind_extensions m) (behind_extensions n) kind bytes (is_extension kind) (nat_lt (length bytes) 2) (nat_lt (length bytes) (extension_length bytes)) (λ e.
    let len = length-drop (extension_length bytes) bytes in
    let some = some_bytes bytes e in
    behind_enough m n (slice_index bytes 0) (drop (extension_length bytes) bytes) (omega arith) (omega arith))

pub behind_end : (kind : ℕ) (bytes : List ℕ) → is_extension kind ≡ false → behind_extensions (length bytes + 1) kind bytes ≡ Ok (record { kind = kind; bytes = bytes })
unfolding behind_extensions
behind_end kind bytes is =
    let k : length bytes + 1 ≡ suc (length bytes) = omega arith in
    ap (λ (n : ℕ). behind_extensions n kind bytes) k ∙ rw is refl

pub behind_short : (kind : ℕ) (bytes : List ℕ) → is_extension kind ≡ true → length bytes < 2 → behind_extensions (length bytes + 1) kind bytes ≡ Err Malformed
unfolding behind_extensions
behind_short kind bytes is short =
    let k : length bytes + 1 ≡ suc (length bytes) = omega arith in
    ap (λ (n : ℕ). behind_extensions n kind bytes) k ∙ rw (is, lt-ltb (length bytes) 2 short) refl

pub behind_cut : (kind : ℕ) (bytes : List ℕ) → is_extension kind ≡ true → 2 ≤ length bytes → length bytes < extension_length bytes → behind_extensions (length bytes + 1) kind bytes ≡ Err Malformed
unfolding behind_extensions
behind_cut kind bytes is some cut =
    let k : length bytes + 1 ≡ suc (length bytes) = omega arith in
    ap (λ (n : ℕ). behind_extensions n kind bytes) k ∙ rw (is, le-ltb (length bytes) 2 some, lt-ltb (length bytes) (extension_length bytes) cut) refl

pub behind_more : (kind : ℕ) (bytes : List ℕ) → is_extension kind ≡ true → 2 ≤ length bytes → extension_length bytes ≤ length bytes
    → behind_extensions (length bytes + 1) kind bytes ≡ behind_extensions (length (drop (extension_length bytes) bytes) + 1) (slice_index bytes 0) (drop (extension_length bytes) bytes)
unfolding behind_extensions
behind_more kind bytes is some whole =
    let k : length bytes + 1 ≡ suc (length bytes) = omega arith in
    let len = length-drop (extension_length bytes) bytes in
    ap (λ (n : ℕ). behind_extensions n kind bytes) k ∙ rw (is, le-ltb (length bytes) 2 some, le-ltb (length bytes) (extension_length bytes) whole) refl
    ∙ behind_enough (length bytes) (length (drop (extension_length bytes) bytes) + 1) (slice_index bytes 0) (drop (extension_length bytes) bytes) (omega arith) (omega arith)

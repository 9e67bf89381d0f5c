-- The first test that bytes fail, test by test.
use Rattle.std.proofs.Common.{◌≡◌, ℕ, ◌-◌, ◌≤◌, ◌<◌, true, false, List, length, Some, None, arith}
use Rattle.std.proofs.lemmas.Bool.Decides.{nat_tests}
use Rattle.rtp_wire.specs.declared.fault.RtpFault.TheVariants.{Short, Version, Csrc, Extension, Padding}
use Rattle.rtp_wire.specs.Packet.{version_of, has_padding, has_extension, csrcs_end, extension_end, header_end, last_byte, is_bad_padding, first_fault}
use Rattle.rtp_wire.specs.View.{IsHeaderEnd}

pub short : (bytes : List ℕ) → length bytes < 12 → first_fault bytes ≡ Some Short
unfolding first_fault
short bytes h = grind (arith, nat_tests)

pub version : (bytes : List ℕ) → 12 ≤ length bytes → (version_of bytes ≡ 2 → ⊥) → first_fault bytes ≡ Some Version
unfolding first_fault
version bytes h v = grind (arith, nat_tests)

pub csrc : (bytes : List ℕ) → 12 ≤ length bytes → version_of bytes ≡ 2 → length bytes < csrcs_end bytes → first_fault bytes ≡ Some Csrc
unfolding first_fault
csrc bytes h v c = grind (arith, nat_tests)

pub extension : (bytes : List ℕ) → 12 ≤ length bytes → version_of bytes ≡ 2 → csrcs_end bytes ≤ length bytes → length bytes < header_end bytes → first_fault bytes ≡ Some Extension
unfolding first_fault
extension bytes h v c x = grind (arith, nat_tests)

pub padding : (bytes : List ℕ) (end : ℕ) → IsHeaderEnd bytes end → has_padding bytes ≡ true → is_bad_padding (last_byte bytes) (length bytes - end) ≡ true → first_fault bytes ≡ Some Padding
unfolding first_fault
padding bytes end h p b = grind (arith, nat_tests, h.fixed, h.version, h.csrcs, h.whole, h.value)

pub none_without : (bytes : List ℕ) (end : ℕ) → IsHeaderEnd bytes end → has_padding bytes ≡ false → first_fault bytes ≡ None
unfolding first_fault
none_without bytes end h p = grind (arith, nat_tests, h.fixed, h.version, h.csrcs, h.whole, h.value)

pub none_with : (bytes : List ℕ) (end : ℕ) → IsHeaderEnd bytes end → is_bad_padding (last_byte bytes) (length bytes - end) ≡ false → first_fault bytes ≡ None
unfolding first_fault
none_with bytes end h b = grind (arith, nat_tests, h.fixed, h.version, h.csrcs, h.whole, h.value)

pub extension_cut : (bytes : List ℕ) → 12 ≤ length bytes → version_of bytes ≡ 2 → csrcs_end bytes ≤ length bytes → has_extension bytes ≡ true → length bytes < extension_end bytes → first_fault bytes ≡ Some Extension
extension_cut bytes h v c x lt = extension bytes h v c (rw x lt)

-- The tests of a header, one by one.
use Rattle.std.proofs.Common.{◌≡◌, ℕ, ◌-◌, ◌≤◌, ◌<◌, Bool, true, false, cond, List, length, Some, None, arith}
use Rattle.std.specs.Prelude.{◌==◌, ◌&&◌, ◌||◌, not}
use Rattle.std.proofs.lemmas.Bool.Decides.{nat_tests}
use Rattle.rtcp_wire.specs.declared.fault.RtcpFault.TheVariants.{Short, Version, Length, Padding, First}
use Rattle.rtcp_wire.specs.Compound.{version_of, has_padding, kind_of, size_of, final_byte, is_bad_count, is_bad_padding, is_bad_first, header_fault}
use Rattle.rtcp_wire.specs.Heads.{HasHeader}

pub short : (o : ℕ) (b : List ℕ) → length b < 4 → header_fault o b ≡ Some (Short o)
unfolding header_fault
short o b h = grind (arith, nat_tests)

pub version : (o : ℕ) (b : List ℕ) → 4 ≤ length b → (version_of b ≡ 2 → ⊥) → header_fault o b ≡ Some (Version o)
unfolding header_fault
version o b h v = grind (arith, nat_tests)

pub passes_end : (o : ℕ) (b : List ℕ) → 4 ≤ length b → version_of b ≡ 2 → length b < size_of b → header_fault o b ≡ Some (Length o)
unfolding header_fault
passes_end o b h v s = grind (arith, nat_tests)

pub padding : (o : ℕ) (b : List ℕ) → 4 ≤ length b → version_of b ≡ 2 → size_of b ≤ length b → is_bad_padding b ≡ true → header_fault o b ≡ Some (Padding o)
unfolding header_fault
padding o b h v s p = grind (arith, nat_tests)

pub first : (o : ℕ) (b : List ℕ) → 4 ≤ length b → version_of b ≡ 2 → size_of b ≤ length b → is_bad_padding b ≡ false → is_bad_first o (kind_of b) ≡ true → header_fault o b ≡ Some (First o)
unfolding header_fault
first o b h v s p f = grind (arith, nat_tests)

pub none : (o : ℕ) (b : List ℕ) → 4 ≤ length b → version_of b ≡ 2 → size_of b ≤ length b → is_bad_padding b ≡ false → is_bad_first o (kind_of b) ≡ false → header_fault o b ≡ None
unfolding header_fault
none o b h v s p f = grind (arith, nat_tests)

-- ---- what no fault tells

not_short : (o : ℕ) (b : List ℕ) → header_fault o b ≡ None → 4 ≤ length b
unfolding header_fault
not_short o b e = grind (arith, nat_tests)

not_long : (o : ℕ) (b : List ℕ) → header_fault o b ≡ None → size_of b ≤ length b
unfolding header_fault
not_long o b e = grind (arith, nat_tests)

pub good_version : (o : ℕ) (b : List ℕ) → header_fault o b ≡ None → version_of b ≡ 2
unfolding header_fault
good_version o b e = grind (arith, nat_tests)

pub good_first : (o : ℕ) (b : List ℕ) → header_fault o b ≡ None → is_bad_first o (kind_of b) ≡ false
unfolding header_fault
good_first o b e = grind (arith, nat_tests)

pub good_padding : (o : ℕ) (b : List ℕ) → header_fault o b ≡ None → is_bad_padding b ≡ false
unfolding header_fault
good_padding o b e = grind (arith, nat_tests)

room : (p long : Bool) (count body : ℕ) → (p && (not long || is_bad_count count body)) ≡ false → (cond p count 0) ≤ body
room true true count body e = grind (arith, nat_tests)
room true false count body e = absurd cc
room false long count body e = omega arith

pub has_header : (o : ℕ) (b : List ℕ) → header_fault o b ≡ None → HasHeader b
has_header o b e =
    record {
      long = not_short o b e;
      whole = not_long o b e;
      padding = omega (arith, room (has_padding b) (length b == size_of b) (final_byte b) (size_of b - 4) (good_padding o b e));
    }

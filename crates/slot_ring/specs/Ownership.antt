-- What a row of places owns and lends, at values of the row R: room where a place is empty, and else its value.
use Rattle.std.specs.Prelude.{ℕ, ◌+◌, ◌*◌, ◌^◌, List, [], ◌∷◌, length, Option, Some, None}
use Rattle.std.specs.Mem.{type_size}
use base.Fraction.{full_share}
use base.Fml.{Lft, Fml, ftrue, ffalse, fsep, flt, froom}
use mir.Syntax.{Ty, ty_array}
use mir.Raw.{raw}
use denote.RattleType.{RattleType}
use denote.Memory.{lone, part_at, shared_of}
use denote.Sharing.{nothing, said, beside}
use denote.RawPtr.{Ptr, block_ptr, null_ptr}

module _ (R : RattleType) where
  -- the place o bytes into the block b
  abbrev pub place_owned : ℕ → ℕ → Option R.Denot → Fml
  place_owned b o None = froom (raw (lone R.mir)) b o
  place_owned b o (Some x) = part_at R full_share x b o

  -- the places from o bytes into the block b on, side by side
  abbrev pub places_owned : ℕ → ℕ → List (Option R.Denot) → Fml
  places_owned b o [] = ftrue
  places_owned b o (c ∷ cs) = fsep (place_owned b o c) (places_owned b (o + type_size R) cs)

  abbrev pub place_shared : ℕ → ℕ → Option R.Denot → Lft → Fml
  place_shared b o None = nothing
  place_shared b o (Some x) = shared_of R x b o

  abbrev pub places_shared : ℕ → ℕ → List (Option R.Denot) → Lft → Fml
  places_shared b o [] = nothing
  places_shared b o (c ∷ cs) = beside (place_shared b o c) (places_shared b (o + type_size R) cs)

  -- so many places take fewer than 2 ^ 63 bytes
  abbrev pub in_memory : ℕ → Fml
  in_memory n = flt (n * type_size R) (2 ^ 63)

  -- the right to give a block of n places back
  abbrev pub block_right : (Ty → Ptr → Fml) → Ptr → ℕ → Fml
  block_right token p n = token (raw (ty_array (lone R.mir) n)) p

  -- the places and the right to give their block back
  abbrev pub row_owned : (Ty → Ptr → Fml) → Ptr → List (Option R.Denot) → Fml
  row_owned token (block_ptr b o) cs = fsep (in_memory (length cs)) (fsep (places_owned b o cs) (block_right token (block_ptr b o) (length cs)))
  row_owned token null_ptr cs = ffalse

  abbrev pub row_shared : Ptr → List (Option R.Denot) → Lft → Fml
  row_shared (block_ptr b o) cs = beside (said (in_memory (length cs))) (beside (places_shared b o cs) nothing)
  row_shared null_ptr cs = said ffalse

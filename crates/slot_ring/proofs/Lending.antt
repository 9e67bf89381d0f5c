-- A `&` to a row lends the values in it, and nothing of its empty places or of the right to its block. Assumes `Logic`.
use Prim.Native.Nat.{ℕ, ◌+◌}
use mathlib.Core.List.{List, [], ◌∷◌}
use Rattle.std.specs.Prelude.{length, Option, Some, None}
use Rattle.std.specs.Mem.{type_size}
use seplogic.Ra.Ura.{Ura}
use base.Fml.{Lft, Fml, Incl, ftrue, ffalse, fsep}
use mir.Syntax.{Ty}
use types.Logic.{Logic}
use denote.RattleType.{RattleType, RowLaws}
use denote.Param.Laws.{Laws}
use denote.RawPtr.{Ptr, block_ptr, null_ptr}
use denote.Shares.{Shares-less}
use denote.Sharing.{ShrLaws, nothing, said, beside}
use denote.SharingLaws.{nothing_shr_laws, said_shr_laws, beside_shr_laws}
use denote.Struct.Lending.{Lends, Lends-nothing, Lends-said, Lends-false, Lends-both}
use Rattle.slot_ring.specs.Ownership.{place_owned, places_owned, place_shared, places_shared, in_memory, block_right, row_owned, row_shared}

module _ (R : RattleType) (given : RowLaws R) where
  place_laws : (c : Option R.Denot) (b o : ℕ) → ShrLaws (place_shared R b o c)
  place_laws None b o = nothing_shr_laws
  place_laws (Some x) b o = given x b o

  places_laws : (cs : List (Option R.Denot)) (b o : ℕ) → ShrLaws (places_shared R b o cs)
  places_laws [] b o = nothing_shr_laws
  places_laws (c ∷ cs) b o = beside_shr_laws _ _ (place_laws c b o) (places_laws cs b (o + type_size R))

  pub row_laws : (p : Ptr) (cs : List (Option R.Denot)) → ShrLaws (row_shared R p cs)
  row_laws null_ptr cs = said_shr_laws ffalse tt
  row_laws (block_ptr b o) cs =
      beside_shr_laws _ _ (said_shr_laws (in_memory R (length cs)) tt) (beside_shr_laws _ _ (places_laws cs b o) nothing_shr_laws)

module _ (R : RattleType) (L : Laws R) {M : Type 1} {𝓤 : Ura M} (𝓛 : Logic 𝓤) (ρ : Lft) (within : Incl ρ R.lives) where
  lends_place : (c : Option R.Denot) (b o : ℕ) → Lends 𝓛 (place_owned R b o c) (place_shared R b o c) ρ
  lends_place None b o = Lends-nothing 𝓛 (place_owned R b o None) ρ
  lends_place (Some x) b o = λ κ ts. Shares-less 𝓛 R R.lives ρ within (L.shares 𝓛) x κ ts b o

  lends_places : (cs : List (Option R.Denot)) (b o : ℕ) → Lends 𝓛 (places_owned R b o cs) (places_shared R b o cs) ρ
  lends_places [] b o = Lends-nothing 𝓛 ftrue ρ
  lends_places (c ∷ cs) b o =
      let on = o + type_size R in
      Lends-both 𝓛 (place_owned R b o c) (places_owned R b on cs) (place_shared R b o c) (places_shared R b on cs) ρ (lends_place c b o) (lends_places cs b on)

  pub lends_row : (token : Ty → Ptr → Fml) (p : Ptr) (cs : List (Option R.Denot)) → Lends 𝓛 (row_owned R token p cs) (row_shared R p cs) ρ
  lends_row token null_ptr cs = Lends-false 𝓛 (said ffalse) ρ
  lends_row token (block_ptr b o) cs =
      let small = in_memory R (length cs) in let right = block_right R token (block_ptr b o) (length cs) in
      Lends-both 𝓛 small (fsep (places_owned R b o cs) right) (said small) (beside (places_shared R b o cs) nothing) ρ (Lends-said 𝓛 small tt ρ)
      (Lends-both 𝓛 (places_owned R b o cs) right (places_shared R b o cs) nothing ρ (lends_places cs b o) (Lends-nothing 𝓛 right ρ))

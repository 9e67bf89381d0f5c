-- A `&` to a row reaches each value in it. Assumes `Logic`.
use mathlib.Core.List.{[], ◌++◌}
use base.Fml.{Incl-trans}
use contract.BorrowLft.{meet_⊑_left}
use denote.RattleType.{RattleType}
use denote.RawPtr.{RawPtr}
use denote.Param.Laws.{Laws}
use denote.Param.Shared.{copy_shared}
use denote.Struct.Field.{RawPtr-field}
use denote.Struct.Laws.{RawPtr-copy, field_copy}
use denote.Struct.Lending.{of_Lends}
use Rattle.std.specs.declared.alloc.Allocator.{Ghosts}
use Rattle.std.specs.contracts.marker.PhantomData as marker
use Rattle.slot_ring.specs.contracts.slots.Slots as C
use Rattle.slot_ring.proofs.slots.Slots.TheLaw.Statement.{statement}
use Rattle.slot_ring.proofs.Lending.{row_laws, lends_row}

pub shares : (R A : RattleType) (g : Ghosts A.Denot) (L : Laws R) (K : Laws A) → statement R A g L K
shares R A g L K =
    of_Lends (C.struct R A g) (C.the_codes R.Denot A.Denot R.coded A.coded (marker.the_row RawPtr).coded) (C.the_heap R A g) (C.the_lent R A g)
    (λ s p. row_laws R L.shr_laws s.start s.places)
    (copy_shared RawPtr-field RawPtr-copy, (copy_shared (marker.the_field RawPtr) (field_copy (marker.the_type RawPtr) tt), tt))
    (λ M 𝓤 𝓛 s p. lends_row R L 𝓛 (C.the_row R A g).lives (Incl-trans (meet_⊑_left (R.lives ++ (A.lives ++ [])) _) (meet_⊑_left R.lives (A.lives ++ []))) (g.dealloc_token s.lender) s.start s.places)

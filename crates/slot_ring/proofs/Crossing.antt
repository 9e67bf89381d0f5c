-- A row may cross threads where its values may.
use Prim.Native.Nat.{ℕ, ◌+◌}
use mathlib.Core.List.{List, [], ◌∷◌}
use Rattle.std.specs.Prelude.{Option, Some, None}
use Rattle.std.specs.Mem.{type_size}
use base.Fraction.{full_share}
use base.Fml.{Fml}
use base.Shift.{Keyless}
use mir.Syntax.{Ty}
use denote.RattleType.{RattleType}
use denote.RawPtr.{Ptr, block_ptr, null_ptr}
use denote.Struct.Struct.{exits_of}
use denote.Struct.Owning.{shape, fields, to}
use denote.Exit.{Exit, unchanged, leaves, hidden, under}
use denote.Param.Send.{IsSend, IsSync, Frees, Quiet, Common, AllSend, part_keyless, owning_send, struct_send, struct_sync, sendable}
use Rattle.std.specs.declared.alloc.Allocator.{Ghosts}
use Rattle.slot_ring.specs.Ownership.{places_owned, places_shared, row_owned, row_shared}
use Rattle.slot_ring.specs.contracts.slots.Slots as Slots

-- an owner whose fields leave nothing behind leaves nothing itself
owner_quiet : {D X : Type 0} (to : D → X) (e : Exit X) → Quiet e → Quiet (hidden (under to e))
owner_quiet to unchanged q = λ x w. tt
owner_quiet to (leaves L l S s r) q = λ d. q (to d)

module _ (R : RattleType) (sent : IsSend R) where
  places_keyless : (cs : List (Option R.Denot)) (b o : ℕ) → Keyless (places_owned R b o cs)
  places_keyless [] b o = tt
  places_keyless (None ∷ cs) b o = (tt, places_keyless cs b (o + type_size R))
  places_keyless (Some x ∷ cs) b o = (part_keyless R sent full_share x b o, places_keyless cs b (o + type_size R))

  row_keyless : (token : Ty → Ptr → Fml) → ((τ : Ty) (p : Ptr) → Keyless (token τ p)) → (p : Ptr) (cs : List (Option R.Denot)) → Keyless (row_owned R token p cs)
  row_keyless token free null_ptr cs = tt
  row_keyless token free (block_ptr b o) cs = (tt, (places_keyless cs b o, free _ (block_ptr b o)))

  pub slots_send : (A : RattleType) (g : Ghosts A.Denot) → Frees g g.dealloc_token → IsSend (Slots.the_row R A g)
  slots_send A g frees =
      let O = Slots.the_type R A g in let each : AllSend (fields O) = (search sendable, (search sendable, tt)) in
      owning_send O each (λ s. row_keyless (g.dealloc_token s.lender) (frees.frees s.lender) s.start s.places)
      (λ k. owner_quiet (to O) (exits_of k (fields O)) ((struct_send (shape O) each).leaving k))

module _ (R : RattleType) (both : IsSync R) where
  places_common : (cs : List (Option R.Denot)) (b o : ℕ) → Common (places_shared R b o cs)
  places_common [] b o κ = tt
  places_common (None ∷ cs) b o κ = (tt, places_common cs b (o + type_size R) κ)
  places_common (Some x ∷ cs) b o κ = (both.shared x b o κ, places_common cs b (o + type_size R) κ)

  row_common : (p : Ptr) (cs : List (Option R.Denot)) → Common (row_shared R p cs)
  row_common null_ptr cs κ = tt
  row_common (block_ptr b o) cs κ = (tt, (places_common cs b o κ, tt))

  pub slots_sync : (A : RattleType) (g : Ghosts A.Denot) → IsSync (Slots.the_row R A g)
  slots_sync A g =
      let O = Slots.the_type R A g in
      record { shared = λ s b o κ. ((struct_sync (shape O) (search sendable, (search sendable, tt))).shared (to O s) b o κ, row_common s.start s.places κ) }

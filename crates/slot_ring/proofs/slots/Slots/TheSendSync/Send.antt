use denote.RattleType.{RattleType}
use denote.Param.Send.{IsSend, Frees}
use Rattle.std.specs.declared.alloc.Allocator.{Ghosts}
use Rattle.slot_ring.proofs.Crossing.{slots_send}
use Rattle.slot_ring.specs.contracts.slots.Slots.{the_row}

pub send : (R A : RattleType) (g : Ghosts A.Denot) → IsSend R → IsSend A → Frees g g.dealloc_token → IsSend (the_row R A g)
send R A g sent lender frees = slots_send R sent A g frees

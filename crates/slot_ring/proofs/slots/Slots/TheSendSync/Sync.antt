use denote.RattleType.{RattleType}
use denote.Param.Send.{IsSync}
use Rattle.std.specs.declared.alloc.Allocator.{Ghosts}
use Rattle.slot_ring.proofs.Crossing.{slots_sync}
use Rattle.slot_ring.specs.contracts.slots.Slots.{the_row}

pub sync : (R A : RattleType) (g : Ghosts A.Denot) → IsSync R → IsSync (the_row R A g)
sync R A g both = slots_sync R both A g

-- What an H.264 payload is by itself.
use Rattle.std.specs.Prelude.{◌≡◌, ◌≤◌, Bool, true, false, List, ℕ, [], ◌∷◌, length, drop, Some, None, is_some, Result, Ok, Err}
use Rattle.depay.specs.declared.outcome.Cause.{Cause}
use Rattle.depay.specs.declared.outcome.Format.TheVariants.{H264}
use Rattle.depay.specs.declared.payload.Packet.{Packet as Given}
use Rattle.depay.specs.declared.payload.Shape.{Shape}
use Rattle.depay.specs.declared.payload.Shape.TheVariants.{Single, Aggregate, Start}
use Rattle.depay.specs.Aggregate.{units_in, units_of}
use Rattle.depay.specs.Payload.{fault_of, h264_units, begins}
use Rattle.depay.specs.Fragments.{Packet, packet}

abbrev pub packet_of : Given → Packet
packet_of p = packet p.number p.rtp p.pts p.payload.now

-- The payload has no fault and holds these units, and whether it begins a fragmented unit.
pub record Holds (b : List ℕ) (held : List (List ℕ)) (begun : Bool) : Type 0 where
  pub fault : fault_of H264 b ≡ None
  pub units : h264_units b ≡ held
  pub start : begins b ≡ begun

pub record Fails (b : List ℕ) (cause : Cause) : Type 0 where
  pub fault : fault_of H264 b ≡ Some cause
  pub start : begins b ≡ false

abbrev pub IsShape : List ℕ → Result Shape Cause → Type 0
IsShape b (Ok Single) = Holds b (b ∷ []) false
IsShape b (Ok Aggregate) = Holds b (units_of b) false × (is_some (units_in (drop 1 b)) ≡ true) × (1 ≤ length b)
IsShape b (Ok Start) = Holds b [] true × (2 ≤ length b)
IsShape b (Err cause) = Fails b cause

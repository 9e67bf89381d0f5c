-- The causes of bad lines as words, and the sooner of two faults.
use Rattle.std.specs.Prelude.{ℕ, List, codes, nat_lt, Option, Some, None, fold, if◌then◌else◌}
use Rattle.sdp_profile.specs.declared.fault.SdpCause.{SdpCause}
use Rattle.sdp_profile.specs.declared.fault.SdpCause.TheVariants.{Size, Version, Line, Media}
use Rattle.sdp_profile.specs.declared.fault.SdpCause.TheVariants.{Number, Session, Port, Apt, Ssrc}
use Rattle.sdp_profile.specs.declared.fault.SdpCause.TheVariants.{Many}
use Rattle.sdp_profile.specs.declared.fault.Fault.{Fault}

-- the program's word
abbrev pub word_of : SdpCause → List ℕ
word_of Size = codes "size"
word_of Version = codes "version"
word_of Line = codes "line"
word_of Media = codes "media"
word_of Number = codes "number"
word_of Session = codes "session"
word_of Port = codes "port"
word_of Apt = codes "apt"
word_of Ssrc = codes "ssrc"
word_of Many = codes "many"

-- the fault of the lower line, of the first where the lines are the same
abbrev pub sooner : Option Fault → Option Fault → Option Fault
sooner None b = b
sooner (Some a) None = Some a
sooner (Some a) (Some b) = if nat_lt b.line a.line then Some b else Some a

abbrev pub soonest : List (Option Fault) → Option Fault
soonest faults = fold sooner None faults

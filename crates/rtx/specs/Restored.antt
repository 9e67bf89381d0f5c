-- What a receiver stands for: the requests that were noted and the packets that came, the latest first.
use Rattle.std.specs.Prelude.{◌≡◌, ℕ, Bool, true, false, List, [], ◌∷◌, ◌++◌, Result, Ok, Err}
use Rattle.circular_buffer.specs.Buffer.{keep_last}
use Rattle.rtp_units.specs.declared.shared.RtxLine.{RtxLine}
use Rattle.rtp_units.specs.declared.shared.Fid.{Fid}
use Rattle.rtp_wire.specs.Packet.{Packet}
use Rattle.rtx.specs.declared.requests.Request.{Request}
use Rattle.rtx.specs.declared.requests.Association.{Association}
use Rattle.rtx.specs.declared.receiver.Original.{Original}
use Rattle.rtx.specs.declared.answers.Restored.{Restored}
use Rattle.rtx.specs.declared.answers.RtxFault.{RtxFault}
use Rattle.rtx.specs.declared.answers.RtxFault.TheVariants.{Short, UnknownPt, UnknownSsrc, Ambiguous, OutOfMemory}
use Rattle.rtx.specs.Restoring.{Setting, setting, Receiving, receiving, found, associations_after}

-- a request that was noted, or a packet of a session that was to be restored
pub data Call : Type 0 where
  Notes : Request → Call
  Restoring : ℕ → Packet → Call

-- all requests that were noted, the latest last
abbrev pub noted : List Call → List Request
noted [] = []
noted (Notes r ∷ before) = noted before ++ r ∷ []
noted (Restoring session p ∷ before) = noted before

-- the requests that are kept: the last 1,024
abbrev pub requests_of : List Call → List Request
requests_of calls = keep_last 1024 (noted calls)

-- a packet whose stream was found by a request made an association
abbrev pub associations_by : List Association → ℕ → Packet → Result Original RtxFault → List Association
associations_by associations session p (Ok o) = associations_after associations session p o
associations_by associations session p (Err fault) = associations

-- the associations that these calls made, in order
abbrev pub associations_of : Setting → List Call → List Association
associations_of s [] = []
associations_of s (Notes r ∷ before) = associations_of s before
associations_of s (Restoring session p ∷ before) =
    associations_by (associations_of s before) session p (found (receiving s (requests_of before) (associations_of s before)) session p)

-- A receiver with this setting went through these calls.
abbrev pub StandsFor : Receiving → Setting → List Call → Type 0
StandsFor r s calls = r ≡ receiving s (requests_of calls) (associations_of s calls)

-- A call that memory was refused adds nothing.
abbrev pub calls_after : Call → List Call → Result Restored RtxFault → List Call
calls_after call calls (Ok x) = call ∷ calls
calls_after call calls (Err Short) = call ∷ calls
calls_after call calls (Err UnknownPt) = call ∷ calls
calls_after call calls (Err UnknownSsrc) = call ∷ calls
calls_after call calls (Err (Ambiguous first second)) = call ∷ calls
calls_after call calls (Err OutOfMemory) = calls

-- ---- where no request was noted

-- a receiver with this map after these calls
abbrev pub after_calls : List RtxLine → List Fid → Bool → List Call → Receiving
after_calls lines fids by_request calls =
    receiving (setting lines fids by_request) (requests_of calls)
    (associations_of (setting lines fids by_request) calls)

-- Where no request was noted, a receiver that finds streams by request finds what one finds that
-- doesn't.
abbrev pub IsUnasked : Type 0
IsUnasked =
    (lines : List RtxLine) (fids : List Fid) (calls : List Call) (session : ℕ) (p : Packet)
    → noted calls ≡ []
    → found (after_calls lines fids false calls) session p
    ≡ found (after_calls lines fids true calls) session p

-- Restored packets (RFC 4588), by what went on from the sessions and what the lanes asked for.
use Rattle.std.specs.Prelude.{ℕ, if◌then◌else◌, true, List, filter_map, Option, Some, None, Result}
use Rattle.rtp_wire.specs.Packet.{Packet as View}
use Rattle.rtx.specs.declared.receiver.Original.{Original}
use Rattle.rtx.specs.declared.answers.RtxFault.{RtxFault}
use Rattle.rtx.specs.Restoring.{Receiving, found}
use Rattle.rtx.specs.Restored.{Call, Notes, Restoring, after_calls}
use Rattle.script_lang.specs.Contents.{Contents}
use Rattle.front_model.specs.Moves.{Move, Released, Reported, Asked}
use Rattle.front_model.specs.Types.{is_rtx}

-- What a receiver is called with: packets of a retransmission type, and requests.
abbrev pub call_of : Contents → Move → Option Call
call_of c (Released session stamp p) =
    if is_rtx c session p.pt then Some (Restoring session p) else None
call_of c (Reported session ssrc ntp rtp) = None
call_of c (Asked r) = Some (Notes r)

abbrev pub calls : Contents → List Move → List Call
calls c moves = filter_map (call_of c) moves

-- Streams are found by requests too; where none was noted, that finds no more.
abbrev pub receiver : Contents → List Call → Receiving
receiver c calls = after_calls c.rtx c.fids true calls

-- what a retransmission carries, or the first test that it fails
abbrev pub original : Contents → List Move → ℕ → View → Result Original RtxFault
original c moves session p = found (receiver c (calls c moves)) session p

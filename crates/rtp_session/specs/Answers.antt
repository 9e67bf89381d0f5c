-- What a session's answers tell, as the notes of the definitions, and what is to be answered.
use Rattle.std.specs.Prelude.{ℕ, List, [], ◌∷◌, ◌++◌, map, Option, Some, None, Result, Ok, Err}
use Rattle.rtcp_wire.specs.declared.packet.Rtcp.{Rtcp as RtcpPacket}
use Rattle.rtcp_wire.specs.declared.fault.RtcpFault.{RtcpFault}
use Rattle.source_table.specs.declared.source.Heard.{Heard}
use Rattle.source_table.specs.declared.answers.Refuse.{Refuse}
use Rattle.source_table.specs.declared.answers.Refuse.TheVariants as refuse
use Rattle.timeline.specs.declared.line.Word.{Word}
use Rattle.timeline.specs.declared.line.Word.TheVariants as word
use Rattle.front_model.specs.Given.{Setting, Given, Rtp, Rtcp}
use Rattle.front_model.specs.Probation.{Kept}
use Rattle.front_model.specs.Notes.{Note, Holds, Drops, Releases, NewName, Synced, Left, Gone, Says, broken as is_broken, notes}
use Rattle.front_model.specs.Notes.{Stray as is_stray}
use Rattle.rtp_session.specs.declared.answers.DropCause.{DropCause}
use Rattle.rtp_session.specs.declared.answers.DropCause.TheVariants.{Own, Sources, Collision}
use Rattle.rtp_session.specs.declared.answers.SessionOut.{SessionOut}
use Rattle.rtp_session.specs.declared.answers.SessionOut.TheVariants.{Held, Released, Dropped}
use Rattle.rtp_session.specs.declared.answers.SessionNote.{SessionNote}
use Rattle.rtp_session.specs.declared.answers.SessionNote.TheVariants.{Cname, Sr, Stray, Bye}
use Rattle.rtp_session.specs.declared.answers.Reported.{Reported}

-- ---- a packet of RTP

abbrev pub cause_word : DropCause → Word
cause_word Own = word.Own
cause_word Sources = word.Sources
cause_word (Collision first other) = word.Collision

-- what an answer tells of the packet that came
abbrev pub out_notes : Kept → SessionOut → List Note
out_notes p (Held broken) = map is_broken broken.items ++ Holds p ∷ []
out_notes p (Released waited packet) = map Releases waited.items ++ Releases packet ∷ []
out_notes p (Dropped cause) = Drops p (cause_word cause) ∷ []

abbrev pub cause_in : SessionOut → Option DropCause
cause_in (Held broken) = None
cause_in (Released waited packet) = None
cause_in (Dropped cause) = Some cause

-- the cause, with the addresses of a collision, for which the table of sources refuses a packet
abbrev pub cause_of : Result Heard Refuse → Option DropCause
cause_of (Ok heard) = None
cause_of (Err refuse.Own) = Some Own
cause_of (Err refuse.LimitSources) = Some Sources
cause_of (Err (refuse.Collision first other)) = Some (Collision first other)
cause_of (Err refuse.OutOfMemory) = None

-- what the table answered to a packet, where memory served
abbrev pub as_heard : Result Heard DropCause → Result Heard Refuse
as_heard (Ok heard) = Ok heard
as_heard (Err Own) = Err refuse.Own
as_heard (Err Sources) = Err refuse.LimitSources
as_heard (Err (Collision first other)) = Err (refuse.Collision first other)

-- ---- a datagram of RTCP

abbrev pub told : SessionNote → Note
told (Cname ssrc text) = NewName ssrc text
told (Sr ssrc ntp_ns rtp) = Synced ssrc ntp_ns rtp
told (Stray ssrc) = is_stray ssrc
told (Bye ssrc) = Left ssrc

-- what is to be told of a datagram: the notes of its packets, or why it has none
abbrev pub compound_notes : Setting → List Given → ℕ → Result (List RtcpPacket) RtcpFault → Result (List Note) RtcpFault
compound_notes s older now (Ok packets) = Ok (notes s older (Rtcp now packets))
compound_notes s older now (Err fault) = Err fault

-- what a session was given once it came: nothing, where it has no packets
abbrev pub given_after : List Given → ℕ → Result (List RtcpPacket) RtcpFault → List Given
given_after older now (Ok packets) = Rtcp now packets ∷ older
given_after older now (Err fault) = older

-- ---- a report time

abbrev pub report_notes : Reported → List Note
report_notes r = map Gone r.gone.items ++ Says r.bytes ∷ []

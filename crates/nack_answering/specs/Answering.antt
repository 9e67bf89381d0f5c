-- The answers to a capture's requests: what each finds in the records before it.
use Rattle.std.specs.Prelude.{ℕ, nat_eq, Bool, List, [], ◌∷◌}
use Rattle.std.specs.Prelude.{reverse, find, Option, Some, None, option_map, unwrap_or}
use Rattle.std.specs.List.{flat_map}
use Rattle.pcap_file.specs.Capture.{Record}
use Rattle.pcap_file.specs.Writing.{written_record}
use Rattle.script_lang.specs.Contents.{Contents}
use Rattle.script_lang.specs.declared.script.SessionLine.{SessionLine}
use Rattle.rtx.specs.Answering.{Call, answered}
use Rattle.rtx.specs.Sending.{Setting, setting}
use Rattle.rtx.specs.declared.answers.Retransmission.{Retransmission}
use Rattle.front_model.specs.Records.{holding}
use Rattle.nack_answering.specs.declared.request.Request.{Request}
use Rattle.nack_answering.specs.Asking.{calls_in, asks_for}
use Rattle.loopback_frame.specs.Frames.{frame_of}

-- what a script says of answers: its sessions with their ports, how many packets of a stream are
-- remembered, and which types and streams carry retransmissions of which
pub record Rules : Type 0 where
  pub sessions : List SessionLine
  pub setting : Setting

abbrev pub rules_of : Contents → Rules
rules_of c = record {
  sessions = c.sessions;
  setting = setting c.settings.history c.rtx c.fids;
}

-- ---- the records before a request

-- what the records did to the history, the latest first
abbrev pub calls : List SessionLine → List Record → List Call
calls sessions records = reverse (flat_map (λ r. calls_in (holding sessions r)) records)

-- the retransmissions that answer these requests, one after the other, behind these calls
abbrev pub answers_behind : Setting → List Call → List Request → List (Option Retransmission)
answers_behind s before [] = []
answers_behind s before (r ∷ rs) =
    answered s before r.session r.ssrc r.seq ∷ answers_behind s (asks_for r ∷ before) rs

-- ---- the records that carry the answers

abbrev pub has_number : ℕ → SessionLine → Bool
has_number session l = nat_eq l.session session

-- A script declares each session that carries retransmissions.
abbrev pub rtp_port : List SessionLine → ℕ → ℕ
rtp_port sessions session =
    unwrap_or (option_map (λ l. l.rtp) (find (has_number session) sessions)) 0

-- at this time, from the port for RTP of the session that carries it
abbrev pub answer_record : List SessionLine → ℕ → Retransmission → List ℕ
answer_record sessions time x = written_record time (frame_of (rtp_port sessions x.session) x.bytes)

abbrev pub answer_piece : List SessionLine → ℕ → Option Retransmission → List ℕ
answer_piece sessions time None = []
answer_piece sessions time (Some x) = answer_record sessions time x

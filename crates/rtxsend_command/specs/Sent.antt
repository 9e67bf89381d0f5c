-- The capture of retransmissions.
use Rattle.std.specs.Prelude.{ℕ, zero, suc, List, [], ◌∷◌, ◌++◌, flat_map}
use Rattle.pcap_file.specs.Capture.{Record}
use Rattle.pcap_file.specs.Writing.{written_header}
use Rattle.timeline.specs.Times.{time_after}
use Rattle.script_lang.specs.Contents.{Contents}
use Rattle.rtx.specs.Answering.{Call}
use Rattle.front_model.specs.Records.{holding}
use Rattle.command_core.specs.Output.{Output}
use Rattle.nack_answering.specs.declared.request.Request.{Request}
use Rattle.nack_answering.specs.Asking.{requests_in}
use Rattle.nack_answering.specs.Answering.{Rules, rules_of, calls, answers_behind, answer_piece}

-- raw IP, as pcap numbers link types
abbrev pub raw_ip : ℕ
raw_ip = 101

-- the records that answer these requests at this time, behind these calls
abbrev pub pieces_of : Rules → ℕ → List Call → List Request → List ℕ
pieces_of rules time before requests =
    flat_map (answer_piece rules.sessions time) (answers_behind rules.setting before requests)

-- those for a record's requests, at the record's time, behind these records
abbrev pub answers_to : Rules → List Record → Record → List ℕ
answers_to rules before r =
    pieces_of rules (time_after (before ++ r ∷ [])) (calls rules.sessions before)
    (requests_in (holding rules.sessions r))

-- the same of records one after the other, behind these ones
abbrev pub answers_from : Rules → List Record → List Record → List ℕ
answers_from rules before [] = []
answers_from rules before (r ∷ rs) =
    answers_to rules before r ++ answers_from rules (before ++ r ∷ []) rs

-- the whole capture: its header, and the answers
unfoldable pub sent_whole : Rules → List Record → List ℕ
sent_whole rules records = written_header raw_ip ++ answers_from rules [] records

-- the header, before the first record
abbrev pub header_behind : ℕ → List ℕ
header_behind zero = written_header raw_ip
header_behind (suc n) = []

-- The header comes with the first record.
unfoldable pub sent_part : Rules → List Record → List ℕ
sent_part rules [] = []
sent_part rules (r ∷ rs) = written_header raw_ip ++ answers_from rules [] (r ∷ rs)

abbrev pub sent_by : Rules → Output
sent_by rules = record { part = sent_part rules; whole = sent_whole rules }

abbrev pub rtxsend_output : Contents → Output
rtxsend_output c = sent_by (rules_of c)

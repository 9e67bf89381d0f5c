-- The accepted packets of a segment with their numbers, and the packets that are put aside.
--
-- A segment begins at the start, at the end of a flush, and at a packet that is answered Restart.
use Rattle.std.specs.Prelude.{ℕ, ◌+◌, ◌%◌, ◌==◌, ◌||◌, Bool, true, false, List, [], ◌∷◌, max, min, Option, Some, None, unwrap_or, if◌then◌else◌}
use Rattle.rtp_units.specs.Numbers.{ext16}
use Rattle.jitter_model.specs.declared.Arrival.{Arrival}
use Rattle.jitter_model.specs.declared.Origin.{Origin}
use Rattle.jitter_model.specs.declared.Origin.TheVariants.{Original, Retransmission}
use Rattle.jitter_model.specs.declared.Verdict.{Verdict}
use Rattle.jitter_model.specs.declared.Verdict.TheVariants.{Accepted, Aside, Restart, Late, Duplicate, Full}
use Rattle.jitter_model.specs.declared.Entry.TheVariants.{Push, FlushStart, FlushStop}
use Rattle.jitter_model.specs.History.{History, is_flushing}

-- an accepted packet with its number
pub record Taken : Type 0 where
  pub number : ℕ
  pub arrival : Arrival

-- the greatest number of these packets
abbrev pub top : List Taken → Option ℕ
top [] = None
top (p ∷ ps) = Some (max p.number (unwrap_or (top ps) 0))

-- the least number of these packets
abbrev pub least : List Taken → Option ℕ
least [] = None
least (p ∷ ps) = Some (min p.number (unwrap_or (least ps) p.number))

-- whether a packet of this number is among these
abbrev pub has : List Taken → ℕ → Bool
has [] n = false
has (p ∷ ps) n = n == p.number || has ps n

-- the extended sequence number of a packet, where this is the greatest number before it: the first packet of a segment is given 65536 more than its 16 bits, every later one the number with its 16 bits that is nearest to the greatest
abbrev pub number_from : Option ℕ → ℕ → ℕ
number_from None seq = 65536 + seq
number_from (Some t) seq = ext16 t seq

-- these packets and one that is accepted after them
abbrev pub with_taken : List Taken → Arrival → List Taken
with_taken ps a = record { number = number_from (top ps) a.packet.seq; arrival = a } ∷ ps

abbrev pub is_original : Origin → Bool
is_original Original = true
is_original Retransmission = false

-- whether the sequence number is one above that of the newest packet of a run
abbrev pub follows : List Arrival → Arrival → Bool
follows [] a = false
follows (b ∷ run) a = a.packet.seq == (b.packet.seq + 1) % 65536

-- the run after a far packet: it joins the run that it follows, and begins a new one otherwise
abbrev pub joined : List Arrival → Arrival → List Arrival
joined run a = if follows run a then a ∷ run else a ∷ []

-- the run after a packet that isn't far: an original ends it
abbrev pub ended_by : List Arrival → Arrival → List Arrival
ended_by run a = if is_original a.origin then [] else run

-- the run after a push with this verdict
abbrev pub run_after : List Arrival → Arrival → Verdict → List Arrival
run_after run a Aside = joined run a
run_after run a (Restart dropped) = []
run_after run a Accepted = ended_by run a
run_after run a Late = ended_by run a
run_after run a Duplicate = ended_by run a
run_after run a Full = ended_by run a
run_after run a _ = run

-- the packets that are put aside, a run of far packets with consecutive sequence numbers, the newest first
abbrev pub aside : History → List Arrival
aside [] = []
aside (Push a v n d ∷ h) = run_after (aside h) a v
aside (FlushStart d ∷ h) = []
aside (FlushStop ∷ h) = if is_flushing h then [] else aside h
aside (_ ∷ h) = aside h

-- the accepted packets of a segment that these open, the newest first
abbrev pub opened : List Arrival → List Taken
opened [] = []
opened (a ∷ run) = with_taken (opened run) a

-- the accepted packets of the segment after a push
abbrev pub taken_after : List Taken → List Arrival → Arrival → Verdict → List Taken
taken_after ps run a Accepted = with_taken ps a
taken_after ps run a (Restart dropped) = opened (joined run a)
taken_after ps run a _ = ps

-- the accepted packets of the segment, the newest first
abbrev pub accepted : History → List Taken
accepted [] = []
accepted (Push a v n d ∷ h) = taken_after (accepted h) (aside h) a v
accepted (FlushStop ∷ h) = if is_flushing h then [] else accepted h
accepted (_ ∷ h) = accepted h

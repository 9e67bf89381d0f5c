-- Calls of a buffer in the order of time, for the examples.
use Rattle.std.specs.Prelude.{ℕ, zero, suc, false, List, [], ◌∷◌, ◌++◌, Option, Some, None, nat_le, if◌then◌else◌}
use Rattle.rtp_units.specs.declared.SyncInfo.{SyncInfo}
use Rattle.jitter_model.specs.declared.Settings.{Settings}
use Rattle.jitter_model.specs.declared.Arrival.{Arrival}
use Rattle.jitter_model.specs.declared.Origin.{Origin}
use Rattle.jitter_model.specs.declared.Origin.TheVariants.{Original, Retransmission}
use Rattle.jitter_model.specs.declared.Verdict.{Verdict}
use Rattle.jitter_model.specs.declared.Turn.{Turn}
use Rattle.jitter_model.specs.declared.Turn.TheVariants.{Packet, Lost, Request, End}
use Rattle.jitter_model.specs.declared.Entry.{Entry}
use Rattle.jitter_model.specs.declared.Entry.TheVariants.{Push, Clock, FlushStart, FlushStop, Latency, Report, Ends, Turned}
use Rattle.jitter_model.specs.History.{History, now}
use Rattle.jitter_model.specs.Accepted.{aside}
use Rattle.jitter_model.specs.Verdicts.{verdict, reply_number, aside_dropped}
use Rattle.jitter_model.specs.Turns.{turn, is_quiet, wake_of}
use Rattle.jitter_model.specs.Runs.{flush_count, report}

-- what comes at a time
pub data Call : Type 0 where
  packet : ℕ → ℕ → ℕ → Call  -- the stamp, the sequence number, the timestamp
  retransmission : ℕ → ℕ → ℕ → Call
  flush_start : ℕ → Call  -- at this time
  flush_stop : ℕ → Call
  set_latency : ℕ → ℕ → Call  -- at this time, to this latency
  sender_report : ℕ → ℕ → Call  -- at this time, with this timestamp
  tick : ℕ → Call  -- the clock comes to this time, with the wakes before it
  leap : ℕ → Call  -- the clock steps to this time at once

-- turns until one is quiet, at most so many
abbrev pub settled : ℕ → Settings → History → History
settled zero s h = h
settled (suc n) s h = if is_quiet (turn s h) then h else settled n s (Turned (turn s h) ∷ h)

-- the clock steps to this time, and turns are taken
abbrev pub ticked : Settings → ℕ → History → History
ticked s t h = settled 100 s (Clock t ∷ h)

-- the wake up to this time is served, where there is one
abbrev with_wake : Settings → ℕ → Option ℕ → History → History
with_wake s limit None h = h
with_wake s limit (Some t) h = if nat_le t limit then ticked s t h else h

-- the wakes up to this time, at most so many
abbrev pub served_to : ℕ → Settings → ℕ → History → History
served_to zero s limit h = h
served_to (suc n) s limit h = served_to n s limit (with_wake s limit (wake_of (turn s h)) h)

abbrev arrived : ℕ → ℕ → ℕ → Origin → Arrival
arrived stamp seq rtp origin =
    record {
      pusher = 0;
      k = 0;
      stamp = stamp;
      origin = origin;
      packet = record { seq = seq; rtp = rtp; pt = 96; marker = false; payload = 4; bytes = [] };
    }

abbrev push_of : Settings → History → Arrival → Verdict → Entry
push_of s h a v = Push a v (reply_number h a v) (aside_dropped (aside h) a v)

abbrev with_push : Settings → Arrival → History → History
with_push s a h = push_of s h a (verdict s h a) ∷ h

abbrev with_call : Settings → Call → History → History
with_call s (packet t seq rtp) h = ticked s t (with_push s (arrived t seq rtp Original) (served_to 20 s t h))
with_call s (retransmission t seq rtp) h = ticked s t (with_push s (arrived t seq rtp Retransmission) (served_to 20 s t h))
with_call s (flush_start t) h = let before : History = Clock t ∷ served_to 20 s t h in FlushStart (flush_count before) ∷ before
with_call s (flush_stop t) h = FlushStop ∷ Clock t ∷ served_to 20 s t h
with_call s (set_latency t ns) h = settled 100 s (Latency ns ∷ Clock t ∷ served_to 20 s t h)
with_call s (sender_report t rtp) h = let before : History = served_to 20 s t h in Report 0 rtp (report s before 0 rtp) ∷ before
with_call s (tick t) h = ticked s t (served_to 20 s t h)
with_call s (leap t) h = ticked s t h

abbrev pub with_calls : Settings → List Call → History → History
with_calls s [] h = h
with_calls s (c ∷ cs) h = with_calls s cs (with_call s c h)

-- all wakes are served, and then all pushers end
abbrev pub finished : Settings → History → History
finished s h = settled 100 s (Ends 8 ∷ Ends 0 ∷ served_to 40 s 9223372036854775807 h)

abbrev pub played : Settings → List Call → History
played s cs = finished s (with_calls s cs [])

-- the calls alone, with no end
abbrev pub begun : Settings → List Call → History
begun s cs = with_calls s cs []

-- what is told of a reply, with the time
pub data Line : Type 0 where
  out : ℕ → ℕ → ℕ → Line  -- a packet: number, presentation time
  lost : ℕ → ℕ → ℕ → ℕ → ℕ → Line  -- number, count, presentation time, duration
  request : ℕ → ℕ → ℕ → Line  -- number, k
  end : ℕ → Line
  told : ℕ → Verdict → ℕ → ℕ → Line  -- a verdict, the number, how many packets that were put aside were dropped
  flush : ℕ → ℕ → Line  -- how many packets were dropped
  sync : ℕ → Option SyncInfo → Line

abbrev turn_lines : ℕ → Turn → List Line
turn_lines t (Packet n pts p) = out t n pts ∷ []
turn_lines t (Lost n count pts duration) = lost t n count pts duration ∷ []
turn_lines t (Request n k) = request t n k ∷ []
turn_lines t End = end t ∷ []
turn_lines t _ = []

-- all replies, the first one first
abbrev pub lines : History → List Line
lines [] = []
lines (Push a v n d ∷ h) = lines h ++ told (now (Push a v n d ∷ h)) v n d ∷ []
lines (FlushStart d ∷ h) = lines h ++ flush (now h) d ∷ []
lines (Report ntp rtp reply ∷ h) = lines h ++ sync (now h) reply ∷ []
lines (Turned r ∷ h) = lines h ++ turn_lines (now h) r
lines (_ ∷ h) = lines h

-- the replies to turns alone
abbrev pub outputs : History → List Line
outputs [] = []
outputs (Turned r ∷ h) = outputs h ++ turn_lines (now h) r
outputs (_ ∷ h) = outputs h

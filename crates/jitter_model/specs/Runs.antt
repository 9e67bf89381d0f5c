-- The other replies, and the runs of the list machine.
use Rattle.std.specs.Prelude.{ℕ, ◌+◌, ◌^◌, ◌≡◌, ◌<◌, ◌≤◌, true, [], ◌∷◌, length, Option, Some, None, if◌then◌else◌}
use Rattle.rtp_units.specs.declared.SyncInfo.{SyncInfo}
use Rattle.skew_model.specs.Skew.{Estimate, other_time}
use Rattle.jitter_model.specs.declared.Settings.{Settings}
use Rattle.jitter_model.specs.declared.Arrival.{Arrival}
use Rattle.jitter_model.specs.declared.Verdict.{Verdict}
use Rattle.jitter_model.specs.declared.Entry.TheVariants.{Push, Clock, FlushStart, FlushStop, Latency, Report, Ends, Turned}
use Rattle.jitter_model.specs.History.{History, pushes, is_flushing, is_pusher}
use Rattle.jitter_model.specs.Accepted.{aside, accepted}
use Rattle.jitter_model.specs.Covered.{held_count}
use Rattle.jitter_model.specs.Verdicts.{verdict, reply_number, aside_dropped}
use Rattle.jitter_model.specs.Times.{estimate_of}
use Rattle.jitter_model.specs.Turns.{turn}

-- how many packets a flush drops that begins now: those that are held or put aside; none where a flush runs
abbrev pub flush_count : History → ℕ
flush_count h = if is_flushing h then 0 else held_count h + length (aside h)

-- the presentation time of a sender report's timestamp, where the estimator was started
abbrev pub report_at : ℕ → ℕ → ℕ → Option Estimate → Option SyncInfo
report_at rate ntp_ns rtp None = None
report_at rate ntp_ns rtp (Some e) = Some (record { ntp_ns = ntp_ns; local = other_time rate e rtp })

-- the reply to a sender report: none while a flush runs, or before the first height of the segment
abbrev pub report : Settings → History → ℕ → ℕ → Option SyncInfo
report s h ntp_ns rtp = if is_flushing h then None else report_at s.rate ntp_ns rtp (estimate_of s (accepted h))

-- the ranges of the settings
pub record IsValid (s : Settings) : Type 0 where
  pub rate_from : 1 ≤ s.rate
  pub rate_to : s.rate ≤ 1000000
  pub latency_to : s.latency ≤ 600000000000
  pub rtx_delay_to : s.rtx_delay ≤ 60000000000
  pub rtx_retry_from : 1000000 ≤ s.rtx_retry
  pub rtx_retry_to : s.rtx_retry ≤ 60000000000
  pub rtx_max_to : s.rtx_max ≤ 255
  pub reorder_to : s.reorder ≤ 100
  pub dropout_from : 1 ≤ s.dropout
  pub dropout_to : s.dropout ≤ 30000
  pub misorder_to : s.misorder ≤ 1000
  pub faststart_to : s.faststart ≤ 1000
  pub pushers_to : s.pushers < 512

-- the ranges of an arrival's numbers
pub record IsInRange (a : Arrival) : Type 0 where
  pub pusher : a.pusher < 256
  pub k : a.k < 2 ^ 64
  pub stamp : a.stamp < 2 ^ 63
  pub seq : a.packet.seq < 65536
  pub rtp : a.packet.rtp < 2 ^ 32
  pub pt : a.packet.pt < 256
  pub payload : a.packet.payload < 65536

-- a push and its reply: its pusher is one of the settings', fewer than 2^31 packets were pushed before, and the reply is the one that the calls before it define
pub record IsPush (s : Settings) (h : History) (a : Arrival) (v : Verdict) (n d : ℕ) : Type 0 where
  pub pusher : is_pusher s.pushers a.pusher ≡ true
  pub few : pushes h < 2147483648
  pub in_range : IsInRange a
  pub verdict_is : v ≡ verdict s h a
  pub number_is : n ≡ reply_number h a v
  pub dropped_is : d ≡ aside_dropped (aside h) a v

-- a sender report and its reply
pub record IsReport (s : Settings) (h : History) (ntp_ns rtp : ℕ) (reply : Option SyncInfo) : Type 0 where
  pub ntp_ns_range : ntp_ns < 2 ^ 64
  pub rtp_range : rtp < 2 ^ 32
  pub reply_is : reply ≡ report s h ntp_ns rtp

-- a run of the list machine: the settings and each call are in their ranges, and each reply is the one that the calls before it define
abbrev pub Run : Settings → History → Type 0
Run s [] = IsValid s
Run s (Push a v n d ∷ h) = IsPush s h a v n d × Run s h
Run s (Clock t ∷ h) = (t < 2 ^ 63 + 2 ^ 50) × Run s h
Run s (FlushStart dropped ∷ h) = (dropped ≡ flush_count h) × Run s h
Run s (FlushStop ∷ h) = Run s h
Run s (Latency ns ∷ h) = (ns ≤ 600000000000) × Run s h
Run s (Report ntp_ns rtp reply ∷ h) = IsReport s h ntp_ns rtp reply × Run s h
Run s (Ends p ∷ h) = (is_pusher s.pushers p ≡ true) × Run s h
Run s (Turned r ∷ h) = (r ≡ turn s h) × Run s h

-- What the other calls do to a state.
use Rattle.std.specs.Prelude.{ℕ, ◌+◌, ◌≡◌, max, true, false, List, [], length, Option, slice_set, if◌then◌else◌}
use Rattle.rtp_units.specs.declared.SyncInfo.{SyncInfo}
use Rattle.jitter_model.specs.Accepted.{Taken, top}
use Rattle.jitter_model.specs.Times.{estimate_of}
use Rattle.jitter_model.specs.Runs.{report_at}
use Rattle.jitter_core.specs.declared.state.State.{State}
use Rattle.jitter_core.specs.Parts.{Clocked}
use Rattle.jitter_core.specs.Pushing.{IsOpenedBy}

-- time passed up to t
abbrev pub passed : State → ℕ → State
passed s t = record s { progress = record s.progress { time = max t s.progress.time } }

-- this pusher ended
abbrev pub ended : State → ℕ → State
ended s pusher = record s { progress = record s.progress { ended = slice_set s.progress.ended pusher true } }

-- the latency was set
abbrev pub delayed : State → ℕ → State
delayed s ns = record s { progress = record s.progress { latency = ns } }

-- a flush ended
abbrev pub resumed : State → State
resumed s = record s { progress = record s.progress { flushing = false } }

-- how many packets a flush drops that begins now
abbrev pub state_flush_count : State → ℕ
state_flush_count s = if s.progress.flushing then 0 else s.span.held + length s.aside

-- a flush began, or goes on
pub record Flushes (old new : State) : Type 0 where
  pub settings : new.settings ≡ old.settings
  pub progress : new.progress ≡ record old.progress { flushing = true }
  pub aside : new.aside ≡ []
  pub segment : IsOpenedBy new []

-- the reply to a sender report, whatever accepted packets the state has the heights of
abbrev pub Reports : State → ℕ → ℕ → Option SyncInfo → Type 0
Reports s ntp_ns rtp reply = (ps : List Taken) → s.span.top ≡ top ps → Clocked s ps → reply ≡ report_at s.settings.rate ntp_ns rtp (estimate_of s.settings ps)

-- The replies to turns.
use Rattle.std.specs.Prelude.{ℕ, zero, suc, ◌+◌, ◌-◌, ◌==◌, ◌||◌, ◌&&◌, not, Bool, true, false, List, Option, Some, None, nat_lt, nat_le, is_some, unwrap_or, if◌then◌else◌}
use Rattle.jitter_model.specs.declared.Settings.{Settings}
use Rattle.jitter_model.specs.declared.Mark.{Mark}
use Rattle.jitter_model.specs.declared.Held.{Held}
use Rattle.jitter_model.specs.declared.Turn.{Turn}
use Rattle.jitter_model.specs.declared.Turn.TheVariants.{Packet, Lost, Request, End, Idle, Flushing}
use Rattle.jitter_model.specs.History.{History, now, latency, is_flushing, all_below, all_ended, end_told}
use Rattle.jitter_model.specs.Accepted.{Taken, top, least, has, accepted}
use Rattle.jitter_model.specs.Covered.{next, served}
use Rattle.jitter_model.specs.Times.{marks, held, first_pts, expected}
use Rattle.jitter_model.specs.Requests.{lesser, later, first_due, Wanted, wanted_missing, wanted_next, due, Asked, earlier}

-- what a turn goes by, besides the settings and the next number: whether a flush runs; the time; whether all pushers ended, and whether End was answered; the latency; the greatest and the least accepted number, or 0; when the first packet may be given out at the latest, where there is one; whether the least numbers are as many consecutive ones as start the output at once; whether a number was accepted; the held packet of a number; the heights; when the first request for a missing number is due; and how many of a number's were served
pub record Sight : Type 0 where
  pub flushing : Bool
  pub time : ℕ
  pub ended : Bool
  pub told : Bool
  pub latency : ℕ
  pub top : ℕ
  pub least : ℕ
  pub start : Option ℕ
  pub fast : Bool
  pub among : ℕ → Bool
  pub held : ℕ → Option Held
  pub marks : List Mark
  pub first_due : ℕ → Option ℕ
  pub served : ℕ → ℕ

-- the least number from n on, of the count that follow, that passes; or the one after them
abbrev pub least_from : (ℕ → Bool) → ℕ → ℕ → ℕ
least_from passes n zero = n
least_from passes n (suc count) = if passes n then n else least_from passes (n + 1) count

-- the lowest number that is still to be given out: the next one, or where that isn't known the least one
abbrev pub low : Sight → Option ℕ → ℕ
low v None = v.least
low v (Some n) = n

-- the time from which on a number that didn't come is lost
abbrev pub deadline : Sight → ℕ → ℕ
deadline v n = expected v.marks n + v.latency

-- ---- requests

-- the requests for a number that isn't below the lowest: of a missing one below the greatest, or of the one after that while more can come
abbrev pub wanted : Settings → Sight → ℕ → Option Wanted
wanted s v n =
    if not s.rtx then None
    else if nat_lt n v.top && not (v.among n) then wanted_missing (v.first_due n) (deadline v n)
    else if n == v.top + 1 && not v.ended then wanted_next s v.latency v.top v.marks
    else None

-- the first of a number's unserved requests that isn't due yet; or one past the last request
abbrev pub first_undue : Settings → Sight → ℕ → ℕ → ℕ
first_undue s v first served = least_from (λ k. nat_lt v.time (due s first k)) served (s.rtx_max + 1 - served)

-- whether a number has an unserved request that is due, before the limit
abbrev pub is_asked : Settings → Sight → Wanted → ℕ → Bool
is_asked s v w served = nat_le served s.rtx_max && nat_le (due s w.first served) v.time && nat_lt v.time w.limit

-- the greatest request of a number that is due, where an unserved one is
abbrev pub asked_for : Settings → Sight → ℕ → Option Wanted → Option Asked
asked_for s v n None = None
asked_for s v n (Some w) =
    if is_asked s v w (v.served n)
    then Some (record { time = due s w.first (v.served n); number = n; k = first_undue s v w.first (v.served n) - 1 })
    else None

-- of the count numbers from n on, the one with the least pair of the time of its first unserved request and the number
abbrev pub asked_from : Settings → Sight → ℕ → ℕ → Option Asked
asked_from s v n zero = None
asked_from s v n (suc count) = earlier (asked_for s v n (wanted s v n)) (asked_from s v (n + 1) count)

-- the request that is answered, of the numbers from the lowest to the one after the greatest
abbrev pub asked : Settings → Sight → Option ℕ → Option Asked
asked s v next = asked_from s v (low v next) (v.top + 2 - low v next)

-- when the next request of a number is due: the first unserved one after now, where it lies before the limit
abbrev pub wake_of_wanted : Settings → Sight → ℕ → Option Wanted → Option ℕ
wake_of_wanted s v served None = None
wake_of_wanted s v served (Some w) =
    if nat_le (first_undue s v w.first served) s.rtx_max && nat_lt (due s w.first (first_undue s v w.first served)) w.limit
    then Some (due s w.first (first_undue s v w.first served))
    else None

-- when the next request of a number is due
abbrev pub request_wake : Settings → Sight → ℕ → Option ℕ
request_wake s v n = wake_of_wanted s v (v.served n) (wanted s v n)

-- the least of these times for the count numbers from n on
abbrev pub request_wake_from : Settings → Sight → ℕ → ℕ → Option ℕ
request_wake_from s v n zero = None
request_wake_from s v n (suc count) = lesser (request_wake s v n) (request_wake_from s v (n + 1) count)

-- ---- packets and losses

-- whether the output may start: something was accepted, and it is time, or the least numbers are consecutive, or no more can come
abbrev pub may_start : Sight → Option ℕ → Bool
may_start v None = false
may_start v (Some start) = nat_le start v.time || v.fast || v.ended

-- whether the lowest packet may be given out
abbrev pub may_give : Sight → Option ℕ → Bool
may_give v None = may_start v v.start
may_give v (Some n) = v.among n

-- whether the next number is lost
abbrev pub is_lost : Sight → Option ℕ → Bool
is_lost v None = false
is_lost v (Some n) = nat_lt n v.top && nat_le (deadline v n) v.time

-- whether a number ends a loss: it was accepted, or its deadline is still to come
abbrev pub ends_loss : Sight → ℕ → Bool
ends_loss v n = v.among n || nat_lt v.time (deadline v n)

-- where a loss that begins at n ends, at the greatest number at the latest
abbrev pub loss_end : Sight → ℕ → ℕ
loss_end v n = least_from (ends_loss v) (n + 1) (v.top - (n + 1))

-- whether nothing is left to give out: nothing was accepted, or all is covered
abbrev pub is_done : Sight → Option ℕ → Bool
is_done v None = not (is_some v.start)
is_done v (Some n) = nat_lt v.top n

-- when the next packet or loss is due
abbrev pub output_wake : Sight → Option ℕ → Option ℕ
output_wake v None = v.start
output_wake v (Some n) = if nat_lt n v.top then Some (deadline v n) else None

-- ---- replies

abbrev pub packet_turn : ℕ → Option Held → Turn
packet_turn n None = Idle None
packet_turn n (Some p) = Packet n p.pts p.packet

abbrev pub request_turn : Option Asked → Turn
request_turn None = Idle None
request_turn (Some r) = Request r.number r.k

-- the loss of the numbers from n up to m
abbrev pub lost_turn : List Mark → ℕ → ℕ → Turn
lost_turn ms n m = Lost n (m - n) (expected ms n) (expected ms m - expected ms n)

-- the reply to a turn: the first case that fits
abbrev pub turn_by : Settings → Sight → Option ℕ → Turn
turn_by s v next =
    if v.flushing then Flushing
    else if is_some (asked s v next) then request_turn (asked s v next)
    else if may_give v next then packet_turn (low v next) (v.held (low v next))
    else if is_lost v next then lost_turn v.marks (low v next) (loss_end v (low v next))
    else if v.ended && is_done v next && not v.told then End
    else Idle (lesser (output_wake v next) (request_wake_from s v (low v next) (v.top + 2 - low v next)))

-- when the first packet of a segment may be given out at the latest: its presentation time and the latency
abbrev pub start_time : Settings → ℕ → List Taken → Option ℕ
start_time s latency ps = later latency (first_pts s ps)

-- whether the output starts at once: the setting isn't 0, and that many least numbers are consecutive
abbrev pub is_fast : ℕ → List Taken → Bool
is_fast count ps = not (count == 0) && all_below (λ i. has ps (unwrap_or (least ps) 0 + i)) count

-- what a turn goes by after these calls
abbrev pub sight : Settings → History → Sight
sight s h =
    record {
      flushing = is_flushing h;
      time = now h;
      ended = all_ended s h;
      told = end_told h;
      latency = latency s h;
      top = unwrap_or (top (accepted h)) 0;
      least = unwrap_or (least (accepted h)) 0;
      start = start_time s (latency s h) (accepted h);
      fast = is_fast s.faststart (accepted h);
      among = has (accepted h);
      held = held s h;
      marks = marks s (accepted h);
      first_due = first_due s (accepted h);
      served = served h;
    }

-- the reply to a turn after these calls
abbrev pub turn : Settings → History → Turn
turn s h = turn_by s (sight s h) (next h)

-- when the next request of a number is due after these calls: of a number that isn't below the lowest one
abbrev pub next_request : Settings → History → ℕ → Option ℕ
next_request s h n = if nat_le (low (sight s h) (next h)) n then request_wake s (sight s h) n else None

-- ---- how turns go on

-- whether a reply changes nothing
abbrev pub is_quiet : Turn → Bool
is_quiet (Idle wake) = true
is_quiet Flushing = true
is_quiet _ = false

-- the wake that a reply names
abbrev pub wake_of : Turn → Option ℕ
wake_of (Idle wake) = wake
wake_of _ = None

-- how many replies at most a number may still have: one for each unserved request, and one that covers it
abbrev pub replies_left : Settings → (ℕ → ℕ) → ℕ → ℕ
replies_left s served n = (s.rtx_max + 1 - served n) + 1

-- the sum of these for the count numbers from n on
abbrev pub replies_left_from : Settings → (ℕ → ℕ) → ℕ → ℕ → ℕ
replies_left_from s served n zero = 0
replies_left_from s served n (suc count) = replies_left s served n + replies_left_from s served (n + 1) count

-- how many turns at most are still answered with something else than Idle, if no flush runs and nothing else comes
abbrev pub left_by : Settings → Sight → Option ℕ → ℕ
left_by s v next = replies_left_from s v.served (low v next) (v.top + 2 - low v next) + (if v.told then 0 else 1)

-- how many turns at most are still answered with something else than Idle or Flushing after these calls, if nothing else comes: none while a flush runs
abbrev pub left : Settings → History → ℕ
left s h = if is_flushing h then 0 else left_by s (sight s h) (next h)

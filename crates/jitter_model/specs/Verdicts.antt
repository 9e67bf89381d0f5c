-- What becomes of a packet that is pushed.
use Rattle.std.specs.Prelude.{ℕ, ◌+◌, ◌-◌, ◌||◌, ◌&&◌, not, Bool, true, false, List, length, Option, Some, None, nat_lt, nat_le, unwrap_or, is_some, if◌then◌else◌}
use Rattle.jitter_model.specs.declared.Settings.{Settings}
use Rattle.jitter_model.specs.declared.Arrival.{Arrival}
use Rattle.jitter_model.specs.declared.Packet.{Packet}
use Rattle.jitter_model.specs.declared.Pushed.{Pushed}
use Rattle.jitter_model.specs.declared.Verdict.{Verdict}
use Rattle.jitter_model.specs.declared.Verdict.TheVariants.{Accepted, Aside, Restart, Late, Duplicate, Full, Stray, Flushing, Ended}
use Rattle.jitter_model.specs.History.{History, is_flushing, has_ended}
use Rattle.jitter_model.specs.Accepted.{top, least, has, number_from, is_original, follows, joined, opened, aside, accepted}
use Rattle.jitter_model.specs.Covered.{next, held_count}

-- whether a number is less than the next one
abbrev pub is_late : Option ℕ → ℕ → Bool
is_late None n = false
is_late (Some next) n = nat_lt n next

-- whether a number is less than the next one, or that isn't known
abbrev pub is_behind : Option ℕ → ℕ → Bool
is_behind None n = true
is_behind (Some next) n = nat_lt n next

-- whether a number is far from the greatest: more than dropout above it, or more than misorder below it and behind
abbrev pub is_far : Settings → Option ℕ → Option ℕ → ℕ → Bool
is_far s None next n = false
is_far s (Some top) next n = nat_lt s.dropout (n - top) || nat_lt s.misorder (top - n) && is_behind next n

-- whether there is no room for a number: it is 8192 or more above the lowest that is still to be given out; or nothing was given out yet, and the greatest is 8192 or more above it
abbrev pub is_full : Option ℕ → Option ℕ → Option ℕ → ℕ → Bool
is_full None least next n = false
is_full (Some top) least None n = nat_le (unwrap_or least 0 + 8192) n || nat_le (n + 8192) top
is_full (Some top) least (Some next) n = nat_le (next + 8192) n

-- what a verdict goes by, besides the settings and the packet: whether its pusher ended; whether a flush runs; the greatest and the least accepted number, and the next one; the packet's number, and whether it was accepted before; the packets that are put aside; how many are held
pub record View : Type 0 where
  pub ended : Bool
  pub flushing : Bool
  pub top : Option ℕ
  pub least : Option ℕ
  pub next : Option ℕ
  pub number : ℕ
  pub among : Bool
  pub run : List Arrival
  pub held : ℕ

-- the verdict on a far packet: a new segment begins where it is the fifth of its run
abbrev pub far_verdict : List Arrival → Arrival → ℕ → Verdict
far_verdict run a held = if nat_le 5 (length (joined run a)) then Restart held else Aside

-- the first verdict that fits
abbrev pub first_fit : Settings → View → Arrival → Verdict
first_fit s v a =
    if v.ended then Ended
    else if v.flushing then Flushing
    else if not (is_original a.origin) && not (is_some v.top) then Stray
    else if is_original a.origin && is_far s v.top v.next v.number then far_verdict v.run a v.held
    else if is_late v.next v.number then Late
    else if v.among then Duplicate
    else if is_full v.top v.least v.next v.number then Full
    else Accepted

-- the number of a packet that comes
abbrev pub number_of : History → Arrival → ℕ
number_of h a = number_from (top (accepted h)) a.packet.seq

-- what the verdict goes by after these calls
abbrev pub view : History → Arrival → View
view h a =
    record {
      ended = has_ended h a.pusher;
      flushing = is_flushing h;
      top = top (accepted h);
      least = least (accepted h);
      next = next h;
      number = number_of h a;
      among = has (accepted h) (number_of h a);
      run = aside h;
      held = held_count h;
    }

-- the verdict on a packet that comes
abbrev pub verdict : Settings → History → Arrival → Verdict
verdict s h a = first_fit s (view h a) a

-- the number in the reply, by the packet's number among those before it and in the new segment
abbrev pub told_number : Verdict → ℕ → ℕ → ℕ
told_number Ended n new = 0
told_number Flushing n new = 0
told_number Stray n new = 0
told_number (Restart dropped) n new = new
told_number _ n new = n

-- the number of a packet in the segment that it opens with those before it
abbrev pub opened_number : List Arrival → Arrival → ℕ
opened_number run a = number_from (top (opened run)) a.packet.seq

-- the number in the reply to a push with this verdict
abbrev pub reply_number : History → Arrival → Verdict → ℕ
reply_number h a v = told_number v (number_of h a) (opened_number (aside h) a)

-- how many packets of a run are dropped by an original that isn't far
abbrev pub dropped_by : List Arrival → Arrival → ℕ
dropped_by run a = if is_original a.origin then length run else 0

-- how many packets of a run are dropped by a push with this verdict: by a far one those that it doesn't follow
abbrev pub aside_dropped : List Arrival → Arrival → Verdict → ℕ
aside_dropped run a Aside = if follows run a then 0 else length run
aside_dropped run a Accepted = dropped_by run a
aside_dropped run a Late = dropped_by run a
aside_dropped run a Duplicate = dropped_by run a
aside_dropped run a Full = dropped_by run a
aside_dropped run a _ = 0

-- the packet that is given back: none where it was accepted or put aside
abbrev pub back_of : Verdict → Packet → Option Packet
back_of Accepted p = None
back_of Aside p = None
back_of (Restart dropped) p = None
back_of _ p = Some p

-- the reply to a push
abbrev pub pushed : Settings → History → Arrival → Pushed
pushed s h a =
    record {
      verdict = verdict s h a;
      number = reply_number h a (verdict s h a);
      back = back_of (verdict s h a) a.packet;
      aside_dropped = aside_dropped (aside h) a (verdict s h a);
    }

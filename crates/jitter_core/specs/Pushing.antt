-- What a push does to a state.
use Rattle.std.specs.Prelude.{ℕ, ◌+◌, ◌-◌, nat_lt, Option, Some, ◌==◌, ◌&&◌, ◌≡◌, ◌++◌, unwrap_or, Bool, true, false, List, ◌∷◌, max, None, is_some, slice_index_or, if◌then◌else◌}
use Rattle.std.specs.FinMap as map
use Rattle.jitter_model.specs.declared.Arrival.{Arrival}
use Rattle.jitter_model.specs.declared.Pushed.{Pushed}
use Rattle.jitter_model.specs.declared.Verdict.{Verdict}
use Rattle.jitter_model.specs.declared.Verdict.TheVariants.{Accepted, Restart, Late, Duplicate, Full}
use Rattle.jitter_model.specs.Accepted.{is_original, opened, run_after}
use Rattle.jitter_core.specs.Marks.{is_next_mark}
use Rattle.jitter_model.specs.Verdicts.{View, is_late, is_full, first_fit, told_number, opened_number, aside_dropped, back_of}
use Rattle.jitter_core.specs.declared.state.Progress.{Progress}
use Rattle.jitter_core.specs.declared.state.Span.{Span}
use Rattle.jitter_core.specs.declared.state.State.{State}
use Rattle.jitter_core.specs.Asides.{in_order, newest_first}
use Rattle.jitter_core.specs.Parts.{Placed, Clocked, Marked, Requested}
use Rattle.jitter_core.specs.Steps.{Accepts, LeavesSegment, run_of, state_number}

-- what a verdict goes by, by the state
abbrev pub state_view : State → Arrival → View
state_view s a =
    record {
      ended = slice_index_or s.progress.ended a.pusher false;
      flushing = s.progress.flushing;
      top = s.span.top;
      least = s.span.least;
      next = s.span.next;
      number = state_number s a;
      among = is_some (map.get s.held (state_number s a));
      run = run_of s;
      held = s.span.held;
    }

-- the verdict on a packet that is not far, by the numbers and whether it is held
abbrev pub near_verdict : Span → ℕ → Bool → Verdict
near_verdict p n among =
    if is_late p.next n then Late
    else if among then Duplicate
    else if is_full p.top p.least p.next n then Full
    else Accepted

-- the verdict on a packet that comes, by the state
abbrev pub state_verdict : State → Arrival → Verdict
state_verdict s a = first_fit s.settings (state_view s a) a

-- the progress after a push
abbrev pub pushed_progress : Progress → ℕ → Progress
pushed_progress p stamp = record p { pushes = p.pushes + 1; time = max stamp p.time }

-- a state's segment was opened by these packets, the newest first
pub record IsOpenedBy (s : State) (run : List Arrival) : Type 0 where
  pub placed : Placed s (opened run) None (λ q. false)
  pub clocked : Clocked s (opened run)
  pub marked : Marked s (opened run) None
  pub requested : Requested s (opened run) None (λ q. 0)

-- while a segment is being opened: the packets that opened it so far, and those that are still to be accepted, are all of these
pub record Opening (s : State) (rest : List (ℕ × Arrival)) (all : List Arrival) : Type 0 where
  pub done : List Arrival
  pub by : IsOpenedBy s done
  pub splits : newest_first rest ++ done ≡ all

-- what the segment is after a push with this verdict
abbrev pub SegmentAfter : State → Arrival → Verdict → State → Type 0
SegmentAfter old a Accepted new = Accepts old new a (state_number old a)
SegmentAfter old a (Restart dropped) new = IsOpenedBy new (a ∷ run_of old)
SegmentAfter old a v new = LeavesSegment old new

-- whether the packet is an original one above the greatest number, which is the latest height
abbrev pub follows_top : State → Arrival → Bool
follows_top s a = is_original a.origin && is_some s.span.top && state_number s a == unwrap_or s.span.top 0 + 1 && is_next_mark s.heights (unwrap_or s.span.top 0 + 1)

-- whether the packet is an original one that leaves a gap above the greatest number, which is the
-- latest height
abbrev pub leaves_gap : State → Arrival → Bool
leaves_gap s a =
    is_original a.origin && is_some s.span.top
    && nat_lt (unwrap_or s.span.top 0 + 1) (state_number s a)
    && is_next_mark s.heights (unwrap_or s.span.top 0 + 1)

-- from which number on the timers change with a packet that leaves a gap
abbrev pub stale_after : State → Arrival → Option ℕ
stale_after s a =
    if leaves_gap s a then Some (unwrap_or s.span.top 0 - s.settings.reorder) else None

-- whether a push with this verdict changes what is accepted
abbrev pub takes : Verdict → Bool
takes Accepted = true
takes (Restart dropped) = true
takes v = false

-- a push, with its answer
pub record PushStep (old new : State) (a : Arrival) (p : Pushed) : Type 0 where
  pub settings : new.settings ≡ old.settings
  pub verdict : p.verdict ≡ state_verdict old a
  pub number : p.number ≡ told_number p.verdict (state_number old a) (opened_number (run_of old) a)
  pub back : p.back ≡ back_of p.verdict a.packet
  pub dropped : p.aside_dropped ≡ aside_dropped (run_of old) a p.verdict
  pub progress : new.progress ≡ pushed_progress old.progress a.stamp
  pub aside : new.aside ≡ in_order (run_after (run_of old) a p.verdict)
  pub segment : SegmentAfter old a p.verdict new

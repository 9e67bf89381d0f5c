-- What a turn goes by and what it does to a state.
use Rattle.std.specs.Prelude.{ℕ, ◌+◌, ◌-◌, ◌==◌, ◌≡◌, ◌||◌, ◌&&◌, not, Bool, true, false, List, Option, Some, is_some, unwrap_or, slice_index_or, if◌then◌else◌}
use Rattle.std.specs.FinMap as map
use Rattle.jitter_model.specs.declared.Turn.{Turn}
use Rattle.jitter_model.specs.declared.Turn.TheVariants.{Packet, Lost, Request, End, Idle, Flushing}
use Rattle.jitter_model.specs.History.{is_pusher, all_below, pusher_count}
use Rattle.jitter_model.specs.declared.Settings.{Settings}
use Rattle.jitter_model.specs.Requests.{lesser, later, Asked}
use Rattle.jitter_model.specs.Turns.{Sight, low, loss_end, may_give, is_lost, is_done, output_wake, asked, request_wake_from, packet_turn, lost_turn, turn_by, left_by}
use Rattle.jitter_core.specs.declared.state.State.{State}
use Rattle.jitter_core.specs.Marks.{kept_two}
use Rattle.jitter_core.specs.Peaks.{above}
use Rattle.jitter_core.specs.Requesting.{first_due_by}
use Rattle.jitter_core.specs.Served.{served_in, with_served}
use Rattle.jitter_core.specs.Steps.{LeavesSegment, IsSame}

-- whether each pusher of the set ended, by these marks
abbrev pub have_ended : ℕ → List Bool → Bool
have_ended pushers marks = all_below (λ p. not (is_pusher pushers p) || slice_index_or marks p false) pusher_count

-- whether the least numbers that are held are so many consecutive ones
abbrev pub is_fast_by : State → ℕ → Bool
is_fast_by s count = not (count == 0) && all_below (λ i. is_some (map.get s.held (unwrap_or s.span.least 0 + i))) count

-- what a turn goes by, by the state
abbrev pub state_sight : State → Sight
state_sight s =
    record {
      flushing = s.progress.flushing;
      time = s.progress.time;
      ended = have_ended s.settings.pushers s.progress.ended;
      told = s.progress.end_told;
      latency = s.progress.latency;
      top = unwrap_or s.span.top 0;
      least = unwrap_or s.span.least 0;
      start = later s.progress.latency s.span.first_pts;
      fast = is_fast_by s s.settings.faststart;
      among = λ n. is_some (map.get s.held n);
      held = map.get s.held;
      marks = s.heights;
      first_due = first_due_by s.settings s.peaks;
      served = served_in s.served;
    }

-- the reply to a turn that serves no request, where the next request is due at this time
abbrev pub output_turn : Sight → Option ℕ → Option ℕ → Turn
output_turn v next wake =
    if may_give v next then packet_turn (low v next) (v.held (low v next))
    else if is_lost v next then lost_turn v.marks (low v next) (loss_end v (low v next))
    else if v.ended && is_done v next && not v.told then End
    else Idle (lesser (output_wake v next) wake)

-- when the next request is due
abbrev pub next_wake : Settings → Sight → Option ℕ → Option ℕ
next_wake s v next = request_wake_from s v (low v next) (v.top + 2 - low v next)

-- when the next request is due, by the state
abbrev pub state_wake : State → Option ℕ
state_wake s = next_wake s.settings (state_sight s) s.span.next

-- the request that is answered, by the state
abbrev pub state_asked : State → Option Asked
state_asked s = asked s.settings (state_sight s) s.span.next

-- the reply to a turn, by the state
abbrev pub state_turn : State → Turn
state_turn s = turn_by s.settings (state_sight s) s.span.next

-- the packet with this number was given out
pub record Gives (old new : State) (n : ℕ) : Type 0 where
  pub settings : new.settings ≡ old.settings
  pub progress : new.progress ≡ old.progress
  pub aside : new.aside ≡ old.aside
  pub span : new.span ≡ record old.span { next = Some (n + 1); held = old.span.held - 1 }
  pub held : new.held ≡ map.remove old.held n
  pub skew : new.skew ≡ old.skew
  pub heights : new.heights ≡ kept_two (Some (n + 1)) old.heights
  pub peaks : new.peaks ≡ above (n + 1) old.peaks
  pub served : new.served ≡ old.served

-- the numbers up to m were given up
pub record Loses (old new : State) (m : ℕ) : Type 0 where
  pub settings : new.settings ≡ old.settings
  pub progress : new.progress ≡ old.progress
  pub aside : new.aside ≡ old.aside
  pub span : new.span ≡ record old.span { next = Some m }
  pub held : new.held ≡ old.held
  pub skew : new.skew ≡ old.skew
  pub heights : new.heights ≡ kept_two (Some m) old.heights
  pub peaks : new.peaks ≡ above m old.peaks
  pub served : new.served ≡ old.served

-- request k of a number was served
pub record Serves (old new : State) (n k : ℕ) : Type 0 where
  pub settings : new.settings ≡ old.settings
  pub progress : new.progress ≡ old.progress
  pub aside : new.aside ≡ old.aside
  pub span : new.span ≡ old.span
  pub held : new.held ≡ old.held
  pub skew : new.skew ≡ old.skew
  pub heights : new.heights ≡ old.heights
  pub peaks : new.peaks ≡ old.peaks
  pub served : new.served ≡ with_served old.served n (k + 1)

-- the end was told
pub record TellsEnd (old new : State) : Type 0 where
  pub settings : new.settings ≡ old.settings
  pub progress : new.progress ≡ record old.progress { end_told = true }
  pub aside : new.aside ≡ old.aside
  pub segment : LeavesSegment old new

-- whether a reply is that there is nothing to do
abbrev pub is_idle : Turn → Bool
is_idle (Idle wake) = true
is_idle _ = false

-- what a turn with this reply does
abbrev pub TurnDoes : State → Turn → State → Type 0
TurnDoes old (Packet n pts p) new = Gives old new n
TurnDoes old (Lost n count pts d) new = Loses old new (n + count)
TurnDoes old (Request n k) new = Serves old new n k
TurnDoes old End new = TellsEnd old new
TurnDoes old (Idle wake) new = IsSame old new
TurnDoes old Flushing new = IsSame old new

-- how many turns at most are still answered with something else than Idle or Flushing, if nothing else comes: none while a flush runs
abbrev pub state_left : State → ℕ
state_left s = if s.progress.flushing then 0 else left_by s.settings (state_sight s) s.span.next

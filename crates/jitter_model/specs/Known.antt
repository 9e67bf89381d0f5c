-- What is known of runs, of replies and of the numbers of packets, for the proofs of code.
use Rattle.std.specs.Prelude.{ℕ, ◌≡◌, ◌≤◌, ◌<◌, ◌+◌, ◌-◌, Bool, true, false, List, ◌∷◌, length, Option, Some, is_some, unwrap_or, nat_le}
use Rattle.jitter_model.specs.declared.Settings.{Settings}
use Rattle.jitter_model.specs.declared.Arrival.{Arrival}
use Rattle.jitter_model.specs.declared.Packet.{Packet as PacketOf}
use Rattle.jitter_model.specs.declared.Verdict.{Verdict}
use Rattle.jitter_model.specs.declared.Turn.{Turn}
use Rattle.jitter_model.specs.declared.Turn.TheVariants.{Packet}
use Rattle.jitter_model.specs.History.{History, pushes, latency}
use Rattle.jitter_model.specs.Accepted.{Taken, top, least, has, is_original, joined, opened, aside, accepted}
use Rattle.jitter_model.specs.Covered.{next, is_out}
use Rattle.jitter_model.specs.Verdicts.{is_late, view, verdict}
use Rattle.jitter_model.specs.Times.{found}
use Rattle.jitter_model.specs.Requests.{due}
use Rattle.jitter_model.specs.Turns.{Sight, least_from, low, first_undue, asked, sight, turn}
use Rattle.jitter_model.specs.Runs.{IsValid, IsInRange, Run}
use Rattle.jitter_model.specs.Laws.{IsRun, IsAsideRun}
use Rattle.jitter_model.specs.Said.{Says, Covering, MissesAll, AskedIn}
use Rattle.jitter_model.specs.Numbered.{IsNumbered, IsDistinct, IsOpened, AreTops, InWindow}

-- A run has valid settings, a latency of at most 600 seconds and at most 2^31 pushes. At most four
-- packets are put aside, in one run. The accepted ones are numbered, each once, and no more than
-- the pushes; they lie in a window, and what was given out is below the next number.
pub record RunsAreBounded : Type 0 where
  pub settings : (s : Settings) (h : History) → Run s h → IsValid s
  pub latency_is : (s : Settings) (h : History) → Run s h → latency s h ≤ 600000000000
  pub pushes_are : (s : Settings) (h : History) → Run s h → pushes h ≤ 2147483648
  pub aside_is : (s : Settings) (h : History) → Run s h → IsAsideRun (aside h)
  pub numbered : (s : Settings) (h : History) → Run s h → IsNumbered (accepted h)
  pub distinct : (s : Settings) (h : History) → Run s h → IsDistinct (accepted h)
  pub few : (h : History) → length (accepted h) ≤ pushes h
  pub window : (s : Settings) (h : History) → Run s h
      → InWindow (top (accepted h)) (least (accepted h)) (next h)
  pub late : (s : Settings) (h : History) (n : ℕ) → Run s h → is_out h n ≡ true
      → is_late (next h) n ≡ true

-- A verdict is the first one whose tests hold. A reply covers numbers from the lowest one on; a
-- packet is the one that is held; of what is declared lost nothing is held, and each deadline is
-- over. What is asked for was not served before, and what isn't due yet is later than now.
pub record RepliesTell : Type 0 where
  pub verdicts : (s : Settings) (h : History) (a : Arrival) (v : Verdict)
      → v ≡ verdict s h a → Says s (view h a) a v
  pub covers : (s : Settings) (h : History) (r : Turn)
      → r ≡ turn s h → Covering (sight s h) (next h) r
  pub packets : (s : Settings) (h : History) (n pts : ℕ) (p : PacketOf)
      → turn s h ≡ Packet n pts p
      → found s (accepted h) n ≡ Some (record { pts = pts; packet = p })
  pub losses : (s : Settings) (h : History) (r : Turn)
      → r ≡ turn s h → MissesAll (sight s h) r
  pub requests : (s : Settings) (v : Sight) (o : Option ℕ)
      → AskedIn s v (low v o) (v.top + 2 - low v o) (asked s v o)
  pub undue : (s : Settings) (v : Sight) (first served : ℕ)
      → nat_le (first_undue s v first served) s.rtx_max ≡ true
      → v.time < due s first (first_undue s v first served)

-- The packets that are put aside go on to be a run, and open a segment of consecutive numbers.
-- Numbered packets have a greatest and a least number, and none above the one or below the other.
pub record NumbersLieBetween : Type 0 where
  pub joined_is : (run : List Arrival) (a : Arrival)
      → IsRun run → IsInRange a → is_original a.origin ≡ true → IsRun (joined run a)
  pub opened_is : (run : List Arrival) (a : Arrival) → IsRun (a ∷ run) → IsOpened run a
  pub opened_numbered : (run : List Arrival) → IsRun run → IsNumbered (opened run)
  pub tops : (ps : List Taken) → IsNumbered ps → AreTops (length ps) (top ps) (least ps)
  pub from : (ps : List Taken) (n : ℕ) → has ps n ≡ true → unwrap_or (least ps) 0 ≤ n
  pub to : (ps : List Taken) (n : ℕ) → has ps n ≡ true → n ≤ unwrap_or (top ps) 0
  pub above : (ps : List Taken) (n : ℕ) → unwrap_or (top ps) 0 < n → has ps n ≡ false
  pub found_is : (s : Settings) (ps : List Taken) (n : ℕ) → is_some (found s ps n) ≡ has ps n

-- A search from a number on finds the least one that passes, or stops behind the last.
pub record SearchesFindTheLeast : Type 0 where
  pub from : (passes : ℕ → Bool) (n count : ℕ) → n ≤ least_from passes n count
  pub to : (passes : ℕ → Bool) (n count : ℕ) → least_from passes n count ≤ n + count
  pub before : (passes : ℕ → Bool) (n count m : ℕ)
      → n ≤ m → m < least_from passes n count → passes m ≡ false
  pub is : (passes : ℕ → Bool) (n count m : ℕ)
      → n ≤ m → m ≤ n + count → ((q : ℕ) → n ≤ q → q < m → passes q ≡ false)
      → (m < n + count → passes m ≡ true) → least_from passes n count ≡ m

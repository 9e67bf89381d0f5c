-- How many turns are left, and when the next one is wanted: by the laws of the list machine.
use Rattle.std.proofs.Common.{ℕ, ◌≡◌, ◌+◌, ◌-◌, ◌<◌, ◌≤◌, Bool, true, false, refl, sym, ap, subst, ◌∙◌, ◌∷◌, Option, None, Some, arith}
use Rattle.std.specs.Prelude.{if◌then◌else◌}
use Rattle.std.proofs.Props.{props}
use Rattle.std.proofs.Math.Logic.{∥∥₁_elim}
use Rattle.jitter_model.specs.declared.Settings.{Settings}
use Rattle.jitter_model.specs.declared.Turn.{Turn}
use Rattle.jitter_model.specs.declared.Entry.TheVariants.{Turned}
use Rattle.jitter_model.specs.History.{History, now, is_flushing}
use Rattle.jitter_model.specs.Accepted.{accepted}
use Rattle.jitter_model.specs.Covered.{next, is_out}
use Rattle.jitter_model.specs.Laws.{IsLater}
use Rattle.jitter_model.specs.Turns.{Sight, low, sight, turn, is_quiet, wake_of, replies_left_from, left_by, left}
use Rattle.jitter_core.specs.declared.state.State.{State}
use Rattle.jitter_core.specs.Parts.{Placed}
use Rattle.jitter_core.specs.Stands.{StandsFor, IsReached}
use Rattle.jitter_core.specs.Turning.{state_sight, state_left, state_turn, TurnDoes}
use Rattle.jitter_core.proofs.Judging.{placed_now}
use Rattle.jitter_core.proofs.Agreeing.{Agree, agrees, turn_is}
use Rattle.jitter_core.proofs.Serving.{left_same}
use Rattle.jitter_core.proofs.TurnsKeep.{turn_keeps, does_progress}
use Rattle.jitter_model.specs.Known.{RunsAreBounded}
use Rattle.jitter_model.specs.Known.{RepliesTell}
use Rattle.jitter_model.specs.Known.{NumbersLieBetween}
use Rattle.jitter_model.specs.Known.{SearchesFindTheLeast}

-- ---- what is left is what the list machine says of each history that the state stands for

left_by_same : (s : Settings) (v w : Sight) (o : Option ℕ) → Agree s v w o → left_by s v o ≡ left_by s w o
left_by_same s v w o a =
    ap (λ (n : ℕ). replies_left_from s v.served n (v.top + 2 - n) + (if v.told then 0 else 1)) a.low_is
    ∙ ap (λ (t : ℕ). replies_left_from s v.served (low w o) (t + 2 - low w o) + (if v.told then 0 else 1)) a.top
    ∙ ap (λ (n : ℕ). n + (if v.told then 0 else 1)) (left_same s v.served w.served (low w o) (w.top + 2 - low w o) (λ q from to. a.served_is q from))
    ∙ ap (λ (b : Bool). replies_left_from s w.served (low w o) (w.top + 2 - low w o) + (if b then 0 else 1)) a.told

outside_is : RunsAreBounded → NumbersLieBetween → (s : State) (h : History) → StandsFor s h → is_flushing h ≡ false → left_by s.settings (state_sight s) s.span.next ≡ left_by s.settings (sight s.settings h) (next h)
outside_is runs numbers s h st e =
    let p : Placed s (accepted h) (next h) (is_out h) = placed_now s h e st.order.placed in
    ap (λ (o : Option ℕ). left_by s.settings (state_sight s) o) p.next_is
    ∙ left_by_same s.settings (state_sight s) (sight s.settings h) (next h) (agrees runs numbers s h st e)

none_or : (b c : Bool) (x y : ℕ) → b ≡ c → (c ≡ false → x ≡ y) → (if b then 0 else x) ≡ (if c then 0 else y)
none_or false false x y e same = same refl
none_or true true x y e same = refl
none_or false true x y e same = cc
none_or true false x y e same = cc

pub left_is : RunsAreBounded → NumbersLieBetween → (s : State) (h : History) → StandsFor s h → state_left s ≡ left s.settings h
left_is runs numbers s h st =
    none_or s.progress.flushing (is_flushing h) (left_by s.settings (state_sight s) s.span.next) (left_by s.settings (sight s.settings h) (next h)) st.order.flushing_is (outside_is runs numbers s h st)

-- ---- a turn that isn't quiet leaves fewer

abbrev TurnsFall : Type 0
TurnsFall = (s : Settings) (h : History) → is_quiet (turn s h) ≡ false → left s (Turned (turn s h) ∷ h) < left s h

less_by : (a b x y : ℕ) → a ≡ x → b ≡ y → x < y → a < b
less_by a b x y e f less = omega arith

falls_by : RunsAreBounded → NumbersLieBetween → (old new : State) (h : History) (r : Turn) → TurnsFall → StandsFor old h → r ≡ turn old.settings h → StandsFor new (Turned r ∷ h) → new.settings ≡ old.settings → is_quiet r ≡ false → state_left new < state_left old
falls_by runs numbers old new h r falls st is after same loud =
    less_by (state_left new) (state_left old) (left old.settings (Turned r ∷ h)) (left old.settings h)
    (left_is runs numbers new (Turned r ∷ h) after ∙ ap (λ (x : Settings). left x (Turned r ∷ h)) same)
    (left_is runs numbers old h st)
    (subst (λ (x : Turn). left old.settings (Turned x ∷ h) < left old.settings h) (sym is) (falls old.settings h (ap is_quiet (sym is) ∙ loud)))

pub turn_less : RunsAreBounded → RepliesTell → NumbersLieBetween → SearchesFindTheLeast → (old new : State) (r : Turn) → TurnsFall → IsReached old → r ≡ state_turn old → TurnDoes old r new → is_quiet r ≡ false → state_left new < state_left old
turn_less runs replies numbers searches old new r falls reached value does loud =
    ∥∥₁_elim reached (hlevel props) (λ x. falls_by runs numbers old new x.0 r falls x.1 (value ∙ turn_is runs numbers searches old x.0 x.1) (turn_keeps runs replies numbers searches old new x.0 r x.1 value does) (does_progress old new r does).0 loud)

-- ---- a wake lies later than now

abbrev WakesLater : Type 0
WakesLater = (s : Settings) (h : History) → IsLater (now h) (wake_of (turn s h))

later_prop : (time : ℕ) (o : Option ℕ) → IsProp (IsLater time o)
later_prop time None = hlevel props
later_prop time (Some wake) = hlevel props

later_by : (old : State) (h : History) (r : Turn) → WakesLater → StandsFor old h → r ≡ turn old.settings h → IsLater old.progress.time (wake_of r)
later_by old h r later st is =
    subst (λ (t : ℕ). IsLater t (wake_of r)) (sym st.order.time_is)
    (subst (λ (x : Turn). IsLater (now h) (wake_of x)) (sym is) (later old.settings h))

pub turn_later : RunsAreBounded → NumbersLieBetween → SearchesFindTheLeast → (old : State) (r : Turn) → WakesLater → IsReached old → r ≡ state_turn old → IsLater old.progress.time (wake_of r)
turn_later runs numbers searches old r later reached value =
    ∥∥₁_elim reached (later_prop old.progress.time (wake_of r)) (λ x. later_by old x.0 r later x.1 (value ∙ turn_is runs numbers searches old x.0 x.1))

-- What a stage owes, and what is left once it is done.
use Rattle.std.proofs.Common.{ℕ, zero, suc, ◌≡◌, ◌≢◌, ◌+◌, ◌-◌, ◌<◌, ◌≤◌, ◌^◌, Bool, true, false, refl, sym, ap, subst, ◌∙◌, List, [], ◌∷◌, ◌++◌, length, None, Some, arith}
use Rattle.std.specs.Prelude.{◌==◌, nat_lt, get_or, set, slice_get, slice_index_or, if◌then◌else◌}
use Rattle.std.proofs.Props.{props}
use Rattle.std.proofs.Math.Logic.{∥∥₁_elim}
use Rattle.std.proofs.lemmas.Grind.{common_steps}
use Rattle.std.specs.List.{slice_range}
use Rattle.std.proofs.lemmas.List.{append_assoc, append-nil, length-set, length_push, take_all}
use Rattle.jitter_model.specs.declared.Arrival.{Arrival}
use Rattle.jitter_model.specs.declared.Settings.{Settings}
use Rattle.jitter_model.specs.History.{is_pusher}
use Rattle.jitter_model.specs.Runs.{IsValid}
use Rattle.jitter_core.specs.Words.{pushes_of, settings_of}
use Rattle.pcap_file.specs.Capture.{Record}
use Rattle.script_lang.specs.Contents.{Contents, IsScript}
use Rattle.script_lang.specs.declared.script.Action.{Action}
use Rattle.script_lang.specs.declared.script.Action.TheVariants as action
use Rattle.front_model.specs.declared.Opening.{Opening}
use Rattle.front_model.specs.declared.SenderReport.{SenderReport}
use Rattle.front_model.specs.declared.Step.{Step}
use Rattle.front_model.specs.declared.Step.TheVariants as step
use Rattle.front_model.specs.Events.{FrontEvent, Came, ReportsDue, Requested, records}
use Rattle.front_model.specs.Steps.{steps, all_steps}
use Rattle.rtp_front.specs.Standing.{State as FrontState, StandsFor as FrontStandsFor}
use Rattle.timeline.specs.declared.line.BinLine.{BinLine}
use Rattle.replay_model.specs.Lanes.{latency_by}
use Rattle.replay_model.specs.Fitting.{IsCaptured, IsComing, AreComing, IsAction, IsSound, IsFitting, with_step, with_steps, given_by, given}
use Rattle.replay_sound.specs.Suited.{IsNext, AreSuited, OnlyTell, counts_none}
use Rattle.lane_core.specs.declared.lane.Lane.{Lane}
use Rattle.lane_core.specs.Lanes.{SameLane, PushedLane}
use Rattle.lane_core.specs.AllLanes.{SameLanes, AddsLane, wakes_in}
use Rattle.bin_core.specs.declared.standings.Standing.{Standing}
use Rattle.bin_core.specs.declared.stage.Stage.{Stage}
use Rattle.bin_core.specs.Stages.{AreQuiet, Sends, requests_behind, standing_by}
use Rattle.bin_core.specs.declared.wakes.Wakes.{Wakes}
use Rattle.bin_core.specs.Waking.{kept_wake, wake_changed, AreWakes}
use Rattle.bin_core.specs.Underway.{AreOpened, HasLatency, IsUnderway, Owes, StaysAtRest}
use Rattle.bin_core.proofs.Waking.{added_wakes, same_wakes, changed_wakes}

-- ---- steps one after the other

with_append : (os : List Opening) (xs ys : List Step) → with_steps os (xs ++ ys) ≡ with_steps (with_steps os xs) ys
with_append os [] ys = refl
with_append os (x ∷ xs) ys = with_append (with_step os x) xs ys

given_append : (xs ys : List Step) → given (xs ++ ys) ≡ given xs + given ys
given_append [] ys = omega arith
given_append (x ∷ xs) ys = omega (arith, given_append xs ys)

-- ---- lanes

at_other : (ls : List Lane) (n k : ℕ) (b d : Lane) → k ≢ n → get_or (set ls n b) k d ≡ get_or ls k d
at_other [] n k b d ne = refl
at_other (l ∷ ls) zero zero b d ne = absurd (ne refl)
at_other (l ∷ ls) zero (suc k) b d ne = refl
at_other (l ∷ ls) (suc n) zero b d ne = refl
at_other (l ∷ ls) (suc n) (suc k) b d ne = at_other ls n k b d (λ e. ne (ap suc e))

at_same : (ls : List Lane) (n : ℕ) (b d : Lane) → n < length ls → get_or (set ls n b) n d ≡ b
at_same [] n b d lt = absurd (omega (arith, lt))
at_same (l ∷ ls) zero b d lt = refl
at_same (l ∷ ls) (suc n) b d lt = at_same ls n b d (omega (arith, lt))

some_below : (os : List Opening) (k : ℕ) (o : Opening) → slice_get os k ≡ Some o → k < length os
some_below [] k o e = absurd cc
some_below (x ∷ os) zero o e = omega arith
some_below (x ∷ os) (suc k) o e = omega (arith, some_below os k o e)

-- one lane is another one with the same settings, and with so many more packets at most
pub one_opened :
    (os : List Opening) (pushed more n : ℕ) (was b : Lane) (ls : List Lane)
    → n < length ls → was ≡ get_or ls n was
    → settings_of b.buffer ≡ settings_of was.buffer
    → pushes_of b.buffer ≤ pushes_of was.buffer + more
    → AreOpened os pushed ls → AreOpened os (pushed + more) (set ls n b)
one_opened os pushed more n was b ls lt is same few h =
    record {
      count = length-set ls n b ∙ h.count;
      settings = λ k o d e. settings_at k o d e (k == n) refl;
      pushes = λ k d below. pushes_at k d (omega (arith, below, length-set ls n b)) (k == n) refl;
    }
  where
    settings_at : (k : ℕ) (o : Opening) (d : Lane) → slice_get os k ≡ Some o → (q : Bool) → (k == n) ≡ q → settings_of (get_or (set ls n b) k d).buffer ≡ o.settings
    settings_at k o d e true q =
        let eq : n ≡ k = grind (arith, common_steps) in
        subst (λ (x : ℕ). settings_of (get_or (set ls n b) x d).buffer ≡ o.settings) eq
        (ap (λ (x : Lane). settings_of x.buffer) (at_same ls n b d lt) ∙ same ∙ ap (λ (x : Lane). settings_of x.buffer) is
        ∙ h.settings n o was (subst (λ (x : ℕ). slice_get os x ≡ Some o) (sym eq) e))
    settings_at k o d e false q =
        let ne : k ≢ n = grind (arith, common_steps) in
        ap (λ (x : Lane). settings_of x.buffer) (at_other ls n k b d ne) ∙ h.settings k o d e

    pushes_at : (k : ℕ) (d : Lane) → k < length ls → (q : Bool) → (k == n) ≡ q → pushes_of (get_or (set ls n b) k d).buffer ≤ pushed + more
    pushes_at k d below true q =
        let eq : n ≡ k = grind (arith, common_steps) in
        let before : pushes_of was.buffer ≤ pushed = subst (λ (x : Lane). pushes_of x.buffer ≤ pushed) (sym is) (h.pushes n was lt) in
        subst (λ (x : ℕ). pushes_of (get_or (set ls n b) x d).buffer ≤ pushed + more) eq
        (subst (λ (x : Lane). pushes_of x.buffer ≤ pushed + more) (sym (at_same ls n b d lt)) (omega (arith, before, few)))
    pushes_at k d below false q =
        let ne : k ≢ n = grind (arith, common_steps) in
        let before : pushes_of (get_or ls k d).buffer ≤ pushed = h.pushes k d below in
        subst (λ (x : Lane). pushes_of x.buffer ≤ pushed + more) (sym (at_other ls n k b d ne)) (omega (arith, before))

-- the same lanes
same_opened : (os : List Opening) (pushed : ℕ) (ls new : List Lane) → SameLanes ls new → AreOpened os pushed ls → AreOpened os pushed new
same_opened os pushed ls new same h =
    record {
      count = same.count ∙ h.count;
      settings = λ k o d e. (same.each k d (omega (arith, some_below os k o e, h.count))).settings ∙ h.settings k o d e;
      pushes = λ k d lt.
          let below : k < length ls = omega (arith, lt, same.count) in
          let now : pushes_of (get_or new k d).buffer ≡ pushes_of (get_or ls k d).buffer = (same.each k d below).pushes in
          omega (arith, now, h.pushes k d below);
    }

-- one lane more
push_before : (os : List Opening) (o x : Opening) (k : ℕ) → slice_get (os ++ o ∷ []) k ≡ Some x → k < length os → slice_get os k ≡ Some x
push_before [] o x k e lt = absurd (omega (arith, lt))
push_before (y ∷ os) o x zero e lt = e
push_before (y ∷ os) o x (suc k) e lt = push_before os o x k e (omega (arith, lt))

push_last : (os : List Opening) (o x : Opening) (k : ℕ) → slice_get (os ++ o ∷ []) k ≡ Some x → length os ≤ k → (k ≡ length os) × (o ≡ x)
push_last [] o x zero e le = (refl, cc)
push_last [] o x (suc k) e le = absurd cc
push_last (y ∷ os) o x zero e le = absurd (omega (arith, le))
push_last (y ∷ os) o x (suc k) e le =
    let rest : (k ≡ length os) × (o ≡ x) = push_last os o x k e (omega (arith, le)) in
    (omega (arith, rest.0), rest.1)

lane_before : (ls : List Lane) (l d : Lane) (k : ℕ) → k < length ls → get_or (ls ++ l ∷ []) k d ≡ get_or ls k d
lane_before [] l d k lt = absurd (omega (arith, lt))
lane_before (x ∷ ls) l d zero lt = refl
lane_before (x ∷ ls) l d (suc k) lt = lane_before ls l d k (omega (arith, lt))

lane_last : (ls : List Lane) (l d : Lane) → get_or (ls ++ l ∷ []) (length ls) d ≡ l
lane_last [] l d = refl
lane_last (x ∷ ls) l d = lane_last ls l d

more_opened : (os : List Opening) (o : Opening) (pushed : ℕ) (ls new : List Lane) → AddsLane o ls new → AreOpened os pushed ls → AreOpened (os ++ o ∷ []) pushed new
more_opened os o pushed ls new adds h =
    subst (AreOpened (os ++ o ∷ []) pushed) (sym adds.added)
    (record {
      count = length_push ls adds.lane ∙ ap (λ (n : ℕ). n + 1) h.count ∙ sym (length_push os o);
      settings = λ k x d e. settings_at k x d e (nat_lt k (length ls)) refl;
      pushes = λ k d lt. pushes_at k d (omega (arith, lt, length_push ls adds.lane)) (nat_lt k (length ls)) refl;
    })
  where
    settings_at : (k : ℕ) (x : Opening) (d : Lane) → slice_get (os ++ o ∷ []) k ≡ Some x → (q : Bool) → nat_lt k (length ls) ≡ q → settings_of (get_or (ls ++ adds.lane ∷ []) k d).buffer ≡ x.settings
    settings_at k x d e true q =
        let below : k < length ls = grind (arith, common_steps) in
        ap (λ (l : Lane). settings_of l.buffer) (lane_before ls adds.lane d k below)
        ∙ h.settings k x d (push_before os o x k e (omega (arith, below, h.count)))
    settings_at k x d e false q =
        let above : length ls ≤ k = grind (arith, common_steps) in
        let last : (k ≡ length os) × (o ≡ x) = push_last os o x k e (omega (arith, above, h.count)) in
        let eq : length ls ≡ k = omega (arith, last.0, h.count) in
        subst (λ (i : ℕ). settings_of (get_or (ls ++ adds.lane ∷ []) i d).buffer ≡ x.settings) eq
        (ap (λ (l : Lane). settings_of l.buffer) (lane_last ls adds.lane d) ∙ adds.settings ∙ ap (λ (y : Opening). y.settings) last.1)

    pushes_at : (k : ℕ) (d : Lane) → k < length ls + 1 → (q : Bool) → nat_lt k (length ls) ≡ q → pushes_of (get_or (ls ++ adds.lane ∷ []) k d).buffer ≤ pushed
    pushes_at k d lt true q =
        let below : k < length ls = grind (arith, common_steps) in
        subst (λ (l : Lane). pushes_of l.buffer ≤ pushed) (sym (lane_before ls adds.lane d k below)) (h.pushes k d below)
    pushes_at k d lt false q =
        let above : length ls ≤ k = grind (arith, common_steps) in
        let eq : length ls ≡ k = omega (arith, above, lt) in
        subst (λ (i : ℕ). pushes_of (get_or (ls ++ adds.lane ∷ []) i d).buffer ≤ pushed) eq
        (subst (λ (l : Lane). pushes_of l.buffer ≤ pushed) (sym (lane_last ls adds.lane d)) (omega (arith, adds.pushes)))

-- ---- something comes to the front

abbrev pub Suits : Type 0
Suits =
    (c : Contents) (older : List FrontEvent) (e : FrontEvent)
    → IsScript c → AreComing (e ∷ older) → records (e ∷ older) ≤ 100000000
    → AreSuited (with_steps [] (all_steps c older)) (steps c older e)

abbrev pub Sounds : Type 0
Sounds = (c : Contents) → IsScript c → IsSound c

-- what the front tells of a call
pub record Comes (e : FrontEvent) (old new : FrontState) (xs : List Step) : Type 0 where
  pub stands : (c : Contents) (older : List FrontEvent) → FrontStandsFor old c older → FrontStandsFor new c (e ∷ older)
  pub steps_are : (c : Contents) (older : List FrontEvent) → FrontStandsFor old c older → xs ≡ steps c older e

pub comes_at :
    (n m : ℕ) (e : FrontEvent) (xs : List Step) (s s' : Stage)
    → Suits → Sounds
    → IsComing e → ((older : List FrontEvent) → records older ≡ n → records (e ∷ older) ≡ m) → m ≤ 100000000
    → s'.lanes.items ≡ s.lanes.items → s'.wakes ≡ s.wakes → s'.standings ≡ s.standings
    → Comes e s.front s'.front xs
    → IsUnderway n [] s → IsUnderway m xs s'
comes_at n m e xs s s' suits sounds coming counts most lanes_are wakes_are standings_are front h =
    record {
      script = h.script;
      events = e ∷ h.events;
      begun = h.begun;
      pushed = h.pushed;
      reads = h.reads;
      coming = (coming, h.coming);
      count = count;
      most = most;
      front = front.stands h.script h.events h.front;
      begins = ap (λ (os : List Opening). with_steps os xs) h.begins ∙ ap (with_steps (with_steps [] before)) is ∙ sym (with_append [] before now);
      gives = ap (λ (ys : List Step). h.pushed + given ys) is ∙ gives;
      few = omega (arith, (sounds h.script h.reads).few (e ∷ h.events) (coming, h.coming), count, most);
      suited = subst (λ (os : List Opening). AreSuited os xs) (sym h.begins)
          (subst (λ (ys : List Step). AreSuited (with_steps [] before) ys) (sym is) (suits h.script h.events e h.reads (coming, h.coming) (omega (arith, count, most))));
      room = h.room;
      opened = subst (λ (ls : List Lane). AreOpened h.begun h.pushed ls) (sym lanes_are) h.opened;
      wakes = subst (λ (w : Wakes). AreWakes w s'.lanes.items) (sym wakes_are) (subst (λ (ls : List Lane). AreWakes s.wakes ls) (sym lanes_are) h.wakes);
      latencies = λ session lt.
          let one : HasLatency s session = h.latencies session lt in
          record { standing = one.standing; is = ap (λ x. slice_get x session) standings_are ∙ one.is; small = one.small };
    }
  where
    before : List Step
    before = all_steps h.script h.events

    now : List Step
    now = steps h.script h.events e

    is : xs ≡ now
    is = front.steps_are h.script h.events h.front

    gives : h.pushed + given now ≡ given (before ++ now)
    gives = omega (arith, h.gives, given_append before now)

    count : records (e ∷ h.events) ≡ m
    count = counts h.events h.count

-- A record comes.
pub takes_owed :
    (n time : ℕ) (r : Record) (xs : List Step) (s s' : Stage)
    → Suits → Sounds → IsCaptured time r → n < 100000000
    → s'.lanes.items ≡ s.lanes.items → s'.wakes ≡ s.wakes → s'.standings ≡ s.standings
    → Comes (Came time r) s.front s'.front xs
    → Owes n [] s → Owes (n + 1) xs s'
takes_owed n time r xs s s' suits sounds coming lt lanes_are wakes_are standings_are front k =
    ∥∥₁_elim k (hlevel props)
    (λ h. ∣ comes_at n (n + 1) (Came time r) xs s s' suits sounds coming (λ older e. ap (λ (m : ℕ). m + 1) e) (omega (arith, lt)) lanes_are wakes_are standings_are front h ∣₁)

-- A report time comes.
pub reports_owed :
    (n time : ℕ) (xs : List Step) (s s' : Stage)
    → Suits → Sounds
    → s'.lanes.items ≡ s.lanes.items → s'.wakes ≡ s.wakes → s'.standings ≡ s.standings
    → Comes (ReportsDue time) s.front s'.front xs
    → Owes n [] s → Owes n xs s'
reports_owed n time xs s s' suits sounds lanes_are wakes_are standings_are front k =
    ∥∥₁_elim k (hlevel props)
    (λ h. ∣ comes_at n n (ReportsDue time) xs s s' suits sounds tt (λ older e. e) h.most lanes_are wakes_are standings_are front h ∣₁)

-- ---- one step

pub step_done :
    (n : ℕ) (x : Step) (owed : List Step) (s s' : Stage) (pushed : ℕ)
    → (h : IsUnderway n (x ∷ owed) s)
    → s'.front ≡ s.front → s'.standings ≡ s.standings
    → pushed ≡ h.pushed + given_by x
    → length (with_step h.begun x) ≤ 64
    → AreOpened (with_step h.begun x) pushed s'.lanes.items
    → AreWakes s'.wakes s'.lanes.items
    → IsUnderway n owed s'
step_done n x owed s s' pushed h front_is standings_are more room opened wakes =
    record {
      script = h.script;
      events = h.events;
      begun = with_step h.begun x;
      pushed = pushed;
      reads = h.reads;
      coming = h.coming;
      count = h.count;
      most = h.most;
      front = subst (λ (f : FrontState). FrontStandsFor f h.script h.events) (sym front_is) h.front;
      begins = h.begins;
      gives = omega (arith, more, h.gives);
      few = h.few;
      suited = h.suited.1;
      room = room;
      opened = opened;
      wakes = wakes;
      latencies = λ session lt.
          let one : HasLatency s session = h.latencies session lt in
          record { standing = one.standing; is = ap (λ y. slice_get y session) standings_are ∙ one.is; small = one.small };
    }

no_more : (n : ℕ) → n ≡ n + 0
no_more n = omega arith

pub told_done : (n : ℕ) (line : BinLine) (owed : List Step) (s : Stage) → Owes n (step.Tell line ∷ owed) s → Owes n owed s
told_done n line owed s k =
    ∥∥₁_elim k (hlevel props) (λ h. ∣ step_done n (step.Tell line) owed s s h.pushed h refl refl (no_more h.pushed) h.room h.opened h.wakes ∣₁)

pub begun_done :
    (n : ℕ) (o : Opening) (owed : List Step) (s s' : Stage)
    → s'.front ≡ s.front → s'.wakes ≡ s.wakes → s'.standings ≡ s.standings
    → AddsLane o s.lanes.items s'.lanes.items
    → Owes n (step.Open o ∷ owed) s → Owes n owed s'
begun_done n o owed s s' front_is wakes_are standings_are adds k =
    ∥∥₁_elim k (hlevel props)
    (λ h. let next : IsNext h.begun o = h.suited.0 in
    ∣ step_done n (step.Open o) owed s s' h.pushed h front_is standings_are (no_more h.pushed) (omega (arith, length_push h.begun o, next.room))
    (more_opened h.begun o h.pushed s.lanes.items s'.lanes.items adds h.opened)
    (subst (λ (w : Wakes). AreWakes w s'.lanes.items) (sym wakes_are) (added_wakes s.wakes o s.lanes.items s'.lanes.items adds h.wakes)) ∣₁)

-- a lane in the place of another one, with the same wake
lane_wakes :
    (l : ℕ) (was b : Lane) (s s' : Stage)
    → l < length s.lanes.items → was ≡ get_or s.lanes.items l was
    → s'.lanes.items ≡ set s.lanes.items l b → s'.wakes ≡ s.wakes
    → b.wake ≡ was.wake
    → AreWakes s.wakes s.lanes.items → AreWakes s'.wakes s'.lanes.items
lane_wakes l was b s s' lt is lanes_are wakes_are wake h =
    subst (λ (w : Wakes). AreWakes w s'.lanes.items) (sym wakes_are)
    (subst (λ (ls : List Lane). AreWakes s.wakes ls) (sym lanes_are) (same_wakes s.wakes s.lanes.items l was b lt is wake h))

pub pushed_done :
    (n l : ℕ) (a : Arrival) (was b : Lane) (owed : List Step) (s s' : Stage)
    → l < length s.lanes.items → was ≡ get_or s.lanes.items l was
    → s'.lanes.items ≡ set s.lanes.items l b → s'.front ≡ s.front → s'.wakes ≡ s.wakes → s'.standings ≡ s.standings
    → PushedLane was b → b.wake ≡ was.wake
    → Owes n (step.Push l a ∷ owed) s → Owes n owed s'
pushed_done n l a was b owed s s' lt is lanes_are front_is wakes_are standings_are same wake k =
    ∥∥₁_elim k (hlevel props)
    (λ h. ∣ step_done n (step.Push l a) owed s s' (h.pushed + 1) h front_is standings_are refl h.room
    (subst (λ (ls : List Lane). AreOpened h.begun (h.pushed + 1) ls) (sym lanes_are)
    (one_opened h.begun h.pushed 1 l was b s.lanes.items lt is same.settings (omega (arith, same.pushes)) h.opened))
    (lane_wakes l was b s s' lt is lanes_are wakes_are wake h.wakes) ∣₁)

pub synced_done :
    (n l : ℕ) (r : SenderReport) (was b : Lane) (owed : List Step) (s s' : Stage)
    → l < length s.lanes.items → was ≡ get_or s.lanes.items l was
    → s'.lanes.items ≡ set s.lanes.items l b → s'.front ≡ s.front → s'.wakes ≡ s.wakes → s'.standings ≡ s.standings
    → SameLane was b → b.wake ≡ was.wake
    → Owes n (step.Sync l r ∷ owed) s → Owes n owed s'
synced_done n l r was b owed s s' lt is lanes_are front_is wakes_are standings_are same wake k =
    ∥∥₁_elim k (hlevel props)
    (λ h. ∣ step_done n (step.Sync l r) owed s s' (h.pushed + 0) h front_is standings_are refl h.room
    (subst (λ (ls : List Lane). AreOpened h.begun (h.pushed + 0) ls) (sym lanes_are)
    (one_opened h.begun h.pushed 0 l was b s.lanes.items lt is same.settings (omega (arith, same.pushes)) h.opened))
    (lane_wakes l was b s s' lt is lanes_are wakes_are wake h.wakes) ∣₁)

-- ---- what a step needs

-- the packet comes from one of the lane's pushers, and there is room for it
record CanPush (l : ℕ) (a : Arrival) (was : Lane) (s : Stage) : Type 0 where
  pusher : is_pusher (settings_of was.buffer).pushers a.pusher ≡ true
  few : pushes_of was.buffer < 2 ^ 31

can_push : (n l : ℕ) (a : Arrival) (was : Lane) (owed : List Step) (s : Stage) → was ≡ get_or s.lanes.items l was → IsUnderway n (step.Push l a ∷ owed) s → CanPush l a was s
can_push n l a was owed s is h =
    let fits : IsFitting h.begun l a = h.suited.0 in
    let there : l < length s.lanes.items = omega (arith, some_below h.begun l fits.opening fits.is, h.opened.count) in
    let here : pushes_of was.buffer ≤ h.pushed = subst (λ (x : Lane). pushes_of x.buffer ≤ h.pushed) (sym is) (h.opened.pushes l was there) in
    record {
      pusher = ap (λ (x : Settings). is_pusher x.pushers a.pusher) (ap (λ (x : Lane). settings_of x.buffer) is ∙ h.opened.settings l fits.opening was fits.is)
          ∙ fits.pusher;
      few = omega (arith, here, h.gives, h.few);
    }

pub push_there : (n l : ℕ) (a : Arrival) (owed : List Step) (s : Stage) → Owes n (step.Push l a ∷ owed) s → l < length s.lanes.items
push_there n l a owed s k =
    ∥∥₁_elim k (hlevel props) (λ h. let fits : IsFitting h.begun l a = h.suited.0 in omega (arith, some_below h.begun l fits.opening fits.is, h.opened.count))

pub push_pusher : (n l : ℕ) (a : Arrival) (was : Lane) (owed : List Step) (s : Stage) → was ≡ get_or s.lanes.items l was → Owes n (step.Push l a ∷ owed) s → is_pusher (settings_of was.buffer).pushers a.pusher ≡ true
push_pusher n l a was owed s is k = ∥∥₁_elim k (hlevel props) (λ h. (can_push n l a was owed s is h).pusher)

pub push_stamp : (n l : ℕ) (a : Arrival) (owed : List Step) (s : Stage) → Owes n (step.Push l a ∷ owed) s → a.stamp < 2 ^ 63
push_stamp n l a owed s k = ∥∥₁_elim k (hlevel props) (λ h. let fits : IsFitting h.begun l a = h.suited.0 in fits.ranges.stamp)

pub push_few : (n l : ℕ) (a : Arrival) (was : Lane) (owed : List Step) (s : Stage) → was ≡ get_or s.lanes.items l was → Owes n (step.Push l a ∷ owed) s → pushes_of was.buffer < 2 ^ 31
push_few n l a was owed s is k = ∥∥₁_elim k (hlevel props) (λ h. (can_push n l a was owed s is h).few)

pub sync_there : (n l : ℕ) (r : SenderReport) (owed : List Step) (s : Stage) → Owes n (step.Sync l r ∷ owed) s → l < length s.lanes.items
sync_there n l r owed s k = ∥∥₁_elim k (hlevel props) (λ h. omega (arith, h.suited.0.0, h.opened.count))

pub sync_early : (n l : ℕ) (r : SenderReport) (owed : List Step) (s : Stage) → Owes n (step.Sync l r ∷ owed) s → r.ntp_ns < 2 ^ 63
sync_early n l r owed s k = ∥∥₁_elim k (hlevel props) (λ h. h.suited.0.1)

pub open_number : (n : ℕ) (o : Opening) (owed : List Step) (s : Stage) → Owes n (step.Open o ∷ owed) s → o.lane ≡ length s.lanes.items
open_number n o owed s k = ∥∥₁_elim k (hlevel props) (λ h. h.suited.0.number ∙ sym h.opened.count)

pub open_room : (n : ℕ) (o : Opening) (owed : List Step) (s : Stage) → Owes n (step.Open o ∷ owed) s → length s.lanes.items < 64
open_room n o owed s k = ∥∥₁_elim k (hlevel props) (λ h. omega (arith, h.suited.0.room, h.opened.count))

pub open_session : (n : ℕ) (o : Opening) (owed : List Step) (s : Stage) → Owes n (step.Open o ∷ owed) s → o.session < 8
open_session n o owed s k = ∥∥₁_elim k (hlevel props) (λ h. h.suited.0.session)

valid_parts : (x : Settings) → ∥ IsValid x ∥₁ → IsValid x
valid_parts x k =
    record {
      rate_from = ∥∥₁_elim k (hlevel props) (λ v. v.rate_from);
      rate_to = ∥∥₁_elim k (hlevel props) (λ v. v.rate_to);
      latency_to = ∥∥₁_elim k (hlevel props) (λ v. v.latency_to);
      rtx_delay_to = ∥∥₁_elim k (hlevel props) (λ v. v.rtx_delay_to);
      rtx_retry_from = ∥∥₁_elim k (hlevel props) (λ v. v.rtx_retry_from);
      rtx_retry_to = ∥∥₁_elim k (hlevel props) (λ v. v.rtx_retry_to);
      rtx_max_to = ∥∥₁_elim k (hlevel props) (λ v. v.rtx_max_to);
      reorder_to = ∥∥₁_elim k (hlevel props) (λ v. v.reorder_to);
      dropout_from = ∥∥₁_elim k (hlevel props) (λ v. v.dropout_from);
      dropout_to = ∥∥₁_elim k (hlevel props) (λ v. v.dropout_to);
      misorder_to = ∥∥₁_elim k (hlevel props) (λ v. v.misorder_to);
      faststart_to = ∥∥₁_elim k (hlevel props) (λ v. v.faststart_to);
      pushers_to = ∥∥₁_elim k (hlevel props) (λ v. v.pushers_to);
    }

pub open_valid : (n : ℕ) (o : Opening) (owed : List Step) (s : Stage) → Owes n (step.Open o ∷ owed) s → IsValid o.settings
open_valid n o owed s k = valid_parts o.settings (∥∥₁_elim k (hlevel props) (λ h. ∣ h.suited.0.valid ∣₁))

index_is : (xs : List Standing) (i : ℕ) (x d : Standing) → slice_get xs i ≡ Some x → slice_index_or xs i d ≡ x
index_is [] i x d e = cc
index_is (y ∷ xs) zero x d e = cc
index_is (y ∷ xs) (suc i) x d e = index_is xs i x d e

pub open_latency : (n : ℕ) (o : Opening) (owed : List Step) (s : Stage) (d : Standing) → Owes n (step.Open o ∷ owed) s → (slice_index_or s.standings o.session d).latency ≤ 600000000000
open_latency n o owed s d k =
    ∥∥₁_elim k (hlevel props)
    (λ h. let one : HasLatency s o.session = h.latencies o.session h.suited.0.session in
    subst (λ (x : Standing). x.latency ≤ 600000000000) (sym (index_is s.standings o.session one.standing d one.is)) one.small)

pub tell_counts : (n : ℕ) (x : BinLine) (owed : List Step) (s : Stage) → Owes n (step.Tell x ∷ owed) s → counts_none x ≡ true
tell_counts n x owed s k = ∥∥₁_elim k (hlevel props) (λ h. h.suited.0)

-- ---- steps that only tell

quiet : (os : List Opening) (xs : List Step) → OnlyTell xs → AreSuited os xs → AreQuiet xs
quiet os [] only suited = tt
quiet os (step.Tell x ∷ xs) only suited = (suited.0, quiet os xs only suited.1)
quiet os (step.Open o ∷ xs) only suited = absurd only
quiet os (step.Push l a ∷ xs) only suited = absurd only
quiet os (step.Sync l r ∷ xs) only suited = absurd only

-- of the steps that a report time leads to
pub reports_quiet :
    ((c : Contents) (older : List FrontEvent) (time : ℕ) → OnlyTell (steps c older (ReportsDue time)))
    → (n m t : ℕ) (xs : List Step) (s s' : Stage)
    → Comes (ReportsDue t) s.front s'.front xs
    → Owes n [] s → Owes m xs s' → ∥ AreQuiet xs ∥₁
reports_quiet only n m t xs s s' front old new =
    ∥∥₁_elim old (hlevel props)
    (λ h. ∥∥₁_elim new (hlevel props)
    (λ k. ∣ quiet k.begun xs (subst OnlyTell (sym (front.steps_are h.script h.events h.front)) (only h.script h.events t)) k.suited ∣₁))

pub quiet_done : (xs : List Step) (n : ℕ) (s : Stage) → AreQuiet xs → Owes n xs s → Owes n [] s
quiet_done [] n s quiet k = k
quiet_done (step.Tell x ∷ xs) n s quiet k = quiet_done xs n s quiet.1 (told_done n x xs s k)
quiet_done (step.Open o ∷ xs) n s quiet k = absurd quiet
quiet_done (step.Push l a ∷ xs) n s quiet k = absurd quiet
quiet_done (step.Sync l r ∷ xs) n s quiet k = absurd quiet

pub all_done : (xs : List Step) (n : ℕ) (s : Stage) → ∥ AreQuiet xs ∥₁ → Owes n xs s → Owes n [] s
all_done xs n s quiet k = ∥∥₁_elim quiet (hlevel props) (λ q. quiet_done xs n s q k)

-- the first of them tells
pub quiet_tells : (x : Step) (rest : List Step) → AreQuiet (x ∷ rest) → (line : BinLine) × (x ≡ step.Tell line)
quiet_tells (step.Tell line) rest quiet = (line, refl)
quiet_tells (step.Open o) rest quiet = absurd quiet
quiet_tells (step.Push l a) rest quiet = absurd quiet
quiet_tells (step.Sync l r) rest quiet = absurd quiet

pub quiet_counts : (line : BinLine) (rest : List Step) → ∥ AreQuiet (step.Tell line ∷ rest) ∥₁ → counts_none line ≡ true
quiet_counts line rest k = ∥∥₁_elim k (hlevel props) (λ q. q.0)

pub quiet_behind : (line : BinLine) (rest : List Step) → ∥ AreQuiet (step.Tell line ∷ rest) ∥₁ → ∥ AreQuiet rest ∥₁
quiet_behind line rest k = ∥∥₁_elim k (hlevel props) (λ q. ∣ q.1 ∣₁)

pub never_other : (x : Step) (rest : List Step) → ((line : BinLine) → x ≡ step.Tell line → ⊥) → ∥ AreQuiet (x ∷ rest) ∥₁ → ⊥
never_other x rest other k = ∥∥₁_elim k (hlevel props) (λ q. let tells : (line : BinLine) × (x ≡ step.Tell line) = quiet_tells x rest q in other tells.0 tells.1)

-- ---- steps that are taken out of a list, from its front

pub left_next : (done rest all before : List Step) (x : Step) → done ++ before ≡ all → before ≡ x ∷ rest → (done ++ x ∷ []) ++ rest ≡ all
left_next done rest all before x e is = append_assoc done (x ∷ []) rest ∙ ap (λ (ys : List Step). done ++ ys) (sym is) ∙ e

pub left_none : (done all before : List Step) → done ++ before ≡ all → before ≡ [] → done ≡ all
left_none done all before e is = sym (append-nil done) ∙ ap (λ (ys : List Step). done ++ ys) (sym is) ∙ e

pub all_taken : (xs : List Step) (n : ℕ) → n ≡ length xs → slice_range xs 0 n ≡ xs
all_taken xs n e = take_all (n - 0) xs (omega (arith, e))

-- ---- at rest

-- another stage that stands for the same
stays_at :
    (n : ℕ) (s s' : Stage) (events : List FrontEvent)
    → (h : IsUnderway n [] s)
    → AreComing events → records events ≡ records h.events → all_steps h.script events ≡ all_steps h.script h.events
    → FrontStandsFor s'.front h.script events
    → AreOpened h.begun h.pushed s'.lanes.items
    → AreWakes s'.wakes s'.lanes.items
    → ((session : ℕ) → session < 8 → HasLatency s' session)
    → IsUnderway n [] s'
stays_at n s s' events h coming same steps_are front opened wakes latencies =
    record {
      script = h.script;
      events = events;
      begun = h.begun;
      pushed = h.pushed;
      reads = h.reads;
      coming = coming;
      count = same ∙ h.count;
      most = h.most;
      front = front;
      begins = h.begins ∙ ap (with_steps []) (sym steps_are);
      gives = h.gives ∙ ap given (sym steps_are);
      few = subst (λ (xs : List Step). given xs < 2 ^ 31) (sym steps_are) h.few;
      suited = tt;
      room = h.room;
      opened = opened;
      wakes = wakes;
      latencies = latencies;
    }

-- requests come
requests_coming : (session ssrc : ℕ) (numbers : List ℕ) (older : List FrontEvent) → AreComing older → AreComing (requests_behind session ssrc numbers older)
requests_coming session ssrc [] older h = h
requests_coming session ssrc (x ∷ xs) older h = requests_coming session ssrc xs (Requested (record { session = session; ssrc = ssrc; seq = x }) ∷ older) (tt, h)

requests_records : (session ssrc : ℕ) (numbers : List ℕ) (older : List FrontEvent) → records (requests_behind session ssrc numbers older) ≡ records older
requests_records session ssrc [] older = refl
requests_records session ssrc (x ∷ xs) older = requests_records session ssrc xs (Requested (record { session = session; ssrc = ssrc; seq = x }) ∷ older)

requests_steps : (c : Contents) (session ssrc : ℕ) (numbers : List ℕ) (older : List FrontEvent) → all_steps c (requests_behind session ssrc numbers older) ≡ all_steps c older
requests_steps c session ssrc [] older = refl
requests_steps c session ssrc (x ∷ xs) older =
    requests_steps c session ssrc xs (Requested (record { session = session; ssrc = ssrc; seq = x }) ∷ older) ∙ append-nil (all_steps c older)

-- A lane takes a call, and what it asked for is sent.
pub ticks_rest :
    (s s' : Stage) (n t session ssrc : ℕ) (was b : Lane) (numbers : List ℕ) (before after : List BinLine)
    → n < length s.lanes.items → was ≡ get_or s.lanes.items n was
    → s'.lanes.items ≡ set s.lanes.items n b → s'.standings ≡ s.standings
    → SameLane was b
    → ((j : ℕ) → kept_wake s'.wakes j ≡ wake_changed (kept_wake s.wakes) n b.wake j)
    → Sends t session ssrc numbers s.front s'.front before after
    → StaysAtRest s s'
ticks_rest s s' n t session ssrc was b numbers before after lt is lanes_are standings_are same changes sends m k =
    ∥∥₁_elim k (hlevel props)
    (λ h. ∣ stays_at m s s' (requests_behind session ssrc numbers h.events) h
    (requests_coming session ssrc numbers h.events h.coming)
    (requests_records session ssrc numbers h.events)
    (requests_steps h.script session ssrc numbers h.events)
    (sends h.script h.events h.front).0
    (subst (λ (ls : List Lane). AreOpened h.begun h.pushed ls) (sym lanes_are)
    (subst (λ (p : ℕ). AreOpened h.begun p (set s.lanes.items n b)) (sym (no_more h.pushed))
    (one_opened h.begun h.pushed 0 n was b s.lanes.items lt is same.settings (omega (arith, same.pushes)) h.opened)))
    (subst (λ (ls : List Lane). AreWakes s'.wakes ls) (sym lanes_are) (changed_wakes s.wakes s'.wakes s.lanes.items n b lt changes h.wakes))
    (λ session lt. let one : HasLatency s session = h.latencies session lt in
    record { standing = one.standing; is = ap (λ y. slice_get y session) standings_are ∙ one.is; small = one.small }) ∣₁)

latency_small : (session : ℕ) (a : Action) (was : ℕ) → IsAction a → was ≤ 600000000000 → latency_by session a was ≤ 600000000000
latency_small session (action.Latency of ns) was ok le =
    elim (of == session) as (λ b. (if b then ns else was) ≤ 600000000000) [ true ↦ ok | false ↦ le ]
latency_small session action.Clock was ok le = le
latency_small session (action.FlushStart of) was ok le = le
latency_small session (action.FlushStop of) was ok le = le

-- An item comes.
pub controls_rest :
    (s s' : Stage) (a : Action)
    → IsAction a → s'.front ≡ s.front → s'.wakes ≡ s.wakes
    → SameLanes s.lanes.items s'.lanes.items
    → ((j : ℕ) → wakes_in s'.lanes.items j ≡ wakes_in s.lanes.items j)
    → ((session : ℕ) (x : Standing) → session < 8 → slice_get s.standings session ≡ Some x → slice_get s'.standings session ≡ Some (standing_by a session x))
    → StaysAtRest s s'
controls_rest s s' a ok front_is wakes_are same wakes after m k =
    ∥∥₁_elim k (hlevel props)
    (λ h. ∣ stays_at m s s' h.events h h.coming refl refl
    (subst (λ (f : FrontState). FrontStandsFor f h.script h.events) (sym front_is) h.front)
    (same_opened h.begun h.pushed s.lanes.items s'.lanes.items same h.opened)
    (λ j. ap (λ (w : Wakes). kept_wake w j) wakes_are ∙ h.wakes j ∙ sym (wakes j))
    (λ session lt. let one : HasLatency s session = h.latencies session lt in
    record {
      standing = standing_by a session one.standing;
      is = after session one.standing lt one.is;
      small = latency_small session a one.standing.latency ok one.small;
    }) ∣₁)

pub stays_same : (s s' : Stage) → s' ≡ s → StaysAtRest s s'
stays_same s s' e n k = subst (Owes n []) (sym e) k

pub stays_then : (a b c : Stage) → StaysAtRest a b → StaysAtRest b c → StaysAtRest a c
stays_then a b c f g n k = g n (f n k)

-- ---- before anything came

pub fresh_rests :
    (c : Contents) (s : Stage)
    → IsScript c → s.lanes.items ≡ [] → FrontStandsFor s.front c []
    → ((k : ℕ) → kept_wake s.wakes k ≡ None)
    → ((session : ℕ) → session < 8 → HasLatency s session)
    → Owes 0 [] s
fresh_rests c s reads none front wakes latencies =
    ∣ record {
      script = c;
      events = [];
      begun = [];
      pushed = 0;
      reads = reads;
      coming = tt;
      count = refl;
      most = omega arith;
      front = front;
      begins = refl;
      gives = refl;
      few = omega arith;
      suited = tt;
      room = omega arith;
      opened = subst (λ (ls : List Lane). AreOpened [] 0 ls) (sym none)
          (record { count = refl; settings = λ k o d e. absurd cc; pushes = λ k d lt. absurd (omega (arith, lt)) });
      wakes = subst (λ (ls : List Lane). AreWakes s.wakes ls) (sym none) wakes;
      latencies = latencies;
    } ∣₁

-- ---- counts

pub rest_taken : (n : ℕ) (owed : List Step) (s : Stage) → Owes n owed s → s.front.taken ≡ n
rest_taken n owed s k = ∥∥₁_elim k (hlevel props) (λ h. h.front.taken ∙ h.count)

pub rest_wakes : (n : ℕ) (owed : List Step) (s : Stage) (k : ℕ) → Owes n owed s → kept_wake s.wakes k ≡ wakes_in s.lanes.items k
rest_wakes n owed s j k = ∥∥₁_elim k (hlevel props) (λ h. h.wakes j)

pub few_lanes : (n : ℕ) (owed : List Step) (s : Stage) → Owes n owed s → length s.lanes.items ≤ 64
few_lanes n owed s k = ∥∥₁_elim k (hlevel props) (λ h. omega (arith, h.room, h.opened.count))

-- A bin stands for inputs, the first of which is the first.
use Rattle.std.proofs.Common.{ℕ, ◌≡◌, ◌≤◌, Bool, true, false, refl, sym, ap, subst, ◌∙◌, List, [], ◌∷◌, ◌++◌, None, Some, arith}
use Rattle.std.specs.Prelude.{◌||◌, reverse}
use Rattle.bin_core.proofs.Cases.{by_cases}
use Rattle.std.proofs.lemmas.List.{append_assoc, append-nil, reverse-append}
use Rattle.script_lang.specs.Contents.{Contents}
use Rattle.timeline.specs.declared.line.BinLine.{BinLine}
use Rattle.replay_model.specs.declared.Due.{Due}
use Rattle.replay_model.specs.Inputs.{Input, OfCapture, OfScript}
use Rattle.replay_model.specs.Events.{Timeline}
use Rattle.replay_model.specs.Lines.{lines}
use Rattle.replay_model.specs.Lanes.{lane_count, opened}
use Rattle.replay_model.specs.Serving.{serve_one}
use Rattle.replay_model.specs.Ending.{closed}
use Rattle.front_model.specs.Events.{Came}
use Rattle.replay_model.specs.Taking.{taken}
use Rattle.replay_model.specs.Order.{input_time}
use Rattle.replay_model.specs.Log.{served, with_item, with_input, timeline, with_done}
use Rattle.lane_core.specs.Lanes.{Base, Adds}
use Rattle.bin_core.specs.declared.bin.Bin.{Bin}
use Rattle.bin_core.specs.declared.agenda.Agenda.{Agenda}
use Rattle.bin_core.specs.Words.{time_of, ahead_of}
use Rattle.bin_core.specs.Agendas.{Holds, GoesTo, ServesFirst, ServesNothing, CompletesAll, due_first}
use Rattle.bin_core.specs.Bins.{StandsFor, BinStands, ServesMore, TakesOn, Completes, HasServed}
use Rattle.bin_core.proofs.Serving.{Steps, Stops, served_after}
use Rattle.replay_model.specs.Keeping.{TimelinesKeep}

-- the same from here on
rebase : (c : Contents) (base : Base) (agenda : Agenda) (told : List BinLine) (tl : Timeline) → Holds c base agenda told tl → (before : List BinLine) → Holds c (record { before = before; log = lines tl }) agenda before tl
rebase c base agenda told tl h before =
    record {
      stage =
          record {
            count = h.stage.count;
            few = h.stage.few;
            lanes =
                record {
                  tells =
                      record {
                        each = h.stage.lanes.tells.each;
                        silent = h.stage.lanes.tells.silent;
                        tallies = h.stage.lanes.tells.tallies;
                        written = record { more = []; told_is = sym (append-nil before); all_is = sym (append-nil (lines tl)) };
                      };
                  wakes_are = h.stage.lanes.wakes_are;
                };
            front = h.stage.front;
            sync = h.stage.sync;
            lanes_kept = h.stage.lanes_kept;
            standings = h.stage.standings;
          };
      interval = h.interval;
      next = h.next;
      last = h.last;
    }

-- what was added since then
added_since : (c : Contents) (agenda : Agenda) (before after : List BinLine) (old new : Timeline) → Holds c (record { before = before; log = lines old }) agenda after new → Adds (record { before = before; log = lines old }) after (lines new)
added_since c agenda before after old new h = h.stage.lanes.tells.written

pub fresh_stands : (c : Contents) (bin : Bin) → ((before : List BinLine) → Holds c (record { before = before; log = [] }) bin.agenda before []) → BinStands c bin [] []
unfolding BinStands
fresh_stands c bin h =
    record { now = []; holds = h; told_is = refl; same = λ t le. refl; level = λ e. refl }

-- ---- inputs

-- What is due comes before an input, wherever it was served.
input_same : (c : Contents) (x : Input) (old new : Timeline) → served c (input_time x) new ≡ served c (input_time x) old → with_input c x new ≡ with_input c x old
input_same c (OfCapture r) old new e = ap (taken c r.time (Came r.time r.captured)) e
input_same c (OfScript i) old new e = ap (with_item c i) e

pub takes_on :
    (c : Contents) (seen : List Input) (told : List BinLine) (x : Input) (old new : Bin) (before after : List BinLine)
    → time_of old ≤ input_time x
    → GoesTo old.agenda new.agenda before after (λ k. with_input k x)
    → BinStands c old seen told
    → TakesOn c seen told x before after new
unfolding BinStands
takes_on c seen told x old new before after le goes st =
    record {
      rest = added.more;
      added = added.told_is;
      line = ap (λ (xs : List Input). lines (timeline c xs)) (sym same) ∙ ap lines (sym is) ∙ added.all_is ∙ ap (λ (ls : List BinLine). ls ++ added.more) st.told_is;
      stands = subst (λ (xs : List Input). StandsFor c new xs []) same
          (record { now = next; holds = rebase c base new.agenda after next there; told_is = sym (append-nil (lines next)); same = λ t small. refl; level = λ e. refl });
    }
  where
    base : Base
    base = record { before = before; log = lines st.now }

    next : Timeline
    next = timeline c (x ∷ reverse seen)

    is : with_input c x st.now ≡ next
    is = input_same c x (timeline c (reverse seen)) st.now (st.same (input_time x) le)

    held : Holds c base new.agenda after (with_input c x st.now)
    held = goes c base st.now (st.holds before)

    there : Holds c base new.agenda after next
    there = subst (λ (tl : Timeline). Holds c base new.agenda after tl) is held

    added : Adds base after (lines (with_input c x st.now))
    added = held.stage.lanes.tells.written

    same : x ∷ reverse seen ≡ reverse (seen ++ x ∷ [])
    same = sym (reverse-append seen (x ∷ []))

-- ---- what is served ahead

abbrev pub Parts : Type 0
Parts = (c : Contents) (limit t : ℕ) (tl : Timeline) → limit ≤ t → served c t (served c limit tl) ≡ served c t tl

pub serves_more :
    TimelinesKeep
    → (c : Contents) (seen : List Input) (told : List BinLine) (t : ℕ) (old new : Bin) (before after : List BinLine)
    → Steps → Parts
    → time_of old ≤ t → time_of new ≡ t → ahead_of new ≡ true
    → ServesFirst true t old.agenda new.agenda before after
    → BinStands c old seen told
    → ServesMore c seen told before after new
unfolding BinStands
serves_more keeping c seen told t old new before after step parts le time ahead serves st =
    record {
      more = added.more;
      added = added.told_is;
      stands =
          record {
            now = next;
            holds = rebase c base new.agenda after next one.2;
            told_is = added.all_is ∙ ap (λ (ls : List BinLine). ls ++ added.more) st.told_is ∙ append_assoc (lines (timeline c (reverse seen))) told added.more;
            same = λ u small. let later : t ≤ u = omega (arith, time, small) in
                sym (parts c t u next later) ∙ ap (served c u) (served_after keeping step c true t st.now one.0 one.1) ∙ parts c t u st.now later ∙ st.same u (omega (arith, le, later));
            level = λ e. absurd (differ (sym ahead ∙ e));
          };
    }
  where
    base : Base
    base = record { before = before; log = lines st.now }

    one : (d : Due) × (due_first c true t st.now ≡ Some d) × Holds c base new.agenda after (serve_one c (opened c st.now) d st.now)
    one = serves c base st.now (st.holds before)

    next : Timeline
    next = serve_one c (opened c st.now) one.0 st.now

    added : Adds base after (lines next)
    added = one.2.stage.lanes.tells.written

    differ : true ≡ false → ⊥
    differ e = cc

pub serves_none :
    (c : Contents) (seen : List Input) (told : List BinLine) (t : ℕ) (old new : Bin) (before after : List BinLine)
    → time_of old ≤ t → time_of new ≡ t → (ahead_of new ≡ false → ahead_of old ≡ false)
    → ServesNothing true t old.agenda new.agenda before after
    → BinStands c old seen told
    → ServesMore c seen told before after new
unfolding BinStands
serves_none c seen told t old new before after le time ahead serves st =
    record {
      more = added.more;
      added = added.told_is;
      stands =
          record {
            now = st.now;
            holds = rebase c base new.agenda after st.now one.1;
            told_is = added.all_is ∙ ap (λ (ls : List BinLine). ls ++ added.more) st.told_is ∙ append_assoc (lines (timeline c (reverse seen))) told added.more;
            same = λ u small. st.same u (omega (arith, le, time, small));
            level = λ e. st.level (ahead e);
          };
    }
  where
    base : Base
    base = record { before = before; log = lines st.now }

    one : (due_first c true t st.now ≡ None) × Holds c base new.agenda after st.now
    one = serves c base st.now (st.holds before)

    added : Adds base after (lines st.now)
    added = one.1.stage.lanes.tells.written

pub has_served :
    (t : ℕ) (old new : Bin) (before after : List BinLine)
    → Stops → time_of new ≡ t → new.agenda ≡ old.agenda
    → ServesNothing true t old.agenda new.agenda before after
    → HasServed t new
unfolding BinStands
has_served t old new before after stop time same serves c seen told st =
    let base : Base = record { before = before; log = lines st.now } in
    let held : Holds c base old.agenda before st.now = subst (λ (a : Agenda). Holds c base a before st.now) same (st.holds before) in
    let none : due_first c true t st.now ≡ None = (serves c base st.now held).0 in
    ap lines (sym (st.same t (omega (arith, time))) ∙ stop c (opened c st.now) true (lane_count st.now) t st.now none) ∙ st.told_is

-- ---- the end

pub completes :
    (c : Contents) (seen : List Input) (told : List BinLine) (old : Bin) (before after : List BinLine)
    → ahead_of old ≡ false
    → CompletesAll old.agenda before after
    → BinStands c old seen told
    → Completes c seen before after
unfolding BinStands
completes c seen told old before after ahead ends st =
    let level : st.now ≡ timeline c (reverse seen) = st.level ahead in
    let added : Adds (record { before = before; log = lines st.now }) after (with_done (closed c st.now)) = ends c (record { before = before; log = lines st.now }) st.now (st.holds before) in
    record {
      rest = added.more;
      added = added.told_is;
      line = ap (λ (tl : Timeline). with_done (closed c tl)) (sym level) ∙ added.all_is ∙ ap (λ (tl : Timeline). lines tl ++ added.more) level;
    }

-- ---- one that is due, or none

-- whether something was served is known by the answer
pub advances :
    TimelinesKeep
    → (c : Contents) (seen : List Input) (told : List BinLine) (t : ℕ) (old new : Bin) (more : Bool) (before after : List BinLine)
    → Steps → Parts
    → time_of old ≤ t → time_of new ≡ t → ahead_of new ≡ (ahead_of old || more)
    → (more ≡ true → ServesFirst true t old.agenda new.agenda before after)
    → (more ≡ false → ServesNothing true t old.agenda new.agenda before after)
    → BinStands c old seen told
    → ServesMore c seen told before after new
advances keeping c seen told t old new more before after step parts le time ahead first none st =
    by_cases more
    (λ e. serves_more keeping c seen told t old new before after step parts le time (ahead ∙ ap (λ (b : Bool). ahead_of old || b) e ∙ or_true (ahead_of old)) (first e) st)
    (λ e. serves_none c seen told t old new before after le time (λ f. or_first (ahead_of old) more (sym ahead ∙ f)) (none e) st)
  where
    or_true : (a : Bool) → (a || true) ≡ true
    or_true true = refl
    or_true false = refl

    or_first : (a b : Bool) → (a || b) ≡ false → a ≡ false
    or_first true b e = e
    or_first false b e = refl

pub or_kept : (a b : Bool) → a ≡ true → a ≡ (a || b)
or_kept true b e = refl
or_kept false b e = cc

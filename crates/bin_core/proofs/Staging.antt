-- A stage along the timeline.
use Rattle.std.proofs.Common.{ℕ, zero, suc, ◌≡◌, ◌+◌, ◌<◌, ◌≤◌, Bool, true, false, refl, sym, ap, subst, ◌∙◌, List, [], ◌∷◌, ◌++◌, length, Some, arith}
use Rattle.std.specs.Prelude.{All, ◌==◌, get_or, set, slice_get, slice_index_or, if◌then◌else◌}
use Rattle.std.proofs.lemmas.Grind.{common_steps}
use Rattle.std.proofs.lemmas.List.{append_assoc, append-nil, length-set, length_push}
use Rattle.std.proofs.lemmas.List.Elements.{All-nil, All-head, All-tail, All-cons}
use Rattle.jitter_model.specs.declared.Arrival.{Arrival}
use Rattle.jitter_model.specs.declared.Entry.{Entry}
use Rattle.jitter_model.specs.declared.Entry.TheVariants.{Latency}
use Rattle.script_lang.specs.Contents.{Contents}
use Rattle.script_lang.specs.declared.script.Item.{Item}
use Rattle.timeline.specs.declared.line.BinLine.{BinLine}
use Rattle.ntp_sync.specs.Offsets.{Call, StandsFor as SyncStandsFor}
use Rattle.front_model.specs.declared.Opening.{Opening}
use Rattle.front_model.specs.declared.Step.{Step}
use Rattle.front_model.specs.declared.Step.TheVariants as step
use Rattle.front_model.specs.Events.{FrontEvent}
use Rattle.rtp_front.specs.Standing.{State as FrontState, StandsFor as FrontStandsFor}
use Rattle.replay_model.specs.Events.{Timeline, Fronted, Began, Told, At, front, kept, lane, openings, items}
use Rattle.replay_model.specs.Lanes.{lane_count, opened, latency_of, is_flushing_of, latency_after, is_flushing_after}
use Rattle.replay_model.specs.Turning.{all_turns, asked, settled}
use Rattle.replay_model.specs.Taking.{touches, flushed_at_begin, begun, fronted, all_stepped}
use Rattle.front_model.specs.Steps.{steps}
use Rattle.bin_core.proofs.Timelines.{same_opened}
use Rattle.lane_core.specs.declared.lane.Lane.{Lane}
use Rattle.lane_core.specs.Lanes.{GoesOn as LaneGoesOn, pushed_at, Base, Around, LaneTells, LaneAsks}
use Rattle.lane_core.specs.AllLanes.{LanesRest, BeginsAs, AddsLane, Open, all_resting, resting_and, resting_but, wakes_in}
use Rattle.bin_core.specs.declared.standings.Standing.{Standing}
use Rattle.bin_core.specs.declared.stage.Stage.{Stage}
use Rattle.replay_sound.specs.Suited.{counts_none}
use Rattle.bin_core.specs.Stages.{standing, nack_lines, requests_behind, Sends, StageTells, Begins, AreApart, AreTold, TellsAll, Does, SameButOne}
use Rattle.bin_core.proofs.Cases.{by_cases}
use Rattle.bin_core.proofs.Waking.{wakes_other}
use Rattle.bin_core.proofs.Counting.{line_sums}
use Rattle.bin_core.proofs.Sending.{turns_of, nack_sums, series_front, series_kept, series_lines}
use Rattle.lane_core.specs.AllLanes.{around}
use Rattle.replay_model.specs.Keeping.{TimelinesKeep}
use Rattle.lane_core.specs.Beside.{LanesStandBeside}

-- the same lanes began, the same reports were kept, and the same items came
pub record SameBeside (old new : Timeline) : Type 0 where
  pub openings_are : openings new ≡ openings old
  pub kept_are : kept new ≡ kept old
  pub items_are : items new ≡ items old

-- beside the lanes and the front a stage is the same
pub record SameStage (old new : Stage) : Type 0 where
  pub count : length new.lanes.items ≡ length old.lanes.items
  pub sync : new.sync ≡ old.sync
  pub standings : new.standings ≡ old.standings

-- how many lanes there are, by openings
count_same : (old new : Timeline) → openings new ≡ openings old → lane_count new ≡ lane_count old
count_same old new e = ap (λ (os : List Opening). length os) e

-- how a session stands, by the items
abbrev pub standing_by_items : Contents → ℕ → List Item → Standing
standing_by_items c session xs = record { latency = latency_after c session xs; flushing = is_flushing_after session xs }

pub tells_on :
    LanesStandBeside
    → (c : Contents) (base : Base) (resting rests : ℕ → Bool) (s s' : Stage) (told more : List BinLine) (tl after : Timeline)
    → StageTells c base resting s told tl
    → SameBeside tl after
    → SameStage s s'
    → FrontStandsFor s'.front c (front after)
    → LanesRest (opened c tl) base rests s'.lanes.items more after
    → StageTells c base rests s' more after
tells_on beside_law c base resting rests s s' told more tl after h beside same fronts lanes =
    let count : lane_count after ≡ lane_count tl = count_same tl after beside.openings_are in
    record {
      count = same.count ∙ h.count ∙ sym count;
      few = omega (arith, h.few);
      lanes = beside_law.opened (opened c tl) (opened c after) base rests s'.lanes.items more after (λ k lt. sym (same_opened c tl after k beside.openings_are)) lanes;
      front = fronts;
      sync = subst (λ (x : List Call). SyncStandsFor s'.sync x) (sym beside.kept_are) (subst (λ x. SyncStandsFor x (kept tl)) (sym same.sync) h.sync);
      lanes_kept = subst (λ (x : List Call). All (λ (call : Call). call.lane < lane_count after) x) (sym beside.kept_are)
          (subst (λ (n : ℕ). All (λ (call : Call). call.lane < n) (kept tl)) (sym count) h.lanes_kept);
      standings = λ session lt.
          ap (λ x. slice_get x session) same.standings ∙ h.standings session lt
          ∙ ap (λ (x : List Item). Some (standing_by_items c session x)) (sym beside.items_are);
    }

-- fewer lanes are at rest
pub tells_fewer :
    LanesStandBeside
    → (c : Contents) (base : Base) (resting fewer : ℕ → Bool) (s : Stage) (told : List BinLine) (tl : Timeline)
    → ((k : ℕ) → k < length s.lanes.items → fewer k ≡ true → resting k ≡ true)
    → StageTells c base resting s told tl
    → StageTells c base fewer s told tl
tells_fewer beside_law c base resting fewer s told tl le h =
    record {
      count = h.count;
      few = h.few;
      lanes = beside_law.fewer (opened c tl) base resting fewer s.lanes.items told tl le h.lanes;
      front = h.front;
      sync = h.sync;
      lanes_kept = h.lanes_kept;
      standings = h.standings;
    }

-- A lane takes a call and turns, and what it asked for is sent.
pub settles :
    TimelinesKeep → LanesStandBeside
    → (c : Contents) (base : Base) (resting : ℕ → Bool) (s s' : Stage) (n t : ℕ) (e : Entry) (was b : Lane) (numbers : List ℕ) (before mid after : List BinLine) (tl : Timeline)
    → n < length s.lanes.items → was ≡ get_or s.lanes.items n was
    → s'.lanes.items ≡ set s.lanes.items n b → s'.sync ≡ s.sync → s'.standings ≡ s.standings
    → ((o : ℕ → Opening) (a : Around) (k : ℕ) (now : Timeline) → LaneTells o a k was before now → LaneAsks o a k b numbers mid (all_turns o t k (At t k e ∷ now)))
    → Sends t b.session b.ssrc numbers s.front s'.front mid after
    → StageTells c base resting s before tl
    → StageTells c base (resting_and n resting) s' after (settled c (opened c tl) t n (At t n e ∷ tl))
settles keeping beside_law c base resting s s' n t e was b numbers before mid after tl lt is lanes_are sync_is standings_are goes sends h =
    tells_on beside_law c base resting (resting_and n resting) s s' before after tl new h beside same fronts rested
  where
    o : ℕ → Opening
    o = opened c tl

    mid_tl : Timeline
    mid_tl = turns_of o t n e tl

    new : Timeline
    new = settled c o t n (At t n e ∷ tl)

    beside : SameBeside tl new
    beside = record { openings_are = keeping.series.openings_are c o t n (At t n e ∷ tl); kept_are = series_kept c o t n e tl; items_are = keeping.series.items_are c o t n (At t n e ∷ tl) }

    same : SameStage s s'
    same = record { count = ap (λ (x : List Lane). length x) lanes_are ∙ length-set s.lanes.items n b; sync = sync_is; standings = standings_are }

    asks : LaneAsks o (around base s.lanes.items n tl) n b numbers mid mid_tl
    asks = goes o (around base s.lanes.items n tl) n tl (beside_law.each o base s.lanes.items n was before tl lt is h.lanes.tells)

    rest_mid : LanesRest o base (resting_and n resting) (set s.lanes.items n b) mid mid_tl
    rest_mid = beside_law.rest o base resting s.lanes.items n was b before mid tl mid_tl lt is h.lanes (λ k. asks.rests)

    session_is : b.session ≡ (o n).session
    session_is = asks.rests.tells.holds.session_is

    ssrc_is : b.ssrc ≡ (o n).ssrc
    ssrc_is = asks.rests.tells.holds.ssrc_is

    sent_is : (FrontStandsFor s'.front c (requests_behind b.session b.ssrc numbers (front tl))) × (after ≡ mid ++ nack_lines c t b.session b.ssrc numbers)
    sent_is = sends c (front tl) h.front

    asked_are : numbers ≡ asked (lane n mid_tl)
    asked_are = asks.asked_is

    fronts : FrontStandsFor s'.front c (front new)
    fronts =
        subst (λ (x : List FrontEvent). FrontStandsFor s'.front c x)
        (ap (λ (x : ℕ). requests_behind x b.ssrc numbers (front tl)) session_is ∙ ap (λ (x : ℕ). requests_behind (o n).session x numbers (front tl)) ssrc_is
        ∙ ap (λ (x : List ℕ). requests_behind (o n).session (o n).ssrc x (front tl)) asked_are ∙ sym (series_front keeping c o t n e tl)) sent_is.0

    nacks : List BinLine
    nacks = nack_lines c t (o n).session (o n).ssrc (asked (lane n mid_tl))

    added : after ≡ mid ++ nacks
    added =
        sent_is.1 ∙ ap (λ (x : ℕ). mid ++ nack_lines c t x b.ssrc numbers) session_is ∙ ap (λ (x : ℕ). mid ++ nack_lines c t (o n).session x numbers) ssrc_is
        ∙ ap (λ (x : List ℕ). mid ++ nack_lines c t (o n).session (o n).ssrc x) asked_are

    rested : LanesRest o base (resting_and n resting) s'.lanes.items after new
    rested =
        subst (λ (x : List Lane). LanesRest o base (resting_and n resting) x after new) (sym lanes_are)
        (beside_law.apart o base (resting_and n resting) (set s.lanes.items n b) mid after nacks mid_tl new
        (λ k. keeping.series.lanes_are c o t n k (At t n e ∷ tl)) (series_lines c o t n e tl) added (nack_sums c t (o n).session (o n).ssrc (asked (lane n mid_tl))) rest_mid)

-- ---- what stays

pub same_but_one : (s s' : Stage) (n : ℕ) (b : Lane) → s'.lanes.items ≡ set s.lanes.items n b → SameButOne n s s'
same_but_one s s' n b e =
    record {
      count = ap (λ (x : List Lane). length x) e ∙ length-set s.lanes.items n b;
      wakes = λ k ne. ap (λ (x : List Lane). wakes_in x k) e ∙ wakes_other s.lanes.items n k b ne;
    }

-- ---- a line

-- A line that counts nothing is told.
pub told_tells :
    LanesStandBeside
    → (c : Contents) (base : Base) (resting : ℕ → Bool) (s : Stage) (t : ℕ) (x : BinLine) (before after : List BinLine) (tl : Timeline)
    → counts_none x ≡ true → after ≡ before ++ x ∷ []
    → StageTells c base resting s before tl
    → StageTells c base resting s after (Told t x ∷ tl)
told_tells beside_law c base resting s t x before after tl none e h =
    tells_on beside_law c base resting resting s s before after tl (Told t x ∷ tl) h
    (record { openings_are = refl; kept_are = refl; items_are = refl })
    (record { count = refl; sync = refl; standings = refl })
    h.front
    (beside_law.apart (opened c tl) base resting s.lanes.items before after (x ∷ []) tl (Told t x ∷ tl) (λ k. refl) refl e (line_sums x none) h.lanes)

-- Something came to the front.
pub fronted_tells :
    LanesStandBeside
    → (c : Contents) (base : Base) (resting : ℕ → Bool) (s s' : Stage) (t : ℕ) (e : FrontEvent) (before : List BinLine) (tl : Timeline)
    → s'.lanes.items ≡ s.lanes.items → s'.sync ≡ s.sync → s'.standings ≡ s.standings
    → FrontStandsFor s'.front c (e ∷ front tl)
    → StageTells c base resting s before tl
    → StageTells c base resting s' before (Fronted t e ∷ tl)
fronted_tells beside_law c base resting s s' t e before tl lanes_are sync_is standings_are fronts h =
    tells_on beside_law c base resting resting s s' before before tl (Fronted t e ∷ tl) h
    (record { openings_are = refl; kept_are = refl; items_are = refl })
    (record { count = ap (λ (x : List Lane). length x) lanes_are; sync = sync_is; standings = standings_are })
    fronts
    (subst (λ (x : List Lane). LanesRest (opened c tl) base resting x before (Fronted t e ∷ tl)) (sym lanes_are)
    (beside_law.apart (opened c tl) base resting s.lanes.items before before [] tl (Fronted t e ∷ tl) (λ k. refl) refl (sym (append-nil before)) (record { out_is = refl; lost_is = refl; refused_is = refl }) h.lanes))

-- ---- a packet

-- A lane that a step touches isn't at rest.
pub still : (resting : ℕ → Bool) (n count : ℕ) (x : Step) → touches n x ≡ true → AreApart resting count x → resting n ≡ false
still resting n count x hit apart =
    by_cases (resting n)
    (λ r. absurd (differ (sym hit ∙ (apart n r).0)))
    (λ r. r)
  where
    differ : true ≡ false → ⊥
    differ e = cc

-- A lane goes on, and isn't at rest.
pub lane_tells :
    LanesStandBeside
    → (c : Contents) (base : Base) (resting : ℕ → Bool) (s s' : Stage) (n : ℕ) (was b : Lane) (before after : List BinLine) (tl new : Timeline)
    → n < length s.lanes.items → was ≡ get_or s.lanes.items n was
    → s'.lanes.items ≡ set s.lanes.items n b → s'.front ≡ s.front → s'.sync ≡ s.sync → s'.standings ≡ s.standings
    → resting n ≡ false
    → SameBeside tl new → front new ≡ front tl
    → ((a : Around) → LaneTells (opened c tl) a n was before tl → LaneTells (opened c tl) a n b after new)
    → StageTells c base resting s before tl
    → StageTells c base resting s' after new
lane_tells beside_law c base resting s s' n was b before after tl new lt is lanes_are front_is sync_is standings_are rests beside front_same goes h =
    tells_on beside_law c base resting resting s s' before after tl new h beside
    (record { count = ap (λ (x : List Lane). length x) lanes_are ∙ length-set s.lanes.items n b; sync = sync_is; standings = standings_are })
    (subst (λ (x : FrontState). FrontStandsFor x c (front new)) (sym front_is) (subst (λ (x : List FrontEvent). FrontStandsFor s.front c x) (sym front_same) h.front))
    (subst (λ (x : List Lane). LanesRest (opened c tl) base resting x after new) (sym lanes_are)
    (beside_law.go_on (opened c tl) base resting s.lanes.items n was b before after tl new lt is rests h.lanes (goes (around base s.lanes.items n tl))))

-- ---- a lane begins

-- a flush at the begin leaves all but the lane
flushed_beside : (b : Bool) (t l : ℕ) (tl : Timeline) → SameBeside tl (flushed_at_begin b t l tl)
flushed_beside true t l tl = record { openings_are = refl; kept_are = refl; items_are = refl }
flushed_beside false t l tl = record { openings_are = refl; kept_are = refl; items_are = refl }

flushed_front : (b : Bool) (t l : ℕ) (tl : Timeline) → front (flushed_at_begin b t l tl) ≡ front tl
flushed_front true t l tl = refl
flushed_front false t l tl = refl

all_below : (n m : ℕ) (calls : List Call) → n ≤ m → All (λ (call : Call). call.lane < n) calls → All (λ (call : Call). call.lane < m) calls
all_below n m [] le h = All-nil _
all_below n m (x ∷ xs) le h = All-cons (λ (call : Call). call.lane < m) x xs (let lt : x.lane < n = All-head (λ (call : Call). call.lane < n) x xs h in omega arith) (all_below n m xs le (All-tail (λ (call : Call). call.lane < n) x xs h))

pub opens :
    LanesStandBeside
    → (c : Contents) (base : Base) (resting : ℕ → Bool) (s s' : Stage) (t : ℕ) (opening : Opening) (st d : Standing) (before after : List BinLine) (tl : Timeline)
    → AddsLane opening s.lanes.items s'.lanes.items
    → Open t opening st.latency st.flushing s.lanes.items s'.lanes.items before after
    → s'.front ≡ s.front → s'.sync ≡ s.sync → s'.standings ≡ s.standings
    → length s.lanes.items < 64 → opening.session < 8
    → st ≡ slice_index_or s.standings opening.session d
    → AreApart resting (length s.lanes.items) (step.Open opening)
    → StageTells c base resting s before tl
    → StageTells c base resting s' after (begun c t opening tl)
opens beside_law c base resting s s' t opening st d before after tl adds goes front_is sync_is standings_are room below is apart h =
    record {
      count = long ∙ ap (λ (x : ℕ). x + 1) h.count ∙ sym counted;
      few = omega (arith, counted, h.count, room);
      lanes = beside_law.fewer (opened c new) base (resting_but (length s.lanes.items) resting) resting s'.lanes.items after new fewer
          (goes c base resting tl begins h.lanes);
      front = subst (λ (x : FrontState). FrontStandsFor x c (front new)) (sym front_is) (subst (λ (x : List FrontEvent). FrontStandsFor s.front c x) (sym front_same) h.front);
      sync = subst (λ (x : List Call). SyncStandsFor s'.sync x) (sym kept_same) (subst (λ x. SyncStandsFor x (kept tl)) (sym sync_is) h.sync);
      lanes_kept = subst (λ (x : List Call). All (λ (call : Call). call.lane < lane_count new) x) (sym kept_same)
          (all_below (lane_count tl) (lane_count new) (kept tl) (omega (arith, counted)) h.lanes_kept);
      standings = λ session lt.
          ap (λ x. slice_get x session) standings_are ∙ h.standings session lt
          ∙ ap (λ (x : List Item). Some (standing_by_items c session x)) (sym items_same);
    }
  where
    X : Timeline
    X = At t (lane_count tl) (Latency (latency_of c opening.session tl)) ∷ Began t opening ∷ tl

    new : Timeline
    new = begun c t opening tl

    beside : SameBeside X new
    beside = flushed_beside (is_flushing_of opening.session tl) t (lane_count tl) X

    front_same : front new ≡ front tl
    front_same = flushed_front (is_flushing_of opening.session tl) t (lane_count tl) X

    kept_same : kept new ≡ kept tl
    kept_same = beside.kept_are

    items_same : items new ≡ items tl
    items_same = beside.items_are

    counted : lane_count new ≡ lane_count tl + 1
    counted = ap (λ (os : List Opening). length os) beside.openings_are ∙ length_push (openings tl) opening

    long : length s'.lanes.items ≡ length s.lanes.items + 1
    long = ap (λ (x : List Lane). length x) adds.added ∙ length_push s.lanes.items adds.lane

    found : (xs : List Standing) (i : ℕ) (x : Standing) → slice_get xs i ≡ Some x → slice_index_or xs i d ≡ x
    found [] i x e = cc
    found (y ∷ xs) zero x e = cc
    found (y ∷ xs) (suc i) x e = found xs i x e

    standing_is : st ≡ standing c opening.session tl
    standing_is = is ∙ found s.standings opening.session (standing c opening.session tl) (h.standings opening.session below)

    begins : BeginsAs c opening st.latency st.flushing s.lanes.items tl
    begins = record { count = h.count; latency = ap (λ (x : Standing). x.latency) standing_is; flushing_is = ap (λ (x : Standing). x.flushing) standing_is }

    fewer : (k : ℕ) → k < length s'.lanes.items → resting k ≡ true → resting_but (length s.lanes.items) resting k ≡ true
    fewer k lt r =
        let within : k < length s.lanes.items = (apart k r).1 in
        let other : (k == length s.lanes.items) ≡ false = grind (arith, common_steps) in
        ap (λ (b : Bool). if b then false else resting k) other ∙ r

-- A packet comes to a lane.
pub pushes :
    LanesStandBeside
    → (s s' : Stage) (t n : ℕ) (a : Arrival) (was b : Lane) (before after : List BinLine)
    → n < length s.lanes.items → was ≡ get_or s.lanes.items n was
    → s'.lanes.items ≡ set s.lanes.items n b → s'.front ≡ s.front → s'.sync ≡ s.sync → s'.standings ≡ s.standings
    → LaneGoesOn was b before after (pushed_at t a)
    → Does t (step.Push n a) s s' before after
pushes beside_law s s' t n a was b before after lt is lanes_are front_is sync_is standings_are goes c base resting tl apart h =
    lane_tells beside_law c base resting s s' n was b before after tl (pushed_at t a (opened c tl) n tl) lt is lanes_are front_is sync_is standings_are
    (still resting n (length s.lanes.items) (step.Push n a) (eq_same n) apart)
    (record { openings_are = refl; kept_are = refl; items_are = refl }) refl
    (λ around k. goes (opened c tl) around n tl k) h
  where
    eq_same : (m : ℕ) → (m == m) ≡ true
    eq_same m = grind (arith, common_steps)

-- ---- lines of the front

-- Steps that only tell are done.
pub tells_told :
    LanesStandBeside
    → (c : Contents) (base : Base) (resting : ℕ → Bool) (s : Stage) (t : ℕ) (xs : List Step) (ys before after : List BinLine) (tl : Timeline)
    → AreTold xs ys → after ≡ before ++ ys
    → StageTells c base resting s before tl
    → StageTells c base resting s after (all_stepped c t xs tl)
tells_told beside_law c base resting s t [] ys before after tl told e h =
    subst (λ (zs : List BinLine). StageTells c base resting s zs tl) (sym (e ∙ ap (λ (zs : List BinLine). before ++ zs) told ∙ append-nil before)) h
tells_told beside_law c base resting s t (step.Tell x ∷ xs) ys before after tl told e h =
    tells_told beside_law c base resting s t xs told.1.0 (before ++ x ∷ []) after (Told t x ∷ tl) told.1.2
    (e ∙ ap (λ (zs : List BinLine). before ++ zs) told.1.1 ∙ sym (append_assoc before (x ∷ []) told.1.0))
    (told_tells beside_law c base resting s t x before (before ++ x ∷ []) tl told.0 refl h)
tells_told beside_law c base resting s t (step.Open o ∷ xs) ys before after tl told e h = absurd told
tells_told beside_law c base resting s t (step.Push l a ∷ xs) ys before after tl told e h = absurd told
tells_told beside_law c base resting s t (step.Sync l r ∷ xs) ys before after tl told e h = absurd told

-- Reports of all sessions are told.
pub reports_told :
    LanesStandBeside
    → (c : Contents) (base : Base) (s s' : Stage) (t : ℕ) (e : FrontEvent) (xs : List Step) (before after : List BinLine) (tl : Timeline)
    → s'.lanes.items ≡ s.lanes.items → s'.sync ≡ s.sync → s'.standings ≡ s.standings
    → FrontStandsFor s'.front c (e ∷ front tl)
    → xs ≡ steps c (front tl) e
    → TellsAll xs before after
    → StageTells c base all_resting s before tl
    → StageTells c base all_resting s' after (fronted c t e tl)
reports_told beside_law c base s s' t e xs before after tl lanes_are sync_is standings_are fronts is told h =
    subst (λ (ys : List Step). StageTells c base all_resting s' after (all_stepped c t ys (Fronted t e ∷ tl))) is
    (tells_told beside_law c base all_resting s' t xs told.0 before after (Fronted t e ∷ tl) told.2 told.1
    (fronted_tells beside_law c base all_resting s s' t e before tl lanes_are sync_is standings_are fronts h))

-- ---- before anything came

-- no lanes
pub none_tell :
    (o : ℕ → Opening) (before : List BinLine) (ls : List Lane)
    → ls ≡ []
    → LanesRest o (record { before = before; log = [] }) all_resting ls before []
none_tell o before ls e =
    subst (λ (xs : List Lane). LanesRest o (record { before = before; log = [] }) all_resting xs before []) (sym e)
    (record {
      tells =
          record {
            each = λ k d lt. absurd (omega (arith, lt));
            silent = λ k le. refl;
            tallies = record { out = refl; lost = refl; refused = refl };
            written = record { more = []; told_is = sym (append-nil before); all_is = refl };
          };
      wakes_are = λ k lt r. absurd (omega (arith, lt));
    })

pub begins :
    (c : Contents) (s : Stage)
    → s.lanes.items ≡ [] → FrontStandsFor s.front c [] → SyncStandsFor s.sync []
    → ((session : ℕ) → session < 8 → slice_get s.standings session ≡ Some (standing c session []))
    → Begins c s
begins c s none fronts syncs standings before =
    record {
      count = ap (λ (x : List Lane). length x) none;
      few = omega arith;
      lanes = none_tell (opened c []) before s.lanes.items none;
      front = fronts;
      sync = syncs;
      lanes_kept = All-nil _;
      standings = standings;
    }

pub all_alike : (x y : Standing) (session : ℕ) → session < 8 → x ≡ y → slice_get (x ∷ x ∷ x ∷ x ∷ x ∷ x ∷ x ∷ x ∷ []) session ≡ Some y
all_alike x y zero lt e = ap (λ (z : Standing). Some z) e
all_alike x y (suc zero) lt e = ap (λ (z : Standing). Some z) e
all_alike x y (suc (suc zero)) lt e = ap (λ (z : Standing). Some z) e
all_alike x y (suc (suc (suc zero))) lt e = ap (λ (z : Standing). Some z) e
all_alike x y (suc (suc (suc (suc zero)))) lt e = ap (λ (z : Standing). Some z) e
all_alike x y (suc (suc (suc (suc (suc zero))))) lt e = ap (λ (z : Standing). Some z) e
all_alike x y (suc (suc (suc (suc (suc (suc zero)))))) lt e = ap (λ (z : Standing). Some z) e
all_alike x y (suc (suc (suc (suc (suc (suc (suc zero))))))) lt e = ap (λ (z : Standing). Some z) e
all_alike x y (suc (suc (suc (suc (suc (suc (suc (suc n)))))))) lt e = absurd (omega (arith, lt))

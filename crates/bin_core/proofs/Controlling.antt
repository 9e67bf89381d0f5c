-- An item comes to the lanes that it is for.
use Rattle.std.proofs.Common.{ℕ, zero, suc, ◌≡◌, ◌<◌, Bool, true, false, not, refl, sym, ap, subst, ◌∙◌, List, [], ◌∷◌, length, Some, arith}
use Rattle.std.specs.Prelude.{All, ◌&&◌, nat_lt, get_or, slice_get, if◌then◌else◌}
use Rattle.std.proofs.lemmas.Grind.{common_steps}
use Rattle.std.proofs.lemmas.List.{append-nil}
use Rattle.jitter_model.specs.declared.Entry.TheVariants.{Clock}
use Rattle.script_lang.specs.Contents.{Contents}
use Rattle.script_lang.specs.declared.script.Item.{Item}
use Rattle.script_lang.specs.declared.script.Action.{Action}
use Rattle.script_lang.specs.declared.script.Action.TheVariants as action
use Rattle.timeline.specs.declared.line.BinLine.{BinLine}
use Rattle.ntp_sync.specs.Offsets.{Call, StandsFor as SyncStandsFor}
use Rattle.front_model.specs.declared.Opening.{Opening}
use Rattle.front_model.specs.Events.{FrontEvent}
use Rattle.rtp_front.specs.Standing.{State as FrontState, StandsFor as FrontStandsFor}
use Rattle.replay_model.specs.Events.{Timeline, Acted, At, front, kept, items, openings}
use Rattle.replay_model.specs.Lanes.{lane_count, opened}
use Rattle.replay_model.specs.Acting.{is_for, done_to, acted_on, all_acted, ticked_where}
use Rattle.replay_model.specs.Log.{with_item}
use Rattle.lane_core.specs.declared.lane.Lane.{Lane}
use Rattle.lane_core.specs.Lanes.{Base}
use Rattle.lane_core.specs.AllLanes.{LanesRest, SameLanes, ActOn, all_resting}
use Rattle.bin_core.specs.declared.standings.Standing.{Standing}
use Rattle.bin_core.specs.declared.stage.Stage.{Stage}
use Rattle.bin_core.specs.Stages.{StageTells, TicksListed, standing, standing_by}
use Rattle.bin_core.specs.Touching.{is_listed}
use Rattle.bin_core.proofs.Staging.{standing_by_items}
use Rattle.bin_core.proofs.Ticking.{opened_same, where_same, not_true}
use Rattle.replay_model.specs.Keeping.{TimelinesKeep}
use Rattle.lane_core.specs.Beside.{LanesStandBeside}

-- ---- what stays

done_kept : (t l : ℕ) (a : Action) (tl : Timeline) → kept (done_to t l a tl) ≡ kept tl
done_kept t l action.Clock tl = refl
done_kept t l (action.FlushStart session) tl = refl
done_kept t l (action.FlushStop session) tl = refl
done_kept t l (action.Latency session ns) tl = refl

done_items : (t l : ℕ) (a : Action) (tl : Timeline) → items (done_to t l a tl) ≡ items tl
done_items t l action.Clock tl = refl
done_items t l (action.FlushStart session) tl = refl
done_items t l (action.FlushStop session) tl = refl
done_items t l (action.Latency session ns) tl = refl

acted_kept : (o : ℕ → Opening) (t count : ℕ) (a : Action) (tl : Timeline) → kept (all_acted o t count a tl) ≡ kept tl
acted_kept o t zero a tl = refl
acted_kept o t (suc l) a tl = by_either (acted_kept o t l a tl) (is_for a (o l).session)
  where
    by_either : kept (all_acted o t l a tl) ≡ kept tl → (b : Bool) → kept (if b then acted_on t l a (all_acted o t l a tl) else all_acted o t l a tl) ≡ kept tl
    by_either below true = done_kept t l a (At t l (Clock t) ∷ all_acted o t l a tl) ∙ below
    by_either below false = below

pub acted_items : (o : ℕ → Opening) (t count : ℕ) (a : Action) (tl : Timeline) → items (all_acted o t count a tl) ≡ items tl
acted_items o t zero a tl = refl
acted_items o t (suc l) a tl = by_either (acted_items o t l a tl) (is_for a (o l).session)
  where
    by_either : items (all_acted o t l a tl) ≡ items tl → (b : Bool) → items (if b then acted_on t l a (all_acted o t l a tl) else all_acted o t l a tl) ≡ items tl
    by_either below true = done_items t l a (At t l (Clock t) ∷ all_acted o t l a tl) ∙ below
    by_either below false = below

-- ---- an item

both_first : (a b : Bool) → (a && b) ≡ true → a ≡ true
both_first true b e = refl
both_first false b e = e

both_second : (a b : Bool) → (a && b) ≡ true → b ≡ true
both_second true b e = e
both_second false b e = cc

both_of : (a b : Bool) → a ≡ true → b ≡ true → (a && b) ≡ true
both_of true b e f = f
both_of false b e f = e

some_lane : (ls : List Lane) (k : ℕ) → k < length ls → Lane
some_lane [] k lt = absurd (omega (arith, lt))
some_lane (l ∷ ls) k lt = l

pub controls :
    TimelinesKeep → LanesStandBeside
    → (c : Contents) (base : Base) (s one new : Stage) (i : Item) (touched : List ℕ) (before mid after : List BinLine) (tl : Timeline)
    → one.front ≡ s.front → one.sync ≡ s.sync
    → ((session : ℕ) (x : Standing) → session < 8 → slice_get s.standings session ≡ Some x → slice_get one.standings session ≡ Some (standing_by i.action session x))
    → SameLanes s.lanes.items one.lanes.items
    → ActOn i s.lanes.items one.lanes.items before mid
    → ((k : ℕ) (d : Lane) → k < length one.lanes.items → is_listed touched k ≡ is_for i.action (get_or one.lanes.items k d).session)
    → TicksListed i.time touched one new mid after
    → StageTells c base all_resting s before tl
    → StageTells c base all_resting new after (with_item c i tl)
controls keeping beside_law c base s one new i touched before mid after tl front_is sync_is standing_goes same acts passes ticks h =
    subst (λ (x : Timeline). StageTells c base all_resting new after x) end_is (ticks c base there tells)
  where
    o : ℕ → Opening
    o = opened c tl

    n : ℕ
    n = length s.lanes.items

    there : Timeline
    there = all_acted o i.time n i.action (Acted i ∷ tl)

    opens : openings there ≡ openings tl
    opens = keeping.actions.openings_are o i.time n i.action (Acted i ∷ tl)

    count : lane_count there ≡ lane_count tl
    count = ap (λ (os : List Opening). length os) opens

    -- the lanes that it is for, by how they began
    is_by : (k : ℕ) → k < n → is_listed touched k ≡ is_for i.action (o k).session
    is_by k lt =
        let long : length one.lanes.items ≡ n = same.count in
        let d : Lane = some_lane s.lanes.items k lt in
        let was : (get_or s.lanes.items k d).session ≡ (o k).session = (h.lanes.tells.each k d lt).session_is in
        passes k d (omega (arith, lt, long))
        ∙ ap (is_for i.action) ((same.each k d lt).session ∙ was)

    resting : ℕ → Bool
    resting k = not (is_listed touched k) && nat_lt k n

    apart : (k : ℕ) → resting k ≡ true → is_for i.action (o k).session ≡ false
    apart k r =
        let within : nat_lt k n ≡ true = both_second (not (is_listed touched k)) (nat_lt k n) r in
        let lt : k < n = grind (arith, common_steps) in
        sym (is_by k lt) ∙ not_true (is_listed touched k) (both_first (not (is_listed touched k)) (nat_lt k n) r)

    began : LanesRest o base resting s.lanes.items before (Acted i ∷ tl)
    began =
        beside_law.fewer o base all_resting resting s.lanes.items before (Acted i ∷ tl) (λ k lt r. refl)
        (beside_law.apart o base all_resting s.lanes.items before before [] tl (Acted i ∷ tl) (λ k. refl) refl (sym (append-nil before)) (record { out_is = refl; lost_is = refl; refused_is = refl }) h.lanes)

    lanes_there : LanesRest o base (λ k. not (is_listed touched k)) one.lanes.items mid there
    lanes_there =
        beside_law.fewer o base resting (λ k. not (is_listed touched k)) one.lanes.items mid there
        (λ k lt r. both_of (not (is_listed touched k)) (nat_lt k n) r (let below : k < n = omega (arith, lt, same.count) in grind (arith, common_steps)))
        (acts o base resting (Acted i ∷ tl) apart began)

    kept_are : kept there ≡ kept tl
    kept_are = acted_kept o i.time n i.action (Acted i ∷ tl)

    items_are : items there ≡ i ∷ items tl
    items_are = acted_items o i.time n i.action (Acted i ∷ tl)

    tells : StageTells c base (λ k. not (is_listed touched k)) one mid there
    tells =
        record {
          count = same.count ∙ h.count ∙ sym count;
          few = omega (arith, h.few, count);
          lanes = beside_law.opened o (opened c there) base (λ k. not (is_listed touched k)) one.lanes.items mid there (λ k lt. ap (λ (f : ℕ → Opening). f k) (sym (opened_same c tl there opens))) lanes_there;
          front = subst (λ (x : FrontState). FrontStandsFor x c (front there)) (sym front_is) (subst (λ (x : List FrontEvent). FrontStandsFor s.front c x) (sym (keeping.actions.front_is o i.time n i.action (Acted i ∷ tl))) h.front);
          sync = subst (λ (x : List Call). SyncStandsFor one.sync x) (sym kept_are) (subst (λ x. SyncStandsFor x (kept tl)) (sym sync_is) h.sync);
          lanes_kept = subst (λ (x : List Call). All (λ (call : Call). call.lane < lane_count there) x) (sym kept_are)
              (subst (λ (m : ℕ). All (λ (call : Call). call.lane < m) (kept tl)) (sym count) h.lanes_kept);
          standings = λ session lt.
              standing_goes session (standing c session tl) lt (h.standings session lt)
              ∙ ap (λ (x : List Item). Some (standing_by_items c session x)) (sym items_are);
        }

    end_is : ticked_where c (opened c there) i.time (is_listed touched) (lane_count there) there ≡ with_item c i tl
    end_is =
        ap (λ (f : ℕ → Opening). ticked_where c f i.time (is_listed touched) (lane_count there) there) (opened_same c tl there opens)
        ∙ ap (λ (m : ℕ). ticked_where c o i.time (is_listed touched) m there) count
        ∙ where_same c o i.time (lane_count tl) (is_listed touched) (λ l. is_for i.action (o l).session) there (λ k lt. is_by k (omega (arith, lt, h.count)))
        ∙ ap (λ (m : ℕ). ticked_where c o i.time (λ l. is_for i.action (o l).session) (lane_count tl) (all_acted o i.time m i.action (Acted i ∷ tl))) h.count

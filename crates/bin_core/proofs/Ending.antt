-- The end of lanes.
use Rattle.std.proofs.Common.{ℕ, zero, suc, ◌≡◌, ◌+◌, ◌<◌, Bool, true, false, refl, sym, ap, subst, ◌∙◌, List, [], ◌∷◌, ◌++◌, length, arith}
use Rattle.std.specs.Prelude.{get_or, set, sum_by, if◌then◌else◌}
use Rattle.jitter_model.specs.declared.Entry.TheVariants.{Ends}
use Rattle.jitter_model.specs.declared.Settings.{Settings}
use Rattle.jitter_model.specs.History.{is_pusher, pusher_count}
use Rattle.jitter_core.specs.Words.{settings_of}
use Rattle.script_lang.specs.Contents.{Contents}
use Rattle.timeline.specs.declared.line.BinLine.{BinLine}
use Rattle.timeline.specs.declared.line.BinLine.TheVariants as line
use Rattle.front_model.specs.declared.Opening.{Opening}
use Rattle.front_model.specs.Events.{records}
use Rattle.rtp_front.specs.Standing.{StandsFor as FrontStandsFor}
use Rattle.replay_model.specs.Events.{Timeline, At, openings, front}
use Rattle.replay_model.specs.Lines.{lines, out_in, lost_in}
use Rattle.replay_model.specs.Log.{done_of}
use Rattle.replay_model.specs.Lanes.{lane_count, opened}
use Rattle.replay_model.specs.Turning.{settled}
use Rattle.replay_model.specs.Ending.{pushers_ended, all_ended}
use Rattle.lane_core.specs.declared.lane.Lane.{Lane}
use Rattle.lane_core.specs.Lanes.{Base, Adds as AddsLines, ComesToRest, LaneTells, ended_at}
use Rattle.lane_core.specs.AllLanes.{LanesRest, resting_and, total, done_of as lanes_done}
use Rattle.bin_core.specs.declared.stage.Stage.{Stage}
use Rattle.bin_core.specs.Stages.{StageTells, Sends, EndsOne, EndsLane, EndsAll, Finishes, none_resting, pusher_ended}
use Rattle.bin_core.proofs.Staging.{settles, tells_on, tells_fewer}
use Rattle.bin_core.proofs.Ticking.{opened_same}
use Rattle.lane_core.specs.AllLanes.{around}
use Rattle.replay_model.specs.Keeping.{TimelinesKeep}
use Rattle.lane_core.specs.Beside.{LanesStandBeside}

-- the pushers of a lane are those of its buffer's settings
pushers_are : LanesStandBeside → (c : Contents) (base : Base) (s : Stage) (n p : ℕ) (was : Lane) (before : List BinLine) (tl : Timeline) → n < length s.lanes.items → was ≡ get_or s.lanes.items n was → StageTells c base none_resting s before tl → is_pusher (settings_of was.buffer).pushers p ≡ is_pusher (opened c tl n).settings.pushers p
pushers_are beside_law c base s n p was before tl lt is h =
    let one : LaneTells (opened c tl) (around base s.lanes.items n tl) n was before tl = beside_law.each (opened c tl) base s.lanes.items n was before tl lt is h.lanes.tells in
    ap (λ (x : Settings). is_pusher x.pushers p) one.holds.settings

set_here : (ls : List Lane) (n : ℕ) (x : Lane) → n < length ls → x ≡ get_or ls n x → set ls n x ≡ ls
set_here [] n x lt e = absurd (omega arith)
set_here (l ∷ ls) zero x lt e = ap (λ (y : Lane). y ∷ ls) e
set_here (l ∷ ls) (suc n) x lt e = ap (λ (ys : List Lane). l ∷ ys) (set_here ls n x (omega arith) e)

pub ends_not :
    LanesStandBeside
    → (s s' : Stage) (t n p : ℕ) (was : Lane) (before : List BinLine)
    → n < length s.lanes.items → was ≡ get_or s.lanes.items n was
    → s'.lanes.items ≡ set s.lanes.items n was → s'.front ≡ s.front → s'.sync ≡ s.sync → s'.standings ≡ s.standings
    → is_pusher (settings_of was.buffer).pushers p ≡ false → EndsOne t n p s s' before before
ends_not beside_law s s' t n p was before lt is lanes_are front_is sync_is standings_are miss c base tl h =
    let none : is_pusher (opened c tl n).settings.pushers p ≡ false = sym (pushers_are beside_law c base s n p was before tl lt is h) ∙ miss in
    let same : s'.lanes.items ≡ s.lanes.items = lanes_are ∙ set_here s.lanes.items n was lt is in
    subst (λ (x : Timeline). StageTells c base none_resting s' before x)
    (sym (ap (λ (b : Bool). if b then settled c (opened c tl) t n (At t n (Ends p) ∷ tl) else tl) none))
    (tells_on beside_law c base none_resting none_resting s s' before before tl tl h (record { openings_are = refl; kept_are = refl; items_are = refl })
    (record { count = ap (λ (x : List Lane). length x) same; sync = sync_is; standings = standings_are })
    (subst (λ x. FrontStandsFor x c (front tl)) (sym front_is) h.front)
    (subst (λ (x : List Lane). LanesRest (opened c tl) base none_resting x before tl) (sym same) h.lanes))

pub ends_one :
    TimelinesKeep → LanesStandBeside
    → (s s' : Stage) (t n p : ℕ) (was b : Lane) (numbers : List ℕ) (before mid after : List BinLine)
    → n < length s.lanes.items → was ≡ get_or s.lanes.items n was
    → s'.lanes.items ≡ set s.lanes.items n b → s'.sync ≡ s.sync → s'.standings ≡ s.standings
    → ComesToRest was b before mid (ended_at t p) numbers
    → Sends t b.session b.ssrc numbers s.front s'.front mid after
    → is_pusher (settings_of was.buffer).pushers p ≡ true
    → EndsOne t n p s s' before after
ends_one keeping beside_law s s' t n p was b numbers before mid after lt is lanes_are sync_is standings_are goes sends hit c base tl h =
    let some : is_pusher (opened c tl n).settings.pushers p ≡ true = sym (pushers_are beside_law c base s n p was before tl lt is h) ∙ hit in
    let new : Timeline = settled c (opened c tl) t n (At t n (Ends p) ∷ tl) in
    subst (λ (x : Timeline). StageTells c base none_resting s' after x)
    (sym (ap (λ (d : Bool). if d then new else tl) some))
    (tells_fewer beside_law c base (resting_and n none_resting) none_resting s' after new (λ k below e. cc)
    (settles keeping beside_law c base none_resting s s' n t (Ends p) was b numbers before mid after tl lt is lanes_are sync_is standings_are goes sends h))

-- ---- a lane

one_openings : TimelinesKeep → (c : Contents) (o : ℕ → Opening) (t n p : ℕ) (tl : Timeline) → openings (pusher_ended c o t n p tl) ≡ openings tl
one_openings keeping c o t n p tl = by_either (is_pusher (o n).settings.pushers p)
  where
    by_either : (b : Bool) → openings (if b then settled c o t n (At t n (Ends p) ∷ tl) else tl) ≡ openings tl
    by_either true = keeping.series.openings_are c o t n (At t n (Ends p) ∷ tl)
    by_either false = refl

pub pushers_openings : TimelinesKeep → (c : Contents) (o : ℕ → Opening) (t n p : ℕ) (tl : Timeline) → openings (pushers_ended c o t n p tl) ≡ openings tl
pushers_openings keeping c o t n zero tl = refl
pushers_openings keeping c o t n (suc p) tl = one_openings keeping c o t n p (pushers_ended c o t n p tl) ∙ pushers_openings keeping c o t n p tl

-- on the way
abbrev pub EndsBelow : ℕ → ℕ → ℕ → Stage → Stage → List BinLine → List BinLine → Type 0
EndsBelow t n p old new before after =
    (c : Contents) (base : Base) (tl : Timeline)
    → StageTells c base none_resting old before tl
    → StageTells c base none_resting new after (pushers_ended c (opened c tl) t n p tl)

pub ends_more : TimelinesKeep → (t n p q : ℕ) (s mid new : Stage) (before between after : List BinLine) → q ≡ p + 1 → EndsOne t n p mid new between after → EndsBelow t n p s mid before between → EndsBelow t n q s new before after
ends_more keeping t n p q s mid new before between after next one h c base tl tells =
    let now : Timeline = pushers_ended c (opened c tl) t n p tl in
    let same : opened c now ≡ opened c tl = opened_same c tl now (pushers_openings keeping c (opened c tl) t n p tl) in
    let num : suc p ≡ q = omega (arith, next) in
    subst (λ (m : ℕ). StageTells c base none_resting new after (pushers_ended c (opened c tl) t n m tl)) num
    (subst (λ (o : ℕ → Opening). StageTells c base none_resting new after (pusher_ended c o t n p now)) same (one c base now (h c base tl tells)))

-- ---- all lanes

pub all_openings : TimelinesKeep → (c : Contents) (o : ℕ → Opening) (t n : ℕ) (tl : Timeline) → openings (all_ended c o t n tl) ≡ openings tl
all_openings keeping c o t zero tl = refl
all_openings keeping c o t (suc n) tl = pushers_openings keeping c o t n pusher_count (all_ended c o t n tl) ∙ all_openings keeping c o t n tl

abbrev pub EndsLanes : ℕ → ℕ → Stage → Stage → List BinLine → List BinLine → Type 0
EndsLanes t n old new before after =
    (c : Contents) (base : Base) (tl : Timeline)
    → StageTells c base none_resting old before tl
    → StageTells c base none_resting new after (all_ended c (opened c tl) t n tl)

pub lanes_more : TimelinesKeep → (t n m : ℕ) (s mid new : Stage) (before between after : List BinLine) → m ≡ n + 1 → EndsLane t n mid new between after → EndsLanes t n s mid before between → EndsLanes t m s new before after
lanes_more keeping t n m s mid new before between after next one h c base tl tells =
    let now : Timeline = all_ended c (opened c tl) t n tl in
    let same : opened c now ≡ opened c tl = opened_same c tl now (all_openings keeping c (opened c tl) t n tl) in
    let num : suc n ≡ m = omega (arith, next) in
    subst (λ (k : ℕ). StageTells c base none_resting new after (all_ended c (opened c tl) t k tl)) num
    (subst (λ (o : ℕ → Opening). StageTells c base none_resting new after (pushers_ended c o t n pusher_count now)) same (one c base now (h c base tl tells)))

pub lanes_all : (t n : ℕ) (s new : Stage) (before after : List BinLine) → n ≡ length s.lanes.items → EndsLanes t n s new before after → EndsAll t s new before after
lanes_all t n s new before after at h c base tl tells =
    let num : n ≡ lane_count tl = at ∙ tells.count in
    subst (λ (k : ℕ). StageTells c base none_resting new after (all_ended c (opened c tl) t k tl)) num (h c base tl tells)

-- ---- the last line

done_is :
    (c : Contents) (base : Base) (s : Stage) (told : List BinLine) (tl : Timeline) (n : ℕ)
    → n ≡ s.front.taken
    → StageTells c base none_resting s told tl
    → lanes_done s.lanes.items n ≡ done_of tl
done_is c base s told tl n is h =
    ap (λ (x : ℕ). line.Done x (length s.lanes.items) (total s.lanes.items).out (total s.lanes.items).lost (total s.lanes.items).refused) (is ∙ h.front.taken)
    ∙ ap (λ (x : ℕ). line.Done (records (front tl)) x (total s.lanes.items).out (total s.lanes.items).lost (total s.lanes.items).refused) h.count
    ∙ ap (λ (x : ℕ). line.Done (records (front tl)) (lane_count tl) x (total s.lanes.items).lost (total s.lanes.items).refused) h.lanes.tells.tallies.out
    ∙ ap (λ (x : ℕ). line.Done (records (front tl)) (lane_count tl) (sum_by out_in (lines tl)) x (total s.lanes.items).refused) h.lanes.tells.tallies.lost
    ∙ ap (λ (x : ℕ). line.Done (records (front tl)) (lane_count tl) (sum_by out_in (lines tl)) (sum_by lost_in (lines tl)) x) h.lanes.tells.tallies.refused

pub finishes :
    LanesStandBeside
    → (t n : ℕ) (s new : Stage) (x : BinLine) (before mid after : List BinLine)
    → EndsAll t s new before mid
    → n ≡ new.front.taken → x ≡ lanes_done new.lanes.items n → after ≡ mid ++ x ∷ []
    → Finishes t s before after
finishes beside_law t n s new x before mid after ends is line_is added c base tl h =
    let last : Timeline = all_ended c (opened c tl) t (lane_count tl) tl in
    let there : StageTells c base none_resting new mid last = ends c base tl h in
    subst (λ (y : BinLine). AddsLines base after (lines last ++ y ∷ [])) (line_is ∙ done_is c base new mid last n is there)
    (beside_law.added base mid after (lines last) (x ∷ []) there.lanes.tells.written added)

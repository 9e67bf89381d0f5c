-- One lane of many changes, or comes to the others.
use Rattle.std.proofs.Common.{ℕ, zero, suc, ◌≡◌, ◌≢◌, ◌+◌, ◌<◌, Bool, true, false, refl, sym, ap, subst, ◌∙◌, List, [], ◌∷◌, ◌++◌, length, arith}
use Rattle.std.specs.Prelude.{◌==◌, get_or, set, sum_by, if◌then◌else◌}
use Rattle.std.proofs.lemmas.Grind.{common_steps}
use Rattle.std.proofs.lemmas.List.{append-nil, get_or-set_same, get_or-set_other, get_or_push, length-set, length_push}
use Rattle.std.proofs.lemmas.List.Sums.{sum_by-cons, sum_by_push}
use Rattle.jitter_model.specs.History.{History}
use Rattle.jitter_model.specs.Turns.{turn, wake_of}
use Rattle.timeline.specs.declared.line.BinLine.{BinLine}
use Rattle.script_lang.specs.Contents.{Contents}
use Rattle.script_lang.specs.declared.script.Item.{Item}
use Rattle.front_model.specs.declared.Opening.{Opening}
use Rattle.replay_model.specs.Events.{Timeline, lane}
use Rattle.replay_model.specs.Lines.{lines, out_in, lost_in, refused_in}
use Rattle.replay_model.specs.Acting.{is_for, acted_on}
use Rattle.replay_model.specs.Lanes.{lane_count, opened}
use Rattle.replay_model.specs.Serving.{wake}
use Rattle.lane_core.specs.declared.counts.Counts.{Counts}
use Rattle.lane_core.specs.declared.lane.Lane.{Lane}
use Rattle.lane_core.specs.Lanes.{SameLane, Base, Adds, Tallies, Around, LaneHolds, LaneTells, LaneRests, Sums, met_at}
use Rattle.lane_core.specs.AllLanes.{wakes_in, out_of, lost_of, refused_of, total, rest, rest_of, around, SameLanes, LanesTell, LanesRest, LanesHold, all_resting, resting_but, resting_and}
use Rattle.lane_core.proofs.Cases.{by_cases}
use Rattle.lane_core.proofs.Settling.{same_lane, same_lane_then}
use Rattle.lane_core.proofs.Tallying.{adds_more, tallies_more}

-- ---- sums over the other lanes

rest_and_one : (f : Lane → ℕ) (ls : List Lane) (n : ℕ) (was : Lane) → n < length ls → was ≡ get_or ls n was → rest f ls n + f was ≡ sum_by f ls
rest_and_one f [] n was lt e = absurd (omega arith)
rest_and_one f (l ∷ ls) zero was lt e = let same : f was ≡ f l = ap f e in omega (arith, sum_by-cons f l ls)
rest_and_one f (l ∷ ls) (suc n) was lt e = omega (arith, rest_and_one f ls n was (omega arith) e, sum_by-cons f l ls)

rest_and_set : (f : Lane → ℕ) (ls : List Lane) (n : ℕ) (b : Lane) → n < length ls → rest f ls n + f b ≡ sum_by f (set ls n b)
rest_and_set f [] n b lt = absurd (omega arith)
rest_and_set f (l ∷ ls) zero b lt = omega (arith, sum_by-cons f b ls)
rest_and_set f (l ∷ ls) (suc n) b lt = omega (arith, rest_and_set f ls n b (omega arith), sum_by-cons f l (set ls n b))

-- ---- wakes, and what stays

pub wakes_same : (ls : List Lane) (n : ℕ) (b : Lane) → n < length ls → wakes_in (set ls n b) n ≡ b.wake
wakes_same [] n b lt = absurd (omega arith)
wakes_same (a ∷ ls) zero b lt = refl
wakes_same (a ∷ ls) (suc n) b lt = wakes_same ls n b (omega arith)

pub wakes_other : (ls : List Lane) (n k : ℕ) (b : Lane) → k ≢ n → wakes_in (set ls n b) k ≡ wakes_in ls k
wakes_other [] n k b ne = refl
wakes_other (a ∷ ls) zero zero b ne = absurd (ne refl)
wakes_other (a ∷ ls) zero (suc k) b ne = refl
wakes_other (a ∷ ls) (suc n) zero b ne = refl
wakes_other (a ∷ ls) (suc n) (suc k) b ne = wakes_other ls n k b (λ e. ne (ap suc e))

pub wakes_before : (ls : List Lane) (b : Lane) (k : ℕ) → k < length ls → wakes_in (ls ++ b ∷ []) k ≡ wakes_in ls k
wakes_before [] b k lt = absurd (omega arith)
wakes_before (a ∷ ls) b zero lt = refl
wakes_before (a ∷ ls) b (suc k) lt = wakes_before ls b k (omega arith)

get_before : (ls : List Lane) (b : Lane) (k : ℕ) (d : Lane) → k < length ls → get_or (ls ++ b ∷ []) k d ≡ get_or ls k d
get_before [] b k d lt = absurd (omega arith)
get_before (a ∷ ls) b zero d lt = refl
get_before (a ∷ ls) b (suc k) d lt = get_before ls b k d (omega arith)

-- each other lane is as it was
placed_each : (P : ℕ → Lane → Type 0) (ls : List Lane) (n : ℕ) (b : Lane) → n < length ls → P n b → ((k : ℕ) (d : Lane) → k ≢ n → k < length ls → P k (get_or ls k d)) → (k : ℕ) (d : Lane) → k < length (set ls n b) → P k (get_or (set ls n b) k d)
placed_each P ls n b lt one other k d within =
    let long : length (set ls n b) ≡ length ls = length-set ls n b in
    by_cases (k == n)
    (λ e. let eq : n ≡ k = grind (arith, common_steps) in subst (λ (m : ℕ). P m (get_or (set ls n b) m d)) eq (subst (P n) (sym (get_or-set_same ls n b d lt)) one))
    (λ e. let ne : k ≢ n = grind (arith, common_steps) in subst (P k) (sym (get_or-set_other ls n k b d ne)) (other k d ne (omega arith)))

pub same_lanes : (ls : List Lane) → SameLanes ls ls
same_lanes ls = record { count = refl; each = λ k d lt. same_lane (get_or ls k d) }

pub same_then : (a b c : List Lane) → SameLanes a b → SameLanes b c → SameLanes a c
same_then a b c g h =
    record {
      count = h.count ∙ g.count;
      each = λ k d lt. let long : length b ≡ length a = g.count in same_lane_then (get_or a k d) (get_or b k d) (get_or c k d) (g.each k d lt) (h.each k d (omega arith));
    }

-- the value at a place doesn't hang on what stands for a missing one
get_any : (ls : List Lane) (n : ℕ) (d e : Lane) → n < length ls → get_or ls n d ≡ get_or ls n e
get_any [] n d e lt = absurd (omega arith)
get_any (l ∷ ls) zero d e lt = refl
get_any (l ∷ ls) (suc n) d e lt = get_any ls n d e (omega arith)

pub same_set : (ls : List Lane) (n : ℕ) (was b : Lane) → n < length ls → was ≡ get_or ls n was → SameLane was b → SameLanes ls (set ls n b)
same_set ls n was b lt e same =
    record {
      count = length-set ls n b;
      each = λ k d within.
          by_cases (k == n)
          (λ at. let eq : n ≡ k = grind (arith, common_steps) in
          subst (λ (m : ℕ). SameLane (get_or ls m d) (get_or (set ls n b) m d)) eq
          (subst (λ (x : Lane). SameLane x (get_or (set ls n b) n d)) (e ∙ get_any ls n was d lt)
          (subst (SameLane was) (sym (get_or-set_same ls n b d lt)) same)))
          (λ at. let ne : k ≢ n = grind (arith, common_steps) in subst (SameLane (get_or ls k d)) (sym (get_or-set_other ls n k b d ne)) (same_lane (get_or ls k d)));
    }

-- ---- along the timeline

-- one lane of many, before its call
pub one_tells :
    (o : ℕ → Opening) (base : Base) (ls : List Lane) (n : ℕ) (was : Lane) (told : List BinLine) (tl : Timeline)
    → n < length ls → was ≡ get_or ls n was
    → LanesTell o base ls told tl
    → LaneTells o (around base ls n tl) n was told tl
one_tells o base ls n was told tl lt e h =
    record {
      holds = subst (λ (x : Lane). LaneHolds (o n) n x (lane n tl)) (sym e) (h.each n was lt);
      others = λ k ne. refl;
      tallies =
          record {
            out = rest_and_one out_of ls n was lt e ∙ h.tallies.out;
            lost = rest_and_one lost_of ls n was lt e ∙ h.tallies.lost;
            refused = rest_and_one refused_of ls n was lt e ∙ h.tallies.refused;
          };
      written = h.written;
    }

holds_same : (opening : Opening) (n : ℕ) (l : Lane) (h k : History) → k ≡ h → LaneHolds opening n l h → LaneHolds opening n l k
holds_same opening n l h k e holds = subst (LaneHolds opening n l) (sym e) holds

-- and all lanes after it
pub all_tell :
    (o : ℕ → Opening) (base : Base) (ls : List Lane) (n : ℕ) (b : Lane) (told more : List BinLine) (before after : Timeline)
    → n < length ls
    → LanesTell o base ls told before
    → LaneTells o (around base ls n before) n b more after
    → LanesTell o base (set ls n b) more after
all_tell o base ls n b told more before after lt h one =
    let long : length (set ls n b) ≡ length ls = length-set ls n b in
    record {
      each = placed_each (λ k l. LaneHolds (o k) k l (lane k after)) ls n b lt one.holds
          (λ k d ne within. holds_same (o k) k (get_or ls k d) (lane k before) (lane k after) (one.others k ne) (h.each k d within));
      silent = λ k past. let ne : k ≢ n = omega arith in one.others k ne ∙ h.silent k (omega arith);
      tallies =
          record {
            out = sym (rest_and_set out_of ls n b lt) ∙ one.tallies.out;
            lost = sym (rest_and_set lost_of ls n b lt) ∙ one.tallies.lost;
            refused = sym (rest_and_set refused_of ls n b lt) ∙ one.tallies.refused;
          };
      written = one.written;
    }

-- a wake of another lane stays
wake_stays : (o : ℕ → Opening) (k : ℕ) (before after : Timeline) → lane k after ≡ lane k before → wake o before k ≡ wake o after k
wake_stays o k before after e = ap (λ (h : History). wake_of (turn (o k).settings h)) (sym e)

pub wake_here : (ls : List Lane) (i : ℕ) (l : Lane) → i < length ls → l ≡ get_or ls i l → l.wake ≡ wakes_in ls i
wake_here [] i l lt e = absurd (omega arith)
wake_here (a ∷ ls) zero l lt e = ap (λ (x : Lane). x.wake) e
wake_here (a ∷ ls) (suc i) l lt e = wake_here ls i l (omega arith) e

-- a lane in the place of another one with the same wake
pub wakes_stay : (ls : List Lane) (n : ℕ) (was b : Lane) → n < length ls → was ≡ get_or ls n was → b.wake ≡ was.wake → (k : ℕ) → wakes_in (set ls n b) k ≡ wakes_in ls k
wakes_stay ls n was b lt e same k =
    by_cases (k == n)
    (λ at. let eq : n ≡ k = grind (arith, common_steps) in
    subst (λ (m : ℕ). wakes_in (set ls n b) m ≡ wakes_in ls m) eq (wakes_same ls n b lt ∙ same ∙ wake_here ls n was lt e))
    (λ at. let ne : k ≢ n = grind (arith, common_steps) in wakes_other ls n k b ne)

-- One lane goes on, and is left as it was where it is at rest.
pub lanes_step :
    (o : ℕ → Opening) (base : Base) (resting : ℕ → Bool) (ls : List Lane) (n : ℕ) (was b : Lane) (told more : List BinLine) (before after : Timeline)
    → n < length ls → was ≡ get_or ls n was
    → (resting n ≡ true → (b.wake ≡ was.wake) × (after ≡ before))
    → LanesRest o base resting ls told before
    → (LaneTells o (around base ls n before) n was told before → LaneTells o (around base ls n before) n b more after)
    → LanesRest o base resting (set ls n b) more after
lanes_step o base resting ls n was b told more before after lt e still h goes =
    let one : LaneTells o (around base ls n before) n b more after = goes (one_tells o base ls n was told before lt e h.tells) in
    let long : length (set ls n b) ≡ length ls = length-set ls n b in
    record {
      tells = all_tell o base ls n b told more before after lt h.tells one;
      wakes_are = λ k within rests.
          by_cases (k == n)
          (λ at. let eq : k ≡ n = grind (arith, common_steps) in
          let rests_here : resting n ≡ true = subst (λ (m : ℕ). resting m ≡ true) eq rests in
          subst (λ (m : ℕ). wakes_in (set ls n b) m ≡ wake o after m) (sym eq)
          (wakes_same ls n b lt ∙ (still rests_here).0 ∙ wake_here ls n was lt e ∙ h.wakes_are n lt rests_here ∙ ap (λ (x : Timeline). wake o x n) (sym (still rests_here).1)))
          (λ at. let ne : k ≢ n = grind (arith, common_steps) in wakes_other ls n k b ne ∙ h.wakes_are k (omega arith) rests ∙ wake_stays o k before after (one.others k ne));
    }

not_both : (b : Bool) → b ≡ false → b ≡ true → ⊥
not_both b e f = cc

-- One lane goes on, and isn't among those at rest.
pub lanes_go_on :
    (o : ℕ → Opening) (base : Base) (resting : ℕ → Bool) (ls : List Lane) (n : ℕ) (was b : Lane) (told more : List BinLine) (before after : Timeline)
    → n < length ls → was ≡ get_or ls n was
    → resting n ≡ false
    → LanesRest o base resting ls told before
    → (LaneTells o (around base ls n before) n was told before → LaneTells o (around base ls n before) n b more after)
    → LanesRest o base resting (set ls n b) more after
lanes_go_on o base resting ls n was b told more before after lt e still h goes =
    lanes_step o base resting ls n was b told more before after lt e (λ rests. absurd (not_both (resting n) still rests)) h goes

-- An item comes to one lane, which may be at rest where it isn't for it.
pub lanes_meet :
    (o : ℕ → Opening) (base : Base) (resting : ℕ → Bool) (i : Item) (ls : List Lane) (n : ℕ) (was b : Lane) (told more : List BinLine) (before : Timeline)
    → n < length ls → was ≡ get_or ls n was
    → ((k : ℕ) → resting k ≡ true → is_for i.action (o k).session ≡ false)
    → (is_for i.action was.session ≡ false → b.wake ≡ was.wake)
    → LanesRest o base resting ls told before
    → (LaneTells o (around base ls n before) n was told before → LaneTells o (around base ls n before) n b more (met_at i o n before))
    → LanesRest o base resting (set ls n b) more (met_at i o n before)
lanes_meet o base resting i ls n was b told more before lt e spared keeps h goes =
    let session : was.session ≡ (o n).session = (one_tells o base ls n was told before lt e h.tells).holds.session_is in
    lanes_step o base resting ls n was b told more before (met_at i o n before) lt e
    (λ rests. (keeps (ap (is_for i.action) session ∙ spared n rests), ap (λ (x : Bool). if x then acted_on i.time n i.action before else before) (spared n rests)))
    h goes

-- where a lane's number is among these or is this one
resting_other : (resting : ℕ → Bool) (n k : ℕ) → k ≢ n → resting_and n resting k ≡ true → resting k ≡ true
resting_other resting n k ne = let other : (k == n) ≡ false = grind (arith, common_steps) in λ e. sym (ap (λ (b : Bool). if b then true else resting k) other) ∙ e

-- One lane comes to rest, beside those that are.
pub lanes_rest :
    (o : ℕ → Opening) (base : Base) (resting : ℕ → Bool) (ls : List Lane) (n : ℕ) (was b : Lane) (told more : List BinLine) (before after : Timeline)
    → n < length ls → was ≡ get_or ls n was
    → LanesRest o base resting ls told before
    → (LaneTells o (around base ls n before) n was told before → LaneRests o (around base ls n before) n b more after)
    → LanesRest o base (resting_and n resting) (set ls n b) more after
lanes_rest o base resting ls n was b told more before after lt e h goes =
    let one : LaneRests o (around base ls n before) n b more after = goes (one_tells o base ls n was told before lt e h.tells) in
    let long : length (set ls n b) ≡ length ls = length-set ls n b in
    record {
      tells = all_tell o base ls n b told more before after lt h.tells one.tells;
      wakes_are = λ k within rests.
          by_cases (k == n)
          (λ at. let eq : n ≡ k = grind (arith, common_steps) in subst (λ (m : ℕ). wakes_in (set ls n b) m ≡ wake o after m) eq (wakes_same ls n b lt ∙ one.wake_is))
          (λ at. let ne : k ≢ n = grind (arith, common_steps) in wakes_other ls n k b ne ∙ h.wakes_are k (omega arith) (resting_other resting n k ne rests) ∙ wake_stays o k before after (one.tells.others k ne));
    }

-- fewer are at rest
pub lanes_fewer : (o : ℕ → Opening) (base : Base) (resting fewer : ℕ → Bool) (ls : List Lane) (told : List BinLine) (tl : Timeline) → ((k : ℕ) → k < length ls → fewer k ≡ true → resting k ≡ true) → LanesRest o base resting ls told tl → LanesRest o base fewer ls told tl
lanes_fewer o base resting fewer ls told tl le h = record { tells = h.tells; wakes_are = λ k lt e. h.wakes_are k lt (le k lt e) }

-- Something happened that is no lane's, and its lines count nothing.
pub lanes_apart :
    (o : ℕ → Opening) (base : Base) (resting : ℕ → Bool) (ls : List Lane) (told more ys : List BinLine) (before after : Timeline)
    → ((k : ℕ) → lane k after ≡ lane k before)
    → lines after ≡ lines before ++ ys
    → more ≡ told ++ ys
    → Sums ys 0 0 0
    → LanesRest o base resting ls told before
    → LanesRest o base resting ls more after
lanes_apart o base resting ls told more ys before after same added is sums h =
    record {
      tells =
          record {
            each = λ k d lt. holds_same (o k) k (get_or ls k d) (lane k before) (lane k after) (same k) (h.tells.each k d lt);
            silent = λ k past. same k ∙ h.tells.silent k past;
            tallies =
                let all : Tallies (record { out = 0; lost = 0; refused = 0 }) (total ls) (lines before ++ ys) =
                tallies_more (record { out = 0; lost = 0; refused = 0 }) (total ls) (total ls) (lines before) ys 0 0 0 (record { out = omega (arith, h.tells.tallies.out); lost = omega (arith, h.tells.tallies.lost); refused = omega (arith, h.tells.tallies.refused) }) sums (omega arith) (omega arith) (omega arith) in
                record { out = omega (arith, all.out, ap (λ xs. sum_by out_in xs) added); lost = omega (arith, all.lost, ap (λ xs. sum_by lost_in xs) added); refused = omega (arith, all.refused, ap (λ xs. sum_by refused_in xs) added) };
            written = subst (Adds base more) (sym added) (adds_more base told more (lines before) ys h.tells.written is);
          };
      wakes_are = λ k lt rests. h.wakes_are k lt rests ∙ wake_stays o k before after (same k);
    }

-- the lanes began as they did before
pub lanes_opened : (o p : ℕ → Opening) (base : Base) (resting : ℕ → Bool) (ls : List Lane) (told : List BinLine) (tl : Timeline) → ((k : ℕ) → k < length ls → o k ≡ p k) → LanesRest o base resting ls told tl → LanesRest p base resting ls told tl
lanes_opened o p base resting ls told tl same h =
    record {
      tells = record {
        each = λ k d lt. subst (λ (x : Opening). LaneHolds x k (get_or ls k d) (lane k tl)) (same k lt) (h.tells.each k d lt);
        silent = h.tells.silent;
        tallies = h.tells.tallies;
        written = h.tells.written;
      };
      wakes_are = λ k lt rests. h.wakes_are k lt rests ∙ ap (λ (x : Opening). wake_of (turn x.settings (lane k tl))) (same k lt);
    }

-- ---- a lane that was made comes to the others

pub new_tells :
    (o : ℕ → Opening) (base : Base) (resting : ℕ → Bool) (ls : List Lane) (b : Lane) (told more : List BinLine) (before after : Timeline)
    → LanesRest o base resting ls told before
    → LaneTells o (record { base = base; histories = λ k. lane k before; counts = total ls }) (length ls) b more after
    → LanesRest o base (resting_but (length ls) resting) (ls ++ b ∷ []) more after
new_tells o base resting ls b told more before after h one =
    let long : length (ls ++ b ∷ []) ≡ length ls + 1 = length_push ls b in
    record {
      tells =
          record {
            each = λ k d lt.
                by_cases (k == length ls)
                (λ e. let eq : length ls ≡ k = grind (arith, common_steps) in
                subst (λ (x : Lane). LaneHolds (o k) k x (lane k after)) (sym (get_or_push ls b d k eq))
                (subst (λ (m : ℕ). LaneHolds (o m) m b (lane m after)) eq one.holds))
                (λ e. let ne : k ≢ length ls = grind (arith, common_steps) in let below : k < length ls = omega arith in
                subst (λ (x : Lane). LaneHolds (o k) k x (lane k after)) (sym (get_before ls b k d below))
                (holds_same (o k) k (get_or ls k d) (lane k before) (lane k after) (one.others k ne) (h.tells.each k d below)));
            silent = λ k past. let ne : k ≢ length ls = omega arith in one.others k ne ∙ h.tells.silent k (omega arith);
            tallies =
                record {
                  out = sum_by_push out_of ls b ∙ one.tallies.out;
                  lost = sum_by_push lost_of ls b ∙ one.tallies.lost;
                  refused = sum_by_push refused_of ls b ∙ one.tallies.refused;
                };
            written = one.written;
          };
      wakes_are = λ k within rests.
          by_cases (k == length ls)
          (λ e. absurd (let not : resting_but (length ls) resting k ≡ false = ap (λ (b : Bool). if b then false else resting k) e in cc))
          (λ e. let ne : k ≢ length ls = grind (arith, common_steps) in let below : k < length ls = omega arith in
          let was : resting k ≡ true = sym (ap (λ (b : Bool). if b then false else resting k) e) ∙ rests in
          wakes_before ls b k below ∙ h.wakes_are k below was ∙ wake_stays o k before after (one.others k ne));
    }

-- ---- between two inputs

-- what the lines were before a call
abbrev pub from : List BinLine → Timeline → Base
from told tl = record { before = told; log = lines tl }

pub begins_at_rest : (c : Contents) (ls : List Lane) (told : List BinLine) (tl : Timeline) → LanesHold c ls tl → LanesRest (opened c tl) (from told tl) all_resting ls told tl
begins_at_rest c ls told tl h =
    record {
      tells = record { each = h.each; silent = h.silent; tallies = h.tallies; written = record { more = []; told_is = sym (append-nil told); all_is = sym (append-nil (lines tl)) } };
      wakes_are = λ k lt e. h.wakes_are k lt;
    }

pub hold_at_rest : (c : Contents) (base : Base) (resting : ℕ → Bool) (ls : List Lane) (told : List BinLine) (tl : Timeline) → length ls ≡ lane_count tl → ((k : ℕ) → k < length ls → resting k ≡ true) → LanesRest (opened c tl) base resting ls told tl → LanesHold c ls tl
hold_at_rest c base resting ls told tl count all h =
    record { count = count; each = h.tells.each; wakes_are = λ k lt. h.wakes_are k lt (all k lt); silent = h.tells.silent; tallies = h.tells.tallies }

pub reach_next : (i k : ℕ) → k < suc i → k ≢ i → k < i
reach_next i k lt ne = omega arith

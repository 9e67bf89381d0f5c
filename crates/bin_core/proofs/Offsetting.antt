-- The offsets of a CNAME are those of the last reports of all lanes that there are.
use Rattle.std.proofs.Common.{ℕ, zero, suc, ◌≡◌, ◌+◌, ◌-◌, ◌<◌, ◌≤◌, ℤ, Bool, false, refl, ap, ◌∙◌, List, [], ◌∷◌, ◌++◌, map, Option, None, Some, arith}
use Rattle.std.specs.Prelude.{All, nat_eq, option_to_list, option_map, if◌then◌else◌}
use Rattle.std.proofs.lemmas.Grind.{common_steps}
use Rattle.std.proofs.lemmas.List.{append-nil}
use Rattle.std.proofs.lemmas.List.Elements.{All-head, All-tail, All-cons}
use Rattle.rtp_units.specs.declared.SyncInfo.{SyncInfo}
use Rattle.timeline.specs.declared.line.BinLine.{BinLine}
use Rattle.ntp_sync.specs.declared.sync.LaneReport.{LaneReport}
use Rattle.ntp_sync.specs.Found.{least_in}
use Rattle.ntp_sync.specs.Offsets.{Call, last_report, report_of, delta_of, StandsFor, AreOffsets}
use Rattle.ntp_sync.specs.Answers.{report_at, reports_from, reports, offsets_above, offsets_of, AreLanes, IsOneList, IsTheFunction}
use Rattle.replay_model.specs.Taking.{call_of, last_reports, offsets_from, offsets, offset_line}
use Rattle.bin_core.specs.Stages.{Keeps}

abbrev pub entry_at : ℕ → Option LaneReport → List (ℕ × LaneReport)
entry_at l o = option_to_list (option_map (λ r. (l, r)) o)

first_entry : (f : ℕ) (o : Option LaneReport) → report_at f o [] ≡ entry_at f o
first_entry f None = refl
first_entry f (Some r) = refl

entry_then : (f : ℕ) (o : Option LaneReport) (xs ys : List (ℕ × LaneReport)) → report_at f o (xs ++ ys) ≡ report_at f o xs ++ ys
entry_then f None xs ys = refl
entry_then f (Some r) xs ys = refl

-- the last one stands behind the others
reports_snoc : (last : ℕ → Option LaneReport) (f m : ℕ) → reports_from last f (suc m) ≡ reports_from last f m ++ entry_at (f + m) (last (f + m))
reports_snoc last f zero =
    let num : f ≡ f + 0 = omega arith in
    first_entry f (last f) ∙ ap (λ (k : ℕ). entry_at k (last k)) num
reports_snoc last f (suc m) =
    let num : (f + 1) + m ≡ f + suc m = omega arith in
    ap (report_at f (last f)) (reports_snoc last (f + 1) m)
    ∙ entry_then f (last f) (reports_from last (f + 1) m) (entry_at ((f + 1) + m) (last ((f + 1) + m)))
    ∙ ap (λ (k : ℕ). report_at f (last f) (reports_from last (f + 1) m) ++ entry_at k (last k)) num

firsts : (calls : List Call) (m : ℕ) → reports_from (last_report calls) 0 m ≡ last_reports calls m
firsts calls zero = refl
firsts calls (suc m) =
    let num : 0 + m ≡ m = omega arith in
    reports_snoc (last_report calls) 0 m
    ∙ ap (λ (k : ℕ). reports_from (last_report calls) 0 m ++ entry_at k (last_report calls k)) num
    ∙ ap (λ (xs : List (ℕ × LaneReport)). xs ++ entry_at m (last_report calls m)) (firsts calls m)

-- there are none of lanes that aren't there
none_past : (calls : List Call) (n l : ℕ) → All (λ (c : Call). c.lane < n) calls → n ≤ l → last_report calls l ≡ None
none_past [] n l h le = refl
none_past (c ∷ calls) n l h le =
    let lt : c.lane < n = All-head (λ (x : Call). x.lane < n) c calls h in
    let other : nat_eq c.lane l ≡ false = grind (arith, common_steps) in
    ap (λ (b : Bool). if b then Some (report_of c.cname (delta_of c.info)) else last_report calls l) other ∙ none_past calls n l (All-tail (λ (x : Call). x.lane < n) c calls h) le

past : (calls : List Call) (n d : ℕ) → All (λ (c : Call). c.lane < n) calls → last_reports calls (d + n) ≡ last_reports calls n
past calls n zero h = let num : 0 + n ≡ n = omega arith in ap (last_reports calls) num
past calls n (suc d) h =
    let num : suc d + n ≡ suc (d + n) = omega arith in
    ap (last_reports calls) num
    ∙ ap (λ (o : Option LaneReport). last_reports calls (d + n) ++ entry_at (d + n) o) (none_past calls n (d + n) h (omega arith))
    ∙ append-nil (last_reports calls (d + n))
    ∙ past calls n d h

all_reports : (calls : List Call) (n : ℕ) → n ≤ 64 → All (λ (c : Call). c.lane < n) calls → reports (last_report calls) ≡ last_reports calls n
unfolding reports
all_reports calls n le h =
    let num : 256 ≡ (256 - n) + n = omega arith in
    firsts calls 256 ∙ ap (last_reports calls) num ∙ past calls n (256 - n) h

same_above : (name : List ℕ) (o : Option ℤ) (xs : List (ℕ × LaneReport)) → offsets_above name o xs ≡ offsets_from name xs o
same_above name None xs = refl
same_above name (Some least) xs = refl

offsets_are : (calls : List Call) (name : List ℕ) (n : ℕ) → n ≤ 64 → All (λ (c : Call). c.lane < n) calls → offsets_of (last_report calls) name ≡ offsets name (last_reports calls n)
offsets_are calls name n le h =
    same_above name (least_in name (map (λ e. e.1) (reports (last_report calls)))) (reports (last_report calls))
    ∙ ap (offsets name) (all_reports calls n le h)

lanes_of : (calls : List Call) (n : ℕ) → n ≤ 64 → All (λ (c : Call). c.lane < n) calls → AreLanes calls
lanes_of [] n le h = tt
lanes_of (c ∷ calls) n le h = (let lt : c.lane < n = All-head (λ (x : Call). x.lane < n) c calls h in omega arith, lanes_of calls n le (All-tail (λ (x : Call). x.lane < n) c calls h))

pub keeps_offsets :
    (one : IsOneList) (function : IsTheFunction) (t l : ℕ) (name : List ℕ) (info : SyncInfo) (old new : List (ℕ × LaneReport)) (found slice : List (ℕ × ℕ)) (before after : List BinLine)
    → ((calls : List Call) → StandsFor old calls → StandsFor new (call_of l name info ∷ calls))
    → ((calls : List Call) → StandsFor new calls → AreOffsets (last_report calls) name found)
    → slice ≡ found → after ≡ before ++ map (offset_line t) slice
    → Keeps t l name info old new before after
keeps_offsets one function t l name info old new found slice before after reports_it finds is added calls n few lt below stands =
    (now, added ∙ ap (λ (zs : List (ℕ × ℕ)). before ++ map (offset_line t) zs) (is ∙ found_is))
  where
    all : List Call
    all = call_of l name info ∷ calls

    now : StandsFor new all
    now = reports_it calls stands

    lanes : All (λ (c : Call). c.lane < n) all
    lanes = All-cons (λ (c : Call). c.lane < n) (call_of l name info) calls lt below

    found_is : found ≡ offsets name (last_reports all n)
    found_is =
        one (last_report all) name found (offsets_of (last_report all) name) (finds all now) (function all name (lanes_of all n few lanes))
        ∙ offsets_are all name n few lanes

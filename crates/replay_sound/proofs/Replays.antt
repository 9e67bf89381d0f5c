-- Records that a replay takes, and the items of a script, make a replay.
use Rattle.std.proofs.Common.{ℕ, ◌≡◌, ◌≤◌, ◌<◌, ◌^◌, Bool, true, false, sym, subst, ap, List, [], ◌∷◌, ◌++◌, length, arith}
use Rattle.std.specs.Prelude.{All, map, nat_le, if◌then◌else◌}
use Rattle.std.specs.List.{AllByRecursion, list_all}
use Rattle.std.proofs.lemmas.Bool.{and_parts}
use Rattle.std.proofs.lemmas.List.{length-append}
use Rattle.std.proofs.lemmas.List.Elements.{All-from_recursion, recursion_from_All}
use Rattle.pcap_file.specs.Capture.{Record}
use Rattle.script_lang.specs.Contents.{Contents, IsScript}
use Rattle.script_lang.specs.Settings.{is_within, is_time_within}
use Rattle.script_lang.specs.Entries.{action_fits, item_fits}
use Rattle.script_lang.specs.declared.script.Item.{Item}
use Rattle.script_lang.specs.declared.script.Action.{Action}
use Rattle.script_lang.specs.declared.script.Action.TheVariants as action
use Rattle.timeline.specs.Times.{Timed, first_stamp, greatest_since, at_times_after, at_times}
use Rattle.replay_model.specs.Inputs.{Input, OfCapture, OfScript, items_to, items_behind, inputs, items_left, all_inputs, records_in}
use Rattle.replay_model.specs.Fitting.{IsCaptured, IsAction, IsItem, IsInput, IsReplay}
use Rattle.replay_sound.specs.Stamped.{IsStamped, AreStamped}
use Rattle.replay_sound.proofs.Choosing.{time_within, valid_settings}

-- ---- what holds of each element of a list

each_append : {A : Type 0} (P : A → Type 0) (xs ys : List A) → AllByRecursion P xs → AllByRecursion P ys → AllByRecursion P (xs ++ ys)
each_append P [] ys h k = k
each_append P (x ∷ xs) ys h k = (h.0, each_append P xs ys h.1 k)

-- ---- records at their times

abbrev IsTimed : Timed → Type 0
IsTimed r = IsCaptured r.time r.captured

greatest_early : (first : ℕ) (rs : List Record) → AllByRecursion IsStamped rs → greatest_since first rs < 2 ^ 63
greatest_early first [] h = omega arith
greatest_early first (r ∷ rs) h = omega (arith, h.0.early, greatest_early first rs h.1)

times_early : (before rs : List Record) → AllByRecursion IsStamped before → AllByRecursion IsStamped rs → AllByRecursion IsTimed (at_times_after before rs)
times_early before [] passed h = tt
times_early before (r ∷ rs) passed h =
    let now : List Record = before ++ r ∷ [] in
    let all : AllByRecursion IsStamped now = each_append IsStamped before (r ∷ []) passed (h.0, tt) in
    (record { early = greatest_early (first_stamp now) now all; bytes = h.0.bytes }, times_early now rs all h.1)

times_count : (before rs : List Record) → length (at_times_after before rs) ≡ length rs
times_count before [] = omega arith
times_count before (r ∷ rs) = omega (arith, times_count (before ++ r ∷ []) rs)

-- ---- items

action_fitting : (a : Action) → action_fits a ≡ true → IsAction a
action_fitting action.Clock h = tt
action_fitting (action.FlushStart session) h = tt
action_fitting (action.FlushStop session) h = tt
action_fitting (action.Latency session ns) h = (time_within 0 600000 ns (and_parts (is_within 0 7 session) (is_time_within 0 600000 ns) h).1).1

item_fitting : (i : Item) → item_fits i ≡ true → IsItem i
item_fitting i h =
    let both = and_parts (is_time_within 0 4294967295 i.time) (action_fits i.action) h in
    record { early = omega (arith, (time_within 0 4294967295 i.time both.0).1); action = action_fitting i.action both.1 }

items_fitting : (is : List Item) → list_all item_fits is ≡ true → AllByRecursion IsItem is
items_fitting [] h = tt
items_fitting (i ∷ is) h =
    let both = and_parts (item_fits i) (list_all item_fits is) h in (item_fitting i both.0, items_fitting is both.1)

-- ---- inputs

each_picked : (b : Bool) (xs ys : List Item) → AllByRecursion IsItem xs → AllByRecursion IsItem ys → AllByRecursion IsItem (if b then xs else ys)
each_picked true xs ys h k = h
each_picked false xs ys h k = k

each_to : (t : ℕ) (is : List Item) → AllByRecursion IsItem is → AllByRecursion IsItem (items_to t is)
each_to t [] h = tt
each_to t (i ∷ is) h = each_picked (nat_le i.time t) (i ∷ items_to t is) [] (h.0, each_to t is h.1) tt

each_behind : (t : ℕ) (is : List Item) → AllByRecursion IsItem is → AllByRecursion IsItem (items_behind t is)
each_behind t [] h = tt
each_behind t (i ∷ is) h = each_picked (nat_le i.time t) (items_behind t is) (i ∷ is) (each_behind t is h.1) h

of_script : (is : List Item) → AllByRecursion IsItem is → AllByRecursion IsInput (map OfScript is)
of_script [] h = tt
of_script (i ∷ is) h = (h.0, of_script is h.1)

each_input : (is : List Item) (rs : List Timed) → AllByRecursion IsItem is → AllByRecursion IsTimed rs → AllByRecursion IsInput (inputs is rs)
each_input is [] h k = tt
each_input is (r ∷ rs) h k =
    each_append IsInput (map OfScript (items_to r.time is)) (OfCapture r ∷ inputs (items_behind r.time is) rs) (of_script (items_to r.time is) (each_to r.time is h))
    (k.0, each_input (items_behind r.time is) rs (each_behind r.time is h) k.1)

each_left : (is : List Item) (rs : List Timed) → AllByRecursion IsItem is → AllByRecursion IsItem (items_left is rs)
each_left is [] h = h
each_left is (r ∷ rs) h = each_left (items_behind r.time is) rs (each_behind r.time is h)

-- ---- a replay

-- All records come, each once and in their order, with the items behind the last and without.
pub record AllCome : Type 0 where
  pub part : (items : List Item) (rs : List Timed) → records_in (inputs items rs) ≡ rs
  pub whole : (items : List Item) (rs : List Timed) → records_in (all_inputs items rs) ≡ rs

of_records : (c : Contents) (rs : List Record) (xs : List Input) → IsScript c → length rs ≤ 100000000 → records_in xs ≡ at_times rs → AllByRecursion IsInput xs → IsReplay c xs
of_records c rs xs script few are each =
    record {
      latency = (valid_settings c 0 1 script (omega arith) (omega arith)).latency_to;
      few = subst (λ (ts : List Timed). length ts ≤ 100000000) (sym are) (omega (arith, few, times_count [] rs));
      each = All-from_recursion IsInput xs each;
    }

stamped_times : (rs : List Record) → All IsStamped rs → AllByRecursion IsTimed (at_times rs)
stamped_times rs h = times_early [] rs tt (recursion_from_All IsStamped rs h)

pub whole_replay : AllCome → (c : Contents) (rs : List Record) → IsScript c → AreStamped rs → IsReplay c (all_inputs c.items (at_times rs))
whole_replay come c rs script h =
    let items = items_fitting c.items script.items_fit in
    of_records c rs (all_inputs c.items (at_times rs)) script h.few (come.whole c.items (at_times rs))
    (each_append IsInput (inputs c.items (at_times rs)) (map OfScript (items_left c.items (at_times rs))) (each_input c.items (at_times rs) items (stamped_times rs h.each))
    (of_script (items_left c.items (at_times rs)) (each_left c.items (at_times rs) items)))

pub part_replay : AllCome → (c : Contents) (rs : List Record) → IsScript c → AreStamped rs → IsReplay c (inputs c.items (at_times rs))
part_replay come c rs script h =
    of_records c rs (inputs c.items (at_times rs)) script h.few (come.part c.items (at_times rs))
    (each_input c.items (at_times rs) (items_fitting c.items script.items_fit) (stamped_times rs h.each))

-- the first records of such
pub front_stamped : (all rs more : List Record) → all ≡ rs ++ more → AreStamped all → AreStamped rs
front_stamped all rs more is h =
    record {
      few = omega (arith, h.few, ap length is, length-append rs more);
      each = All-from_recursion IsStamped rs (front rs more (recursion_from_All IsStamped (rs ++ more) (subst (All IsStamped) is h.each)));
    }
  where
    front : (xs ys : List Record) → AllByRecursion IsStamped (xs ++ ys) → AllByRecursion IsStamped xs
    front [] ys k = tt
    front (x ∷ xs) ys k = (k.0, front xs ys k.1)

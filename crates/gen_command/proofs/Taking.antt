-- What a bin that is given records one by one stands for, and its last line.
use Rattle.std.proofs.Common.{◌≡◌, ◌≤◌, ℕ, ◌+◌, List, [], ◌∷◌, ◌++◌, length, map, refl, sym, ap, subst, ◌∙◌, arith, length-append}
use Rattle.std.specs.Prelude.{reverse}
use Rattle.std.proofs.lemmas.List.{append_assoc, append-nil, append_cancel_left, map-append}
use Rattle.pcap_file.specs.Capture.{Record}
use Rattle.script_lang.specs.Contents.{Contents}
use Rattle.timeline.specs.declared.line.BinLine.{BinLine}
use Rattle.timeline.specs.Times.{Timed, at_times, timed_after}
use Rattle.replay_model.specs.Events.{Timeline}
use Rattle.replay_model.specs.Inputs.{Input, OfCapture, OfScript, inputs, items_left, all_inputs}
use Rattle.replay_model.specs.Ending.{closed}
use Rattle.replay_model.specs.Lines.{lines}
use Rattle.replay_model.specs.Log.{timeline, whole_timeline, done_of, Begins}
use Rattle.bin_core.specs.declared.bin.Bin.{Bin}
use Rattle.bin_core.specs.Words.{records_of}
use Rattle.bin_core.specs.Bins.{BinStands, Takes, Ends}
use Rattle.command_core.specs.declared.clock.RecordClock.{RecordClock}
use Rattle.command_core.specs.Clock.{HasPassed}
use Rattle.command_core.specs.Laws.{times_next}
use Rattle.generated_capture.specs.Generated.{generator_script}
use Rattle.gen_command.specs.Generated.{done_line, EndsWith}

abbrev pub inputs_of : List Record → List Input
inputs_of records = map OfCapture (at_times records)

-- ---- no items

inputs_none : (rs : List Timed) → inputs [] rs ≡ map OfCapture rs
inputs_none [] = refl
inputs_none (r ∷ rs) = ap (λ (l : List Input). OfCapture r ∷ l) (inputs_none rs)

left_none : (rs : List Timed) → items_left [] rs ≡ []
left_none [] = refl
left_none (r ∷ rs) = left_none rs

all_none : (rs : List Timed) → all_inputs [] rs ≡ map OfCapture rs
all_none rs =
    ap (λ (l : List Input). l ++ map OfScript (items_left [] rs)) (inputs_none rs)
    ∙ ap (λ (is : List _). map OfCapture rs ++ map OfScript is) (left_none rs)
    ∙ append-nil (map OfCapture rs)

-- ---- one record more

inputs_next : (seen : List Record) (r : Record)
    → inputs_of (seen ++ r ∷ []) ≡ inputs_of seen ++ OfCapture (timed_after seen r) ∷ []
inputs_next seen r =
    ap (map OfCapture) (times_next seen r)
    ∙ map-append OfCapture (at_times seen) (timed_after seen r ∷ [])

-- Of all records the first ones came, and these are left.
pub record Came (all left : List Record) (bin : Bin) (clock : RecordClock) : Type 0 where
  pub seen : List Record
  pub all_is : all ≡ seen ++ left
  pub stands : BinStands generator_script bin (inputs_of seen) []
  pub passed : HasPassed clock seen
  pub counted : records_of bin ≡ length seen

pub came_few : (all old new : List Record) (bin : Bin) (clock : RecordClock) (r : Record)
    → Came all old bin clock → old ≡ r ∷ new → records_of bin + 1 ≤ length all
came_few all old new bin clock r c is =
    let whole = ap (λ (l : List Record). length l) (c.all_is ∙ ap (λ (l : List Record). c.seen ++ l) is) in
    omega (arith, whole, c.counted, length-append c.seen (r ∷ new))

pub came_next : (all old new : List Record) (bin bin' : Bin) (clock clock' : RecordClock)
    (r : Record) (before after : List BinLine) → Came all old bin clock → old ≡ r ∷ new
    → ((seen : List Record) (q : Record) → q.stamp ≡ r.stamp → HasPassed clock seen
    → HasPassed clock' (seen ++ q ∷ []))
    → Takes (OfCapture (record { time = clock'.time; captured = r })) bin bin' before after
    → records_of bin' ≡ records_of bin + 1 → Came all new bin' clock'
came_next all old new bin bin' clock clock' r before after c is passes takes count =
    let passed = passes c.seen r refl c.passed in
    let x : Timed = record { time = clock'.time; captured = r } in
    let same : x ≡ timed_after c.seen r =
    ap (λ (t : ℕ). let y : Timed = record { time = t; captured = r } in y) passed.time in
    let here = (takes generator_script (inputs_of c.seen) [] c.stands).stands in
    let ins : inputs_of c.seen ++ OfCapture x ∷ [] ≡ inputs_of (c.seen ++ r ∷ []) =
    ap (λ (y : Timed). inputs_of c.seen ++ OfCapture y ∷ []) same ∙ sym (inputs_next c.seen r) in
    record {
      seen = c.seen ++ r ∷ [];
      all_is = c.all_is ∙ ap (λ (l : List Record). c.seen ++ l) is
          ∙ sym (append_assoc c.seen (r ∷ []) new);
      stands = subst (λ (l : List Input). BinStands generator_script bin' l []) ins here;
      passed = passed;
      counted = omega (arith, count, c.counted, length-append c.seen (r ∷ []));
    }

-- ---- the end

rest_is : (p more rest : List BinLine) (last : BinLine) → p ++ rest ≡ (p ++ more) ++ last ∷ []
    → rest ≡ more ++ last ∷ []
rest_is p more rest last e =
    append_cancel_left p rest (more ++ last ∷ []) (e ∙ append_assoc p more (last ∷ []))

pub came_all : (all old : List Record) (bin : Bin) (clock : RecordClock)
    (before after : List BinLine) → Came all old bin clock → old ≡ [] → before ≡ []
    → ((c : Contents) (tl : Timeline) → Begins (lines tl) (lines (closed c tl)))
    → Ends bin before after → EndsWith after (done_line all)
unfolding done_line
came_all all old bin clock before after c is none begins ends =
    let xs = inputs_of c.seen in
    let done = ends generator_script xs [] c.stands in
    let tl = timeline generator_script (reverse xs) in
    let more = begins generator_script tl in
    let last = done_of (closed generator_script tl) in
    let rest : done.rest ≡ more.0 ++ last ∷ [] =
    rest_is (lines tl) more.0 done.rest last
    (sym done.line ∙ ap (λ (l : List BinLine). l ++ last ∷ []) more.1) in
    let ins : xs ≡ all_inputs [] (at_times all) =
    sym (all_none (at_times all)
    ∙ ap inputs_of (c.all_is ∙ ap (λ (l : List Record). c.seen ++ l) is ∙ append-nil c.seen)) in
    let same : last ≡ done_line all =
    ap (λ (l : List Input). done_of (whole_timeline generator_script (reverse l))) ins in
    record {
      front = more.0;
      is = done.added ∙ ap (λ (l : List BinLine). l ++ done.rest) none ∙ rest
          ∙ ap (λ (x : BinLine). more.0 ++ x ∷ []) same;
    }

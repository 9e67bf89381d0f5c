-- A replay's records, one by one, with items between them.
use Rattle.std.proofs.Common.{◌≡◌, ℕ, ◌+◌, ◌≤◌, List, [], ◌∷◌, ◌++◌, length, drop, Option, Result, Ok, Err, refl, sym, ap, subst, ◌∙◌, arith, zero-le}
use Rattle.std.specs.Prelude.{OnOk, map}
use Rattle.std.proofs.lemmas.List.{append_assoc, drop-drop, length-drop}
use Rattle.rtp_io.specs.Outside.{Adds, AddsFront}
use Rattle.pcap_file.specs.Capture.{Record}
use Rattle.timeline.specs.declared.line.BinLine.{BinLine}
use Rattle.script_lang.specs.declared.script.Item.{Item}
use Rattle.script_lang.specs.Contents.{Contents}
use Rattle.timeline.specs.Times.{Timed, at_times, at_times_after, time_after, timed_after}
use Rattle.replay_model.specs.Inputs.{Input, OfCapture, OfScript, items_to, items_behind, inputs, items_left, all_inputs}
use Rattle.replay_model.specs.Log.{log_part, log, Begins}
use Rattle.bin_core.specs.Words.{time_of}
use Rattle.bin_core.specs.Bins.{BinStands}
use Rattle.command_core.specs.declared.stop.Stop.{Stop}
use Rattle.command_core.specs.Output.{GoesOn, Starts}
use Rattle.command_core.specs.Steps.{Writes}
use Rattle.command_core.specs.Takes.{Wrote, Takes, Finishes}
use Rattle.command_core.specs.Laws.{times_onto, times_next}
use Rattle.replay_command.specs.declared.player.Player.{Player}
use Rattle.replay_command.specs.declared.rendering.Style.{Style}
use Rattle.replay_command.specs.declared.rendering.Rendering.{Rendering}
use Rattle.replay_command.specs.Rendered.{WasGiven, style_of, text_by}
use Rattle.replay_command.specs.Replay.{played_part, played_whole, played_output}
use Rattle.replay_command.specs.Plays.{AreItems, CanReplay, IsFresh, IsReady, Plays, PlaysMore, PlaysLast, Replayed}
use Rattle.replay_command.proofs.Ahead.{LogGoesOn}
use Rattle.replay_command.proofs.Items.{dropped, few_to, left_are}
use Rattle.replay_command.proofs.Writing.{text_onto, text_none, front_begins}

-- the inputs of some records begin those of these and more, with the items up to each record before it
pub record InputsGoOn : Type 0 where
  pub more : (items : List Item) (rs more : List Timed) → inputs items (rs ++ more) ≡ inputs items rs ++ inputs (items_left items rs) more
  pub next : (items : List Item) (rs : List Timed) (r : Timed)
      → inputs items (rs ++ r ∷ []) ≡ (inputs items rs ++ map OfScript (items_to r.time (items_left items rs))) ++ OfCapture r ∷ []
  pub left : (items : List Item) (rs more : List Timed) → items_left items (rs ++ more) ≡ items_left (items_left items rs) more

-- both laws of the definition
pub record GoOn : Type 0 where
  pub log : LogGoesOn
  pub inputs : InputsGoOn

-- ---- the log goes on

texts_start : (style : Style) (xs ys : List BinLine) → Begins xs ys → Starts (text_by style xs) (text_by style ys)
texts_start style xs ys begins =
    let on = text_onto style xs begins.0 in
    record { more = on.0; is = ap (text_by style) begins.1 ∙ on.1 }

inputs_onto : GoOn → (items : List Item) (seen more : List Record) → inputs items (at_times (seen ++ more)) ≡ inputs items (at_times seen) ++ inputs (items_left items (at_times seen)) (at_times_after seen more)
inputs_onto law items seen more = ap (inputs items) (times_onto [] seen more) ∙ law.inputs.more items (at_times seen) (at_times_after seen more)

part_onto : GoOn → (style : Style) (c : Contents) (seen more : List Record) → Starts (played_part style c seen) (played_part style c (seen ++ more))
unfolding played_part
part_onto law style c seen more =
    let xs : List Input = inputs c.items (at_times seen) in
    texts_start style (log_part c xs) (log_part c (inputs c.items (at_times (seen ++ more))))
    (subst (λ (ys : List Input). Begins (log_part c xs) (log_part c ys)) (sym (inputs_onto law c.items seen more)) (law.log.part c xs (inputs (items_left c.items (at_times seen)) (at_times_after seen more))))

whole_onto : GoOn → (style : Style) (c : Contents) (seen more : List Record) → Starts (played_part style c seen) (played_whole style c (seen ++ more))
unfolding played_part played_whole
whole_onto law style c seen more =
    let xs : List Input = inputs c.items (at_times seen) in
    let ys : List Input = inputs (items_left c.items (at_times seen)) (at_times_after seen more) in
    let zs : List Input = map OfScript (items_left c.items (at_times (seen ++ more))) in
    let is : all_inputs c.items (at_times (seen ++ more)) ≡ xs ++ (ys ++ zs) = ap (λ (l : List Input). l ++ zs) (inputs_onto law c.items seen more) ∙ append_assoc xs ys zs in
    texts_start style (log_part c xs) (log c (all_inputs c.items (at_times (seen ++ more))))
    (subst (λ (l : List Input). Begins (log_part c xs) (log c l)) (sym is) (law.log.whole c xs (ys ++ zs)))

pub part_none : (style : Style) (c : Contents) → played_part style c [] ≡ []
unfolding played_part
part_none style c = text_none style

pub replay_goes_on : GoOn → (style : Style) (c : Contents) → GoesOn (played_output style c)
replay_goes_on law style c = record { none = part_none style c; part = part_onto law style c; whole = whole_onto law style c }

-- ---- a record with the items before it, and the end

-- what was written so far
plays_here : (c : Contents) (p : Player) (given : ℕ) (seen : List Record) (start w : Option (List ℕ)) → Wrote (played_part (style_of p.rendering) c) (Replayed c p given) seen start w
    → Plays c p (inputs c.items (at_times seen)) start w
unfolding played_part
plays_here c p given seen start w wrote = record { stands = wrote.stands.stands; wrote = record { given = wrote.stands.told; written = wrote.written } }

-- the items up to the next record, and that record, among all inputs
next_inputs : GoOn → (c : Contents) (given : ℕ) (seen : List Record) (r : Record) → drop given c.items ≡ items_left c.items (at_times seen)
    → (inputs c.items (at_times seen) ++ map OfScript (items_to (timed_after seen r).time (drop given c.items))) ++ OfCapture (timed_after seen r) ∷ [] ≡ inputs c.items (at_times (seen ++ r ∷ []))
next_inputs law c given seen r left =
    ap (λ (l : List Item). (inputs c.items (at_times seen) ++ map OfScript (items_to (timed_after seen r).time l)) ++ OfCapture (timed_after seen r) ∷ []) left
    ∙ sym (law.inputs.next c.items (at_times seen) (timed_after seen r)) ∙ sym (ap (inputs c.items) (times_next seen r))

next_left : GoOn → (c : Contents) (given : ℕ) (seen : List Record) (r : Record) → drop given c.items ≡ items_left c.items (at_times seen)
    → drop (given + length (items_to (timed_after seen r).time (drop given c.items))) c.items ≡ items_left c.items (at_times (seen ++ r ∷ []))
next_left law c given seen r left =
    let t : ℕ = (timed_after seen r).time in
    sym (drop-drop (length (items_to t (drop given c.items))) given c.items) ∙ dropped t (drop given c.items) ∙ ap (items_behind t) left
    ∙ sym (law.inputs.left c.items (at_times seen) (timed_after seen r ∷ [])) ∙ sym (ap (items_left c.items) (times_next seen r))

-- the output's part, by what a player wrote
part_written : (style : Style) (c : Contents) (t : Style) (xs : List Input) (seen : List Record) (start w : Option (List ℕ)) → t ≡ style → xs ≡ inputs c.items (at_times seen) → Adds (text_by t (log_part c xs)) start w → Adds (played_part style c seen) start w
unfolding played_part
part_written style c t xs seen start w same is written =
    subst (λ (b : Style). Adds (text_by b (log_part c (inputs c.items (at_times seen)))) start w) same (subst (λ (l : List Input). Adds (text_by t (log_part c l)) start w) is written)

part_front : (style : Style) (c : Contents) (t : Style) (xs : List Input) (seen : List Record) (start w : Option (List ℕ)) → t ≡ style → xs ≡ inputs c.items (at_times seen) → AddsFront (text_by t (log_part c xs)) start w → AddsFront (played_part style c seen) start w
unfolding played_part
part_front style c t xs seen start w same is front =
    subst (λ (b : Style). AddsFront (text_by b (log_part c (inputs c.items (at_times seen)))) start w) same (subst (λ (l : List Input). AddsFront (text_by t (log_part c l)) start w) is front)

-- the inputs up to a record, as they were given
inputs_are : GoOn → (c : Contents) (given time : ℕ) (seen : List Record) (r : Record) (q : Timed) (due : List Item) → drop given c.items ≡ items_left c.items (at_times seen) → time ≡ time_after (seen ++ r ∷ [])
    → q ≡ record { time = time; captured = r } → due ≡ items_to time (drop given c.items)
    → (inputs c.items (at_times seen) ++ map OfScript due) ++ OfCapture q ∷ [] ≡ inputs c.items (at_times (seen ++ r ∷ []))
inputs_are law c given time seen r q due left at now are =
    let xs : List Input = inputs c.items (at_times seen) in
    let same : q ≡ timed_after seen r = now ∙ ap (λ (n : ℕ). record { time = n; captured = r }) at in
    ap (λ (l : List Item). (xs ++ map OfScript l) ++ OfCapture q ∷ []) (are ∙ ap (λ (n : ℕ). items_to n (drop given c.items)) at)
    ∙ ap (λ (x : Timed). (xs ++ map OfScript (items_to (timed_after seen r).time (drop given c.items))) ++ OfCapture x ∷ []) same ∙ next_inputs law c given seen r left

-- the items up to a record were given, and then the record, whose lines were written or not
pub takes : GoOn → (c : Contents) (p p' p'' : Player) (given given' n time : ℕ) (r : Record) (q : Timed) (due : List Item) (result : Result (Unit {0}) Stop) (w w' w'' : Option (List ℕ)) → style_of p'.rendering ≡ style_of p.rendering → style_of p''.rendering ≡ style_of p'.rendering
    → q ≡ record { time = time; captured = r } → due ≡ items_to time (drop given c.items) → n ≡ length (items_to time (drop given c.items)) → given' ≡ given + n
    → PlaysMore (Ok tt) p p' (map OfScript due) w w' → PlaysMore result p' p'' (OfCapture q ∷ []) w' w''
    → Takes result (played_part (style_of p.rendering) c) time r (Replayed c p given) (Replayed c p'' given') w w''
takes law c p p' p'' given given' n time r q due (Ok x) w w' w'' same same' now are count counted first second = λ seen start at wrote.
    let xs : List Input = inputs c.items (at_times seen) in
    let left = wrote.stands.left in
    let plays : Plays c p'' ((xs ++ map OfScript due) ++ OfCapture q ∷ []) start w'' =
    second c (xs ++ map OfScript due) start (first c xs start (plays_here c p given seen start w wrote)) in
    let is = inputs_are law c given time seen r q due left at now are in
    record {
      stands = record {
        stands = subst (λ (l : List Input). BinStands c p''.bin l []) is plays.stands;
        told = subst (λ (l : List Input). WasGiven p''.rendering (log_part c l)) is plays.wrote.given;
        left = ap (λ (m : ℕ). drop m c.items) (counted ∙ ap (λ (m : ℕ). given + m) (count ∙ ap (λ (m : ℕ). length (items_to m (drop given c.items))) at)) ∙ next_left law c given seen r left;
      };
      written = part_written (style_of p.rendering) c (style_of p''.rendering) ((xs ++ map OfScript due) ++ OfCapture q ∷ []) (seen ++ r ∷ []) start w'' (same' ∙ same) is plays.wrote.written;
    }
takes law c p p' p'' given given' n time r q due (Err why) w w' w'' same same' now are count counted first second = λ seen start at wrote.
    let xs : List Input = inputs c.items (at_times seen) in
    let front : AddsFront (text_by (style_of p'.rendering) (log_part c ((xs ++ map OfScript due) ++ OfCapture q ∷ []))) start w'' =
    second c (xs ++ map OfScript due) start (first c xs start (plays_here c p given seen start w wrote)) in
    part_front (style_of p.rendering) c (style_of p'.rendering) ((xs ++ map OfScript due) ++ OfCapture q ∷ []) (seen ++ r ∷ []) start w'' same (inputs_are law c given time seen r q due wrote.stands.left at now are) front

-- giving the items up to a record failed
pub takes_items : GoOn → (c : Contents) (p p' : Player) (given time : ℕ) (r : Record) (due : List Item) (why : Stop) (After : List Record → Type 0) (w w' : Option (List ℕ))
    → due ≡ items_to time (drop given c.items) → PlaysMore (Err why) p p' (map OfScript due) w w'
    → Takes (Err why) (played_part (style_of p.rendering) c) time r (Replayed c p given) After w w'
takes_items law c p p' given time r due why After w w' are first = λ seen start at wrote.
    let xs : List Input = inputs c.items (at_times seen) in
    let ys : List Input = xs ++ map OfScript due in
    let q : Timed = record { time = time; captured = r } in
    let x : Input = OfCapture q in
    let front : AddsFront (text_by (style_of p.rendering) (log_part c ys)) start w' = first c xs start (plays_here c p given seen start w wrote) in
    part_front (style_of p.rendering) c (style_of p.rendering) (ys ++ x ∷ []) (seen ++ r ∷ []) start w' refl (inputs_are law c given time seen r q due wrote.stands.left at refl are)
    (front_begins (style_of p.rendering) (log_part c ys) (log_part c (ys ++ x ∷ [])) start w' (law.log.part c ys (x ∷ [])) front)

whole_written : (style : Style) (c : Contents) (result : Result (Unit {0}) Stop) (seen : List Record) (start w : Option (List ℕ))
    → Writes result (text_by style (log c (all_inputs c.items (at_times seen)))) start w → Writes result (played_whole style c seen) start w
unfolding played_whole
whole_written style c result seen start w writes = writes

-- the items that were left were given, and then the end
pub finishes : (c : Contents) (p : Player) (given : ℕ) (left : List Item) (result : Result (Unit {0}) Stop) (w w' : Option (List ℕ)) → left ≡ drop given c.items
    → PlaysLast result p (map OfScript left) w w' → Finishes result (played_output (style_of p.rendering) c) (Replayed c p given) w w'
finishes c p given left result w w' are last = λ seen start wrote.
    let xs : List Input = inputs c.items (at_times seen) in
    whole_written (style_of p.rendering) c result seen start w'
    (subst (λ (l : List Item). Writes result (text_by (style_of p.rendering) (log c (xs ++ map OfScript l))) start w') (are ∙ wrote.stands.left) (last c xs start (plays_here c p given seen start w wrote)))

-- before any record
pub fresh : (c : Contents) (r : Rendering) (p : Player) → WasGiven r [] → IsFresh c r p → Replayed c p 0 []
fresh c r p none is = record { stands = is.stands; left = refl; told = subst (λ (x : Rendering). WasGiven x []) (sym is.rendering) none }

-- ---- the items that are left

pub can_replay : (c : Contents) (r : Rendering) (p : Player) → IsFresh c r p → AreItems 0 c.items → CanReplay c p 0
can_replay c r p is are = record { ready = is.ready; few = zero-le; are = subst (λ (t : ℕ). AreItems t c.items) (sym is.time) are }

-- so many more of them were given
pub can_go_on : (c : Contents) (p : Player) (given given' n from time : ℕ) (result : Result (Unit {0}) Stop) → given' ≡ given + n → n ≡ length (items_to time (drop given c.items)) → given ≤ length c.items → AreItems from (drop given c.items)
    → OnOk result (IsReady p) → OnOk result (time_of p.bin ≡ time) → OnOk result (CanReplay c p given')
can_go_on c p given given' n from time (Ok x) counted count few are ready at = record {
  ready = ready;
  few = omega (arith, counted, count, few, few_to time (drop given c.items), length-drop given c.items);
  are = subst (λ (t : ℕ). AreItems t (drop given' c.items)) (sym at) (subst (λ (m : ℕ). AreItems time (drop m c.items)) (sym counted) (left_are from time given n c.items count are));
}
can_go_on c p given given' n from time (Err why) counted count few are ready at = tt

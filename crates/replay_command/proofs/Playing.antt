-- What a player writes, input by input.
use Rattle.std.proofs.Common.{◌≡◌, ◌≤◌, ℕ, List, [], ◌∷◌, ◌++◌, Option, Result, Ok, Err, sym, ap, subst, ◌∙◌, arith}
use Rattle.std.proofs.lemmas.List.{append_assoc, append-nil}
use Rattle.rtp_io.specs.Outside.{Adds, AddsFront}
use Rattle.script_lang.specs.Contents.{Contents}
use Rattle.timeline.specs.declared.line.BinLine.{BinLine}
use Rattle.replay_model.specs.Inputs.{Input}
use Rattle.replay_model.specs.Log.{log_part, log, Begins}
use Rattle.replay_model.specs.Order.{input_time}
use Rattle.bin_core.specs.declared.bin.Bin.{Bin}
use Rattle.bin_core.specs.Words.{time_of}
use Rattle.bin_core.specs.Bins.{BinStands, Serves, Takes, Ends}
use Rattle.command_core.specs.declared.stop.Stop.{Stop}
use Rattle.replay_command.specs.declared.player.Player.{Player}
use Rattle.replay_command.specs.declared.rendering.Style.{Style}
use Rattle.replay_command.specs.Rendered.{Wrote, Renders, style_of, text_by}
use Rattle.replay_command.specs.Plays.{Plays, PlaysUpTo, PlaysMore, PlaysLast}
use Rattle.replay_command.proofs.Ahead.{LogGoesOn, ahead_begins}
use Rattle.replay_command.proofs.Writing.{front_begins, all_begins, renders_to, renders_front, styled}

-- lines that were added to none, behind others
added_are : (before told after xs ys : List BinLine) → before ≡ [] → after ≡ before ++ told → ys ≡ xs ++ told → xs ++ after ≡ ys
added_are before told after xs ys none added is =
    ap (λ (l : List BinLine). xs ++ l) (added ∙ ap (λ (l : List BinLine). l ++ told) none) ∙ sym is

-- all that was written, in the words of another style
styled_all : (s t : Style) (p : List BinLine) (a b : Option (List ℕ)) → s ≡ t → Adds (text_by s p) a b → Adds (text_by t p) a b
styled_all s t p a b is all = subst (λ (u : Style). Adds (text_by u p) a b) is all

-- ---- what is due

-- nothing was served yet
pub plays_level : (t : ℕ) (p : Player) (w : Option (List ℕ)) → PlaysUpTo (Ok tt) t p p w w
plays_level t p w = λ c seen start plays. record {
  told = [];
  stands = plays.stands;
  wrote = subst (λ (l : List BinLine). Wrote p.rendering l start w) (sym (append-nil (log_part c seen))) plays.wrote;
}

-- something more was served, and its lines were written
pub plays_due : (t : ℕ) (p q r : Player) (bin : Bin) (lines : List BinLine) (a b b' : Option (List ℕ)) → q.lines ≡ [] → r.bin ≡ bin
    → Serves q.bin bin q.lines lines → PlaysUpTo (Ok tt) t p q a b → Renders (Ok tt) q.rendering r.rendering lines b b' → PlaysUpTo (Ok tt) t p r a b'
plays_due t p q r bin lines a b b' none same serves ahead renders = λ c seen start plays.
    let on = ahead c seen start plays in
    let more = serves c seen on.told on.stands in
    let all : List BinLine = log_part c seen ++ (on.told ++ more.more) in
    let is = added_are q.lines more.more lines (log_part c seen ++ on.told) all none more.added (sym (append_assoc (log_part c seen) on.told more.more)) in
    record {
      told = on.told ++ more.more;
      stands = subst (λ (x : Bin). BinStands c x seen (on.told ++ more.more)) (sym same) more.stands;
      wrote = renders_to q.rendering r.rendering lines (log_part c seen ++ on.told) all start b b' is renders on.wrote;
    }

-- writing its lines failed
pub plays_due_fail : LogGoesOn → (t : ℕ) (why : Stop) (p q r : Player) (bin : Bin) (lines : List BinLine) (a b b' : Option (List ℕ)) → q.lines ≡ [] → style_of q.rendering ≡ style_of p.rendering → time_of bin ≡ t
    → Serves q.bin bin q.lines lines → PlaysUpTo (Ok tt) t p q a b → Renders (Err why) q.rendering r.rendering lines b b' → PlaysUpTo (Err why) t p r a b'
plays_due_fail law t why p q r bin lines a b b' none style time serves ahead renders = λ c seen start x late plays.
    let on = ahead c seen start plays in
    let more = serves c seen on.told on.stands in
    let all : List BinLine = log_part c seen ++ (on.told ++ more.more) in
    let is = added_are q.lines more.more lines (log_part c seen ++ on.told) all none more.added (sym (append_assoc (log_part c seen) on.told more.more)) in
    front_begins (style_of p.rendering) all (log_part c (seen ++ x ∷ [])) start b'
    (ahead_begins law c bin seen (on.told ++ more.more) x (omega (arith, time, late)) more.stands)
    (styled (style_of q.rendering) (style_of p.rendering) all start b' style
    (renders_front why q.rendering r.rendering lines (log_part c seen ++ on.told) all start b b' is renders on.wrote))

-- nothing of what is due next was written
pub plays_due_none : LogGoesOn → (t : ℕ) (why : Stop) (p q r : Player) (a b : Option (List ℕ)) → style_of q.rendering ≡ style_of p.rendering → time_of q.bin ≤ t
    → PlaysUpTo (Ok tt) t p q a b → PlaysUpTo (Err why) t p r a b
plays_due_none law t why p q r a b style time ahead = λ c seen start x late plays.
    let on = ahead c seen start plays in
    all_begins (style_of p.rendering) (log_part c seen ++ on.told) (log_part c (seen ++ x ∷ [])) start b
    (ahead_begins law c q.bin seen on.told x (omega (arith, time, late)) on.stands)
    (styled_all (style_of q.rendering) (style_of p.rendering) (log_part c seen ++ on.told) start b style on.wrote.written)

-- ---- one input

-- serving what is due before it failed
pub plays_late : (t : ℕ) (why : Stop) (p q : Player) (x : Input) (a b : Option (List ℕ)) → t ≤ input_time x → PlaysUpTo (Err why) t p q a b → PlaysMore (Err why) p q (x ∷ []) a b
plays_late t why p q x a b late due = λ c seen start plays. due c seen start x late plays

-- the bin took the input, and its lines were written
pub plays_one : (result : Result (Unit {0}) Stop) (t : ℕ) (p q r : Player) (bin : Bin) (lines : List BinLine) (x : Input) (a b b' : Option (List ℕ)) → q.lines ≡ [] → style_of q.rendering ≡ style_of p.rendering → r.bin ≡ bin
    → Takes x q.bin bin q.lines lines → PlaysUpTo (Ok tt) t p q a b → Renders result q.rendering r.rendering lines b b' → PlaysMore result p r (x ∷ []) a b'
plays_one (Ok u) t p q r bin lines x a b b' none style same takes ahead renders = λ c seen start plays.
    let here = ahead c seen start plays in
    let on = takes c seen here.told here.stands in
    let is = added_are q.lines on.rest lines (log_part c seen ++ here.told) (log_part c (seen ++ x ∷ [])) none on.added on.line in
    record {
      stands = subst (λ (y : Bin). BinStands c y (seen ++ x ∷ []) []) (sym same) on.stands;
      wrote = renders_to q.rendering r.rendering lines (log_part c seen ++ here.told) (log_part c (seen ++ x ∷ [])) start b b' is renders here.wrote;
    }
plays_one (Err why) t p q r bin lines x a b b' none style same takes ahead renders = λ c seen start plays.
    let here = ahead c seen start plays in
    let on = takes c seen here.told here.stands in
    let is = added_are q.lines on.rest lines (log_part c seen ++ here.told) (log_part c (seen ++ x ∷ [])) none on.added on.line in
    styled (style_of q.rendering) (style_of p.rendering) (log_part c (seen ++ x ∷ [])) start b' style
    (renders_front why q.rendering r.rendering lines (log_part c seen ++ here.told) (log_part c (seen ++ x ∷ [])) start b b' is renders here.wrote)

-- nothing of its lines was written
pub plays_none : LogGoesOn → (t : ℕ) (why : Stop) (p q r : Player) (x : Input) (a b : Option (List ℕ)) → style_of q.rendering ≡ style_of p.rendering → time_of q.bin ≤ input_time x → PlaysUpTo (Ok tt) t p q a b → PlaysMore (Err why) p r (x ∷ []) a b
plays_none law t why p q r x a b style late ahead = λ c seen start plays.
    let on = ahead c seen start plays in
    all_begins (style_of p.rendering) (log_part c seen ++ on.told) (log_part c (seen ++ x ∷ [])) start b
    (ahead_begins law c q.bin seen on.told x late on.stands)
    (styled_all (style_of q.rendering) (style_of p.rendering) (log_part c seen ++ on.told) start b style on.wrote.written)

-- ---- inputs one by one

pub plays_start : (p : Player) (w : Option (List ℕ)) → PlaysMore (Ok tt) p p [] w w
plays_start p w = λ c seen start plays. subst (λ (xs : List Input). Plays c p xs start w) (sym (append-nil seen)) plays

pub plays_then : (p q r : Player) (xs ys : List Input) (a b b' : Option (List ℕ)) → PlaysMore (Ok tt) p q xs a b → PlaysMore (Ok tt) q r ys b b' → PlaysMore (Ok tt) p r (xs ++ ys) a b'
plays_then p q r xs ys a b b' first second = λ c seen start plays.
    subst (λ (zs : List Input). Plays c r zs start b') (append_assoc seen xs ys) (second c (seen ++ xs) start (first c seen start plays))

-- writing what one of them has failed, with more behind it
pub plays_fail : LogGoesOn → (why : Stop) (p q r e : Player) (xs ys zs all : List Input) (a b b' : Option (List ℕ)) → all ≡ xs ++ (ys ++ zs) → style_of q.rendering ≡ style_of p.rendering → PlaysMore (Ok tt) p q xs a b → PlaysMore (Err why) q r ys b b' → PlaysMore (Err why) p e all a b'
plays_fail law why p q r e xs ys zs all a b b' is style first second = λ c seen start plays.
    let front : AddsFront (text_by (style_of q.rendering) (log_part c ((seen ++ xs) ++ ys))) start b' = second c (seen ++ xs) start (first c seen start plays) in
    let same : ((seen ++ xs) ++ ys) ++ zs ≡ seen ++ all = append_assoc (seen ++ xs) ys zs ∙ append_assoc seen xs (ys ++ zs) ∙ ap (λ (l : List Input). seen ++ l) (sym is) in
    front_begins (style_of p.rendering) (log_part c ((seen ++ xs) ++ ys)) (log_part c (seen ++ all)) start b'
    (subst (λ (l : List Input). Begins (log_part c ((seen ++ xs) ++ ys)) (log_part c l)) same (law.part c ((seen ++ xs) ++ ys) zs))
    (styled (style_of q.rendering) (style_of p.rendering) (log_part c ((seen ++ xs) ++ ys)) start b' style front)

-- ---- the end

-- the bin has finished, and its last lines were written
pub plays_end : (result : Result (Unit {0}) Stop) (p q r : Player) (lines : List BinLine) (more : List Input) (a b b' : Option (List ℕ)) → q.lines ≡ [] → style_of q.rendering ≡ style_of p.rendering → style_of r.rendering ≡ style_of q.rendering → PlaysMore (Ok tt) p q more a b
    → Ends q.bin q.lines lines → Renders result q.rendering r.rendering lines b b' → PlaysLast result p more a b'
plays_end (Ok u) p q r lines more a b b' none style style' first ends renders = λ c seen start plays.
    let on = first c seen start plays in
    let all = ends c (seen ++ more) [] on.stands in
    let is = added_are q.lines all.rest lines (log_part c (seen ++ more)) (log c (seen ++ more)) none all.added all.line in
    styled_all (style_of r.rendering) (style_of p.rendering) (log c (seen ++ more)) start b' (style' ∙ style)
    (renders_to q.rendering r.rendering lines (log_part c (seen ++ more)) (log c (seen ++ more)) start b b' is renders on.wrote).written
plays_end (Err why) p q r lines more a b b' none style style' first ends renders = λ c seen start plays.
    let on = first c seen start plays in
    let all = ends c (seen ++ more) [] on.stands in
    let is = added_are q.lines all.rest lines (log_part c (seen ++ more)) (log c (seen ++ more)) none all.added all.line in
    styled (style_of q.rendering) (style_of p.rendering) (log c (seen ++ more)) start b' style
    (renders_front why q.rendering r.rendering lines (log_part c (seen ++ more)) (log c (seen ++ more)) start b b' is renders on.wrote)

whole_begins : LogGoesOn → (c : Contents) (xs : List Input) → Begins (log_part c xs) (log c xs)
whole_begins law c xs = subst (λ (l : List Input). Begins (log_part c xs) (log c l)) (append-nil xs) (law.whole c xs [])

-- writing what the inputs before it have failed
pub plays_cut : LogGoesOn → (why : Stop) (p q : Player) (more : List Input) (a b : Option (List ℕ)) → PlaysMore (Err why) p q more a b → PlaysLast (Err why) p more a b
plays_cut law why p q more a b first = λ c seen start plays.
    front_begins (style_of p.rendering) (log_part c (seen ++ more)) (log c (seen ++ more)) start b (whole_begins law c (seen ++ more)) (first c seen start plays)

-- nothing of the last lines was written
pub plays_no_end : LogGoesOn → (why : Stop) (p q : Player) (more : List Input) (a b : Option (List ℕ)) → style_of q.rendering ≡ style_of p.rendering → PlaysMore (Ok tt) p q more a b → PlaysLast (Err why) p more a b
plays_no_end law why p q more a b style first = λ c seen start plays.
    all_begins (style_of p.rendering) (log_part c (seen ++ more)) (log c (seen ++ more)) start b (whole_begins law c (seen ++ more))
    (styled_all (style_of q.rendering) (style_of p.rendering) (log_part c (seen ++ more)) start b style (first c seen start plays).wrote.written)

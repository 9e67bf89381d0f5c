-- What is written for log lines, one after the other.
use Rattle.std.proofs.Common.{◌≡◌, ◌∙◌, ℕ, Bool, ◌+◌, ◌<◌, List, [], ◌∷◌, ◌++◌, length, take, drop, get_or, add-one, Option, Result, Ok, Err, refl, sym, ap, subst}
use Rattle.std.specs.List.{flat_map}
use Rattle.std.proofs.Math.Seq.{take-suc, drop-cons}
use Rattle.std.proofs.lemmas.List.{append_assoc, append-nil, take-append-drop}
use Rattle.std.proofs.lemmas.List.Concat.{flat_map-append}
use Rattle.rtp_io.specs.Outside.{Adds, AddsFront}
use Rattle.rtp_io.specs.Laws.{adds_none, adds_then, adds_same, front_of, front_then}
use Rattle.depay.specs.declared.outcome.Format.{Format}
use Rattle.timeline.specs.declared.line.BinLine.{BinLine}
use Rattle.replay_model.specs.Log.{Begins}
use Rattle.log_text.specs.Text.{line_text}
use Rattle.unit_log.specs.declared.line.UnitLine.{UnitLine}
use Rattle.unit_log.specs.declared.log.UnitLog.{UnitLog}
use Rattle.unit_log.specs.Laws.{goes_on}
use Rattle.unit_log.specs.Lines.{lines_at, lines_behind}
use Rattle.unit_log.specs.Standing.{TookLines, SameSettings}
use Rattle.unit_log.specs.Text.{text_at, text_of, texts_of}
use Rattle.command_core.specs.declared.stop.Stop.{Stop}
use Rattle.command_core.specs.declared.stop.Stop.TheVariants as stop
use Rattle.command_core.specs.Laws.{front_more, prints_write}
use Rattle.command_core.specs.Steps.{Prints}
use Rattle.replay_command.specs.declared.rendering.Style.{Style}
use Rattle.replay_command.specs.declared.rendering.Style.TheVariants as style
use Rattle.replay_command.specs.declared.rendering.Rendering.{Rendering}
use Rattle.replay_command.specs.declared.rendering.Rendering.TheVariants as rendering
use Rattle.replay_command.specs.Rendered.{text_by, style_of, Wrote, Renders, RendersUnits}

-- ---- the text goes on

pub text_onto : (s : Style) (xs ys : List BinLine)
    → (rest : List ℕ) × (text_by s (xs ++ ys) ≡ text_by s xs ++ rest)
text_onto (style.Log hex) xs ys =
    (flat_map (line_text hex) ys, flat_map-append (line_text hex) xs ys)
text_onto (style.Units format pt) xs ys =
    (texts_of (lines_behind format pt xs ys), goes_on.text format pt xs ys)

pub text_none : (s : Style) → text_by s [] ≡ []
text_none (style.Log hex) = refl
text_none (style.Units format pt) = goes_on.none format pt

-- a front of the text of these lines is one of that of more
pub front_begins : (s : Style) (xs ys : List BinLine) (a b : Option (List ℕ)) → Begins xs ys
    → AddsFront (text_by s xs) a b → AddsFront (text_by s ys) a b
front_begins s xs ys a b begins front =
    let on = text_onto s xs begins.0 in
    subst (λ (l : List ℕ). AddsFront l a b) (sym (ap (text_by s) begins.1 ∙ on.1))
    (front_more (text_by s xs) on.0 a b front)

pub all_begins : (s : Style) (xs ys : List BinLine) (a b : Option (List ℕ)) → Begins xs ys
    → Adds (text_by s xs) a b → AddsFront (text_by s ys) a b
all_begins s xs ys a b begins all =
    let on = text_onto s xs begins.0 in
    subst (λ (l : List ℕ). AddsFront l a b) (sym (ap (text_by s) begins.1 ∙ on.1))
    (front_of (text_by s xs) on.0 a b all)

front_none : (p : List ℕ) (a : Option (List ℕ)) → AddsFront p a a
front_none p a = front_of [] p a a (adds_none a)

-- ---- one line

log_one : (hex : Bool) (before : List BinLine) (line : BinLine)
    → text_by (style.Log hex) (before ++ line ∷ [])
    ≡ text_by (style.Log hex) before ++ line_text hex line
log_one hex before line =
    flat_map-append (line_text hex) before (line ∷ [])
    ∙ ap (λ (l : List ℕ). flat_map (line_text hex) before ++ l) (append-nil (line_text hex line))

pub log_renders : (hex : Bool) (before_text after_text : List ℕ) (line : BinLine) (result : Result (Unit {0}) Stop)
    (a b : Option (List ℕ)) (o o' : ℕ) → Prints (line_text hex line) result a b o o'
    → Renders result (rendering.Log hex before_text) (rendering.Log hex after_text) (line ∷ []) a b
log_renders hex before_text after_text line (Ok x) a b o o' prints = λ before start wrote. record {
  given = tt;
  written = prints_write (text_by (style.Log hex) before) (line_text hex line)
      (text_by (style.Log hex) (before ++ line ∷ [])) (Ok x) start a b o o'
      (log_one hex before line) wrote.written prints;
}
log_renders hex before_text after_text line (Err why) a b o o' prints = λ before start wrote.
    prints_write (text_by (style.Log hex) before) (line_text hex line)
    (text_by (style.Log hex) (before ++ line ∷ [])) (Err why) start a b o o'
    (log_one hex before line) wrote.written prints

took_same : (p q : UnitLog) (lines : List BinLine) → SameSettings p q
    → TookLines q p.format p.pt lines → TookLines q q.format q.pt lines
took_same p q lines same took =
    subst (λ (f : Format). TookLines q f q.pt lines) (sym same.format_is)
    (subst (λ (n : ℕ). TookLines q p.format n lines) (sym same.type_is) took)

pub units_style : (p q : UnitLog) → SameSettings p q
    → style_of (rendering.Units q) ≡ style_of (rendering.Units p)
units_style p q same =
    ap (λ (f : Format). style.Units f q.pt) same.format_is
    ∙ ap (λ (n : ℕ). style.Units p.format n) same.type_is

pub units_render : (p q : UnitLog) (line : BinLine) (result : Result (Unit {0}) Stop)
    (a b : Option (List ℕ)) → SameSettings p q → RendersUnits result p q line a b
    → Renders result (rendering.Units p) (rendering.Units q) (line ∷ []) a b
units_render p q line (Ok x) a b same renders = λ before start wrote.
    let on = renders before wrote.given in
    let all : Adds (text_of p.format p.pt (before ++ line ∷ [])) start b =
    adds_same (text_of p.format p.pt before ++ text_at p.format p.pt before line)
    (text_of p.format p.pt (before ++ line ∷ [])) start b
    (sym (goes_on.line p.format p.pt before line))
    (adds_then (text_of p.format p.pt before) (text_at p.format p.pt before line) start a b
    wrote.written on.1) in
    record {
      given = took_same p q (before ++ line ∷ []) same on.0;
      written = subst (λ (s : Style). Adds (text_by s (before ++ line ∷ [])) start b)
          (sym (units_style p q same)) all;
    }
units_render p q line (Err why) a b same renders = λ before start wrote.
    let text = text_at p.format p.pt before line in
    subst (λ (l : List ℕ). AddsFront l start b)
    (sym (goes_on.line p.format p.pt before line
    ∙ ap (λ (l : List ℕ). text_of p.format p.pt before ++ l) (sym (append-nil text))))
    (front_then (text_of p.format p.pt before) text [] start a b wrote.written
    (renders before wrote.given))

-- ---- the unit lines of one log line

pub prints_units : (p q : UnitLog) (line : BinLine) (lines : List UnitLine)
    (result : Result (Unit {0}) Stop) (a b : Option (List ℕ)) (o o' : ℕ)
    → ((before : List BinLine) → TookLines p p.format p.pt before
    → lines ≡ lines_at p.format p.pt before line)
    → ((before : List BinLine) → TookLines p p.format p.pt before
    → TookLines q p.format p.pt (before ++ line ∷ []))
    → Prints (texts_of lines) result a b o o' → RendersUnits result p q line a b
unfolding text_at
prints_units p q line lines (Ok x) a b o o' is took prints = λ before was.
    (took before was, subst (λ (l : List UnitLine). Adds (texts_of l) a b) (is before was) prints.0)
prints_units p q line lines (Err stop.Write) a b o o' is took prints = λ before was.
    subst (λ (l : List UnitLine). AddsFront (texts_of l) a b) (is before was) prints.0
prints_units p q line lines (Err stop.Memory) a b o o' is took prints = λ before was.
    subst (λ (l : List UnitLine). AddsFront (texts_of l) a b) (is before was) prints.0
prints_units p q line lines (Err stop.Usage) a b o o' is took prints = absurd prints
prints_units p q line lines (Err (stop.Script at cause)) a b o o' is took prints = absurd prints
prints_units p q line lines (Err stop.Read) a b o o' is took prints = absurd prints
prints_units p q line lines (Err (stop.Capture fault)) a b o o' is took prints = absurd prints

pub no_units : (why : Stop) (p q : UnitLog) (line : BinLine) (a : Option (List ℕ))
    → RendersUnits (Err why) p q line a a
no_units why p q line a = λ before was. front_none (text_at p.format p.pt before line) a

-- ---- lines, one by one

pub renders_none : (r : Rendering) (a : Option (List ℕ)) → Renders (Ok tt) r r [] a a
renders_none r a = λ before start wrote.
    subst (λ (l : List BinLine). Wrote r l start a) (sym (append-nil before)) wrote

one_more : (xs : List BinLine) (i : ℕ) (x : BinLine) → i < length xs → x ≡ get_or xs i x
    → take i xs ++ x ∷ [] ≡ take (i + 1) xs
one_more xs i x lt is =
    sym (ap (λ (n : ℕ). take n xs) (add-one i) ∙ take-suc xs i x lt
    ∙ ap (λ (y : BinLine). take i xs ++ y ∷ []) (sym is))

all_of : (xs : List BinLine) (i : ℕ) (x : BinLine) → i < length xs → x ≡ get_or xs i x
    → take i xs ++ (x ∷ drop (i + 1) xs) ≡ xs
all_of xs i x lt is =
    ap (λ (l : List BinLine). take i xs ++ l)
    (ap (λ (y : BinLine). y ∷ drop (i + 1) xs) is
    ∙ ap (λ (n : ℕ). get_or xs i x ∷ drop n xs) (add-one i) ∙ sym (drop-cons xs i x lt))
    ∙ take-append-drop i xs

pub renders_on : (r s t : Rendering) (xs : List BinLine) (i : ℕ) (x : BinLine)
    (a b c : Option (List ℕ)) → i < length xs → x ≡ get_or xs i x
    → Renders (Ok tt) r s (take i xs) a b → Renders (Ok tt) s t (x ∷ []) b c
    → Renders (Ok tt) r t (take (i + 1) xs) a c
renders_on r s t xs i x a b c lt is first second = λ before start wrote.
    subst (λ (l : List BinLine). Wrote t l start c)
    (append_assoc before (take i xs) (x ∷ [])
    ∙ ap (λ (l : List BinLine). before ++ l) (one_more xs i x lt is))
    (second (before ++ take i xs) start (first before start wrote))

pub renders_fail : (why : Stop) (r s t u : Rendering) (xs : List BinLine) (i : ℕ) (x : BinLine)
    (a b c : Option (List ℕ)) → i < length xs → x ≡ get_or xs i x → style_of s ≡ style_of r
    → Renders (Ok tt) r s (take i xs) a b → Renders (Err why) s t (x ∷ []) b c
    → Renders (Err why) r u xs a c
renders_fail why r s t u xs i x a b c lt is alike first second = λ before start wrote.
    let told : List BinLine = (before ++ take i xs) ++ x ∷ [] in
    let rest : List BinLine = drop (i + 1) xs in
    let same : before ++ xs ≡ told ++ rest =
    ap (λ (l : List BinLine). before ++ l) (sym (all_of xs i x lt is))
    ∙ sym (append_assoc before (take i xs) (x ∷ rest))
    ∙ sym (append_assoc (before ++ take i xs) (x ∷ []) rest) in
    front_begins (style_of r) told (before ++ xs) start c (rest, same)
    (subst (λ (s : Style). AddsFront (text_by s told) start c) alike
    (second (before ++ take i xs) start (first before start wrote)))

-- ---- all lines behind those that were told before

pub renders_to : (r s : Rendering) (lines before all : List BinLine) (start a b : Option (List ℕ))
    → before ++ lines ≡ all → Renders (Ok tt) r s lines a b → Wrote r before start a
    → Wrote s all start b
renders_to r s lines before all start a b is renders wrote =
    subst (λ (l : List BinLine). Wrote s l start b) is (renders before start wrote)

pub renders_front : (why : Stop) (r s : Rendering) (lines before all : List BinLine)
    (start a b : Option (List ℕ)) → before ++ lines ≡ all → Renders (Err why) r s lines a b
    → Wrote r before start a → AddsFront (text_by (style_of r) all) start b
renders_front why r s lines before all start a b is renders wrote =
    subst (λ (l : List BinLine). AddsFront (text_by (style_of r) l) start b) is
    (renders before start wrote)

pub styled : (s t : Style) (p : List BinLine) (a b : Option (List ℕ)) → s ≡ t
    → AddsFront (text_by s p) a b → AddsFront (text_by t p) a b
styled s t p a b is front = subst (λ (u : Style). AddsFront (text_by u p) a b) is front

-- The log goes on.
use Rattle.std.proofs.Common.{ℕ, ◌≡◌, refl, sym, ap, subst, ◌∙◌, List, [], ◌∷◌, ◌++◌}
use Rattle.std.specs.Prelude.{reverse}
use Rattle.std.proofs.lemmas.List.{append_assoc, append-nil, reverse-append}
use Rattle.script_lang.specs.Contents.{Contents}
use Rattle.timeline.specs.declared.line.BinLine.{BinLine}
use Rattle.replay_model.specs.Inputs.{Input}
use Rattle.replay_model.specs.Events.{Event, Timeline}
use Rattle.replay_model.specs.Ending.{closed}
use Rattle.replay_model.specs.Lines.{lines, event_lines}
use Rattle.replay_model.specs.Log.{with_input, timeline, whole_timeline, log_part, log, done_of, Begins}
use Rattle.replay_model.proofs.Extending.{Extends, ext_then, input_extend, timeline_extend, closed_extend}

lines_then : (more old : Timeline) → lines (more ++ old) ≡ lines old ++ lines more
lines_then [] old = sym (append-nil (lines old))
lines_then (e ∷ more) old = ap (λ (x : List BinLine). x ++ event_lines e) (lines_then more old) ∙ append_assoc (lines old) (lines more) (event_lines e)

begins : (old new : Timeline) → Extends old new → Begins (lines old) (lines new)
begins old new h = (lines h.more, ap lines h.is ∙ lines_then h.more old)

part_extends : (c : Contents) (xs more : List Input) → Extends (timeline c (reverse xs)) (timeline c (reverse (xs ++ more)))
part_extends c xs more =
    subst (λ (ys : List Input). Extends (timeline c (reverse xs)) (timeline c ys)) (sym (reverse-append xs more)) (timeline_extend c (reverse more) (reverse xs))

pub past : (c : Contents) (newer older : List Input) → (more : Timeline) × (timeline c (newer ++ older) ≡ more ++ timeline c older)
past c newer older = let h : Extends (timeline c older) (timeline c (newer ++ older)) = timeline_extend c newer older in (h.more, h.is)

pub input : (c : Contents) (x : Input) (tl : Timeline) → Begins (lines tl) (lines (with_input c x tl))
input c x tl = begins tl (with_input c x tl) (input_extend c x tl)

pub part : (c : Contents) (xs more : List Input) → Begins (log_part c xs) (log_part c (xs ++ more))
part c xs more = begins (timeline c (reverse xs)) (timeline c (reverse (xs ++ more))) (part_extends c xs more)

pub whole : (c : Contents) (xs more : List Input) → Begins (log_part c xs) (log c (xs ++ more))
whole c xs more =
    let all : Timeline = whole_timeline c (reverse (xs ++ more)) in
    let g : Begins (log_part c xs) (lines all) =
    begins (timeline c (reverse xs)) all (ext_then (timeline c (reverse xs)) (timeline c (reverse (xs ++ more))) all (part_extends c xs more) (closed_extend c (timeline c (reverse (xs ++ more))))) in
    (g.0 ++ done_of all ∷ [], ap (λ (x : List BinLine). x ++ done_of all ∷ []) g.1 ∙ append_assoc (log_part c xs) g.0 (done_of all ∷ []))

pub ending : (c : Contents) (tl : Timeline) → Begins (lines tl) (lines (closed c tl))
ending c tl = begins tl (closed c tl) (closed_extend c tl)

-- What a log line changes.
use Rattle.std.proofs.Common.{◌≡◌, ◌∙◌, ℕ, ◌+◌, Bool, true, false, cond, List, [], ◌∷◌, ◌++◌, map, length, reverse, Option, Some, None, refl, sym, ap, subst}
use Rattle.std.specs.Prelude.{◌==◌}
use Rattle.std.specs.List.{filter, filter_map}
use Rattle.std.proofs.lemmas.List.{append-nil, reverse-append, length-append}
use Rattle.std.proofs.lemmas.List.Elements.{filter-append, filter_map-append}
use Rattle.depay.specs.declared.outcome.Format.{Format}
use Rattle.depay.specs.declared.outcome.Outcome.{Outcome}
use Rattle.depay.specs.Fragments.{Call}
use Rattle.timeline.specs.declared.line.BinLine.{BinLine}
use Rattle.timeline.specs.declared.line.BinLine.TheVariants.{Done}
use Rattle.unit_log.specs.declared.line.UnitLine.{UnitLine}
use Rattle.unit_log.specs.declared.log.UnitLog.{UnitLog}
use Rattle.unit_log.specs.Lines.{Given, given_by, call_for, call_in, calls_in, outcomes_by, outcomes_from, outcomes_at, outcomes_in, line_of, lines_from, lines_at, is_unit, is_broken, unit_count, broken_count}
use Rattle.unit_log.specs.Standing.{WereGiven, TookLines, SameSettings, Gave, calls_with}
use Rattle.unit_log.specs.Laws.{behind-one}
use Rattle.unit_log.proofs.Lanes.{were_same}

-- ---- the calls of a lane

abbrev one_more : Option Call → List Call → List Call
one_more None calls = calls
one_more (Some call) calls = call ∷ calls

with_last : (o : Option Call) (f : BinLine → Option Call) (line : BinLine) (calls : List Call)
    → f line ≡ o → reverse (filter_map f (line ∷ [])) ++ calls ≡ one_more o calls
with_last None f line calls e = rw e refl
with_last (Some call) f line calls e = rw e refl

calls_more : (pt lane : ℕ) (before : List BinLine) (line : BinLine)
    → calls_in pt lane (before ++ line ∷ [])
    ≡ one_more (call_in pt lane line) (calls_in pt lane before)
calls_more pt lane before line =
    ap reverse (filter_map-append (call_in pt lane) before (line ∷ []))
    ∙ reverse-append (filter_map (call_in pt lane) before)
    (filter_map (call_in pt lane) (line ∷ []))
    ∙ with_last (call_in pt lane line) (call_in pt lane) line (calls_in pt lane before) refl

calls_none : (pt lane : ℕ) (before : List BinLine) (line : BinLine) → given_by pt line ≡ None
    → calls_in pt lane before ≡ calls_in pt lane (before ++ line ∷ [])
calls_none pt lane before line e =
    sym (calls_more pt lane before line
    ∙ ap (λ (o : Option Given). one_more (call_for lane o) (calls_in pt lane before)) e)

by_lane : (here : Bool) (call : Call) (calls : List Call)
    → one_more (cond here (Some call) None) calls ≡ cond here (call ∷ calls) calls
by_lane true call calls = refl
by_lane false call calls = refl

calls_some : (pt : ℕ) (g : Given) (before : List BinLine) (line : BinLine)
    → given_by pt line ≡ Some g → (lane : ℕ)
    → calls_with g.lane g.call (λ k. calls_in pt k before) lane
    ≡ calls_in pt lane (before ++ line ∷ [])
calls_some pt g before line e lane =
    sym (calls_more pt lane before line
    ∙ ap (λ (o : Option Given). one_more (call_for lane o) (calls_in pt lane before)) e
    ∙ by_lane (g.lane == lane) g.call (calls_in pt lane before))

-- ---- counts

unit_count-append : (xs ys : List Outcome) → unit_count (xs ++ ys) ≡ unit_count xs + unit_count ys
unit_count-append xs ys =
    ap length (filter-append is_unit xs ys) ∙ length-append (filter is_unit xs) (filter is_unit ys)

broken_count-append : (xs ys : List Outcome)
    → broken_count (xs ++ ys) ≡ broken_count xs + broken_count ys
broken_count-append xs ys =
    ap length (filter-append is_broken xs ys)
    ∙ length-append (filter is_broken xs) (filter is_broken ys)

outcomes_more : (format : Format) (pt : ℕ) (before : List BinLine) (line : BinLine)
    (o : Option Given) → given_by pt line ≡ o
    → outcomes_in format pt (before ++ line ∷ [])
    ≡ outcomes_in format pt before ++ outcomes_from format pt before o
outcomes_more format pt before line o e =
    behind-one (outcomes_at format pt) before line
    ∙ ap (λ (x : Option Given). outcomes_in format pt before ++ outcomes_from format pt before x) e

-- ---- a line that gives no lane anything

outcomes_same : (format : Format) (pt : ℕ) (before : List BinLine) (line : BinLine)
    → given_by pt line ≡ None
    → outcomes_in format pt before ≡ outcomes_in format pt (before ++ line ∷ [])
outcomes_same format pt before line e =
    sym (outcomes_more format pt before line None e
    ∙ append-nil (outcomes_in format pt before))

pub took_none : (log : UnitLog) (format : Format) (pt : ℕ) (before : List BinLine) (line : BinLine)
    → given_by pt line ≡ None → TookLines log format pt before
    → TookLines log format pt (before ++ line ∷ [])
took_none log format pt before line e took = record {
  format_is = took.format_is;
  type_is = took.type_is;
  lanes = were_same format (λ k. calls_in pt k before) (λ k. calls_in pt k (before ++ line ∷ []))
      log.lanes.items (λ k. calls_none pt k before line e) took.lanes;
  units = took.units ∙ ap unit_count (outcomes_same format pt before line e);
  broken = took.broken ∙ ap broken_count (outcomes_same format pt before line e);
}

-- ---- a line that gives a lane something

pub took_some : (old new : UnitLog) (format : Format) (pt : ℕ) (g : Given) (before : List BinLine)
    (line : BinLine) → given_by pt line ≡ Some g → TookLines old format pt before
    → SameSettings old new → Gave old new g.lane (λ k. calls_in pt k before) g.call
    → TookLines new format pt (before ++ line ∷ [])
took_some old new format pt g before line e took same gave =
    let told = outcomes_by format (calls_in pt g.lane before) g.call in
    let all = outcomes_more format pt before line (Some g) e in
    let by = ap (λ (f : Format). outcomes_by f (calls_in pt g.lane before) g.call)
    took.format_is in
    record {
      format_is = same.format_is ∙ took.format_is;
      type_is = same.type_is ∙ took.type_is;
      lanes = were_same format (calls_with g.lane g.call (λ k. calls_in pt k before))
          (λ k. calls_in pt k (before ++ line ∷ [])) new.lanes.items
          (calls_some pt g before line e)
          (subst (λ (f : Format).
          WereGiven f (calls_with g.lane g.call (λ k. calls_in pt k before)) new.lanes.items)
          took.format_is gave.lanes);
      units = gave.units ∙ ap (λ (n : ℕ). n + unit_count (outcomes_by old.format
          (calls_in pt g.lane before) g.call)) took.units
          ∙ ap (λ (xs : List Outcome). unit_count (outcomes_in format pt before) + unit_count xs) by
          ∙ sym (ap unit_count all ∙ unit_count-append (outcomes_in format pt before) told);
      broken = gave.broken ∙ ap (λ (n : ℕ). n + broken_count (outcomes_by old.format
          (calls_in pt g.lane before) g.call)) took.broken
          ∙ ap (λ (xs : List Outcome). broken_count (outcomes_in format pt before) + broken_count xs)
          by
          ∙ sym (ap broken_count all ∙ broken_count-append (outcomes_in format pt before) told);
    }

-- ---- the unit lines of a log line

-- the records that a done line counts
abbrev pub records_at : BinLine → Option ℕ
records_at (Done records lanes out lost refused) = Some records
records_at line = None

pub no_records : (line : BinLine)
    → ((records lanes out lost refused : ℕ) → line ≡ Done records lanes out lost refused → ⊥)
    → records_at line ≡ None
no_records (Done records lanes out lost refused) other =
    absurd (other records lanes out lost refused refl)
no_records line other = refl

pub given_records : (pt : ℕ) (g : Given) (line : BinLine) → given_by pt line ≡ Some g
    → records_at line ≡ None
given_records pt g (Done records lanes out lost refused) e = absurd cc
given_records pt g line e = refl

lines_of_other : (format : Format) (pt : ℕ) (before : List BinLine) (line : BinLine)
    → records_at line ≡ None
    → lines_at format pt before line ≡ lines_from format pt before (given_by pt line)
lines_of_other format pt before (Done records lanes out lost refused) e = absurd cc
lines_of_other format pt before line e = refl

pub lines_none : (format : Format) (pt : ℕ) (before : List BinLine) (line : BinLine)
    → records_at line ≡ None → given_by pt line ≡ None → lines_at format pt before line ≡ []
lines_none format pt before line other e =
    lines_of_other format pt before line other
    ∙ ap (λ (o : Option Given). lines_from format pt before o) e

pub lines_some : (format : Format) (pt : ℕ) (g : Given) (before : List BinLine) (line : BinLine)
    → records_at line ≡ None → given_by pt line ≡ Some g
    → lines_at format pt before line
    ≡ map (line_of g.time g.lane) (outcomes_by format (calls_in pt g.lane before) g.call)
lines_some format pt g before line other e =
    lines_of_other format pt before line other
    ∙ ap (λ (o : Option Given). lines_from format pt before o) e

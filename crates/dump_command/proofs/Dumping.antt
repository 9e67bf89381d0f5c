-- A dump's records, one by one.
use Rattle.std.proofs.Common.{◌≡◌, ℕ, suc, ◌+◌, List, [], ◌∷◌, ◌++◌, length, Option, Result, Ok, Err, refl, sym, ap, subst, ◌∙◌, arith}
use Rattle.std.proofs.lemmas.List.{append_assoc, append-nil, length_push}
use Rattle.std.proofs.lemmas.List.Concat.{flat_map-append}
use Rattle.rtp_io.specs.Outside.{AddsFront}
use Rattle.rtp_io.specs.Laws.{front_of}
use Rattle.pcap_file.specs.Capture.{Record}
use Rattle.timeline.specs.declared.dumped.DumpLine.{DumpLine}
use Rattle.timeline.specs.declared.dumped.DumpLine.TheVariants as told
use Rattle.timeline.specs.Times.{Timed, at_times, at_times_after, time_after, timed_after}
use Rattle.log_text.specs.Dumped.{dump_text}
use Rattle.command_core.specs.declared.stop.Stop.{Stop}
use Rattle.command_core.specs.Output.{GoesOn, Starts}
use Rattle.command_core.specs.Steps.{Prints, Writes}
use Rattle.command_core.specs.Takes.{Takes, Finishes}
use Rattle.command_core.specs.Laws.{prints_write, times_onto, times_next}
use Rattle.dump_command.specs.Dump.{line_of, lines_behind, texts_of, dump_part, dump_output}

lines_onto : (count : ℕ) (xs ys : List Timed) → lines_behind count (xs ++ ys) ≡ lines_behind count xs ++ lines_behind (count + length xs) ys
lines_onto count [] ys = let e : count ≡ count + 0 = omega arith in ap (λ (n : ℕ). lines_behind n ys) e
lines_onto count (x ∷ xs) ys =
    let e : count + 1 + length xs ≡ count + length (x ∷ xs) = omega arith in
    ap (λ (l : List DumpLine). line_of (count + 1) x ∷ l) (lines_onto (count + 1) xs ys ∙ ap (λ (n : ℕ). lines_behind (count + 1) xs ++ lines_behind n ys) e)

length_times : (before rs : List Record) → length (at_times_after before rs) ≡ length rs
length_times before [] = refl
length_times before (r ∷ rs) = ap (λ (n : ℕ). suc n) (length_times (before ++ r ∷ []) rs)

texts_onto : (xs ys : List DumpLine) → texts_of (xs ++ ys) ≡ texts_of xs ++ texts_of ys
texts_onto xs ys = flat_map-append dump_text xs ys

part_onto : (seen more : List Record) → Starts (dump_part seen) (dump_part (seen ++ more))
unfolding dump_part
part_onto seen more =
    let ts = at_times seen in
    let us = at_times_after seen more in
    record {
      more = texts_of (lines_behind (0 + length ts) us);
      is = ap (λ (l : List Timed). texts_of (lines_behind 0 l)) (times_onto [] seen more) ∙ ap texts_of (lines_onto 0 ts us) ∙ texts_onto (lines_behind 0 ts) (lines_behind (0 + length ts) us);
    }

whole_onto : (seen more : List Record) → Starts (dump_part seen) (dump_output.whole (seen ++ more))
whole_onto seen more =
    let part = part_onto seen more in
    let last = dump_text (told.Done (length (seen ++ more))) in
    record { more = part.more ++ last; is = ap (λ (l : List ℕ). l ++ last) part.is ∙ append_assoc (dump_part seen) part.more last }

none : dump_part [] ≡ []
unfolding dump_part
none = refl

pub dump_goes_on : GoesOn dump_output
dump_goes_on = record { none = none; part = part_onto; whole = whole_onto }

part_next : (seen : List Record) (r : Record) → dump_part (seen ++ r ∷ []) ≡ dump_part seen ++ dump_text (line_of (length seen + 1) (timed_after seen r))
unfolding dump_part
part_next seen r =
    let ts = at_times seen in
    let t = timed_after seen r in
    let count : 0 + length ts + 1 ≡ length seen + 1 = omega (arith, length_times [] seen) in
    ap (λ (l : List Timed). texts_of (lines_behind 0 l)) (times_next seen r) ∙ ap texts_of (lines_onto 0 ts (t ∷ [])) ∙ texts_onto (lines_behind 0 ts) (lines_behind (0 + length ts) (t ∷ []))
    ∙ ap (λ (l : List ℕ). texts_of (lines_behind 0 ts) ++ l) (append-nil (dump_text (line_of (0 + length ts + 1) t)) ∙ ap (λ (n : ℕ). dump_text (line_of n t)) count)

-- the line of the record behind these ones, by their count and its time
line_is : (count time : ℕ) (r : Record) (line : DumpLine) (seen : List Record) → line ≡ line_of (count + 1) (record { time = time; captured = r }) → time ≡ time_after (seen ++ r ∷ []) → count ≡ length seen
    → dump_part (seen ++ r ∷ []) ≡ dump_part seen ++ dump_text line
line_is count time r line seen is at counted =
    let same : line ≡ line_of (length seen + 1) (timed_after seen r) = is ∙ ap (λ (n : ℕ). line_of (n + 1) (record { time = time; captured = r })) counted ∙ ap (λ (t : ℕ). line_of (length seen + 1) (record { time = t; captured = r })) at in
    part_next seen r ∙ ap (λ (l : DumpLine). dump_part seen ++ dump_text l) (sym same)

-- a record was counted, and its line written or not
pub took : (count count' time : ℕ) (r : Record) (line : DumpLine) (result : Result (Unit {0}) Stop) (old new : Option (List ℕ)) (o o' : ℕ) → count' ≡ count + 1 → line ≡ line_of count' (record { time = time; captured = r })
    → Prints (dump_text line) result old new o o' → Takes result dump_part time r (λ seen. count ≡ length seen) (λ seen. count' ≡ length seen) old new
took count count' time r line (Ok x) old new o o' next is prints = λ seen start at wrote.
    let line' = is ∙ ap (λ (n : ℕ). line_of n (record { time = time; captured = r })) next in
    record {
      stands = next ∙ ap (λ (n : ℕ). n + 1) wrote.stands ∙ sym (length_push seen r);
      written = prints_write (dump_part seen) (dump_text line) (dump_part (seen ++ r ∷ [])) (Ok x) start old new o o' (line_is count time r line seen line' at wrote.stands) wrote.written prints;
    }
took count count' time r line (Err why) old new o o' next is prints = λ seen start at wrote.
    let line' = is ∙ ap (λ (n : ℕ). line_of n (record { time = time; captured = r })) next in
    prints_write (dump_part seen) (dump_text line) (dump_part (seen ++ r ∷ [])) (Err why) start old new o o' (line_is count time r line seen line' at wrote.stands) wrote.written prints

-- nothing was written for a record
pub took_none : (why : Stop) (time : ℕ) (r : Record) (Before After : List Record → Type 0) (now : Option (List ℕ)) → Takes (Err why) dump_part time r Before After now now
took_none why time r Before After now = λ seen start at wrote.
    let starts = dump_goes_on.part seen (r ∷ []) in
    subst (λ (l : List ℕ). AddsFront l start now) (sym starts.is) (front_of (dump_part seen) starts.more start now wrote.written)

-- the last line was written or not
pub took_last : (count : ℕ) (result : Result (Unit {0}) Stop) (old new : Option (List ℕ)) (o o' : ℕ) → Prints (dump_text (told.Done count)) result old new o o' → Finishes result dump_output (λ seen. count ≡ length seen) old new
took_last count result old new o o' prints = λ seen start wrote.
    prints_write (dump_part seen) (dump_text (told.Done count)) (dump_output.whole seen) result start old new o o' (ap (λ (n : ℕ). dump_part seen ++ dump_text (told.Done n)) (sym wrote.stands)) wrote.written prints

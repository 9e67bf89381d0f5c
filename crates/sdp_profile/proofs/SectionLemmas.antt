-- Reading section by section is reading all sections.
use Rattle.std.proofs.Common.{◌≡◌, ◌+◌, ◌-◌, ◌≤◌, get_or, ℕ, List, [], ◌∷◌, length, take, drop, map, Bool, true, false, not, cond, suc, Some, None, Result, Ok, Err, sym, ◌∙◌, ap, subst, refl, arith}
use Rattle.std.specs.List.{position_or_len}
use Rattle.std.proofs.lemmas.List.{take-map}
use Rattle.std.specs.List.{drop-map}
use Rattle.script_lang.specs.Causes.{◌>>=◌}
use Rattle.sdp_profile.proofs.TextLemmas.{whole_lines}
use Rattle.sdp_profile.specs.declared.fault.Fault.{Fault}
use Rattle.sdp_profile.specs.declared.fault.SdpFault.{SdpFault}
use Rattle.sdp_profile.specs.declared.fault.SdpFault.TheVariants.{Bad, Times, OutOfMemory}
use Rattle.sdp_profile.specs.declared.lines.TextLine.{TextLine}
use Rattle.sdp_profile.specs.Text.{Line}
use Rattle.sdp_profile.specs.Attributes.{placed_of}
use Rattle.sdp_profile.specs.Sections.{Described, is_media, until_media, from_media, sections_of, fault_of_lines, unless, with_section, with_sections}
use Rattle.sdp_profile.specs.Descriptions.{nothing, described}
use Rattle.sdp_profile.specs.Reading.{line_in, lines_in, placed_in, Answers, Leaves}

pub placed_kept : (lines : List TextLine) → map placed_in lines ≡ map placed_of (lines_in lines)
placed_kept [] = refl
placed_kept (l ∷ lines) = ap (λ ls. placed_in l ∷ ls) (placed_kept lines)

-- ---- where the first `m=` line is

abbrev pub is_media_line : TextLine → Bool
is_media_line l = is_media (line_in l)

place_kept : (lines : List TextLine) → position_or_len is_media (lines_in lines) ≡ position_or_len is_media_line lines
place_kept [] = refl
place_kept (l ∷ lines) = ap (λ n. cond (not (is_media_line l)) (1 + n) 0) (place_kept lines)

pub until_kept : (lines : List TextLine) → lines_in (take (position_or_len is_media_line lines) lines) ≡ until_media (lines_in lines)
until_kept lines = sym (take-map line_in (position_or_len is_media_line lines) lines) ∙ ap (λ n. take n (lines_in lines)) (sym (place_kept lines))

pub from_kept : (lines : List TextLine) → lines_in (drop (position_or_len is_media_line lines) lines) ≡ from_media (lines_in lines)
from_kept lines = sym (drop-map line_in (position_or_len is_media_line lines) lines) ∙ ap (λ n. drop n (lines_in lines)) (sym (place_kept lines))

-- the lines begin with an `m=` line, if with any
abbrev pub begins_section : List Line → Bool
begins_section [] = true
begins_section (l ∷ lines) = is_media l

drop_one_more : (n : ℕ) (l : Line) (lines : List Line) → drop (1 + n) (l ∷ lines) ≡ drop n lines
drop_one_more n l lines = let e : 1 + n ≡ suc n = omega arith in ap (λ k. drop k (l ∷ lines)) e

from_cases : (l : Line) (lines : List Line) (b : Bool) → is_media l ≡ b → from_media (l ∷ lines) ≡ cond b (l ∷ lines) (from_media lines)
from_cases l lines true e = ap (λ b. drop (cond (not b) (1 + position_or_len is_media lines) 0) (l ∷ lines)) e
from_cases l lines false e = ap (λ b. drop (cond (not b) (1 + position_or_len is_media lines) 0) (l ∷ lines)) e ∙ drop_one_more (position_or_len is_media lines) l lines

pub from_begins : (lines : List Line) → begins_section (from_media lines) ≡ true
from_begins [] = refl
from_begins (l ∷ lines) = elim (is_media l) as (λ b. is_media l ≡ b → begins_section (from_media (l ∷ lines)) ≡ true) [
  | true ↦ λ e. ap begins_section (from_cases l lines true e) ∙ e
  | false ↦ λ e. ap begins_section (from_cases l lines false e) ∙ from_begins lines
] refl

sections_cases : (l : Line) (lines : List Line) (b : Bool) → is_media l ≡ b
    → sections_of (l ∷ lines) ≡ cond b (record { media = l; lines = until_media lines } ∷ sections_of lines) (sections_of lines)
sections_cases l lines b e = ap (λ t. cond t (record { media = l; lines = until_media lines } ∷ sections_of lines) (sections_of lines)) e

pub sections_from : (lines : List Line) → sections_of (from_media lines) ≡ sections_of lines
sections_from [] = refl
sections_from (l ∷ lines) = elim (is_media l) as (λ b. is_media l ≡ b → sections_of (from_media (l ∷ lines)) ≡ sections_of (l ∷ lines)) [
  | true ↦ λ e. ap sections_of (from_cases l lines true e)
  | false ↦ λ e. ap sections_of (from_cases l lines false e) ∙ sections_from lines ∙ sym (sections_cases l lines false e)
] refl

-- ---- section by section

-- what is left of the sections, behind what earlier ones gave
pub record SectionsSoFar (draft : Described) (rest : List Line) (all : Result Described Fault) : Type 0 where
  pub onward : with_sections draft (sections_of rest) ≡ all
  pub begins : begins_section rest ≡ true

pub sections_begin : (draft : Described) (all rest : List Line) → rest ≡ from_media all → SectionsSoFar draft rest (with_sections draft (sections_of all))
sections_begin draft all rest is = record {
  onward = ap (λ ls. with_sections draft (sections_of ls)) is ∙ ap (with_sections draft) (sections_from all);
  begins = ap begins_section is ∙ from_begins all;
}

-- the section that begins here, and the others
next_section : (draft : Described) (m : Line) (behind : List Line) (all : Result Described Fault) → SectionsSoFar draft (m ∷ behind) all
    → (with_section draft (record { media = m; lines = until_media behind }) >>= λ d. with_sections d (sections_of behind)) ≡ all
unfolding with_sections
next_section draft m behind all sofar = sym (ap (with_sections draft) (sections_cases m behind true sofar.begins)) ∙ sofar.onward

pub section_taken : (draft new : Described) (m : Line) (lines behind next : List Line) (all : Result Described Fault) → SectionsSoFar draft (m ∷ behind) all
    → lines ≡ until_media behind → next ≡ from_media behind → with_section draft (record { media = m; lines = lines }) ≡ Ok new → SectionsSoFar new next all
section_taken draft new m lines behind next all sofar front is taken = record {
  onward = ap (λ ls. with_sections new (sections_of ls)) is ∙ ap (with_sections new) (sections_from behind)
      ∙ sym (ap (λ r. r >>= λ d. with_sections d (sections_of behind)) (ap (λ ls. with_section draft (record { media = m; lines = ls })) (sym front) ∙ taken))
      ∙ next_section draft m behind all sofar;
  begins = ap begins_section is ∙ from_begins behind;
}

section_failed : (draft : Described) (f : Fault) (m : Line) (lines behind : List Line) (all : Result Described Fault) → SectionsSoFar draft (m ∷ behind) all
    → lines ≡ until_media behind → with_section draft (record { media = m; lines = lines }) ≡ Err f → all ≡ Err f
section_failed draft f m lines behind all sofar front fails =
    sym (next_section draft m behind all sofar)
    ∙ ap (λ r. r >>= λ d. with_sections d (sections_of behind)) (ap (λ ls. with_section draft (record { media = m; lines = ls })) (sym front) ∙ fails)

pub section_error : (e : SdpFault) (draft new : Described) (m : Line) (lines behind : List Line) (all : Result Described Fault) → SectionsSoFar draft (m ∷ behind) all
    → lines ≡ until_media behind → Leaves (Err e) (with_section draft (record { media = m; lines = lines })) new → Leaves (Err e) all new
section_error (Bad line cause) draft new m lines behind all sofar front fails = section_failed draft (record { line = line; cause = cause }) m lines behind all sofar front fails
section_error OutOfMemory draft new m lines behind all sofar front fails = tt
section_error (Times line cause) draft new m lines behind all sofar front fails = fails

-- the first line and those behind it
pub first_and_rest : (lines : List TextLine) (d : TextLine) → 1 ≤ length lines → line_in (get_or lines 0 d) ∷ lines_in (take (length lines - 1) (drop 1 lines)) ≡ lines_in lines
first_and_rest [] d h = absurd (omega arith)
first_and_rest (l ∷ lines) d h = ap (λ ls. line_in l ∷ lines_in ls) (whole_lines 1 (l ∷ lines))

no_lines : (lines : List TextLine) → length lines ≡ 0 → lines ≡ []
no_lines [] e = refl
no_lines (l ∷ lines) e = absurd (omega arith)

pub all_sections_taken : (draft : Described) (rest : List TextLine) (all : Result Described Fault) → length rest ≡ 0 → SectionsSoFar draft (lines_in rest) all → all ≡ Ok draft
unfolding with_sections
all_sections_taken draft rest all e sofar = sym sofar.onward ∙ ap (λ ls. with_sections draft (sections_of (lines_in ls))) (no_lines rest e)

-- ---- the whole description

pub head_failed : (all : List Line) (f : Fault) → fault_of_lines (map placed_of (until_media all)) ≡ Some f → described all ≡ Err f
unfolding described
head_failed all f fails = ap (λ o. unless o nothing >>= λ d. with_sections d (sections_of all)) fails

head_passed : (all rest : List Line) → rest ≡ from_media all → fault_of_lines (map placed_of (until_media all)) ≡ None → described all ≡ with_sections nothing (sections_of rest)
unfolding described
head_passed all rest is fine =
    ap (λ f. unless f nothing >>= λ d. with_sections d (sections_of all)) fine
    ∙ sym (ap (λ ls. with_sections nothing (sections_of ls)) is ∙ ap (with_sections nothing) (sections_from all))

error_answered : (e : SdpFault) (answer : Result Described Fault) (new : Described) → Leaves (Err e) answer new → Answers {A = Described} (Err e) answer
error_answered (Bad line cause) answer new h = h
error_answered OutOfMemory answer new h = tt
error_answered (Times line cause) answer new h = h

pub sections_failed : (e : SdpFault) (draft new : Described) (all rest : List Line) → draft ≡ nothing → rest ≡ from_media all → fault_of_lines (map placed_of (until_media all)) ≡ None
    → Leaves (Err e) (with_sections draft (sections_of rest)) new → Answers {A = Described} (Err e) (described all)
sections_failed e draft new all rest empty is fine fails =
    error_answered e (described all) new (subst (λ r. Leaves (Err e) r new) (ap (λ d. with_sections d (sections_of rest)) empty ∙ sym (head_passed all rest is fine)) fails)

pub sections_passed : (draft new : Described) (all rest : List Line) → draft ≡ nothing → rest ≡ from_media all → fault_of_lines (map placed_of (until_media all)) ≡ None
    → with_sections draft (sections_of rest) ≡ Ok new → described all ≡ Ok new
sections_passed draft new all rest empty is fine taken = head_passed all rest is fine ∙ sym (ap (λ d. with_sections d (sections_of rest)) empty) ∙ taken

-- What holds of the unit lines of every log: they and their text go on as the log does.
use Rattle.std.specs.Prelude.{◌≡◌, ℕ, List, [], ◌∷◌, ◌++◌, refl}
use Rattle.std.proofs.Common.{◌∙◌, sym, ap}
use Rattle.std.proofs.lemmas.Grind.{flat_map-append}
use Rattle.std.proofs.lemmas.List.{append_assoc, append-nil}
use Rattle.depay.specs.declared.outcome.Format.{Format}
use Rattle.timeline.specs.declared.line.BinLine.{BinLine}
use Rattle.unit_log.specs.declared.line.UnitLine.{UnitLine}
use Rattle.unit_log.specs.Lines.{behind, lines_at, lines_behind, unit_lines}
use Rattle.unit_log.specs.Text.{unit_text, texts_of, text_at, text_of}

-- The unit lines go on, and their text, as the log does, and it has none without a log line.
pub record GoesOn : Type 0 where
  pub none : (format : Format) (pt : ℕ) → text_of format pt [] ≡ []
  pub lines : (format : Format) (pt : ℕ) (before more : List BinLine)
      → unit_lines format pt (before ++ more)
      ≡ unit_lines format pt before ++ lines_behind format pt before more
  pub text : (format : Format) (pt : ℕ) (before more : List BinLine)
      → text_of format pt (before ++ more)
      ≡ text_of format pt before ++ texts_of (lines_behind format pt before more)
  pub line : (format : Format) (pt : ℕ) (before : List BinLine) (line : BinLine)
      → text_of format pt (before ++ line ∷ [])
      ≡ text_of format pt before ++ text_at format pt before line

pub behind-append : {X : Type 0} (tells : List BinLine → BinLine → List X)
    (before xs ys : List BinLine)
    → behind tells before (xs ++ ys) ≡ behind tells before xs ++ behind tells (before ++ xs) ys
behind-append tells before [] ys =
    ap (λ (b : List BinLine). behind tells b ys) (sym (append-nil before))
behind-append {X} tells before (x ∷ xs) ys =
    let rest = behind tells (before ++ x ∷ []) xs in
    ap (λ (r : List X). tells before x ++ r)
    (behind-append tells (before ++ x ∷ []) xs ys
    ∙ ap (λ (b : List BinLine). rest ++ behind tells b ys) (append_assoc before (x ∷ []) xs))
    ∙ sym (append_assoc (tells before x) rest (behind tells (before ++ x ∷ xs) ys))

pub behind-one : {X : Type 0} (tells : List BinLine → BinLine → List X) (before : List BinLine)
    (line : BinLine)
    → behind tells [] (before ++ line ∷ []) ≡ behind tells [] before ++ tells before line
behind-one {X} tells before line =
    behind-append tells [] before (line ∷ [])
    ∙ ap (λ (r : List X). behind tells [] before ++ r) (append-nil (tells before line))

pub goes_on : GoesOn
unfolding text_at text_of
goes_on = record {
  none = λ format pt. refl;
  lines = λ format pt before more. behind-append (lines_at format pt) [] before more;
  text = λ format pt before more.
      ap texts_of (behind-append (lines_at format pt) [] before more)
      ∙ flat_map-append unit_text (unit_lines format pt before)
      (lines_behind format pt before more);
  line = λ format pt before line.
      ap texts_of (behind-one (lines_at format pt) before line)
      ∙ flat_map-append unit_text (unit_lines format pt before) (lines_at format pt before line);
}

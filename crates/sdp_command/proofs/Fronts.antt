-- The front of a text that is too long tells as much as the whole.
use Rattle.std.proofs.Common.{◌≡◌, ℕ, ◌+◌, ◌<◌, List, length, take, Result, Ok, Err}
use Rattle.std.proofs.Common.{refl, sym, ap, ◌∙◌, arith, inl, inr}
use Rattle.std.proofs.lemmas.Bool.{lt-ltb, cases_lt}
use Rattle.std.proofs.lemmas.List.{length-take-le, take_all}
use Rattle.script_lang.specs.declared.fault.ScriptCause.TheVariants as script
use Rattle.script_lang.specs.declared.fault.ScriptFault.TheVariants.{Bad}
use Rattle.script_lang.specs.declared.script.SessionLine.{SessionLine}
use Rattle.script_lang.specs.Times.{script_of_times}
use Rattle.sdp_profile.specs.declared.fault.SdpCause.TheVariants as cause
use Rattle.sdp_profile.specs.Sections.{Described}
use Rattle.sdp_profile.specs.Descriptions.{description_of}
use Rattle.sdp_profile.specs.Scripts.{described_script, with_description, with_times}

-- what holds of a text that is short enough or too long, holds of its front and the whole
same_of_front : {A : Type 0} (f : List ℕ → A) (most : ℕ) (bad : A) (text : List ℕ)
    → ((t : List ℕ) → most < length t → f t ≡ bad) → f (take (most + 1) text) ≡ f text
same_of_front f most bad text big = elim (cases_lt most (length text)) [
  | inl long ↦
      let size : length (take (most + 1) text) ≡ most + 1 =
      length-take-le (most + 1) text (omega arith) in
      big (take (most + 1) text) (omega (arith, size)) ∙ sym (big text long)
  | inr short ↦ ap f (take_all (most + 1) text (omega arith))
]

big_description : (text : List ℕ) → 1048576 < length text
    → description_of text ≡ Err (record { line = 0; cause = cause.Size })
unfolding description_of
big_description text big = rw (lt-ltb 1048576 (length text) big) refl

big_times : (sessions : List SessionLine) (text : List ℕ) → 1048576 < length text
    → script_of_times sessions text ≡ Err (Bad 0 script.Size)
unfolding script_of_times
big_times sessions text big = rw (lt-ltb 1048576 (length text) big) refl

pub fronts_tell : (sdp times : List ℕ)
    → described_script (take (1048576 + 1) sdp) (take (1048576 + 1) times)
    ≡ described_script sdp times
unfolding described_script
fronts_tell sdp times =
    ap (λ d. with_description d (take (1048576 + 1) times))
    (same_of_front description_of 1048576 _ sdp big_description)
    ∙ behind (description_of sdp)
  where
    behind : (d : Result Described _)
        → with_description d (take (1048576 + 1) times) ≡ with_description d times
    behind (Ok d) =
        ap (with_times d)
        (same_of_front (script_of_times d.sessions) 1048576 _ times (big_times d.sessions))
    behind (Err fault) = refl

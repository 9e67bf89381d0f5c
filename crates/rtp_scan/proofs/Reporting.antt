-- The text of a scan, by its parts.
use Rattle.std.proofs.Common.{◌≡◌, Bool, ℕ, List, ◌++◌, Result, Ok, Err, refl, ap, ◌∙◌}
use Rattle.std.specs.Prelude.{IfOk}
use Rattle.script_lang.specs.Contents.{Contents}
use Rattle.script_lang.specs.Written.{script_text}
use Rattle.rtp_scan.specs.declared.stream.Stream.{Stream}
use Rattle.rtp_scan.specs.Streams.{Found, streams_in}
use Rattle.rtp_scan.specs.Proposal.{script_in}
use Rattle.rtp_scan.specs.Report.{lines_for, comments_for, report_text}

-- the parts are those for these streams and this script
text_of : (script_only : Bool) (found : Found) (streams : List Stream) (script : Contents)
    (lines written comments : List ℕ) → streams ≡ streams_in found → script ≡ script_in found
    → lines ≡ lines_for script_only streams → written ≡ script_text script → comments
    ≡ comments_for script streams found.left_out → lines ++ written ++ comments
    ≡ report_text script_only found
unfolding report_text
text_of script_only found streams script lines written comments same proposed told wrote left =
    ap (λ (l : List ℕ). l ++ written ++ comments) (told ∙ ap (lines_for script_only) same)
    ∙ ap (λ (l : List ℕ). lines_for script_only (streams_in found) ++ l ++ comments) (wrote
    ∙ ap script_text proposed)
    ∙ ap (λ (l : List ℕ). lines_for script_only (streams_in found) ++ script_text (script_in found)
    ++ l)
    (left ∙ ap (λ (c : Contents). comments_for c streams found.left_out) proposed
    ∙ ap (λ (l : List Stream). comments_for (script_in found) l found.left_out) same)

pub joined_is : {E : Type 0} (r : Result (List ℕ) E) (script_only : Bool) (found : Found)
    (streams : List Stream) (script : Contents) (lines written comments : List ℕ)
    → IfOk r (λ text. text ≡ lines ++ written ++ comments) → streams ≡ streams_in found → script
    ≡ script_in found
    → lines ≡ lines_for script_only streams → written ≡ script_text script → comments
    ≡ comments_for script streams found.left_out
    → IfOk r (λ text. text ≡ report_text script_only found)
joined_is (Ok t) script_only found streams script lines written comments is same proposed told wrote
    left = is ∙ text_of script_only found streams script lines written comments same proposed told
    wrote left
joined_is (Err e) script_only found streams script lines written comments is same proposed told
    wrote left = tt

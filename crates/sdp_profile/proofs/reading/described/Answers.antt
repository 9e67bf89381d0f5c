use Rattle.std.proofs.Common.{sym, ◌∙◌, ap, map, Ok}
use Rattle.std.proofs.lemmas.Result.{err_from_is_err_and}
use Rattle.sdp_profile.specs.Attributes.{placed_of}
use Rattle.sdp_profile.specs.Sections.{sections_of, fault_of_lines}
use Rattle.sdp_profile.specs.Reading.{lines_in}
use Rattle.sdp_profile.proofs.SectionLemmas.{head_failed, sections_failed, sections_passed}
use Rattle.sdp_profile.proofs.SoundLemmas.{sections_sound}
use Rattle.sdp_profile.proofs.reading.described.Goals as goal

pub returns-in-Some : goal.returns-in-Some
returns-in-Some c =
    rw c.bad.ensures (head_failed (lines_in c.args.lines.now) c.in-Some.fault
    (ap (λ ls. fault_of_lines (map placed_of ls)) (sym c.split_at_media.ensures.front) ∙ ap fault_of_lines (sym c.in_ok-head.ensures)
    ∙ ap fault_of_lines (sym c.deref.ensures.value) ∙ sym c.fault_of_lines.ensures ∙ c.in-Some.is))

pub returns-in_err-add_sections : goal.returns-in_err-add_sections
returns-in_err-add_sections c =
    let fine = ap (λ ls. fault_of_lines (map placed_of ls)) (sym c.split_at_media.ensures.front) ∙ ap fault_of_lines (sym c.in_ok-head.ensures)
    ∙ ap fault_of_lines (sym c.deref.ensures.value) ∙ sym c.fault_of_lines.ensures ∙ c.in_default.is in
    let fails = sections_failed c.in_err-add_sections.field-0.0 c.new-draft.result c.add_sections.new.draft (lines_in c.args.lines.now) (lines_in c.split_at_media.result.1.now)
    c.new-draft.ensures c.split_at_media.ensures.rest fine c.in_err-add_sections.ensures in
    let p = err_from_is_err_and c.from_residual-in_err-add_sections.result c.from_residual-in_err-add_sections.ensures.1 in
    rw (p.1, p.2) fails

pub finish-requires : goal.finish-requires
finish-requires c = sections_sound c.new-draft.result c.add_sections.new.draft (sections_of (lines_in c.split_at_media.result.1.now)) c.new-draft.ensures c.in_ok-add_sections.ensures

pub returns : goal.returns
returns c =
    let fine = ap (λ ls. fault_of_lines (map placed_of ls)) (sym c.split_at_media.ensures.front) ∙ ap fault_of_lines (sym c.in_ok-head.ensures)
    ∙ ap fault_of_lines (sym c.deref.ensures.value) ∙ sym c.fault_of_lines.ensures ∙ c.in_default.is in
    sections_passed c.new-draft.result c.finish.result (lines_in c.args.lines.now) (lines_in c.split_at_media.result.1.now) c.new-draft.ensures c.split_at_media.ensures.rest fine
    (c.in_ok-add_sections.ensures ∙ ap Ok (sym c.finish.ensures))

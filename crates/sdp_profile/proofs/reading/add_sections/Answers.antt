use Rattle.std.proofs.Common.{sym, subst, arith, ◌∷◌, ◌-◌, get_or, take, drop, length, []}
use Rattle.std.proofs.lemmas.Result.{err_from_is_err_and}
use Rattle.sdp_profile.specs.declared.lines.TextLine.{TextLine}
use Rattle.sdp_profile.specs.Sections.{sections_of, with_sections}
use Rattle.sdp_profile.specs.Reading.{line_in, lines_in}
use Rattle.sdp_profile.proofs.SectionLemmas.{SectionsSoFar, sections_begin, first_and_rest, section_error, section_taken, all_sections_taken}
use Rattle.sdp_profile.proofs.reading.add_sections.Goals as goal

pub loop-rest-init : goal.loop-rest-init
loop-rest-init c = sections_begin c.args.draft.now (lines_in c.args.sections.now) (lines_in c.split_at_media.result.1.now) c.split_at_media.ensures.rest

pub returns-in_err-add_section : goal.returns-in_err-add_section
returns-in_err-add_section c =
    let d : TextLine = record { number = 0; text = record { ref_ptr = (0, 0); now = [] } } in
    let all = with_sections c.args.draft.now (sections_of (lines_in c.args.sections.now)) in
    let m = line_in (get_or c.loop-rest.rest.now 0 d) in
    let behind = lines_in (take (length c.loop-rest.rest.now - 1) (drop 1 c.loop-rest.rest.now)) in
    let inv : SectionsSoFar c.loop-rest.draft (m ∷ behind) all = subst (λ ls. SectionsSoFar c.loop-rest.draft ls all) (sym (first_and_rest c.loop-rest.rest.now d (omega arith))) c.loop-rest.invariant in
    let fails = section_error c.in_err-add_section.field-0.0 c.loop-rest.draft c.add_section.new.self m (lines_in c.split_at_media-in-len1-up.result.0.now) behind all
    inv c.split_at_media-in-len1-up.ensures.front c.in_err-add_section.ensures in
    let p = err_from_is_err_and c.from_residual.result c.from_residual.ensures.1 in
    rw (p.1, p.2) fails

pub loop-rest-preserved : goal.loop-rest-preserved
loop-rest-preserved c =
    let d : TextLine = record { number = 0; text = record { ref_ptr = (0, 0); now = [] } } in
    let all = with_sections c.args.draft.now (sections_of (lines_in c.args.sections.now)) in
    let m = line_in (get_or c.loop-rest.rest.now 0 d) in
    let behind = lines_in (take (length c.loop-rest.rest.now - 1) (drop 1 c.loop-rest.rest.now)) in
    let inv : SectionsSoFar c.loop-rest.draft (m ∷ behind) all = subst (λ ls. SectionsSoFar c.loop-rest.draft ls all) (sym (first_and_rest c.loop-rest.rest.now d (omega arith))) c.loop-rest.invariant in
    section_taken c.loop-rest.draft c.add_section.new.self m (lines_in c.split_at_media-in-len1-up.result.0.now) behind (lines_in c.split_at_media-in-len1-up.result.1.now) all
    inv c.split_at_media-in-len1-up.ensures.front c.split_at_media-in-len1-up.ensures.rest c.in_ok-add_section.ensures

pub returns : goal.returns
returns c =
    let all = with_sections c.args.draft.now (sections_of (lines_in c.args.sections.now)) in
    all_sections_taken c.loop-rest.draft c.loop-rest.rest.now all (omega arith) c.loop-rest.invariant

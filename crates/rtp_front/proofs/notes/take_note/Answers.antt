use Rattle.std.proofs.Common.{◌≡◌, ◌∙◌, ◌∷◌, [], ◌++◌, List, sym, ap, subst}
use Rattle.std.proofs.lemmas.List.{append_assoc}
use Rattle.rtp_demux.specs.Lanes.{lane_of}
use Rattle.front_model.specs.declared.Step.{Step}
use Rattle.front_model.specs.Lanes.{lanes}
use Rattle.front_model.specs.Notes.{Synced}
use Rattle.front_model.specs.Steps.{sync_steps}
use Rattle.rtp_session.specs.declared.answers.SessionNote.{SessionNote}
use Rattle.rtp_session.specs.Answers.{told}
use Rattle.rtp_front.specs.Notes.{TakesNotes}
use Rattle.rtp_front.proofs.Telling.{one_taken}
use Rattle.rtp_front.proofs.notes.take_note.Goals as goal

pub returns-in_ok-report-in-Sr : goal.returns-in_ok-report-in-Sr
returns-in_ok-report-in-Sr c = λ k older stands.
    let n = c.in-Sr in
    let sync : List Step =
    sync_steps k older c.args.session n.ntp_ns n.rtp
    (lane_of (lanes k older) (c.args.session, n.ssrc))
    in
    subst
    (λ (x : SessionNote). TakesNotes k c.args.time c.args.session older (told x ∷ [])
    c.args.steps.now.items c.report.new.steps.items c.report.new.self)
    (sym c.in-Sr.is)
    (one_taken k c.args.time c.args.session older (Synced n.ssrc n.ntp_ns n.rtp) _ _ _
    (c.in_ok-report-in-Sr.ensures.steps k older stands
    ∙ ap (λ (l : List Step). l ++ sync) c.in_ok-push-in-Sr.ensures.items
    ∙ append_assoc c.args.steps.now.items _ sync)
    (c.in_ok-report-in-Sr.ensures.stands k older stands))

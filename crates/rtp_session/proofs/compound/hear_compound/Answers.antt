use Rattle.std.proofs.Common.{List, [], subst}
use Rattle.std.specs.List.{flat_map}
use Rattle.front_model.specs.Given.{name_asks, other_asks}
use Rattle.rtp_session.specs.declared.answers.SessionNote.{SessionNote}
use Rattle.rtp_session.specs.Compounds.{Tells}
use Rattle.rtp_session.proofs.Calling.{joined}
use Rattle.rtp_session.proofs.compound.hear_compound.Goals as goal

pub returns : goal.returns
returns c =
    let ps = c.args.packets.now in
    joined c.args.sources.now c.hear_names.new.sources c.hear_others.new.sources [] c.hear_names.new.notes.items c.hear_others.new.notes.items (flat_map name_asks ps)
    (flat_map (other_asks c.args.now) ps)
    (subst (λ (ns : List SessionNote). Tells c.args.sources.now c.hear_names.new.sources ns c.hear_names.new.notes.items (flat_map name_asks ps)) c.new-notes.ensures.items c.in_ok-hear_names.ensures)
    c.in_ok-hear_others.ensures

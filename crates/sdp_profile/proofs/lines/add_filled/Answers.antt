use Rattle.std.proofs.Common.{sym, ◌∙◌, ap}
use Rattle.sdp_profile.specs.Reading.{lines_in}
use Rattle.sdp_profile.proofs.TextLemmas.{kept_one, dropped_one}
use Rattle.sdp_profile.proofs.lines.add_filled.Goals as goal

pub returns-then-is_empty : goal.returns-then-is_empty
returns-then-is_empty c = dropped_one c.args.lines.now.items (record { number = c.args.number; text = c.args.text.now }) (sym c.is_empty.ensures ∙ c.if-is_empty.true)

pub returns : goal.returns
returns c = ap lines_in c.in_ok-add_line.ensures ∙ kept_one c.args.lines.now.items _ (sym c.is_empty.ensures ∙ c.if-is_empty.false)

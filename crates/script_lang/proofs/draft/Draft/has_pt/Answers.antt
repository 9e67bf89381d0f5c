use Rattle.std.proofs.Common.{◌∙◌, sym, ap}
use Rattle.script_lang.specs.Tests.{has_pt}
use Rattle.script_lang.specs.Reading.{pt_of}
use Rattle.script_lang.proofs.BoolLemmas.{any_map}
use Rattle.script_lang.proofs.draft.Draft.has_pt.Goals as goal

pub returns : goal.returns
returns c = c.has_type.ensures ∙ sym (any_map _ pt_of c.self.inside.pts.entries) ∙ ap (λ f. has_pt f.pts c.args.session c.args.pt) c.self.view_is

use Rattle.std.proofs.Common.{◌∙◌, sym, ap}
use Rattle.script_lang.specs.Tests.{has_rtx}
use Rattle.script_lang.specs.Reading.{rtx_of}
use Rattle.script_lang.proofs.BoolLemmas.{any_map}
use Rattle.script_lang.proofs.draft.Draft.has_rtx.Goals as goal

pub returns : goal.returns
returns c = c.has_type.ensures ∙ sym (any_map _ rtx_of c.self.inside.rtx.entries) ∙ ap (λ f. has_rtx f.rtx c.args.session c.args.pt) c.self.view_is

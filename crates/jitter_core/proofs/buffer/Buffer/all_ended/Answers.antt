use Rattle.std.proofs.Common.{◌∙◌}
use Rattle.jitter_core.proofs.Passing.{all_ended_is}
use Rattle.jitter_core.proofs.buffer.Buffer.all_ended.Goals as goal

pub returns : goal.returns
returns c = λ h st. c.have_all_ended.ensures ∙ all_ended_is c.args.self.now.state h st.order

use Rattle.jitter_model.proofs.Numbered.{valid_of, latency_most, pushes_most, aside_run, numbered, distinct, length-accepted}
use Rattle.jitter_model.proofs.Window.{window, out_late}
use Rattle.jitter_model.proofs.laws.runs_are_bounded.Goals as goal

pub returns : goal.returns
returns c = record {
  settings = valid_of;
  latency_is = latency_most;
  pushes_are = pushes_most;
  aside_is = aside_run;
  numbered = numbered;
  distinct = distinct;
  few = length-accepted;
  window = window;
  late = out_late;
}

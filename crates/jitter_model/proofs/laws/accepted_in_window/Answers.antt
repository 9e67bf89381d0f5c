use Rattle.jitter_model.proofs.Window.{window}
use Rattle.jitter_model.proofs.Nearest.{have_room}
use Rattle.jitter_model.proofs.laws.accepted_in_window.Goals as goal

pub returns-clause-window : goal.returns-clause-window
returns-clause-window c = λ s h r. (window s h r).fact

pub returns-clause-room : goal.returns-clause-room
returns-clause-room c = have_room

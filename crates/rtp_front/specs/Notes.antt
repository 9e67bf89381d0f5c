-- What the notes of a session come to: steps, and the streams that go on by their moves.
use Rattle.std.specs.Prelude.{◌≡◌, ℕ, List, [], ◌∷◌, ◌++◌, option_to_list}
use Rattle.script_lang.specs.Contents.{Contents}
use Rattle.front_model.specs.declared.Step.{Step}
use Rattle.front_model.specs.Moves.{Move, move_of}
use Rattle.front_model.specs.Notes.{Note}
use Rattle.front_model.specs.Steps.{notes_steps}
use Rattle.rtp_front.specs.Standing.{StreamsState, IsLeftBy}

-- the moves once these notes went on, the first one first
abbrev pub moves_behind : ℕ → List Note → List Move → List Move
moves_behind session [] older = older
moves_behind session (n ∷ more) older =
    moves_behind session more (option_to_list (move_of session n) ++ older)

-- After these moves the notes became steps behind those before, and the streams went on.
pub record TakesNotes (c : Contents) (time session : ℕ) (older : List Move) (notes : List Note)
    (before after : List Step) (streams : StreamsState) : Type 0 where
  pub steps : after ≡ before ++ notes_steps c time older session notes
  pub stands : IsLeftBy c (moves_behind session notes older) streams

-- What the replay of the generated capture comes to.
use Rattle.std.specs.Prelude.{◌≡◌, ℕ, List, [], ◌∷◌, ◌++◌, reverse}
use Rattle.pcap_file.specs.Capture.{Record}
use Rattle.timeline.specs.Times.{at_times}
use Rattle.timeline.specs.declared.line.BinLine.{BinLine}
use Rattle.replay_model.specs.Inputs.{all_inputs}
use Rattle.replay_model.specs.Log.{whole_timeline, done_of}
use Rattle.generated_capture.specs.Generated.{generated, generator_script}

-- the last line of the log of these records under the generator's script, which has no items
unfoldable pub done_line : List Record → BinLine
done_line records =
    done_of (whole_timeline generator_script (reverse (all_inputs [] (at_times records))))

abbrev pub generated_done : ℕ → ℕ → BinLine
generated_done first count = done_line (generated first count)

-- This line is the last one.
pub record EndsWith (lines : List BinLine) (last : BinLine) : Type 0 where
  pub front : List BinLine
  pub is : lines ≡ front ++ last ∷ []

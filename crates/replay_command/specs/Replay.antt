-- What a replay sends out, by the contents of a script and the records of a capture.
use Rattle.std.specs.Prelude.{◌≡◌, ℕ, Bool, List, [], refl}
use Rattle.pcap_file.specs.Capture.{Record}
use Rattle.script_lang.specs.Contents.{Contents}
use Rattle.timeline.specs.Times.{at_times}
use Rattle.replay_model.specs.Inputs.{inputs, all_inputs}
use Rattle.replay_model.specs.Log.{log_part, log}
use Rattle.unit_log.specs.Text.{text_of}
use Rattle.command_core.specs.Output.{Output}
use Rattle.replay_command.specs.declared.rendering.Style.{Style}
use Rattle.replay_command.specs.declared.rendering.Style.TheVariants as style
use Rattle.replay_command.specs.Rendered.{text_by}

-- what goes out for the log of the records that were replayed so far, each at its time behind the
-- items up to it
unfoldable pub played_part : Style → Contents → List Record → List ℕ
played_part s c seen = text_by s (log_part c (inputs c.items (at_times seen)))

-- and of all, with the items behind the last record
unfoldable pub played_whole : Style → Contents → List Record → List ℕ
played_whole s c seen = text_by s (log c (all_inputs c.items (at_times seen)))

abbrev pub played_output : Style → Contents → Output
played_output s c = record { part = played_part s c; whole = played_whole s c }

-- without records nothing goes out
pub nothing_played : (s : Style) (c : Contents) → played_part s c [] ≡ []
unfolding played_part text_of
nothing_played (style.Log hex) c = refl
nothing_played (style.Units format pt) c = refl

-- the log itself, with the bytes of the packets that leave or without
abbrev pub replay_output : Bool → Contents → Output
replay_output hex c = played_output (style.Log hex) c

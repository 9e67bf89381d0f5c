-- What each command sends out, by the contents of its files.
use Rattle.std.specs.Prelude.{ℕ, false, List, [], Result, Ok, Err}
use Rattle.script_lang.specs.declared.fault.ScriptFault.{ScriptFault}
use Rattle.script_lang.specs.Contents.{Contents}
use Rattle.script_lang.specs.Grammar.{read_script}
use Rattle.log_text.specs.Text.{line_text}
use Rattle.command_core.specs.Output.{Output}
use Rattle.command_core.specs.Stops.{stop_of_script}
use Rattle.sdp_profile.specs.declared.fault.SdpFault.{SdpFault}
use Rattle.sdp_profile.specs.Scripts.{described_script}
use Rattle.sdp_command.specs.declared.failure.Failure.{Failure}
use Rattle.sdp_command.specs.declared.failure.Failure.TheVariants.{Stopped}
use Rattle.sdp_command.specs.Failures.{failure_of_fault}
use Rattle.dump_command.specs.Dump.{dump_output}
use Rattle.replay_command.specs.Replay.{played_output}
use Rattle.rtxsend_command.specs.Sent.{rtxsend_output}
use Rattle.gen_command.specs.Generated.{generated_done}
use Rattle.rtpbin_cli.specs.declared.words.Way.{Way}
use Rattle.rtpbin_cli.specs.declared.words.Way.TheVariants.{Play, Answer}
use Rattle.replay_command.specs.declared.rendering.Style.TheVariants as style
use Rattle.rtpbin_cli.specs.Words.{Form, Scripted, Described, Dump, Gen}

-- what goes out for a script
abbrev pub scripted_output : Way → Contents → Output
scripted_output (Play style) c = played_output style c
scripted_output Answer c = rtxsend_output c

-- and where its bytes are none, how the run ends
abbrev pub scripted_by : Way → Result Contents ScriptFault → Result Output Failure
scripted_by way (Err fault) = Err (Stopped (stop_of_script fault))
scripted_by way (Ok c) = Ok (scripted_output way c)

-- what goes out for the script of a description: the log without payloads
abbrev pub described_output : Contents → Output
described_output c = played_output (style.Log false) c

abbrev pub described_by : Result Contents SdpFault → Result Output Failure
described_by (Err fault) = Err (failure_of_fault fault)
described_by (Ok c) = Ok (described_output c)

-- the last line of the replay of generated packets
abbrev pub generated_text : ℕ → ℕ → List ℕ
generated_text first count = line_text false (generated_done first count)

abbrev pub generated_output : ℕ → ℕ → Output
generated_output first count =
    record { part = λ seen. []; whole = λ seen. generated_text first count }

abbrev pub output_by : (List ℕ → List ℕ) → Form → Result Output Failure
output_by contents (Scripted way capture script) = scripted_by way (read_script (contents script))
output_by contents (Described capture sdp times) =
    described_by (described_script (contents sdp) (contents times))
output_by contents (Dump capture) = Ok dump_output
output_by contents (Gen first count) = Ok (generated_output first count)

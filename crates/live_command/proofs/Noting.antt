-- A record that there is something against.
use Rattle.std.proofs.Common.{List, Err}
use Rattle.pcap_file.specs.Capture.{Record}
use Rattle.script_lang.specs.Contents.{Contents}
use Rattle.command_core.specs.declared.stop.Stop.TheVariants as stop
use Rattle.live_command.specs.declared.load.Load.{Load}
use Rattle.live_command.specs.declared.stop.LiveStop.{LiveStop}
use Rattle.live_command.specs.declared.stop.LiveStop.TheVariants.{Common, TooMany, MixedLinks}
use Rattle.live_command.specs.Loaded.{Admits, Loads}

-- a record that was not noted is not taken
pub admits_loads : (c : Contents) (why : LiveStop) (seen : List Record) (r : Record)
    (noted new : Load) → Admits (Err why) seen r noted → Loads (Err why) c seen r new
admits_loads c (Common stop.Usage) seen r noted new h = absurd h
admits_loads c (Common (stop.Script line cause)) seen r noted new h = absurd h
admits_loads c (Common stop.Read) seen r noted new h = absurd h
admits_loads c (Common (stop.Capture fault)) seen r noted new h = absurd h
admits_loads c (Common stop.Write) seen r noted new h = absurd h
admits_loads c (Common stop.Memory) seen r noted new h = absurd h
admits_loads c (TooMany offset) seen r noted new h = h
admits_loads c (MixedLinks offset) seen r noted new h = h

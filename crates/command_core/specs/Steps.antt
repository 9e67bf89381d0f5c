-- What the steps of a run promise each other.
use Rattle.std.specs.Prelude.{◌≡◌, ◌<◌, ◌⊎◌, ℕ, IsTrue, List, ◌++◌}
use Rattle.std.specs.Prelude.{Option, Some, None, Result, Ok, Err}
use Rattle.rtp_io.specs.Outside.{AreBytes, Disk, Adds, AddsFront}
use Rattle.capture_file.specs.Capture.{capture_of}
use Rattle.script_lang.specs.declared.fault.ScriptFault.TheVariants.{Bad}
use Rattle.script_lang.specs.Contents.{Contents}
use Rattle.script_lang.specs.Grammar.{read_script}
use Rattle.command_core.specs.declared.stop.Stop.{Stop}
use Rattle.command_core.specs.declared.stop.Stop.TheVariants as stop
use Rattle.command_core.specs.Output.{Output, output_of}
use Rattle.command_core.specs.Taken.{TakesFew}

-- how the counts of the files and of the output moved
abbrev pub HasStopCause : {A : Type 0} → Result A Stop → ℕ → ℕ → ℕ → ℕ → Type 0
HasStopCause (Ok x) f f' o o' = (f' ≡ f) × (o' ≡ o)
HasStopCause (Err stop.Usage) f f' o o' = (f' ≡ f) × (o' ≡ o)
HasStopCause (Err (stop.Script line cause)) f f' o o' = (f' ≡ f) × (o' ≡ o)
HasStopCause (Err (stop.Capture fault)) f f' o o' = (f' ≡ f) × (o' ≡ o)
HasStopCause (Err stop.Read) f f' o o' = (f < f') × (o' ≡ o)
HasStopCause (Err stop.Write) f f' o o' = (f' ≡ f) × (o < o')
HasStopCause (Err stop.Memory) f f' o o' = (f' ≡ f) × (o' ≡ o)

-- writing these bytes
abbrev pub Prints : List ℕ → Result (Unit {0}) Stop
    → Option (List ℕ) → Option (List ℕ) → ℕ → ℕ → Type 0
Prints bytes (Ok x) old new o o' = Adds bytes old new × (o' ≡ o)
Prints bytes (Err stop.Write) old new o o' = AddsFront bytes old new × (o < o')
Prints bytes (Err stop.Memory) old new o o' = AddsFront bytes old new × (o' ≡ o)
Prints bytes (Err other) old new o o' = ⊥

-- all of these bytes were written, or a front of them
abbrev pub Writes : Result (Unit {0}) Stop → List ℕ → Option (List ℕ) → Option (List ℕ) → Type 0
Writes (Ok x) bytes old new = Adds bytes old new
Writes (Err why) bytes old new = AddsFront bytes old new

-- how the count of the output's faults moved where bytes were written
abbrev pub HasWriteCause : Result (Unit {0}) Stop → ℕ → ℕ → Type 0
HasWriteCause (Ok x) o o' = o' ≡ o
HasWriteCause (Err stop.Write) o o' = o < o'
HasWriteCause (Err stop.Memory) o o' = o' ≡ o
HasWriteCause (Err other) o o' = ⊥

-- the bytes that were given, and what was written for them
pub record WroteGiven (output : Output) (before after : Disk) (old new : Option (List ℕ))
    : Type 0 where
  pub given : List ℕ
  pub all : before.left ≡ given ++ after.left
  pub written : Adds (output.part (capture_of given).records) old new

-- the bytes that were taken before a line could not be written
pub record TookFew (output : Output) (before after : Disk) (old new : Option (List ℕ))
    : Type 0 where
  pub taken : List ℕ
  pub all : before.left ≡ taken ++ after.left
  pub few : TakesFew output before.left taken old new

-- what goes out for the capture in the file that is open
abbrev pub Covers : Output → Result (Unit {0}) Stop → Disk → Disk
    → Option (List ℕ) → Option (List ℕ) → Type 0
Covers output (Ok x) before after old new =
    IsTrue before.told
    → ((capture_of before.left).fault ≡ None)
    × Adds (output_of output (capture_of before.left)) old new
Covers output (Err (stop.Capture fault)) before after old new =
    IsTrue before.told
    → ((capture_of before.left).fault ≡ Some fault)
    × Adds (output_of output (capture_of before.left)) old new
Covers output (Err stop.Read) before after old new =
    IsTrue before.told → WroteGiven output before after old new
Covers output (Err stop.Write) before after old new =
    IsTrue before.told
    → AddsFront (output_of output (capture_of before.left)) old new
    × TookFew output before after old new
Covers output (Err stop.Memory) before after old new =
    IsTrue before.told → AddsFront (output_of output (capture_of before.left)) old new
Covers output (Err stop.Usage) before after old new = ⊥
Covers output (Err (stop.Script line cause)) before after old new = ⊥

-- reading a script of these bytes
abbrev pub ReadsText : Result Contents Stop → List ℕ → Type 0
ReadsText (Ok c) text = read_script text ≡ Ok c
ReadsText (Err (stop.Script line cause)) text = read_script text ≡ Err (Bad line cause)
ReadsText (Err stop.Memory) text = Unit {0}
ReadsText (Err other) text = ⊥

-- reading the script of this name
abbrev pub ReadsScript : Result Contents Stop → List ℕ → Disk → Disk → Type 0
ReadsScript (Ok c) name before after =
    IsTrue before.told → read_script (before.contents name) ≡ Ok c
ReadsScript (Err (stop.Script line cause)) name before after =
    IsTrue before.told → read_script (before.contents name) ≡ Err (Bad line cause)
ReadsScript (Err stop.Read) name before after =
    IsTrue before.told
    → (after.opened ≡ None) ⊎ ((after.opened ≡ Some name) × AreBytes (after.contents name))
ReadsScript (Err stop.Memory) name before after = Unit {0}
ReadsScript (Err stop.Usage) name before after = ⊥
ReadsScript (Err stop.Write) name before after = ⊥
ReadsScript (Err (stop.Capture fault)) name before after = ⊥

-- Reading a capture into a plan.
use Rattle.std.specs.Prelude.{◌≡◌, ℕ, List, [], ◌∷◌, ◌++◌, IsTrue, Option, Some, None}
use Rattle.std.specs.Prelude.{Result, Ok, Err}
use Rattle.rtp_io.specs.Outside.{Disk}
use Rattle.pcap_file.specs.Capture.{Record}
use Rattle.capture_file.specs.Capture.{capture_of}
use Rattle.script_lang.specs.Contents.{Contents}
use Rattle.command_core.specs.declared.stop.Stop.TheVariants as stop
use Rattle.live_bin.specs.declared.course.Course.{Course}
use Rattle.live_bin.specs.declared.plan.Plan.{Plan}
use Rattle.live_plan.specs.Planned.{IsPlanOf}
use Rattle.live_plan.specs.Taken.{HasTaken, records_of}
use Rattle.live_command.specs.declared.load.Load.{Load}
use Rattle.live_command.specs.declared.stop.LiveStop.{LiveStop}
use Rattle.live_command.specs.declared.stop.LiveStop.TheVariants.{Common, TooMany, MixedLinks}
use Rattle.live_command.specs.Refusals.{included, first_link, refusal, first_refusal, capture_stop}

-- how many records it took
abbrev pub count_of : Load → ℕ
count_of l = records_of l.builder

-- The bytes and the link type are those of these records.
pub record HasNoted (seen : List Record) (l : Load) : Type 0 where
  pub included_is : l.included ≡ included seen
  pub link_is : l.link ≡ first_link seen

-- A load by this script took these records, and there is nothing against any of them.
pub record HasLoaded (c : Contents) (seen : List Record) (l : Load) : Type 0 where
  pub taken : HasTaken c seen l.builder
  pub noted : HasNoted seen l
  pub clean : first_refusal [] seen ≡ None

-- what noting a record behind others left
abbrev pub Admits : Result (Unit {0}) LiveStop → List Record → Record → Load → Type 0
Admits (Ok x) seen r new = (refusal seen r ≡ None) × HasNoted (seen ++ r ∷ []) new
Admits (Err (Common why)) seen r new = ⊥
Admits (Err why) seen r new = refusal seen r ≡ Some why

-- what taking a record behind others left
abbrev pub Loads : Result (Unit {0}) LiveStop → Contents → List Record → Record → Load → Type 0
Loads (Ok x) c seen r new = HasLoaded c (seen ++ r ∷ []) new
Loads (Err (Common stop.Memory)) c seen r new = Unit {0}
Loads (Err (Common why)) c seen r new = ⊥
Loads (Err why) c seen r new = refusal seen r ≡ Some why

-- the plan of a whole capture, where memory served
abbrev pub Finishes : Result (Plan × Course) LiveStop → Contents → List Record → Type 0
Finishes (Ok made) c seen = IsPlanOf c seen made.0
Finishes (Err (Common stop.Memory)) c seen = Unit {0}
Finishes (Err why) c seen = ⊥

-- reading the capture in the open file into a plan by this script
abbrev pub ReadsPlan : Result (Plan × Course) LiveStop → Contents → Disk → Type 0
ReadsPlan (Ok made) c before =
    IsTrue before.told
    → (capture_stop (capture_of before.left) ≡ None)
    × IsPlanOf c (capture_of before.left).records made.0
ReadsPlan (Err (Common stop.Read)) c before = Unit {0}
ReadsPlan (Err (Common stop.Memory)) c before = Unit {0}
ReadsPlan (Err (Common stop.Usage)) c before = ⊥
ReadsPlan (Err (Common (stop.Script line cause))) c before = ⊥
ReadsPlan (Err (Common stop.Write)) c before = ⊥
ReadsPlan (Err why) c before =
    IsTrue before.told → capture_stop (capture_of before.left) ≡ Some why

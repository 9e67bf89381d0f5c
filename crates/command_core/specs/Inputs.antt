-- What reading an input that is held whole answers.
use Rattle.std.specs.Prelude.{◌≡◌, ◌⊎◌, ◌+◌, ℕ, IsTrue, List, take, Some, None}
use Rattle.std.specs.Prelude.{Result, Ok, Err, Vec}
use Rattle.std.specs.declared.alloc.Global.{Global}
use Rattle.rtp_io.specs.Outside.{AreBytes, Disk}
use Rattle.command_core.specs.declared.stop.Stop.{Stop}
use Rattle.command_core.specs.declared.stop.Stop.TheVariants as stop

-- the file of this name is open, and numbers in it are bytes
abbrev pub IsBeingRead : List ℕ → Disk → Type 0
IsBeingRead name after = (after.opened ≡ Some name) × AreBytes (after.contents name)

-- reading a front of the file of this name, with one byte more than it may have
abbrev pub ReadsInput : Result (Vec ℕ Global) Stop → List ℕ → ℕ → Disk → Disk → Type 0
ReadsInput (Ok text) name most before after =
    IsTrue before.told → text.items ≡ take (most + 1) (before.contents name)
ReadsInput (Err stop.Read) name most before after =
    IsTrue before.told → (after.opened ≡ None) ⊎ IsBeingRead name after
ReadsInput (Err stop.Memory) name most before after = Unit {0}
ReadsInput (Err other) name most before after = ⊥

-- A part of a file that is read piece by piece, where its length is known before.
use Rattle.std.specs.Prelude.{◌≡◌, ◌<◌, ◌+◌, ℕ, IsTrue, List, ◌++◌, length, Result, Ok, Err}
use Rattle.rtp_io.specs.Outside.{Disk}
use Rattle.rtp_io.specs.Pulled.{Takes}
use Rattle.pcapng_file.specs.declared.pieces.Stop.{Stop}
use Rattle.pcapng_file.specs.declared.pieces.Stop.TheVariants.{Cut, ReadFault, OutOfMemory}

-- All n bytes of the part were taken, and this holds of them.
pub record TakesPart (P : List ℕ → Type 0) (n : ℕ) (held rest : List ℕ) (before after : Disk) : Type 0 where
  pub taken : List ℕ
  pub takes : Takes taken held rest before after
  pub long : length taken ≡ n
  pub is : P taken

-- The file ends before the part does.
abbrev pub RunsOut : ℕ → List ℕ → Disk → Type 0
RunsOut n held before = IsTrue before.told → length (held ++ before.left) < n

-- What the file gave is no whole part.
pub record GaveFewer (n : ℕ) (held rest : List ℕ) (before after : Disk) : Type 0 where
  pub taken : List ℕ
  pub takes : Takes taken held rest before after
  pub few : length taken + length rest < n

-- why the n bytes of a part are not there
abbrev pub AfterStop : Stop → ℕ → List ℕ → List ℕ → Disk → Disk → Type 0
AfterStop Cut n held rest before after = RunsOut n held before
AfterStop ReadFault n held rest before after = GaveFewer n held rest before after
AfterStop OutOfMemory n held rest before after = Unit {0}

-- what reading a part of n bytes left
abbrev pub AfterPart : {A : Type 0} → (A → List ℕ → Type 0) → ℕ → Result A Stop → List ℕ → List ℕ → Disk → Disk → Type 0
AfterPart P n (Ok x) held rest before after = TakesPart (P x) n held rest before after
AfterPart P n (Err stop) held rest before after = AfterStop stop n held rest before after

-- A failed read comes exactly where the count of faults rose.
abbrev pub StopHasCause : Stop → ℕ → ℕ → Type 0
StopHasCause Cut before after = after ≡ before
StopHasCause ReadFault before after = before < after
StopHasCause OutOfMemory before after = after ≡ before

abbrev pub HasStopCause : {A : Type 0} → ℕ → ℕ → Result A Stop → Type 0
HasStopCause before after (Ok x) = after ≡ before
HasStopCause before after (Err stop) = StopHasCause stop before after

-- What is known of files and sinks, and what their calls do to it.
use Rattle.std.specs.Prelude.{All, ◌≡◌, ◌<◌, ◌≤◌, ℕ, Bool, List, [], ◌++◌, length, take, Option, Some, None, Result, MatchResult}

-- The fields contents, opened and left are claims only where told is true.
pub record Disk : Type 0 where
  -- whether content is told
  pub told : Bool
  -- the names that may be opened
  pub may_open : List ℕ → Bool
  -- the whole contents of the file with a name
  pub contents : List ℕ → List ℕ
  -- the name of the file that is open
  pub opened : Option (List ℕ)
  -- the bytes that are left of it, none where no file is open
  pub left : List ℕ

-- Neither the contents by name changes, nor whether they are told, nor which names may be opened.
pub record SameDisk (old new : Disk) : Type 0 where
  pub told : new.told ≡ old.told
  pub may_open : new.may_open ≡ old.may_open
  pub contents : new.contents ≡ old.contents

-- numbers as a file has them
abbrev pub AreBytes : List ℕ → Type 0
AreBytes bytes = All (λ b. b < 256) bytes

-- the file of this name is open, and all of it is left
pub record IsOpened (name : List ℕ) (disk : Disk) : Type 0 where
  pub opened : disk.opened ≡ Some name
  pub all : disk.left ≡ disk.contents name
  pub bytes : AreBytes disk.left

pub record IsClosed (disk : Disk) : Type 0 where
  pub opened : disk.opened ≡ None
  pub left : disk.left ≡ []

-- These bytes were given from the front of what was left, and none only where none were left.
pub record Gives (piece : List ℕ) (old new : Disk) : Type 0 where
  pub front : old.left ≡ piece ++ new.left
  pub none : length piece ≡ 0 → old.left ≡ []
  pub opened : new.opened ≡ old.opened

-- nothing was given
pub record Stays (old new : Disk) : Type 0 where
  pub left : new.left ≡ old.left
  pub opened : new.opened ≡ old.opened

-- A call failed exactly where the count of faults rose in it.
abbrev pub HasCause : {A E : Type 0} → ℕ → ℕ → Result A E → Type 0
HasCause before after result = MatchResult result (λ _. after ≡ before) (λ _. before < after)

-- A sink that told its bytes has these more, if it still tells them. One that does not tell never tells again.
abbrev pub Adds : List ℕ → Option (List ℕ) → Option (List ℕ) → Type 0
Adds more None new = new ≡ None
Adds more (Some old) None = Unit {0}
Adds more (Some old) (Some new) = new ≡ old ++ more

-- a front of these bytes was added
abbrev pub AddsFront : List ℕ → Option (List ℕ) → Option (List ℕ) → Type 0
AddsFront piece old new = (k : ℕ) × (k ≤ length piece) × Adds (take k piece) old new

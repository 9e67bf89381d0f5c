-- What comes next of a file through a buffer: the bytes in the buffer, and then those that are left of the file.
use Rattle.std.specs.Prelude.{◌≡◌, ◌<◌, ◌≤◌, ℕ, IsTrue, List, [], ◌++◌, length, take, Result, Ok, Err}
use denote.Ref.{Bor}
use Rattle.rtp_io.specs.Outside.{Disk, SameDisk}
use Rattle.rtp_io.specs.declared.pull.PullFault.{PullFault}
use Rattle.rtp_io.specs.declared.pull.PullFault.TheVariants.{End, ReadFault}

-- what comes next stays
pub record Keeps (old new : List ℕ) (before after : Disk) : Type 0 where
  pub same : SameDisk before after
  pub coming : IsTrue before.told → new ++ after.left ≡ old ++ before.left
  pub opened : IsTrue before.told → after.opened ≡ before.opened

-- this piece was taken from the front of what comes next
pub record Takes (piece old new : List ℕ) (before after : Disk) : Type 0 where
  pub same : SameDisk before after
  pub coming : IsTrue before.told → old ++ before.left ≡ piece ++ (new ++ after.left)
  pub opened : IsTrue before.told → after.opened ≡ before.opened

-- fewer than n bytes come, all of which are in the buffer
pub record Ends (n have : ℕ) (new : List ℕ) (after : Disk) : Type 0 where
  pub held : length new ≡ have
  pub few : have < n
  pub end : IsTrue after.told → after.left ≡ []

-- What asking for n bytes left. In each case the buffer holds at most 262160 bytes: after a fault it holds fewer than n.
abbrev pub AfterNeed : ℕ → Result (Bor (List ℕ)) PullFault → List ℕ → List ℕ → Disk → Disk → Type 0
AfterNeed n (Ok bytes) old new before after = Takes bytes.now old new before after × (length new ≤ 262160)
AfterNeed n (Err (End have)) old new before after = Keeps old new before after × Ends n have new after
AfterNeed n (Err ReadFault) old new before after = Keeps old new before after × (length new < n)

-- A read fault comes exactly where the count of faults rose.
abbrev pub HasPullCause : {A : Type 0} → ℕ → ℕ → Result A PullFault → Type 0
HasPullCause before after (Ok x) = after ≡ before
HasPullCause before after (Err (End have)) = after ≡ before
HasPullCause before after (Err ReadFault) = before < after

-- the only error is a read fault
abbrev pub HasReadCause : {A : Type 0} → ℕ → ℕ → Result A PullFault → Type 0
HasReadCause before after (Ok x) = after ≡ before
HasReadCause before after (Err (End have)) = ⊥
HasReadCause before after (Err ReadFault) = before < after

-- why n bytes are not there
abbrev pub TopUpEnds : {A : Type 0} → ℕ → ℕ → Result A PullFault → Disk → Type 0
TopUpEnds n len (Ok x) after = Unit {0}
TopUpEnds n len (Err (End have)) after = (len ≡ have) × (have < n) × (IsTrue after.told → after.left ≡ [])
TopUpEnds n len (Err ReadFault) after = len < n

-- The first n bytes of the buffer came from the file, and only its end kept others away.
pub record FillsFrom (n : ℕ) (buf : List ℕ) (before after : Disk) : Type 0 where
  pub front : before.left ≡ take n buf ++ after.left
  pub all : n < length buf → after.left ≡ []

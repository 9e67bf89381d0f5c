-- Files and sinks in memory.
use Rattle.std.specs.Prelude.{◌≡◌, ◌<◌, ◌≤◌, ◌+◌, ℕ, Bool, true, List, [], ◌∷◌, length, drop, Option, Some, None, IfSome, IsSome, is_some, option_map, option_and_then, slice_get, bytes_eq, string_bytes, if◌then◌else◌, min, max}
use Rattle.rtp_io.specs.Outside.{Disk}
use Rattle.rtp_io.specs.declared.shelf.Entry.{Entry}
use Rattle.rtp_io.specs.declared.shelf.Shelf.{Shelf}
use Rattle.rtp_io.specs.declared.tape.Tape.{Tape}

-- the first entry of a name
abbrev pub find : List Entry → List ℕ → Option Entry
find [] name = None
find (entry ∷ entries) name = if bytes_eq (string_bytes entry.name) name then Some entry else find entries name

abbrev pub bytes_of : Option Entry → List ℕ
bytes_of None = []
bytes_of (Some entry) = entry.bytes.items

-- the open entry
abbrev pub opened_of : Shelf → Option Entry
opened_of shelf = option_and_then (λ i. slice_get shelf.entries.items i) shelf.opened

-- whether there is a file with a name
abbrev pub known : Shelf → List ℕ → Bool
known shelf name = is_some (find shelf.entries.items name)

-- the contents by name
abbrev pub contents_of : Shelf → List ℕ → List ℕ
contents_of shelf name = bytes_of (find shelf.entries.items name)

abbrev pub disk_of : (List ℕ → Bool) → Shelf → Disk
disk_of may_open shelf = record {
  told = true;
  may_open = may_open;
  contents = contents_of shelf;
  opened = option_map (λ entry. string_bytes entry.name) (opened_of shelf);
  left = drop shelf.position (bytes_of (opened_of shelf));
}

-- the place of the first entry of a name
pub record IsPlace (entries : List Entry) (name : List ℕ) (i : ℕ) : Type 0 where
  pub entry : Entry
  pub there : slice_get entries i ≡ Some entry
  pub named : string_bytes entry.name ≡ name
  pub first : find entries name ≡ Some entry

-- no file has any bytes, and none is open
pub record IsBare (disk : Disk) : Type 0 where
  pub empty : (name : List ℕ) → disk.contents name ≡ []
  pub opened : disk.opened ≡ None
  pub left : disk.left ≡ []

-- The file of this name has these bytes. Every other name has what it had, and what is open stays.
pub record AddsFile (name bytes : List ℕ) (old new : Disk) : Type 0 where
  pub contents : (other : List ℕ) → new.contents other ≡ (if bytes_eq name other then bytes else old.contents other)
  pub opened : new.opened ≡ old.opened
  pub left : new.left ≡ old.left

-- a length that is held to a step, where there is one
abbrev pub held_to : Option ℕ → ℕ → ℕ
held_to None len = len
held_to (Some step) len = min len (max step 1)

-- the bytes of a tape, while it tells them
abbrev pub told_of : Tape → Option (List ℕ)
told_of tape = if tape.lost then None else Some tape.bytes.items

-- A write took so many bytes of a piece of this length: a step of it while the bytes are told, and all of it afterwards.
abbrev pub IsTaken : Option ℕ → ℕ → ℕ → Option (List ℕ) → Type 0
IsTaken step len taken None = taken ≡ len
IsTaken step len taken (Some bytes) = taken ≡ held_to step len

-- Bytes that were told are told exactly while they fit the room.
pub record TellsWhile (room taken : ℕ) (old new : Option (List ℕ)) : Type 0 where
  pub told : IfSome old (λ bytes. length bytes + taken ≤ room → IsSome new)
  pub silent : IfSome old (λ bytes. room < length bytes + taken → new ≡ None)

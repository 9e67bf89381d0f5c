-- What reading a capture file record by record leaves.
use Rattle.std.specs.Prelude.{◌≡◌, ◌<◌, ◌≤◌, ℕ, ◌+◌, ◌*◌, ◌^◌, IsTrue, true, false}
use Rattle.std.specs.Prelude.{List, [], ◌∷◌, ◌++◌, length, Option, Some, None, Result, Ok, Err}
use Rattle.rtp_io.specs.Outside.{Disk}
use Rattle.rtp_io.specs.Pulled.{Keeps, Takes}
use Rattle.pcap_file.specs.Capture.{Record}
use Rattle.pcap_file.specs.Reading as pcap
use Rattle.pcap_file.specs.Reading.{record_view}
use Rattle.pcapng_file.specs.Reading as ng
use Rattle.capture_file.specs.declared.fault.FileFault.{FileFault}
use Rattle.capture_file.specs.declared.file.CaptureFile.{CaptureFile}
use Rattle.capture_file.specs.declared.file.CaptureFile.TheVariants.{Pcap, Ng}
use Rattle.capture_file.specs.declared.record.CaptureRecord.{CaptureRecord}
use Rattle.capture_file.specs.Faults.{OnFault}
use Rattle.capture_file.specs.Capture.{is_ng, with_front, empty, capture_of, end_of}
use Rattle.capture_file.specs.Place.{count_of, kept_fault, rest_of}

-- a record as the captures' definition has it
abbrev pub record_of : CaptureRecord → Record
record_of r = record_view r.link r.rec

-- The bytes that were taken are of the place's form, whose own reading stands for these records.
abbrev pub StandsIn : CaptureFile → List ℕ → List Record → Type 0
StandsIn (Pcap place) passed seen =
    (is_ng passed ≡ false) × (length passed ≡ place.offset) × pcap.StandsFor place passed seen
StandsIn (Ng place) passed seen = (is_ng passed ≡ true) × ng.StandsFor place passed seen

-- The bytes that were taken are these records, whatever comes behind, and the place is behind them.
pub record StandsFor (place : CaptureFile) (passed : List ℕ) (seen : List Record) : Type 0 where
  pub header : 24 ≤ length passed
  pub form : StandsIn place passed seen
  pub whole : (more : List ℕ)
      → capture_of (passed ++ more) ≡ with_front seen (rest_of place more)

-- A record was taken, and the place stands for the records with it.
pub record TakesRecord (old new : CaptureFile) (r : Record) (held rest : List ℕ)
    (before after : Disk) : Type 0 where
  pub taken : List ℕ
  pub takes : Takes taken held rest before after
  pub counted : count_of new ≡ count_of old + 1
  pub bound : count_of new ≤ 100000000
  pub short : length r.bytes ≤ 262144
  pub early : r.stamp < 2 ^ 32 * 1000000000
  pub onward : (passed : List ℕ) (seen : List Record)
      → StandsFor old passed seen → StandsFor new (passed ++ taken) (seen ++ r ∷ [])
  -- What was taken reaches no further than the records with it, and with any that follow.
  pub ends : (passed : List ℕ) (seen : List Record) → StandsFor old passed seen
      → (more : List ℕ) (n : ℕ) → length seen < n
      → length (passed ++ taken) ≤ end_of ((passed ++ taken) ++ more) n

-- The records before this place are all, and then comes this.
abbrev pub Finds : CaptureFile → Option FileFault → List ℕ → Disk → Type 0
Finds old fault held before =
    (passed : List ℕ) (seen : List Record) → StandsFor old passed seen → IsTrue before.told
    → capture_of (passed ++ (held ++ before.left)) ≡ record { records = seen; fault = fault }

-- The file ends. In a pcapng file blocks without records may have been taken before its end.
pub record FindsEnd (old : CaptureFile) (held rest : List ℕ) (before after : Disk) : Type 0 where
  pub taken : List ℕ
  pub takes : Takes taken held rest before after
  pub none : rest ≡ []
  pub finds : Finds old None held before

-- What the file gave so far has no further whole record.
pub record GaveNoRecord (old : CaptureFile) (held rest : List ℕ) (before after : Disk)
    : Type 0 where
  pub taken : List ℕ
  pub takes : Takes taken held rest before after
  pub none : (passed : List ℕ) (seen : List Record) → StandsFor old passed seen
      → (capture_of (passed ++ (taken ++ rest))).records ≡ seen

-- what asking for the next record left, at a place without a fault
abbrev pub AfterNext : Result (Option CaptureRecord) FileFault → CaptureFile → CaptureFile
    → List ℕ → List ℕ → Disk → Disk → Type 0
AfterNext (Ok (Some r)) old new held rest before after =
    TakesRecord old new (record_of r) held rest before after
AfterNext (Ok None) old new held rest before after = FindsEnd old held rest before after
AfterNext (Err fault) old new held rest before after =
    OnFault fault (Finds old (Some fault) held before)
    (GaveNoRecord old held rest before after) (Unit {0})

-- The first 24 bytes were taken.
pub record TakesHeader (new : CaptureFile) (held rest : List ℕ) (before after : Disk)
    : Type 0 where
  pub taken : List ℕ
  pub takes : Takes taken held rest before after
  pub counted : count_of new ≡ 0
  pub fault : kept_fault new ≡ None
  pub stands : StandsFor new taken []

-- What the file gave so far has fewer bytes.
pub record GaveNoHeader (held rest : List ℕ) (before after : Disk) : Type 0 where
  pub keeps : Keeps held rest before after
  pub short : length rest < 24
  pub none : (capture_of rest).records ≡ []

-- what opening a capture left
abbrev pub AfterOpen : Result CaptureFile FileFault → List ℕ → List ℕ → Disk → Disk → Type 0
AfterOpen (Ok new) held rest before after = TakesHeader new held rest before after
AfterOpen (Err fault) held rest before after =
    OnFault fault (IsTrue before.told → capture_of (held ++ before.left) ≡ empty (Some fault))
    (GaveNoHeader held rest before after) (Unit {0})

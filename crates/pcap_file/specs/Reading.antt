-- What reading a capture record by record leaves.
use Rattle.std.specs.Prelude.{◌≡◌, ◌<◌, ◌≤◌, ℕ, ◌+◌, ◌*◌, ◌^◌, IsTrue, true, nat_eq, List, [], ◌∷◌, ◌++◌, length, Option, Some, None, Result, Ok, Err}
use Rattle.std.specs.List.{starts_with}
use Rattle.rtp_io.specs.Outside.{Disk}
use Rattle.rtp_io.specs.Pulled.{Keeps, Takes}
use Rattle.pcap_file.specs.Faults.{OnFault}
use Rattle.pcap_file.specs.Capture.{Record, AtEnd, AtFault, AtRecord, head, with_front, empty, capture_of, records_from}
use Rattle.pcap_file.specs.Place.{Place}
use Rattle.pcap_file.specs.declared.header.Format.{Format}
use Rattle.pcap_file.specs.declared.fault.CaptureFault.{CaptureFault}
use Rattle.pcap_file.specs.declared.fault.CaptureFault.TheVariants.{Pcapng}
use Rattle.pcap_file.specs.declared.pcap.Opened.{Opened}
use Rattle.pcap_file.specs.declared.pcap.Opened.TheVariants.{Pcap as OfPcap, Ng}
use Rattle.pcap_file.specs.declared.record.PcapRecord.{PcapRecord}

-- a record as the capture's definition has it
abbrev pub record_view : ℕ → PcapRecord → Record
record_view link r = record { link = link; offset = r.offset; stamp = r.stamp; original = r.original; bytes = r.bytes }

-- The bytes that were taken are these records, whatever comes behind, and the place is behind them.
unfoldable pub StandsFor : Place → List ℕ → List Record → Type 0
StandsFor place passed seen = (more : List ℕ) → capture_of (passed ++ more) ≡ with_front seen (records_from place.format place.count place.offset more)

-- A record was taken, and the place stands for the records with it.
pub record TakesRecord (old new : Place) (r : Record) (held rest : List ℕ) (before after : Disk) : Type 0 where
  pub taken : List ℕ
  pub takes : Takes taken held rest before after
  pub format : new.format ≡ old.format
  pub counted : new.count ≡ old.count + 1
  pub placed : new.offset ≡ old.offset + length taken
  pub long : length taken ≡ 16 + length r.bytes
  pub bound : new.count ≤ 100000000
  pub short : length r.bytes ≤ 262144
  pub early : r.stamp < 2 ^ 32 * 1000000000
  pub onward : (passed : List ℕ) (seen : List Record) → StandsFor old passed seen → StandsFor new (passed ++ taken) (seen ++ r ∷ [])

-- The records before this place are all, and then comes this.
abbrev pub Finds : Place → Option CaptureFault → List ℕ → Disk → Type 0
Finds old fault held before =
    (passed : List ℕ) (seen : List Record) → StandsFor old passed seen → IsTrue before.told → capture_of (passed ++ (held ++ before.left)) ≡ record { records = seen; fault = fault }

-- The file ends at this place, and nothing was taken.
pub record FindsEnd (old new : Place) (held rest : List ℕ) (before after : Disk) : Type 0 where
  pub same : new ≡ old
  pub keeps : Keeps held rest before after
  pub none : rest ≡ []
  pub finds : Finds old None held before

-- What the file gave so far has no further whole record.
pub record GaveNoRecord (old : Place) (held rest : List ℕ) (before after : Disk) : Type 0 where
  pub taken : List ℕ
  pub takes : Takes taken held rest before after
  pub none : (passed : List ℕ) (seen : List Record) → StandsFor old passed seen → (capture_of (passed ++ (taken ++ rest))).records ≡ seen

-- what asking for the next record left, at a place without a fault
abbrev pub AfterNext : Result (Option PcapRecord) CaptureFault → Place → Place → List ℕ → List ℕ → Disk → Disk → Type 0
AfterNext (Ok (Some r)) old new held rest before after = TakesRecord old new (record_view old.format.link r) held rest before after
AfterNext (Ok None) old new held rest before after = FindsEnd old new held rest before after
AfterNext (Err fault) old new held rest before after = OnFault fault (Finds old (Some fault) held before) (GaveNoRecord old held rest before after) (Unit {0})

-- The file header was taken.
pub record TakesHeader (new : Place) (held rest : List ℕ) (before after : Disk) : Type 0 where
  pub taken : List ℕ
  pub takes : Takes taken held rest before after
  pub counted : new.count ≡ 0
  pub placed : new.offset ≡ length taken
  pub long : length taken ≡ 24
  pub fault : new.fault ≡ None
  pub stands : StandsFor new taken []

-- What the file gave so far is no whole header.
pub record GaveNoHeader (held rest : List ℕ) (before after : Disk) : Type 0 where
  pub keeps : Keeps held rest before after
  pub short : length rest < 24
  pub none : (capture_of rest).records ≡ []

-- what asking for the file header left
abbrev pub AfterOpen : Result Place CaptureFault → List ℕ → List ℕ → Disk → Disk → Type 0
AfterOpen (Ok new) held rest before after = TakesHeader new held rest before after
AfterOpen (Err fault) held rest before after = OnFault fault (IsTrue before.told → capture_of (held ++ before.left) ≡ empty (Some fault)) (GaveNoHeader held rest before after) ⊥

-- The first bytes of a pcapng file were taken.
pub record TakesHead (head held rest : List ℕ) (before after : Disk) : Type 0 where
  pub takes : Takes head held rest before after
  pub size : length head ≡ 24
  pub begins : starts_with nat_eq head (0x0a ∷ 0x0d ∷ 0x0d ∷ 0x0a ∷ []) ≡ true
  pub finds : IsTrue before.told → capture_of (held ++ before.left) ≡ empty (Some Pcapng)

-- what asking for the beginning of a capture of either form left
abbrev pub AfterOpenAny : Result Opened CaptureFault → List ℕ → List ℕ → Disk → Disk → Type 0
AfterOpenAny (Ok (OfPcap new)) held rest before after = TakesHeader new held rest before after
AfterOpenAny (Ok (Ng head)) held rest before after = TakesHead head held rest before after
AfterOpenAny (Err fault) held rest before after = AfterOpen (Err fault) held rest before after × (fault ≡ Pcapng → ⊥)

-- the same of one record, by what stands at the place

pub record IsRecord (format : Format) (count offset : ℕ) (r : Record) (held rest : List ℕ) (before after : Disk) : Type 0 where
  pub taken : List ℕ
  pub takes : Takes taken held rest before after
  pub bound : count < 100000000
  pub long : length taken ≡ 16 + length r.bytes
  pub short : length r.bytes ≤ 262144
  pub early : r.stamp < 2 ^ 32 * 1000000000
  pub stands : (more : List ℕ) → head format count offset (taken ++ more) ≡ AtRecord r

pub record IsEnd (format : Format) (count offset : ℕ) (held rest : List ℕ) (before after : Disk) : Type 0 where
  pub keeps : Keeps held rest before after
  pub none : rest ≡ []
  pub at : IsTrue before.told → head format count offset (held ++ before.left) ≡ AtEnd

pub record IsNoRecord (format : Format) (count offset : ℕ) (held rest : List ℕ) (before after : Disk) : Type 0 where
  pub taken : List ℕ
  pub takes : Takes taken held rest before after
  pub none : (records_from format count offset (taken ++ rest)).records ≡ []

abbrev pub AfterRecord : Result (Option PcapRecord) CaptureFault → Format → ℕ → ℕ → List ℕ → List ℕ → Disk → Disk → Type 0
AfterRecord (Ok (Some r)) format count offset held rest before after = IsRecord format count offset (record_view format.link r) held rest before after
AfterRecord (Ok None) format count offset held rest before after = IsEnd format count offset held rest before after
AfterRecord (Err fault) format count offset held rest before after =
    OnFault fault (IsTrue before.told → head format count offset (held ++ before.left) ≡ AtFault fault) (IsNoRecord format count offset held rest before after) (Unit {0})

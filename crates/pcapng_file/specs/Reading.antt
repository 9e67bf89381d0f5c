-- What reading a pcapng file record by record leaves.
use Rattle.std.specs.Prelude.{◌≡◌, ◌<◌, ◌≤◌, ℕ, ◌+◌, ◌*◌, ◌^◌, ◌⊎◌, true, IsTrue, List, [], ◌∷◌, ◌++◌, length, Option, Some, None, IfSome, false, Result, Ok, Err}
use Rattle.rtp_io.specs.Outside.{Disk}
use Rattle.rtp_io.specs.Pulled.{Keeps, Takes}
use Rattle.pcap_file.specs.Capture.{Record}
use Rattle.pcap_file.specs.Reading.{record_view}
use Rattle.pcapng_file.specs.Ends.{record_end}
use Rattle.pcapng_file.specs.Faults.{OnFault}
use Rattle.pcapng_file.specs.Pieces.{GaveFewer}
use Rattle.pcapng_file.specs.Blocks.{Mark, Meaning, NewSection, NewInterface, NewPacket, Nothing, AtEnd, AtFault, AtBlock, is_section, is_too_many, mark_after, records_of, meaning_of, block_of, head_of, with_front, blocks_from, ng_capture}
use Rattle.pcapng_file.specs.declared.fault.NgFault.{NgFault}
use Rattle.pcapng_file.specs.declared.fault.NgFault.TheVariants.{TooMany, CutBlock}
use Rattle.pcapng_file.specs.declared.frame.Frame.{Frame}
use Rattle.pcapng_file.specs.declared.frame.Kind.{Kind}
use Rattle.pcapng_file.specs.declared.frame.Kind.TheVariants.{Section as OfSection, Interface as OfInterface, Packet as OfPacket, Simple as OfSimple, Other as OfOther}
use Rattle.pcapng_file.specs.declared.content.Content.{Content}
use Rattle.pcapng_file.specs.declared.content.Content.TheVariants.{Section, Interface, Packet, Other}
use Rattle.pcapng_file.specs.declared.packet.NgRecord.{NgRecord}
use Rattle.pcapng_file.specs.declared.block.Step.{Step}
use Rattle.pcapng_file.specs.declared.block.Step.TheVariants.{End, Passed, Found}

-- a record as the captures' definition has it
abbrev pub ng_view : NgRecord → Record
ng_view r = record_view r.link r.rec

abbrev pub added : Option NgRecord → List Record
added None = []
added (Some r) = ng_view r ∷ []

abbrev pub content_view : Content → Meaning
content_view Section = NewSection
content_view (Interface interface) = NewInterface interface
content_view (Packet r) = NewPacket (ng_view r)
content_view Other = Nothing

abbrev pub verdict_view : Result Content NgFault → Result Meaning NgFault
verdict_view (Ok content) = Ok (content_view content)
verdict_view (Err fault) = Err fault

-- what a block says, of which the front and these bytes were taken
abbrev pub SaysBlock : Mark → Frame → List ℕ → Result Content NgFault → List ℕ → Type 0
SaysBlock mark frame front said taken = verdict_view said ≡ meaning_of mark frame (front ++ taken)

-- What may be counted behind a mark: one of the 1,024 interfaces of a section, or a packet with a stamp.
abbrev pub CanFollow : Mark → Content → Type 0
CanFollow mark Section = Unit {0}
CanFollow mark (Interface interface) = (length mark.interfaces < 1024) × (0 < interface.units)
CanFollow mark (Packet r) = (length r.rec.bytes ≤ 262144) × (r.rec.stamp < 2 ^ 32 * 1000000000)
CanFollow mark Other = Unit {0}

-- What counting a block leaves: the mark behind it and its record, or too many. A record has a stamp and at most 262,144 bytes.
pub record CountsBlock (found : Option NgRecord) (old new : Mark) (frame : Frame) (meaning : Meaning) : Type 0 where
  pub few : is_too_many old meaning ≡ false
  pub mark : new ≡ mark_after old frame meaning
  pub records : added found ≡ records_of meaning
  pub short : IfSome found (λ r. length r.rec.bytes ≤ 262144)
  pub early : IfSome found (λ r. r.rec.stamp < 2 ^ 32 * 1000000000)

abbrev pub Counts : Result (Option NgRecord) NgFault → Mark → Mark → Frame → Content → Type 0
Counts (Ok found) old new frame content = CountsBlock found old new frame (content_view content)
Counts (Err fault) old new frame content =
    OnFault fault ((fault ≡ TooMany old.offset) × (is_too_many old (content_view content) ≡ true)) ⊥ (Unit {0})

-- a packet with a stamp, which may follow any mark
abbrev pub IsPacket : Content → Type 0
IsPacket Section = ⊥
IsPacket (Interface interface) = ⊥
IsPacket (Packet r) = (length r.rec.bytes ≤ 262144) × (r.rec.stamp < 2 ^ 32 * 1000000000)
IsPacket Other = ⊥

-- how many bytes of a block are taken before its content is read: those of its front, or, of the first section header, 24
abbrev pub IsFrontOf : Kind → ℕ → Type 0
IsFrontOf OfSection n = (n ≡ 12) ⊎ (n ≡ 24)
IsFrontOf OfInterface n = n ≡ 12
IsFrontOf OfPacket n = n ≡ 12
IsFrontOf OfSimple n = n ≡ 12
IsFrontOf OfOther n = n ≡ 12

abbrev pub IsFront : List ℕ → Type 0
IsFront front = (length front ≡ 12) ⊎ ((length front ≡ 24) × (is_section front ≡ true))

-- ---- one block, of whose front these bytes were taken before

-- The block was taken, and leads to this mark and these records.
pub record TakesBlock (old new : Mark) (records : List Record) (front held rest : List ℕ) (before after : Disk) : Type 0 where
  pub taken : List ℕ
  pub takes : Takes taken held rest before after
  pub blocks : new.blocks ≡ old.blocks + 1
  pub few : new.blocks ≤ 200000000
  pub total : ℕ
  pub long : length front + length taken ≡ total
  pub some : 0 < total
  pub stands : (more : List ℕ) → head_of old (front ++ (taken ++ more)) ≡ AtBlock new total records

-- The rest of a block was taken, and this is what it says, whatever comes behind.
pub record TakesWhole (content : Content) (mark : Mark) (frame : Frame) (front held rest : List ℕ) (before after : Disk) : Type 0 where
  pub taken : List ℕ
  pub takes : Takes taken held rest before after
  pub long : length front + length taken ≡ frame.total
  pub says : (more : List ℕ) → block_of mark frame (front ++ (taken ++ more)) ≡ Ok (content_view content)

-- What the file gave is no whole block of this length.
pub record GaveCut (total : ℕ) (front held rest : List ℕ) (before after : Disk) : Type 0 where
  pub taken : List ℕ
  pub takes : Takes taken held rest before after
  pub few : length front + (length taken + length rest) < total

-- What the file gave has no whole block at its front.
pub record GaveNoBlock (old : Mark) (front held rest : List ℕ) (before after : Disk) : Type 0 where
  pub taken : List ℕ
  pub takes : Takes taken held rest before after
  pub none : (blocks_from old (front ++ (taken ++ rest))).records ≡ []

abbrev pub FaultsAt : Mark → NgFault → List ℕ → List ℕ → Disk → Type 0
FaultsAt old fault front held before = IsTrue before.told → head_of old (front ++ (held ++ before.left)) ≡ AtFault fault

abbrev pub AfterFault : NgFault → Mark → List ℕ → List ℕ → List ℕ → Disk → Disk → Type 0
AfterFault fault old front held rest before after =
    OnFault fault (FaultsAt old fault front held before) (GaveNoBlock old front held rest before after) (Unit {0})

abbrev pub AfterBlock : Result (Option NgRecord) NgFault → Mark → Mark → List ℕ → List ℕ → List ℕ → Disk → Disk → Type 0
AfterBlock (Ok found) old new front held rest before after = TakesBlock old new (added found) front held rest before after
AfterBlock (Err fault) old new front held rest before after = AfterFault fault old front held rest before after

-- what a block says, once its front was read: its end is there, and its total length again
abbrev pub AfterWhole : Result Content NgFault → Mark → Frame → List ℕ → List ℕ → List ℕ → Disk → Disk → Type 0
AfterWhole (Ok content) mark frame front held rest before after = TakesWhole content mark frame front held rest before after
AfterWhole (Err fault) mark frame front held rest before after =
    OnFault fault (IsTrue before.told → block_of mark frame (front ++ (held ++ before.left)) ≡ Err fault) (GaveCut frame.total front held rest before after) (Unit {0})

-- The front of a block was taken, or the file ends, or it is cut.
abbrev pub AfterFront : Result (Option (List ℕ)) NgFault → ℕ → List ℕ → List ℕ → Disk → Disk → Type 0
AfterFront (Ok (Some front)) offset held rest before after = Takes front held rest before after × (length front ≡ 12)
AfterFront (Ok None) offset held rest before after = Keeps held rest before after × (rest ≡ []) × (IsTrue before.told → held ++ before.left ≡ [])
AfterFront (Err fault) offset held rest before after =
    OnFault fault ((fault ≡ CutBlock offset) × (IsTrue before.told → (0 < length (held ++ before.left)) × (length (held ++ before.left) < 12)))
    (GaveFewer 12 held rest before after) ⊥

-- The file ends at this border, and nothing was taken.
pub record AtItsEnd (old new : Mark) (held rest : List ℕ) (before after : Disk) : Type 0 where
  pub same : new ≡ old
  pub keeps : Keeps held rest before after
  pub none : rest ≡ []
  pub at : IsTrue before.told → head_of old (held ++ before.left) ≡ AtEnd

abbrev pub IsSmallStep : Step → Type 0
IsSmallStep End = Unit {0}
IsSmallStep Passed = Unit {0}
IsSmallStep (Found r) = (length r.rec.bytes ≤ 262144) × (r.rec.stamp < 2 ^ 32 * 1000000000)

abbrev pub AfterStep : Result Step NgFault → Mark → Mark → List ℕ → List ℕ → Disk → Disk → Type 0
AfterStep (Ok End) old new held rest before after = AtItsEnd old new held rest before after
AfterStep (Ok Passed) old new held rest before after = TakesBlock old new [] [] held rest before after
AfterStep (Ok (Found r)) old new held rest before after = TakesBlock old new (ng_view r ∷ []) [] held rest before after
AfterStep (Err fault) old new held rest before after = AfterFault fault old [] held rest before after

-- ---- the blocks up to the next packet record, where these bytes were taken before

-- Blocks without records were taken, and this mark is behind them.
pub record PassesBlocks (old new : Mark) (front held rest : List ℕ) (before after : Disk) : Type 0 where
  pub taken : List ℕ
  pub takes : Takes taken held rest before after
  pub counted : new.records ≡ old.records
  pub placed : new.offset ≡ old.offset + length front + length taken
  pub stands : (more : List ℕ) → blocks_from old (front ++ (taken ++ more)) ≡ blocks_from new more

-- Blocks were taken of which the last alone has a record, and ends where the mark is.
pub record TakesPacket (old new : Mark) (r : Record) (front held rest : List ℕ) (before after : Disk) : Type 0 where
  pub taken : List ℕ
  pub takes : Takes taken held rest before after
  pub counted : new.records ≡ old.records + 1
  pub few : new.records ≤ 100000000
  pub placed : new.offset ≡ old.offset + length front + length taken
  pub ends : (blocks more : List ℕ) → length blocks ≡ old.offset
      → record_end (blocks ++ (front ++ (taken ++ more))) r ≡ new.offset
  pub stands : (more : List ℕ) → blocks_from old (front ++ (taken ++ more)) ≡ with_front (r ∷ []) (blocks_from new more)

abbrev pub Ends : Mark → Option NgFault → List ℕ → List ℕ → Disk → Type 0
Ends old fault front held before = IsTrue before.told → blocks_from old (front ++ (held ++ before.left)) ≡ record { records = []; fault = fault }

-- The blocks up to the end of the file have no record.
pub record PassesAll (old : Mark) (front held rest : List ℕ) (before after : Disk) : Type 0 where
  pub taken : List ℕ
  pub takes : Takes taken held rest before after
  pub none : rest ≡ []
  pub ends : Ends old None front held before

abbrev pub AfterSearch : Result (Option NgRecord) NgFault → Mark → Mark → List ℕ → List ℕ → List ℕ → Disk → Disk → Type 0
AfterSearch (Ok (Some r)) old new front held rest before after = TakesPacket old new (ng_view r) front held rest before after
AfterSearch (Ok None) old new front held rest before after = PassesAll old front held rest before after
AfterSearch (Err fault) old new front held rest before after =
    OnFault fault (Ends old (Some fault) front held before) (GaveNoBlock old front held rest before after) (Unit {0})

-- ---- the records so far

-- the bytes of a head that is there
abbrev pub head_bytes : Option (List ℕ) → List ℕ
head_bytes None = []
head_bytes (Some head) = head

-- where the reading stands: a mark, the bytes that were taken before it began and not yet looked at, and the fault that was met, if one was
pub record Place : Type 0 where
  pub mark : Mark
  pub head : List ℕ
  pub fault : Option NgFault

-- The bytes that were taken are these records, whatever comes behind, and the place is behind them.
pub record StandsFor (place : Place) (passed : List ℕ) (seen : List Record) : Type 0 where
  -- the blocks that were looked at
  pub blocks : List ℕ
  pub parts : passed ≡ blocks ++ place.head
  pub placed : length blocks ≡ place.mark.offset
  pub whole : (more : List ℕ)
      → ng_capture (passed ++ more) ≡ with_front seen (blocks_from place.mark (place.head ++ more))

-- A record was taken, and the place stands for the records with it. Of its block all was taken, and
-- nothing behind it.
pub record TakesRecord (old new : Place) (r : Record) (held rest : List ℕ) (before after : Disk) : Type 0 where
  pub taken : List ℕ
  pub takes : Takes taken held rest before after
  pub counted : new.mark.records ≡ old.mark.records + 1
  pub bound : new.mark.records ≤ 100000000
  pub short : length r.bytes ≤ 262144
  pub early : r.stamp < 2 ^ 32 * 1000000000
  pub onward : (passed : List ℕ) (seen : List Record) → StandsFor old passed seen → StandsFor new (passed ++ taken) (seen ++ r ∷ [])
  pub ends : (passed : List ℕ) (seen : List Record) → StandsFor old passed seen
      → (more : List ℕ) → record_end ((passed ++ taken) ++ more) r ≡ length (passed ++ taken)

-- The records before this place are all, and then comes this.
abbrev pub Finds : Place → Option NgFault → List ℕ → Disk → Type 0
Finds old fault held before =
    (passed : List ℕ) (seen : List Record) → StandsFor old passed seen → IsTrue before.told → ng_capture (passed ++ (held ++ before.left)) ≡ record { records = seen; fault = fault }

-- The file ends at a block's border, behind blocks without records.
pub record FindsEnd (old : Place) (held rest : List ℕ) (before after : Disk) : Type 0 where
  pub taken : List ℕ
  pub takes : Takes taken held rest before after
  pub none : rest ≡ []
  pub finds : Finds old None held before

-- What the file gave so far has no further whole record.
pub record GaveNoRecord (old : Place) (held rest : List ℕ) (before after : Disk) : Type 0 where
  pub taken : List ℕ
  pub takes : Takes taken held rest before after
  pub none : (passed : List ℕ) (seen : List Record) → StandsFor old passed seen → (ng_capture (passed ++ (taken ++ rest))).records ≡ seen

-- what asking for the next record left, at a place without a fault
abbrev pub AfterNext : Result (Option NgRecord) NgFault → Place → Place → List ℕ → List ℕ → Disk → Disk → Type 0
AfterNext (Ok (Some r)) old new held rest before after = TakesRecord old new (ng_view r) held rest before after
AfterNext (Ok None) old new held rest before after = FindsEnd old held rest before after
AfterNext (Err fault) old new held rest before after =
    OnFault fault (Finds old (Some fault) held before) (GaveNoRecord old held rest before after) (Unit {0})

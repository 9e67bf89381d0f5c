-- What reading a block leaves: the frame, the rest of the block, and its count.
use Rattle.std.proofs.Common.{◌≡◌, ℕ, ◌+◌, ◌≤◌, ◌<◌, inl, inr, Bool, true, false, List, [], ◌∷◌, ◌++◌, length, take, Option, None, Result, Ok, Err, refl, sym, ap, ◌∙◌, subst, append_assoc, arith}
use Rattle.std.specs.Prelude.{IfOk, IfSome, nat_le, ◌||◌, ◌*◌, ◌^◌}
use Rattle.std.specs.Result.{IsErrAnd}
use Rattle.std.proofs.lemmas.Bool.Decides.{nat_tests}
use Rattle.std.proofs.lemmas.List.{length-append, take-append-le}
use Rattle.rtp_io.specs.Outside.{Disk}
use Rattle.rtp_io.specs.Pulled.{Takes}
use Rattle.rtp_io.specs.Laws.{told_then, takes_then}
use Rattle.pcap_file.specs.Capture.{Record}
use Rattle.pcap_file.specs.declared.order.Order.{Order}
use Rattle.pcapng_file.specs.declared.fault.NgFault.{NgFault}
use Rattle.pcapng_file.specs.declared.fault.NgFault.TheVariants.{CutBlock, TooMany}
use Rattle.pcapng_file.specs.declared.frame.Frame.{Frame}
use Rattle.pcapng_file.specs.declared.frame.Kind.{Kind}
use Rattle.pcapng_file.specs.declared.frame.Kind.TheVariants.{Section as OfSection, Interface as OfInterface, Packet as OfPacket, Simple as OfSimple, Other as OfOther}
use Rattle.pcapng_file.specs.declared.content.Content.{Content}
use Rattle.pcapng_file.specs.declared.block.Step.{Step}
use Rattle.pcapng_file.specs.declared.packet.NgRecord.{NgRecord}
use Rattle.pcapng_file.specs.Faults.{OnFault, HasNgCause}
use Rattle.pcapng_file.specs.Blocks.{Mark, Meaning, NgCapture, AtFault, AtBlock, is_section, frame_of, records_of, is_too_many, mark_after, counted, head_in, head_of, blocks_from}
use Rattle.pcapng_file.specs.Reading.{added, content_view, Counts, TakesBlock, TakesWhole, AfterFault, AfterBlock, AfterWhole, AfterFront, AfterStep, AtItsEnd, IsFront, IsFrontOf}
use Rattle.pcapng_file.proofs.FaultLemmas.{of_bytes, on_each}
use Rattle.pcapng_file.proofs.Heads.{frame_some, frame_bad, block_cut, head_empty, head_cut, head_whole, blocks_end, blocks_fault}

-- ---- the frame

head_frame : (mark : Mark) (front more : List ℕ) (made : Result Frame NgFault) → 12 ≤ length front → made ≡ frame_of mark.order mark.offset (take 12 front) → head_of mark (front ++ more) ≡ head_in mark (front ++ more) made
head_frame mark front more made long is =
    head_whole mark (front ++ more) (omega (arith, length-append front more))
    ∙ ap (λ (xs : List ℕ). head_in mark (front ++ more) (frame_of mark.order mark.offset xs)) (take-append-le 12 front more long)
    ∙ ap (λ (r : Result Frame NgFault). head_in mark (front ++ more) r) (sym is)

pub frame_fault : (old : Mark) (front held : List ℕ) (fault : NgFault) (a : Disk) → 12 ≤ length front → Err fault ≡ frame_of old.order old.offset (take 12 front) → AfterFault fault old front held held a a
frame_fault old front held fault a long is =
    of_bytes fault _ _ _ (frame_bad old.order old.offset (take 12 front) fault (sym is)) (λ t. head_frame old front (held ++ a.left) (Err fault) long is)

pub frame_cause : (order : Order) (offset n : ℕ) (front : List ℕ) (fault : NgFault) → Err fault ≡ frame_of order offset front → OnFault fault (n ≡ n) (n < n) (n ≡ n)
frame_cause order offset n front fault is = of_bytes fault _ _ _ (frame_bad order offset front fault (sym is)) refl

front_kind : (kind : Kind) (n : ℕ) → n ≡ 12 → IsFrontOf kind n
front_kind OfSection n is = inl is
front_kind OfInterface n is = is
front_kind OfPacket n is = is
front_kind OfSimple n is = is
front_kind OfOther n is = is

section_front : (front : List ℕ) → length front ≡ 24 → is_section (take 12 front) ≡ is_section front
section_front [] long = absurd (omega arith)
section_front (a ∷ []) long = absurd (omega arith)
section_front (a ∷ b ∷ []) long = absurd (omega arith)
section_front (a ∷ b ∷ c ∷ []) long = absurd (omega arith)
section_front (a ∷ b ∷ c ∷ d ∷ rest) long = refl

pub front_of_kind : (front : List ℕ) (kind : Kind) → IsFront front → (is_section (take 12 front) ≡ true → kind ≡ OfSection) → IsFrontOf kind (length front)
front_of_kind front kind is section =
    elim is [
      | inl short ↦ front_kind kind (length front) short
      | inr long ↦
          let e : kind ≡ OfSection = section (section_front front long.0 ∙ long.1) in
          let ok : IsFrontOf OfSection (length front) = inr long.0 in
          subst (λ (k : Kind). IsFrontOf k (length front)) (sym e) ok
    ]

pub front_long : (front : List ℕ) → IsFront front → 12 ≤ length front
front_long front is = elim is [ inl short ↦ omega arith | inr long ↦ omega (arith, long.0) ]

-- what the exit of a `?` returns
pub block_exit : (result : Result (Option NgRecord) NgFault) (fault : NgFault) (old new : Mark) (front held rest : List ℕ) (a b : Disk) → IsErrAnd result (λ e. e ≡ fault) → AfterFault fault old front held rest a b → AfterBlock result old new front held rest a b
block_exit (Ok found) fault old new front held rest a b is after = absurd is
block_exit (Err e) fault old new front held rest a b is after = subst (λ (f : NgFault). AfterFault f old front held rest a b) (sym is) after

pub cause_exit : {A : Type 0} (result : Result A NgFault) (fault : NgFault) (before after : ℕ) → IsErrAnd result (λ e. e ≡ fault) → OnFault fault (after ≡ before) (before < after) (after ≡ before) → HasNgCause before after result
cause_exit (Ok x) fault before after is cause = absurd is
cause_exit (Err e) fault before after is cause = subst (λ (f : NgFault). OnFault f (after ≡ before) (before < after) (after ≡ before)) (sym is) cause

pub step_exit : (result : Result Step NgFault) (fault : NgFault) (old new : Mark) (held rest : List ℕ) (a b : Disk) → IsErrAnd result (λ e. e ≡ fault) → AfterFault fault old [] held rest a b → AfterStep result old new held rest a b
step_exit (Ok step) fault old new held rest a b is after = absurd is
step_exit (Err e) fault old new held rest a b is after = subst (λ (f : NgFault). AfterFault f old [] held rest a b) (sym is) after

-- ---- the rest of a block

cut_none : (old : Mark) (frame : Frame) (front more : List ℕ) → 12 ≤ length front → Ok frame ≡ frame_of old.order old.offset (take 12 front) → length front + length more < frame.total → (blocks_from old (front ++ more)).records ≡ []
cut_none old frame front more long is cut =
    let at : head_of old (front ++ more) ≡ AtFault (CutBlock old.offset) =
    head_frame old front more (Ok frame) long is ∙ ap (λ (r : Result Meaning NgFault). counted old frame r) (block_cut old frame (front ++ more) (omega (arith, length-append front more))) in
    ap (λ (c : NgCapture). c.records) (blocks_fault old (front ++ more) (CutBlock old.offset) at)

pub whole_fault : (old : Mark) (frame : Frame) (front held rest : List ℕ) (fault : NgFault) (a b : Disk) → 12 ≤ length front → Ok frame ≡ frame_of old.order old.offset (take 12 front)
    → AfterWhole (Err fault) old frame front held rest a b → AfterFault fault old front held rest a b
whole_fault old frame front held rest fault a b long is after =
    on_each fault _ _ _ _ _ _
    (λ bad t. head_frame old front (held ++ a.left) (Ok frame) long is ∙ ap (λ (r : Result Meaning NgFault). counted old frame r) (bad t))
    (λ cut. record { taken = cut.taken; takes = cut.takes; none = cut_none old frame front (cut.taken ++ rest) long is (omega (arith, length-append cut.taken rest, cut.few)) })
    (λ u. u) after

few_blocks : (mark : Mark) (meaning : Meaning) → is_too_many mark meaning ≡ false → mark.blocks < 200000000
few_blocks mark meaning few = by_first (nat_le 200000000 mark.blocks) _ (λ e. grind (arith, nat_tests)) few
  where
    by_first : (a b : Bool) → (a ≡ false → mark.blocks < 200000000) → (a || b) ≡ false → mark.blocks < 200000000
    by_first true b f e = absurd cc
    by_first false b f e = f refl

counted_few : (mark new : Mark) (frame : Frame) (meaning : Meaning) (records : List Record) → is_too_many mark meaning ≡ false → new ≡ mark_after mark frame meaning → records ≡ records_of meaning
    → counted mark frame (Ok meaning) ≡ AtBlock new frame.total records
counted_few mark new frame meaning records few is rs = rw few (ap (λ (m : Mark). AtBlock m frame.total (records_of meaning)) (sym is) ∙ ap (λ (xs : List Record). AtBlock new frame.total xs) (sym rs))

counted_many : (mark : Mark) (frame : Frame) (meaning : Meaning) → is_too_many mark meaning ≡ true → counted mark frame (Ok meaning) ≡ AtFault (TooMany mark.offset)
counted_many mark frame meaning many = rw many refl

pub block_counts : (result : Result (Option NgRecord) NgFault) (old new : Mark) (frame : Frame) (content : Content) (front held rest : List ℕ) (a b : Disk) → 12 ≤ length front → Ok frame ≡ frame_of old.order old.offset (take 12 front)
    → TakesWhole content old frame front held rest a b → Counts result old new frame content → AfterBlock result old new front held rest a b
block_counts (Ok found) old new frame content front held rest a b long is whole counts = record {
  taken = whole.taken;
  takes = whole.takes;
  blocks = ap (λ (m : Mark). m.blocks) counts.mark;
  few = omega (arith, few_blocks old (content_view content) counts.few, ap (λ (m : Mark). m.blocks) counts.mark);
  total = frame.total;
  long = whole.long;
  some = omega (arith, frame_some old.order old.offset (take 12 front) frame (sym is));
  stands = λ more.
      head_frame old front (whole.taken ++ more) (Ok frame) long is ∙ ap (λ (r : Result Meaning NgFault). counted old frame r) (whole.says more)
      ∙ counted_few old new frame (content_view content) (added found) counts.few counts.mark counts.records;
}
block_counts (Err fault) old new frame content front held rest a b long is whole counts =
    on_each fault _ _ _ _ _ _
    (λ many t.
    ap (λ (xs : List ℕ). head_of old (front ++ xs)) (whole.takes.coming t) ∙ head_frame old front (whole.taken ++ (rest ++ b.left)) (Ok frame) long is
    ∙ ap (λ (r : Result Meaning NgFault). counted old frame r) (whole.says (rest ++ b.left)) ∙ counted_many old frame (content_view content) many.1 ∙ ap (λ (f : NgFault). AtFault f) (sym many.0))
    (λ u. absurd u) (λ u. u) counts

pub counts_cause : (result : Result (Option NgRecord) NgFault) (old new : Mark) (frame : Frame) (content : Content) (before after : ℕ) → after ≡ before → Counts result old new frame content → HasNgCause before after result
counts_cause (Ok found) old new frame content before after same counts = same
counts_cause (Err fault) old new frame content before after same counts = on_each fault _ _ _ _ _ _ (λ many. same) (λ u. absurd u) (λ u. same) counts

pub counts_short : (result : Result (Option NgRecord) NgFault) (old new : Mark) (frame : Frame) (content : Content) → Counts result old new frame content → IfOk result (λ found. IfSome found (λ r. length r.rec.bytes ≤ 262144))
counts_short (Ok found) old new frame content counts = counts.short
counts_short (Err fault) old new frame content counts = tt

pub counts_early : (result : Result (Option NgRecord) NgFault) (old new : Mark) (frame : Frame) (content : Content) → Counts result old new frame content → IfOk result (λ found. IfSome found (λ r. r.rec.stamp < 2 ^ 32 * 1000000000))
counts_early (Ok found) old new frame content counts = counts.early
counts_early (Err fault) old new frame content counts = tt

-- ---- the front of a block

pub front_none : (old new : Mark) (offset : ℕ) (held rest : List ℕ) (a b : Disk) → new ≡ old → AfterFront (Ok None) offset held rest a b → AtItsEnd old new held rest a b
front_none old new offset held rest a b same is = record {
  same = same;
  keeps = is.0;
  none = is.1;
  at = λ t. ap (λ (xs : List ℕ). head_of old xs) (is.2 t) ∙ head_empty old;
}

few_bytes : (mark : Mark) (bytes : List ℕ) → length bytes < 12 → (blocks_from mark bytes).records ≡ []
few_bytes mark [] short = ap (λ (c : NgCapture). c.records) (blocks_end mark [] (head_empty mark))
few_bytes mark (x ∷ xs) short = ap (λ (c : NgCapture). c.records) (blocks_fault mark (x ∷ xs) (CutBlock mark.offset) (head_cut mark (x ∷ xs) (omega arith) short))

pub front_fault : (old : Mark) (offset : ℕ) (held rest : List ℕ) (fault : NgFault) (a b : Disk) → offset ≡ old.offset → AfterFront (Err fault) offset held rest a b → AfterFault fault old [] held rest a b
front_fault old offset held rest fault a b at after =
    on_each fault _ _ _ _ _ _
    (λ cut t.
    let few = cut.1 t in
    head_cut old (held ++ a.left) few.0 few.1 ∙ ap (λ (o : ℕ). AtFault (CutBlock o)) (sym at) ∙ ap (λ (f : NgFault). AtFault f) (sym cut.0))
    (λ fewer. record { taken = fewer.taken; takes = fewer.takes; none = few_bytes old (fewer.taken ++ rest) (omega (arith, length-append fewer.taken rest, fewer.few)) })
    (λ u. absurd u) after

-- a block of whose front these bytes were taken just before
pub behind_block : (old new : Mark) (records : List Record) (front x y z : List ℕ) (a b c : Disk) → Takes front x y a b → TakesBlock old new records front y z b c → TakesBlock old new records [] x z a c
behind_block old new records front x y z a b c first block = record {
  taken = front ++ block.taken;
  takes = takes_then front block.taken x y z a b c first block.takes;
  blocks = block.blocks;
  few = block.few;
  total = block.total;
  long = omega (arith, length-append front block.taken, block.long);
  some = block.some;
  stands = λ more. ap (λ (xs : List ℕ). head_of old xs) (append_assoc front block.taken more) ∙ block.stands more;
}

pub behind_fault : (old : Mark) (fault : NgFault) (front x y z : List ℕ) (a b c : Disk) → Takes front x y a b → AfterFault fault old front y z b c → AfterFault fault old [] x z a c
behind_fault old fault front x y z a b c first after =
    on_each fault _ _ _ _ _ _
    (λ bad t. ap (λ (xs : List ℕ). head_of old xs) (first.coming t) ∙ bad (told_then a b first.same t))
    (λ gave. record {
      taken = front ++ gave.taken;
      takes = takes_then front gave.taken x y z a b c first gave.takes;
      none = ap (λ (xs : List ℕ). (blocks_from old xs).records) (append_assoc front gave.taken z) ∙ gave.none;
    })
    (λ u. u) after

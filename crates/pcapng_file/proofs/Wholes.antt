-- A block behind its front: what it says, once its end was seen.
use Rattle.std.proofs.Common.{◌≡◌, ℕ, ◌+◌, ◌-◌, ◌≤◌, Bool, true, false, List, [], ◌++◌, length, take, drop, Option, Some, None, Result, Ok, Err, inl, inr, refl, sym, ap, ◌∙◌, subst, append_assoc, arith}
use Rattle.std.specs.Prelude.{IfOk, slice_get, nat_le, ◌==◌, ◌*◌, ◌^◌, if◌then◌else◌}
use Rattle.std.proofs.lemmas.Bool.Decides.{eqb_tells}
use Rattle.std.proofs.lemmas.List.{length-append, take_at, drop_at}
use Rattle.rtp_io.specs.Outside.{Disk}
use Rattle.rtp_io.specs.Laws.{takes_then}
use Rattle.pcap_file.specs.Numbers.{number_at}
use Rattle.pcap_file.specs.Capture.{is_link}
use Rattle.pcap_file.specs.declared.order.Order.{Order}
use Rattle.pcap_file.specs.declared.order.Order.TheVariants.{Little, Big}
use Rattle.pcapng_file.proofs.Numbers.{number_front}
use Rattle.pcapng_file.specs.declared.fault.NgFault.{NgFault}
use Rattle.pcapng_file.specs.declared.fault.NgFault.TheVariants.{CutBlock, Block, Version, Link, Options, Resolution, Many, Interface as NoInterface, Length, Time}
use Rattle.pcapng_file.specs.declared.frame.Frame.{Frame}
use Rattle.pcapng_file.specs.declared.frame.Kind.{Kind}
use Rattle.pcapng_file.specs.declared.frame.Kind.TheVariants.{Section as OfSection, Interface as OfInterface, Packet as OfPacket, Simple as OfSimple, Other as OfOther}
use Rattle.pcapng_file.specs.declared.interface.Interface.{Interface}
use Rattle.pcapng_file.specs.declared.options.Said.{Said}
use Rattle.pcapng_file.specs.declared.packet.Plan.{Plan}
use Rattle.pcapng_file.specs.declared.content.Content.{Content}
use Rattle.pcapng_file.specs.declared.content.Content.TheVariants.{Other}
use Rattle.pcapng_file.specs.declared.pieces.Stop.{Stop}
use Rattle.pcapng_file.specs.declared.pieces.Stop.TheVariants.{Cut, ReadFault, OutOfMemory}
use Rattle.pcapng_file.specs.Faults.{HasNgCause, IsOfBytes, stop_fault}
use Rattle.pcapng_file.specs.Options.{options_say}
use Rattle.pcapng_file.specs.Times.{stamp_of}
use Rattle.pcapng_file.specs.Pieces.{TakesPart, AfterStop}
use Rattle.pcapng_file.specs.Blocks.{Mark, NewSection, Nothing, least_of, section_of, interface_in_units, interface_by, interface_of, new_interface, is_long, plan_at, plan_in, packet_plan, simple_in, simple_plan, new_packet, meaning_by, meaning_of, block_of}
use Rattle.pcapng_file.specs.Reading.{verdict_view, IsFrontOf, AfterWhole}
use Rattle.pcapng_file.proofs.FaultLemmas.{of_bytes}
use Rattle.pcapng_file.proofs.Parts.{takes_here}
use Rattle.pcapng_file.proofs.Heads.{block_cut, block_by}
use Rattle.pcapng_file.proofs.Meanings.{other_meaning}

-- ---- a fault that a block says is one of the bytes

section_bad : (b : Bool) (offset : ℕ) (fault : NgFault) → Err fault ≡ (if b then Ok NewSection else Err (Version offset)) → IsOfBytes fault
section_bad true offset fault e = absurd cc
section_bad false offset fault e = let is : fault ≡ Version offset = cc in rw is tt

abbrev made : Result Interface NgFault → NgFault → Type 0
made r fault = r ≡ Err fault

units_bad : (units : Option ℕ) (offset count link snap : ℕ) (said : Said) (fault : NgFault) → made (interface_in_units offset count link snap said units) fault → IsOfBytes fault
units_bad None offset count link snap said fault e = let is : fault ≡ Resolution offset = cc in rw is tt
units_bad (Some units) offset count link snap said fault e = many (nat_le 1024 count) _ e
  where
    many : (b : Bool) (i : Interface) → made (if b then Err (Many offset) else Ok i) fault → IsOfBytes fault
    many true i e = let is : fault ≡ Many offset = cc in rw is tt
    many false i e = absurd cc

interface_bad : (b : Bool) (said : Option Said) (offset count link snap : ℕ) (fault : NgFault) → made (if b then interface_by offset count link snap said else Err (Link offset)) fault → IsOfBytes fault
interface_bad false said offset count link snap fault e = let is : fault ≡ Link offset = cc in rw is tt
interface_bad true None offset count link snap fault e = let is : fault ≡ Options offset = cc in rw is tt
interface_bad true (Some said) offset count link snap fault e = units_bad _ offset count link snap said fault e

new_bad : (r : Result Interface NgFault) (fault : NgFault) → ((f : NgFault) → made r f → IsOfBytes f) → Err fault ≡ new_interface r → IsOfBytes fault
new_bad (Ok i) fault bad e = absurd cc
new_bad (Err f) fault bad e = bad fault (let is : fault ≡ f = cc in ap (λ (x : NgFault). Err x) (sym is))

abbrev planned : Result Plan NgFault → NgFault → Type 0
planned r fault = r ≡ Err fault

time_bad : (stamp : Option ℕ) (offset captured original : ℕ) (i : Interface) (fault : NgFault) → planned (plan_at offset i captured original stamp) fault → IsOfBytes fault
time_bad None offset captured original i fault e = let is : fault ≡ Time offset = cc in rw is tt
time_bad (Some stamp) offset captured original i fault e = absurd cc

long_bad : (b : Bool) (r : Result Plan NgFault) (offset : ℕ) (fault : NgFault) → ((f : NgFault) → planned r f → IsOfBytes f) → planned (if b then Err (Length offset) else r) fault → IsOfBytes fault
long_bad true r offset fault bad e = let is : fault ≡ Length offset = cc in rw is tt
long_bad false r offset fault bad e = bad fault e

plan_bad : (i : Option Interface) (offset room ticks captured original : ℕ) (fault : NgFault) → planned (plan_in offset room ticks captured original i) fault → IsOfBytes fault
plan_bad None offset room ticks captured original fault e = let is : fault ≡ NoInterface offset = cc in rw is tt
plan_bad (Some i) offset room ticks captured original fault e =
    long_bad (is_long room captured) (plan_at offset i captured original (stamp_of i ticks)) offset fault (λ f is. time_bad (stamp_of i ticks) offset captured original i f is) e

simple_bad : (i : Option Interface) (offset stamp room original : ℕ) (fault : NgFault) → planned (simple_in offset stamp room original i) fault → IsOfBytes fault
simple_bad None offset stamp room original fault e = let is : fault ≡ NoInterface offset = cc in rw is tt
simple_bad (Some i) offset stamp room original fault e = long_bad _ (Ok _) offset fault (λ f is. absurd cc) e

packet_bad : (r : Result Plan NgFault) (offset : ℕ) (bytes : List ℕ) (fault : NgFault) → ((f : NgFault) → planned r f → IsOfBytes f) → Err fault ≡ new_packet offset bytes r → IsOfBytes fault
packet_bad (Ok plan) offset bytes fault bad e = absurd cc
packet_bad (Err f) offset bytes fault bad e = bad fault (let is : fault ≡ f = cc in ap (λ (x : NgFault). Err x) (sym is))

bad_by : (mark : Mark) (order : Order) (total : ℕ) (block : List ℕ) (kind : Kind) (fault : NgFault) → Err fault ≡ meaning_by mark order total block kind → IsOfBytes fault
unfolding section_of interface_of packet_plan simple_plan
bad_by mark order total block OfSection fault e = section_bad (number_at order 2 12 block == 1) mark.offset fault e
bad_by mark order total block OfInterface fault e =
    new_bad (interface_of mark.offset (length mark.interfaces) (number_at order 2 8 block) (number_at order 4 12 block) (options_say order (drop 16 block))) fault
    (λ f is. interface_bad (is_link (number_at order 2 8 block)) (options_say order (drop 16 block)) mark.offset (length mark.interfaces) (number_at order 2 8 block) (number_at order 4 12 block) f is) e
bad_by mark order total block OfPacket fault e = packet_bad (packet_plan mark order (total - 32) block) mark.offset (drop 28 block) fault
    (λ f is. plan_bad (slice_get mark.interfaces (number_at order 4 8 block)) mark.offset (total - 32) (number_at order 4 12 block * 2 ^ 32 + number_at order 4 16 block) (number_at order 4 20 block) (number_at order 4 24 block) f is) e
bad_by mark order total block OfSimple fault e = packet_bad (simple_plan mark order (total - 16) block) mark.offset (drop 12 block) fault
    (λ f is. simple_bad (slice_get mark.interfaces 0) mark.offset mark.stamp (total - 16) (number_at order 4 8 block) f is) e
bad_by mark order total block OfOther fault e = absurd cc

meaning_bad : (mark : Mark) (frame : Frame) (block : List ℕ) (fault : NgFault) → Err fault ≡ meaning_of mark frame block → IsOfBytes fault
unfolding meaning_of
meaning_bad mark frame block fault e = bad_by mark frame.order frame.total block frame.kind fault e

-- ---- the end of a block

number_after : (order : Order) (size k : ℕ) (front rest : List ℕ) → length front ≡ k → number_at order size k (front ++ rest) ≡ number_at order size 0 rest
unfolding number_at
number_after Little size k front rest e = rw (drop_at front rest k e) refl
number_after Big size k front rest e = rw (drop_at front rest k e) refl

block_ends : (mark : Mark) (frame : Frame) (front rest end more : List ℕ) → 4 ≤ frame.total → length front + length rest ≡ frame.total - 4 → length end ≡ 4
    → block_of mark frame (front ++ ((rest ++ end) ++ more)) ≡ (if number_at frame.order 4 0 end == frame.total then meaning_of mark frame (front ++ rest) else Err (Block mark.offset))
block_ends mark frame front rest end more some long len =
    let body = front ++ rest in
    let bytes = body ++ (end ++ more) in
    let parts : front ++ ((rest ++ end) ++ more) ≡ bytes = ap (λ (xs : List ℕ). front ++ xs) (append_assoc rest end more) ∙ sym (append_assoc front rest (end ++ more)) in
    let size : length body ≡ frame.total - 4 = length-append front rest ∙ long in
    let whole : frame.total ≤ length bytes = omega (arith, length-append body (end ++ more), length-append end more, size, len) in
    let last : number_at frame.order 4 (frame.total - 4) bytes ≡ number_at frame.order 4 0 end = number_after frame.order 4 (frame.total - 4) body (end ++ more) size ∙ number_front frame.order 4 0 end more (omega arith) in
    ap (λ (xs : List ℕ). block_of mark frame xs) parts ∙ block_by mark frame bytes whole ∙ rw (last, take_at body (end ++ more) (frame.total - 4) size) refl

ends_same : (mark : Mark) (frame : Frame) (front rest end more : List ℕ) → 4 ≤ frame.total → length front + length rest ≡ frame.total - 4 → length end ≡ 4 → (number_at frame.order 4 0 end == frame.total) ≡ true
    → block_of mark frame (front ++ ((rest ++ end) ++ more)) ≡ meaning_of mark frame (front ++ rest)
ends_same mark frame front rest end more some long len same = block_ends mark frame front rest end more some long len ∙ rw same refl

ends_other : (mark : Mark) (frame : Frame) (front rest end more : List ℕ) → 4 ≤ frame.total → length front + length rest ≡ frame.total - 4 → length end ≡ 4 → (number_at frame.order 4 0 end == frame.total) ≡ false
    → block_of mark frame (front ++ ((rest ++ end) ++ more)) ≡ Err (Block mark.offset)
ends_other mark frame front rest end more some long len other = block_ends mark frame front rest end more some long len ∙ rw other refl

whole_same : (mark : Mark) (frame : Frame) (front end : List ℕ) (verdict : Result Content NgFault) (x y z : List ℕ) (a b c : Disk) → length front + 4 ≤ frame.total → length end ≡ 4 → (number_at frame.order 4 0 end == frame.total) ≡ true
    → TakesPart (λ taken. verdict_view verdict ≡ meaning_of mark frame (front ++ taken)) (frame.total - 4 - length front) x y a b → TakesPart (λ taken. taken ≡ end) 4 y z b c → AfterWhole verdict mark frame front x z a c
whole_same mark frame front end (Ok content) x y z a b c fit len same first second = record {
  taken = first.taken ++ second.taken;
  takes = takes_then first.taken second.taken x y z a b c first.takes second.takes;
  long = omega (arith, length-append first.taken second.taken, first.long, second.long);
  says = λ more.
      ap (λ (xs : List ℕ). block_of mark frame (front ++ ((first.taken ++ xs) ++ more))) second.is
      ∙ ends_same mark frame front first.taken end more (omega arith) (omega (arith, first.long)) len same ∙ sym first.is;
}
whole_same mark frame front end (Err fault) x y z a b c fit len same first second =
    let takes = takes_then first.taken second.taken x y z a b c first.takes second.takes in
    of_bytes fault _ _ _ (meaning_bad mark frame (front ++ first.taken) fault first.is) (λ t.
    ap (λ (xs : List ℕ). block_of mark frame (front ++ xs)) (takes.coming t) ∙ ap (λ (xs : List ℕ). block_of mark frame (front ++ ((first.taken ++ xs) ++ (z ++ c.left)))) second.is
    ∙ ends_same mark frame front first.taken end (z ++ c.left) (omega arith) (omega (arith, first.long)) len same ∙ sym first.is)

pub whole_ended : (mark : Mark) (frame : Frame) (front end : List ℕ) (offset : ℕ) (verdict result : Result Content NgFault) (x y z : List ℕ) (a b c : Disk) → length front + 4 ≤ frame.total → length end ≡ 4 → offset ≡ mark.offset
    → TakesPart (λ taken. verdict_view verdict ≡ meaning_of mark frame (front ++ taken)) (frame.total - 4 - length front) x y a b → TakesPart (λ taken. taken ≡ end) 4 y z b c
    → result ≡ (if number_at frame.order 4 0 end == frame.total then verdict else Err (Block offset)) → AfterWhole result mark frame front x z a c
whole_ended mark frame front end offset verdict result x y z a b c fit len at first second is =
    elim (eqb_tells (number_at frame.order 4 0 end) frame.total) [
      | inl same ↦
          let e : result ≡ verdict = is ∙ rw same.0 refl in
          subst (λ (r : Result Content NgFault). AfterWhole r mark frame front x z a c) (sym e) (whole_same mark frame front end verdict x y z a b c fit len same.0 first second)
      | inr other ↦
          let e : result ≡ Err (Block mark.offset) = is ∙ rw (other.0, at) refl in
          let takes = takes_then first.taken second.taken x y z a b c first.takes second.takes in
          let bad : AfterWhole (Err (Block mark.offset)) mark frame front x z a c = λ t.
          ap (λ (xs : List ℕ). block_of mark frame (front ++ xs)) (takes.coming t) ∙ ap (λ (xs : List ℕ). block_of mark frame (front ++ ((first.taken ++ xs) ++ (z ++ c.left)))) second.is
          ∙ ends_other mark frame front first.taken end (z ++ c.left) (omega arith) (omega (arith, first.long)) len other.0 in
          subst (λ (r : Result Content NgFault). AfterWhole r mark frame front x z a c) (sym e) bad
    ]

stop_whole : (stop : Stop) (mark : Mark) (frame : Frame) (front : List ℕ) (n offset : ℕ) (x y : List ℕ) (a b : Disk) → length front + n ≤ frame.total → offset ≡ mark.offset → AfterStop stop n x y a b
    → AfterWhole (Err (stop_fault offset stop)) mark frame front x y a b
stop_whole Cut mark frame front n offset x y a b fit at after = λ t.
    block_cut mark frame (front ++ (x ++ a.left)) (omega (arith, length-append front (x ++ a.left), after t)) ∙ ap (λ (o : ℕ). Err (CutBlock o)) (sym at)
stop_whole ReadFault mark frame front n offset x y a b fit at after = record { taken = after.taken; takes = after.takes; few = omega (arith, after.few) }
stop_whole OutOfMemory mark frame front n offset x y a b fit at after = tt

pub whole_stop : (stop : Stop) (fault : NgFault) (mark : Mark) (frame : Frame) (front : List ℕ) (n offset : ℕ) (x y : List ℕ) (a b : Disk) → length front + n ≤ frame.total → offset ≡ mark.offset → fault ≡ stop_fault offset stop
    → AfterStop stop n x y a b → AfterWhole (Err fault) mark frame front x y a b
whole_stop stop fault mark frame front n offset x y a b fit at is after =
    subst (λ (f : NgFault). AfterWhole (Err f) mark frame front x y a b) (sym is) (stop_whole stop mark frame front n offset x y a b fit at after)

verdict_cause : (verdict : Result Content NgFault) (mark : Mark) (frame : Frame) (block : List ℕ) (before after : ℕ) → verdict_view verdict ≡ meaning_of mark frame block → after ≡ before → HasNgCause before after verdict
verdict_cause (Ok content) mark frame block before after is same = same
verdict_cause (Err fault) mark frame block before after is same = of_bytes fault _ _ _ (meaning_bad mark frame block fault is) same

ended_by : (b : Bool) (offset : ℕ) (verdict result : Result Content NgFault) (before after : ℕ) → result ≡ (if b then verdict else Err (Block offset)) → HasNgCause before after verdict → after ≡ before → HasNgCause before after result
ended_by true offset verdict result before after is cause same = subst (λ (r : Result Content NgFault). HasNgCause before after r) (sym is) cause
ended_by false offset verdict result before after is cause same = subst (λ (r : Result Content NgFault). HasNgCause before after r) (sym is) same

pub ended_cause : (b : Bool) (offset n : ℕ) (verdict result : Result Content NgFault) (mark : Mark) (frame : Frame) (front x y : List ℕ) (a c : Disk) (before after : ℕ) → result ≡ (if b then verdict else Err (Block offset)) → after ≡ before
    → TakesPart (λ taken. verdict_view verdict ≡ meaning_of mark frame (front ++ taken)) n x y a c → HasNgCause before after result
ended_cause b offset n verdict result mark frame front x y a c before after is same part =
    ended_by b offset verdict result before after is (verdict_cause verdict mark frame (front ++ part.taken) before after part.is same) same

-- ---- a block that is its front alone

pub only_other : (kind : Kind) → least_of kind ≤ 12 → kind ≡ OfOther
only_other OfSection le = absurd (omega arith)
only_other OfInterface le = absurd (omega arith)
only_other OfPacket le = absurd (omega arith)
only_other OfSimple le = absurd (omega arith)
only_other OfOther le = refl

pub front_fits : (kind : Kind) (n total : ℕ) → IsFrontOf kind n → least_of kind ≤ total → 16 ≤ total → n + 4 ≤ total
front_fits OfSection n total is least some = elim is [ inl e ↦ omega arith | inr e ↦ omega arith ]
front_fits OfInterface n total is least some = omega (arith, is)
front_fits OfPacket n total is least some = omega (arith, is)
front_fits OfSimple n total is least some = omega (arith, is)
front_fits OfOther n total is least some = omega (arith, is)

empty_by : (mark : Mark) (frame : Frame) (front more : List ℕ) → frame.total ≡ 12 → length front ≡ 12 → frame.kind ≡ OfOther
    → block_of mark frame (front ++ more) ≡ (if number_at frame.order 4 8 front == frame.total then Ok Nothing else Err (Block mark.offset))
empty_by mark frame front more total len kind =
    let bytes = front ++ more in
    let eight : frame.total - 4 ≡ 8 = omega arith in
    let last : number_at frame.order 4 (frame.total - 4) bytes ≡ number_at frame.order 4 8 front = ap (λ (k : ℕ). number_at frame.order 4 k bytes) eight ∙ number_front frame.order 4 8 front more (omega arith) in
    block_by mark frame bytes (omega (arith, length-append front more)) ∙ rw (last, ← other_meaning mark frame (take (frame.total - 4) bytes) kind) refl

pub whole_empty : (mark : Mark) (frame : Frame) (front : List ℕ) (offset : ℕ) (result : Result Content NgFault) (x : List ℕ) (a : Disk) → frame.total ≡ 12 → length front ≡ 12 → frame.kind ≡ OfOther → offset ≡ mark.offset
    → result ≡ (if number_at frame.order 4 8 front == frame.total then Ok Other else Err (Block offset)) → AfterWhole result mark frame front x x a a
whole_empty mark frame front offset result x a total len kind at is =
    elim (eqb_tells (number_at frame.order 4 8 front) frame.total) [
      | inl same ↦
          let e : result ≡ Ok Other = is ∙ rw same.0 refl in
          let good : AfterWhole (Ok Other) mark frame front x x a a = record {
            taken = [];
            takes = takes_here x a;
            long = omega arith;
            says = λ more. empty_by mark frame front more total len kind ∙ rw same.0 refl;
          } in
          subst (λ (r : Result Content NgFault). AfterWhole r mark frame front x x a a) (sym e) good
      | inr other ↦
          let e : result ≡ Err (Block mark.offset) = is ∙ rw (other.0, at) refl in
          let bad : AfterWhole (Err (Block mark.offset)) mark frame front x x a a = λ t. empty_by mark frame front (x ++ a.left) total len kind ∙ rw other.0 refl in
          subst (λ (r : Result Content NgFault). AfterWhole r mark frame front x x a a) (sym e) bad
    ]

pub ended_sound : (b : Bool) (P : Content → Type 0) (fault : NgFault) (verdict result : Result Content NgFault) → result ≡ (if b then verdict else Err fault) → IfOk verdict P → IfOk result P
ended_sound true P fault verdict result is ok = subst (λ (r : Result Content NgFault). IfOk r P) (sym is) ok
ended_sound false P fault verdict result is ok = subst (λ (r : Result Content NgFault). IfOk r P) (sym is) tt

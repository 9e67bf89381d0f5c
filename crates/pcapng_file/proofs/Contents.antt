-- What reading a block's content leaves, by its kind.
use Rattle.std.proofs.Common.{◌≡◌, ℕ, ◌+◌, ◌-◌, ◌*◌, ◌^◌, ◌≤◌, List, ◌++◌, length, Result, Ok, Err, refl, ap, ◌∙◌, arith}
use Rattle.std.specs.Prelude.{slice_get, IfOk}
use Rattle.rtp_io.specs.Outside.{Disk}
use Rattle.pcap_file.specs.Numbers.{number_at}
use Rattle.pcapng_file.specs.declared.fault.NgFault.{NgFault}
use Rattle.pcapng_file.specs.declared.fault.NgFault.TheVariants.{Version}
use Rattle.pcapng_file.specs.declared.frame.Frame.{Frame}
use Rattle.pcapng_file.specs.declared.frame.Kind.TheVariants.{Section as OfSection, Packet as OfPacket, Simple as OfSimple, Other as OfOther}
use Rattle.pcapng_file.specs.declared.content.Content.{Content}
use Rattle.pcapng_file.specs.declared.content.Content.TheVariants.{Section, Interface, Packet, Other}
use Rattle.pcapng_file.specs.declared.packet.Plan.{Plan}
use Rattle.pcapng_file.specs.declared.pieces.Stop.{Stop}
use Rattle.pcapng_file.specs.Pieces.{TakesPart, AfterPart}
use Rattle.pcapng_file.specs.Blocks.{Mark, NewSection, Nothing, plan_in, simple_in, new_packet, meaning_of}
use Rattle.pcapng_file.specs.Reading.{verdict_view, CanFollow, IsPacket}
use Rattle.pcapng_file.proofs.Parts.{part_as, stop_then}
use Rattle.pcapng_file.proofs.Meanings.{version_new, version_bad, other_meaning, packet_part, simple_part}

pub section_new : (mark : Mark) (frame : Frame) (front : List ℕ) (major n : ℕ) (x y : List ℕ) (a b : Disk) → frame.kind ≡ OfSection → major ≡ 1 → TakesPart (λ taken. major ≡ number_at frame.order 2 12 (front ++ taken)) n x y a b
    → TakesPart (λ taken. Ok NewSection ≡ meaning_of mark frame (front ++ taken)) n x y a b
section_new mark frame front major n x y a b kind one part =
    part_as (λ taken. major ≡ number_at frame.order 2 12 (front ++ taken)) (λ taken. Ok NewSection ≡ meaning_of mark frame (front ++ taken)) n n x y a b part refl (λ p lp is. version_new mark frame (front ++ p) major kind is one)

pub section_bad : (mark : Mark) (frame : Frame) (front : List ℕ) (major n offset : ℕ) (x y : List ℕ) (a b : Disk) → frame.kind ≡ OfSection → (major ≡ 1 → ⊥) → offset ≡ mark.offset → TakesPart (λ taken. major ≡ number_at frame.order 2 12 (front ++ taken)) n x y a b
    → TakesPart (λ taken. Err (Version offset) ≡ meaning_of mark frame (front ++ taken)) n x y a b
section_bad mark frame front major n offset x y a b kind other at part =
    part_as (λ taken. major ≡ number_at frame.order 2 12 (front ++ taken)) (λ taken. Err (Version offset) ≡ meaning_of mark frame (front ++ taken)) n n x y a b part refl
    (λ p lp is. ap (λ (o : ℕ). Err (Version o)) at ∙ version_bad mark frame (front ++ p) major kind is other)

pub other_part : (mark : Mark) (frame : Frame) (front : List ℕ) (x y : List ℕ) (a b : Disk) → frame.kind ≡ OfOther → length front ≡ 12 → TakesPart (λ _. Unit {0}) (frame.total - 16) x y a b
    → TakesPart (λ taken. Ok Nothing ≡ meaning_of mark frame (front ++ taken)) (frame.total - 4 - length front) x y a b
other_part mark frame front x y a b kind long part =
    part_as (λ _. Unit {0}) (λ taken. Ok Nothing ≡ meaning_of mark frame (front ++ taken)) (frame.total - 16) (frame.total - 4 - length front) x y a b part (omega arith) (λ p lp _. other_meaning mark frame (front ++ p) kind)

pub packet_after : (mark : Mark) (frame : Frame) (front fields : List ℕ) (plan : Result Plan NgFault) (result : Result (Result Content NgFault) Stop) (x y z : List ℕ) (a b c : Disk) → frame.kind ≡ OfPacket → length front ≡ 12 → length fields ≡ 16 → 32 ≤ frame.total
    → plan ≡ plan_in mark.offset (frame.total - 32) (number_at frame.order 4 0 fields * 2 ^ 32 + number_at frame.order 4 4 fields) (number_at frame.order 4 8 fields) (number_at frame.order 4 12 fields) (slice_get mark.interfaces (number_at frame.order 4 8 front))
    → TakesPart (λ taken. taken ≡ fields) 16 x y a b → AfterPart (λ (said : Result Content NgFault) (taken : List ℕ). verdict_view said ≡ new_packet mark.offset taken plan) (frame.total - 32) result y z b c
    → AfterPart (λ (said : Result Content NgFault) (taken : List ℕ). verdict_view said ≡ meaning_of mark frame (front ++ taken)) (frame.total - 16) result x z a c
packet_after mark frame front fields plan (Ok said) x y z a b c kind long len least is first after = packet_part mark frame front fields plan (verdict_view said) x y z a b c kind long len least is first after
packet_after mark frame front fields plan (Err stop) x y z a b c kind long len least is first after = stop_then (λ taken. taken ≡ fields) stop 16 (frame.total - 32) (frame.total - 16) x y z a b c first after (omega arith)

pub simple_after : (mark : Mark) (frame : Frame) (front : List ℕ) (plan : Result Plan NgFault) (result : Result (Result Content NgFault) Stop) (x y : List ℕ) (a b : Disk) → frame.kind ≡ OfSimple → length front ≡ 12
    → plan ≡ simple_in mark.offset mark.stamp (frame.total - 16) (number_at frame.order 4 8 front) (slice_get mark.interfaces 0)
    → AfterPart (λ (said : Result Content NgFault) (taken : List ℕ). verdict_view said ≡ new_packet mark.offset taken plan) (frame.total - 16) result x y a b
    → AfterPart (λ (said : Result Content NgFault) (taken : List ℕ). verdict_view said ≡ meaning_of mark frame (front ++ taken)) (frame.total - 16) result x y a b
simple_after mark frame front plan (Ok said) x y a b kind long is after = simple_part mark frame front plan (verdict_view said) x y a b kind long is after
simple_after mark frame front plan (Err stop) x y a b kind long is after = after

sound_content : (mark : Mark) (content : Content) → IsPacket content → CanFollow mark content
sound_content mark Section is = tt
sound_content mark (Interface interface) is = absurd is
sound_content mark (Packet r) is = is
sound_content mark Other is = tt

pub sound_packet : (mark : Mark) (r : Result (Result Content NgFault) Stop) → IfOk r (λ said. IfOk said IsPacket) → IfOk r (λ said. IfOk said (CanFollow mark))
sound_packet mark (Ok (Ok content)) is = sound_content mark content is
sound_packet mark (Ok (Err fault)) is = tt
sound_packet mark (Err stop) is = tt

-- Laws of captures, for the crates above: a capture that was written is whole, and has the records that were written.
use Rattle.std.proofs.Common.{◌≡◌, ℕ, suc, ◌+◌, ◌%◌, ◌^◌, ◌≤◌, ◌<◌, List, [], ◌∷◌, ◌++◌, length, refl, ap, ◌∙◌, arith}
use Rattle.std.specs.Prelude.{All, None, IsTrue, Result}
use Rattle.std.proofs.lemmas.List.{length-append}
use Rattle.pcap_file.specs.declared.header.Format.{Format}
use Rattle.pcap_file.specs.declared.fault.CaptureFault.{CaptureFault}
use Rattle.pcap_file.specs.Capture.{Record, Capture, capture_of, is_link, records_from, behind_header, with_front}
use Rattle.pcap_file.specs.Writing.{Frame, IsWritable, written_header, written_format, written_fields, written_record, written_records, records_at}
use Rattle.pcap_file.proofs.Opening.{capture_behind}
use Rattle.pcap_file.proofs.Heads.{head_empty, records_end, records_behind}
use Rattle.pcap_file.proofs.Written.{format_written, record_written}

length_header : (link : ℕ) → length (written_header link) ≡ 24
length_header link = refl

length_record : (time : ℕ) (frame : List ℕ) → length (written_record time frame) ≡ 16 + length frame
length_record time frame =
    let front : length (written_fields time (length frame)) ≡ 16 = refl in
    length-append (written_fields time (length frame)) frame ∙ ap (λ (n : ℕ). n + length frame) front

pub records_written : (link count offset : ℕ) (frames : List Frame) → count + length frames ≤ 100000000 → All IsWritable frames
    → records_from (written_format link) count offset (written_records frames) ≡ record { records = records_at link offset frames; fault = None }
records_written link count offset [] few all = records_end (written_format link) count offset [] (head_empty (written_format link) count offset)
records_written link count offset (frame ∷ frames) few all =
    let r : Record = record { link = link % 65536; offset = offset; stamp = frame.time; original = length frame.bytes; bytes = frame.bytes } in
    let more = written_records frames in
    let here : IsWritable frame = all 0 frame (omega arith) in
    let behind : All IsWritable frames = λ k d lt. all (suc k) d (omega arith) in
    records_behind (written_format link) count offset (written_record frame.time frame.bytes) more r (length_record frame.time frame.bytes)
    (record_written frame.time frame.bytes here.early here.short link count offset more (omega arith))
    ∙ ap (λ (c : Capture). with_front (r ∷ []) c) (records_written link (count + 1) (offset + (16 + length frame.bytes)) frames (omega arith) behind)

pub capture_written : (link : ℕ) (frames : List Frame) → link < 2 ^ 32 → IsTrue (is_link (link % 65536)) → length frames ≤ 100000000 → All IsWritable frames
    → capture_of (written_header link ++ written_records frames) ≡ record { records = records_at link 24 frames; fault = None }
capture_written link frames lt known few all =
    capture_behind (written_header link) (written_records frames) (length_header link)
    ∙ ap (λ (f : Result Format CaptureFault). behind_header f (written_records frames)) (format_written link lt known) ∙ records_written link 0 24 frames (omega arith) all

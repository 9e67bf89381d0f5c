-- Captures as bytes.
use Rattle.std.specs.Prelude.{◌≡◌, ◌<◌, ◌≤◌, ℕ, ◌+◌, ◌*◌, ◌/◌, ◌%◌, ◌^◌, List, [], ◌∷◌, ◌++◌, length, replicate, true}
use Rattle.byteorder.specs.Endian.{little_bytes}
use Rattle.pcap_file.specs.declared.header.Format.{Format}
use Rattle.pcap_file.specs.declared.order.Order.TheVariants.{Little}
use Rattle.pcap_file.specs.Capture.{Record, AtRecord, head}

-- magic number, version 2.4, zone and precision 0, snap length and link type
abbrev pub written_header : ℕ → List ℕ
written_header link = little_bytes 4 0xa1b23c4d ++ little_bytes 2 2 ++ little_bytes 2 4 ++ replicate 8 0 ++ little_bytes 4 262144 ++ little_bytes 4 link

-- what such a header says
abbrev pub written_format : ℕ → Format
written_format link = record { order = Little; nanoseconds = true; link = link % 65536 }

-- seconds, nanoseconds, and the length twice
abbrev pub written_fields : ℕ → ℕ → List ℕ
written_fields time size = little_bytes 4 (time / 1000000000) ++ little_bytes 4 (time % 1000000000) ++ little_bytes 4 size ++ little_bytes 4 size

abbrev pub written_record : ℕ → List ℕ → List ℕ
written_record time frame = written_fields time (length frame) ++ frame

-- a frame that is to be written, with its time in nanoseconds
pub record Frame : Type 0 where
  pub time : ℕ
  pub bytes : List ℕ

pub record IsWritable (frame : Frame) : Type 0 where
  pub early : frame.time < 2 ^ 32 * 1000000000
  pub short : length frame.bytes ≤ 262144

-- records, one after the other
abbrev pub written_records : List Frame → List ℕ
written_records [] = []
written_records (frame ∷ frames) = written_record frame.time frame.bytes ++ written_records frames

-- the records that these are, from this offset on
abbrev pub records_at : ℕ → ℕ → List Frame → List Record
records_at link offset [] = []
records_at link offset (frame ∷ frames) =
    record { link = link % 65536; offset = offset; stamp = frame.time; original = length frame.bytes; bytes = frame.bytes } ∷ records_at link (offset + (16 + length frame.bytes)) frames

-- At any place of a capture with nanoseconds, with anything behind them, these bytes are the record of this frame.
abbrev pub ReadsBack : ℕ → List ℕ → List ℕ → Type 0
ReadsBack time frame bytes =
    (link count offset : ℕ) (more : List ℕ) → count < 100000000
    → head (written_format link) count offset (bytes ++ more) ≡ AtRecord (record { link = link % 65536; offset = offset; stamp = time; original = length frame; bytes = frame })

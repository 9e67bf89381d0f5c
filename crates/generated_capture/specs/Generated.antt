-- The records of the capture, and the script.
use Rattle.std.specs.Prelude.{ℕ, ◌+◌, ◌*◌, ◌/◌, ◌%◌, ◌^◌, Bool, true, false}
use Rattle.std.specs.Prelude.{List, [], ◌∷◌, ◌++◌, map, replicate, None}
use Rattle.byteorder.specs.Endian.{big_bytes}
use Rattle.rtp_units.specs.declared.shared.Mode.TheVariants.{Slave}
use Rattle.rtp_wire.specs.Packet.{Packet}
use Rattle.rtp_wire.specs.Written.{spelling}
use Rattle.pcap_file.specs.Capture.{Record}
use Rattle.pcap_file.specs.Writing.{Frame, records_at}
use Rattle.script_lang.specs.Contents.{Contents}
use Rattle.loopback_frame.specs.Frames.{frame_of}
use Rattle.generated_capture.specs.declared.delivery.Delivery.{Delivery}
use Rattle.generated_capture.specs.Deliveries.{deliveries, millisecond}

-- ---- the packets; the series begins with this number

abbrev pub number_of : ℕ → ℕ → ℕ
number_of first i = (first + i) % 65536

abbrev pub payload_of : ℕ → ℕ → List ℕ
payload_of first i = replicate 100 ((first + i) % 256)

-- a packet of RTP with no marker, CSRCs, extension or padding
abbrev pub plain_packet : ℕ → ℕ → ℕ → ℕ → List ℕ → Packet
plain_packet pt seq timestamp ssrc payload = record {
  marker = false;
  pt = pt;
  seq = seq;
  timestamp = timestamp;
  ssrc = ssrc;
  csrcs = [];
  extension = None;
  payload = payload;
  padding = 0;
  bytes = [];
}

-- A retransmission (RFC 4588) has the original number in front of the payload. One packet in 200
-- has one, and these are numbered from 0.
abbrev pub packet_of : ℕ → Bool → ℕ → Packet
packet_of first true i =
    plain_packet 97 (i / 200 % 65536) (90 * i % 2 ^ 32) 0x87654321
    (big_bytes 2 (number_of first i) ++ payload_of first i)
packet_of first false i =
    plain_packet 96 (number_of first i) (90 * i % 2 ^ 32) 0x12345678 (payload_of first i)

abbrev pub frame_in : ℕ → Delivery → Frame
frame_in first d = record {
  time = d.time;
  bytes = frame_of 5004 (spelling (packet_of first d.is_retransmission d.index));
}

-- the records of the capture, in a file of raw IP packets
abbrev pub generated : ℕ → ℕ → List Record
generated first count = records_at 101 24 (map (frame_in first) (deliveries count))

-- ---- the script

abbrev pub generator_script : Contents
generator_script = record {
  sessions = record { session = 0; rtp = 5004; rtcp = 5005 } ∷ [];
  pts = record { session = 0; pt = 96; rate = 90000 } ∷ [];
  rtx = record { session = 0; pt = 97; osession = 0; apt = 96 } ∷ [];
  fids = record { session = 0; ssrc = 0x12345678; rtx_ssrc = 0x87654321 } ∷ [];
  items = [];
  settings = record {
    latency = 100 * millisecond;
    mode = Slave;
    rtx = true;
    rtx_delay = 20 * millisecond;
    rtx_retry = 40 * millisecond;
    rtx_max = 3;
    reorder = 3;
    dropout = 3000;
    misorder = 100;
    probation = 0;
    faststart = 0;
    report = 0;
    timeout = 25000 * millisecond;
    history = 256;
    ssrc = 1;
  };
}

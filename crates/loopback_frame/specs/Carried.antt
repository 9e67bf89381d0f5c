-- What a reader of captures finds in a frame.
use Rattle.std.specs.Prelude.{◌≡◌, ◌<◌, ◌≤◌, ◌^◌, ℕ, List, length, Ok}
use Rattle.pcap_file.specs.Capture.{Record}
use Rattle.pcap_file.specs.Datagrams.{Sent, address, widened, datagram_of}
use Rattle.loopback_frame.specs.Frames.{loopback, frame_of}

-- raw IP, as pcap numbers link types
abbrev pub raw_ip : ℕ
raw_ip = 101

-- the whole frame, in a record
abbrev pub carrier : ℕ → ℕ → List ℕ → Record
carrier offset stamp frame = record {
  link = raw_ip;
  offset = offset;
  stamp = stamp;
  original = length frame;
  bytes = frame;
}

-- from a port of 127.0.0.1 to the same one
abbrev pub sent_between : ℕ → List ℕ → Sent
sent_between port payload = record {
  from = address 4 (widened loopback) port;
  to = address 4 (widened loopback) port;
  payload = payload;
}

abbrev pub AreCarried : Type 0
AreCarried =
    (offset stamp port : ℕ) (payload : List ℕ) → port < 2 ^ 16 → length payload ≤ 9216
    → datagram_of (carrier offset stamp (frame_of port payload))
    ≡ Ok (sent_between port payload)

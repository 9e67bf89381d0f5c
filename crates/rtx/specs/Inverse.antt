-- Restoring gives back what was sent.
use Rattle.std.specs.Prelude.{◌≡◌, ◌<◌, ◌^◌, ℕ, List, length, filter, Some, Ok}
use Rattle.rtp_wire.specs.Packet.{Packet}
use Rattle.rtx.specs.declared.receiver.Original.{Original}
use Rattle.rtx.specs.declared.outlet.Outlet.{Outlet}
use Rattle.rtx.specs.Pairs.{carries, has_retransmission}
use Rattle.rtx.specs.Restoring.{Receiving, found, restored_packet}
use Rattle.rtx.specs.Sending.{Setting, retransmission_packet}
use Rattle.rtx.specs.Answering.{Call, sought}

-- a packet without padding, in other bytes
abbrev pub without_padding : Packet → List ℕ → Packet
without_padding p bytes = record p { padding = 0; bytes = bytes }

-- One line makes this a type of retransmissions, and where it repeats its own session, one pair has the retransmission stream.
pub record IsOnly (s : Setting) (session : ℕ) (o : Outlet) : Type 0 where
  pub line : length (filter (carries o.session o.pt) s.lines) ≡ 1
  pub pair : o.session ≡ session → length (filter (has_retransmission o.session o.ssrc) s.fids) ≡ 1

-- Where a request for a number of a stream is answered by a retransmission of p at the outlet o, with any own number, a
-- receiver with the same map finds in it the stream and the number that were asked for, and restores p without its padding.
abbrev pub IsInverse : Type 0
IsInverse =
    (s : Setting) (calls : List Call) (session ssrc seq : ℕ) (p : Packet) (o : Outlet) (number : ℕ) (sent bytes : List ℕ) (r : Receiving)
    → seq < 2 ^ 16 → sought s calls session ssrc seq ≡ Some (p, o) → IsOnly s session o → r.setting.lines ≡ s.lines → r.setting.fids ≡ s.fids
    → (x : Original) × (found r o.session (retransmission_packet o number p sent) ≡ Ok x) × (x.session ≡ session) × (x.ssrc ≡ ssrc) × (x.seq ≡ seq)
    × (restored_packet x (retransmission_packet o number p sent) bytes ≡ without_padding p bytes)

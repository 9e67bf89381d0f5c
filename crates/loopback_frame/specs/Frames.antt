-- IPv4 packets that carry a UDP datagram from the own host to itself.
use Rattle.std.specs.Prelude.{ℕ, ◌+◌, List, [], ◌∷◌, ◌++◌, length}
use Rattle.byteorder.specs.Endian.{big_bytes}

-- 127.0.0.1
abbrev pub loopback : List ℕ
loopback = 127 ∷ 0 ∷ 0 ∷ 1 ∷ []

-- version 4 with five words and no type of service, the total length, identification 0, no flags
-- and no offset, 64 hops to live, UDP, checksum 0, source and destination
abbrev pub ipv4_header : ℕ → List ℕ
ipv4_header size =
    (0x45 ∷ 0 ∷ []) ++ big_bytes 2 (20 + size) ++ (0 ∷ 0 ∷ 0 ∷ 0 ∷ 64 ∷ 17 ∷ 0 ∷ 0 ∷ [])
    ++ loopback ++ loopback

-- source port, destination port, length and checksum 0
abbrev pub udp_header : ℕ → ℕ → List ℕ
udp_header port size =
    big_bytes 2 port ++ big_bytes 2 port ++ big_bytes 2 (8 + size) ++ (0 ∷ 0 ∷ [])

-- from this port to the same one
abbrev pub frame_of : ℕ → List ℕ → List ℕ
frame_of port payload =
    ipv4_header (8 + length payload) ++ udp_header port (length payload) ++ payload

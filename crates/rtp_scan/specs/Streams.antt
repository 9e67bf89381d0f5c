-- The streams of a capture: packets by destination port and SSRC.
use Rattle.std.specs.Prelude.{ℕ, ◌+◌, ◌-◌, ◌%◌, ◌^◌, ◌==◌, ◌&&◌, ◌||◌, nat_eq, nat_lt, nat_le, min}
use Rattle.std.specs.Prelude.{Bool, false, if◌then◌else◌, List, [], ◌∷◌, length, map, filter}
use Rattle.std.specs.Prelude.{Option, Some, None, is_some}
use Rattle.std.specs.Map.{lookup}
use Rattle.indexmap.specs.IndexMap.{insert_entry}
use Rattle.indexmap.specs.IndexSet.{insert_key}
use Rattle.rtp_scan.specs.declared.sight.Arrival.{Arrival}
use Rattle.rtp_scan.specs.declared.sight.Sight.{Sight}
use Rattle.rtp_scan.specs.declared.stream.Stream.{Stream}
use Rattle.rtp_scan.specs.Sights.{arrivals_of, compounds_of}

-- ---- the packets of each pair of port and SSRC

abbrev pub Key : Type 0
Key = ℕ × ℕ

abbrev pub is_key : Key → Key → Bool
is_key a b = nat_eq a.0 b.0 && nat_eq a.1 b.1

abbrev pub key_of : Arrival → Key
key_of a = (a.port, a.ssrc)

-- packets of one pair: the latest one, and those before it, the later ones first
abbrev pub Packets : Type 0
Packets = Arrival × List Arrival

abbrev pub Group : Type 0
Group = Key × Packets

-- a packet behind those of its pair
abbrev pub behind : Arrival → Option Packets → Packets
behind a None = (a, [])
behind a (Some packets) = (a, packets.0 ∷ packets.1)

-- the most pairs that are looked at
abbrev pub max_streams : ℕ
max_streams = 1024

-- there is place for this pair: it is known, or there are fewer than the most
abbrev pub has_place : {A : Type 0} → List (Key × A) → Key → Bool
has_place known key = is_some (lookup (is_key key) known) || nat_lt (length known) max_streams

abbrev pub grouped : List Group → Arrival → List Group
grouped groups a =
    if has_place groups (key_of a)
    then insert_entry is_key groups (key_of a) (behind a (lookup (is_key (key_of a)) groups))
    else groups

-- The packets of the first pairs in order of first sight. The latest packet stands first.
unfoldable pub groups_of : List Arrival → List Group
groups_of [] = []
groups_of (a ∷ before) = grouped (groups_of before) a

-- how many of them are of other pairs
unfoldable pub left_out_of : List Arrival → ℕ
left_out_of [] = 0
left_out_of (a ∷ before) =
    left_out_of before + (if has_place (groups_of before) (key_of a) then 0 else 1)

-- ---- what is told of a pair's packets

-- the number of the second comes right behind that of the first
abbrev pub follows : Arrival → Arrival → Bool
follows a b = (a.seq + 1) % 65536 == b.seq

-- a packet came right behind the one before it, where these came, the later ones first
abbrev pub are_consecutive : Arrival → List Arrival → Bool
are_consecutive latest [] = false
are_consecutive latest (a ∷ before) = are_consecutive a before || follows a latest

abbrev pub first_of : Arrival → List Arrival → Arrival
first_of latest [] = latest
first_of latest (a ∷ before) = first_of a before

-- A count ends at 2^64 - 1.
abbrev pub count_of : List Arrival → ℕ
count_of arrivals = min (length arrivals) (2 ^ 64 - 1)

unfoldable pub told_of : Packets → Stream
told_of packets = record {
  packets = count_of (packets.0 ∷ packets.1);
  first = first_of packets.0 packets.1;
  latest = packets.0;
  consecutive = are_consecutive packets.0 packets.1;
}

abbrev pub told_group : Group → Key × Stream
told_group g = (g.0, told_of g.1)

-- ---- what a scan found

abbrev pub ports_of : List ℕ → List ℕ
ports_of [] = []
ports_of (port ∷ before) = insert_key nat_eq (ports_of before) port

-- pairs with what is told of their packets, ports that compounds came to, and the count of packets
-- that were left out
pub record Found : Type 0 where
  pub streams : List (Key × Stream)
  pub ports : List ℕ
  pub left_out : ℕ

unfoldable pub found_in : List Sight → Found
found_in sights = record {
  streams = map told_group (groups_of (arrivals_of sights));
  ports = ports_of (compounds_of sights);
  left_out = left_out_of (arrivals_of sights);
}

-- A stream has three packets or more, and one of them came right behind the one before it. Its port
-- may stand in a script.
abbrev pub is_stream : Stream → Bool
is_stream s = nat_le 3 s.packets && s.consecutive && nat_le 1 s.first.port

-- the streams in order of first sight
abbrev pub streams_in : Found → List Stream
streams_in found = filter is_stream (map (λ e. e.1) found.streams)

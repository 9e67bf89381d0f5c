-- What one sight more changes.
use Rattle.std.specs.Prelude.{ℕ, ◌+◌, ◌-◌, ◌^◌, ◌||◌, nat_eq, min, false, if◌then◌else◌, List}
use Rattle.std.specs.Prelude.{Option, Some, None}
use Rattle.std.specs.Map.{lookup}
use Rattle.indexmap.specs.IndexMap.{insert_entry}
use Rattle.indexmap.specs.IndexSet.{insert_key}
use Rattle.rtp_scan.specs.declared.sight.Arrival.{Arrival}
use Rattle.rtp_scan.specs.declared.sight.Sight.{Sight}
use Rattle.rtp_scan.specs.declared.sight.Sight.TheVariants as sight
use Rattle.rtp_scan.specs.declared.stream.Stream.{Stream}
use Rattle.rtp_scan.specs.Streams.{Key, Found, is_key, key_of, has_place, follows}

abbrev pub told_next : Option Stream → Arrival → Stream
told_next None a = record { packets = 1; first = a; latest = a; consecutive = false }
told_next (Some s) a = record {
  packets = min (s.packets + 1) (2 ^ 64 - 1);
  first = s.first;
  latest = a;
  consecutive = s.consecutive || follows s.latest a;
}

abbrev pub with_arrival : Found → Arrival → Found
with_arrival found a =
    if has_place found.streams (key_of a)
    then record found {
      streams = insert_entry is_key found.streams (key_of a)
          (told_next (lookup (is_key (key_of a)) found.streams) a);
    }
    else record found { left_out = found.left_out + 1 }

abbrev pub with_sight : Found → Sight → Found
with_sight found (sight.Rtp a) = with_arrival found a
with_sight found (sight.Compound port) =
    record found { ports = insert_key nat_eq found.ports port }
with_sight found sight.Nothing = found

-- The records that a replay takes.
use Rattle.std.specs.Prelude.{◌<◌, ◌≤◌, ◌^◌, List, length, All}
use Rattle.rtp_io.specs.Outside.{AreBytes}
use Rattle.pcap_file.specs.Capture.{Record}

-- a record of bytes, whose stamp is in the first 2^63 nanoseconds
pub record IsStamped (r : Record) : Type 0 where
  pub early : r.stamp < 2 ^ 63
  pub bytes : AreBytes r.bytes

-- such records, and no more of them than a capture has at most
pub record AreStamped (rs : List Record) : Type 0 where
  pub few : length rs ≤ 100000000
  pub each : All IsStamped rs

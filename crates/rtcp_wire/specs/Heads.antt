-- What the tests of a header leave known.
use Rattle.std.specs.Prelude.{◌≤◌, ℕ, ◌+◌, List, length}
use Rattle.rtcp_wire.specs.Compound.{size_of, padding_of}

-- The packet that these bytes begin with is there, and its padding lies in its body.
pub record HasHeader (bytes : List ℕ) : Type 0 where
  pub long : 4 ≤ length bytes
  pub whole : size_of bytes ≤ length bytes
  pub padding : 4 + padding_of bytes ≤ size_of bytes

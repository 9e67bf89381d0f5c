-- How much of a capture was taken where its lines could not all be written.
use Rattle.std.specs.Prelude.{◌≤◌, ◌+◌, ℕ, List, ◌++◌, length, take, Option}
use Rattle.rtp_io.specs.declared.pull.TheConstants.{PULL_BYTES}
use Rattle.rtp_io.specs.Outside.{Adds}
use Rattle.capture_file.specs.Capture.{capture_of, end_of}
use Rattle.command_core.specs.Output.{Output}

-- These bytes were added, and perhaps more behind them.
abbrev pub AddsMore : List ℕ → Option (List ℕ) → Option (List ℕ) → Type 0
AddsMore bytes old new = (more : List ℕ) × Adds (bytes ++ more) old new

-- If what goes out for the first n records of a file was not all written, what was taken of the
-- file passes their end by what the buffer in front of it holds, at most.
abbrev pub TakesFew : Output → List ℕ → List ℕ → Option (List ℕ) → Option (List ℕ) → Type 0
TakesFew output bytes taken old new =
    (n : ℕ) → ¬ (AddsMore (output.part (take n (capture_of bytes).records)) old new)
    → length taken ≤ end_of bytes n + PULL_BYTES

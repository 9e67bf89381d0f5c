-- What goes out for the records of a capture.
use Rattle.std.specs.Prelude.{◌≡◌, ℕ, List, [], ◌++◌, Option, Some, None}
use Rattle.pcap_file.specs.Capture.{Record}
use Rattle.capture_file.specs.declared.fault.FileFault.{FileFault}
use Rattle.capture_file.specs.Capture.{Capture}

-- The bytes for these records, where more may come, and where these are all.
pub record Output : Type 0 where
  pub part : List Record → List ℕ
  pub whole : List Record → List ℕ

abbrev pub output_from : Output → List Record → Option FileFault → List ℕ
output_from output seen None = output.whole seen
output_from output seen (Some fault) = output.part seen

-- of a whole capture: all, or the part before its fault
abbrev pub output_of : Output → Capture → List ℕ
output_of output capture = output_from output capture.records capture.fault

-- the first list begins the second
pub record Starts (xs ys : List ℕ) : Type 0 where
  pub more : List ℕ
  pub is : ys ≡ xs ++ more

-- What goes out for some records begins what goes out for them and more.
pub record GoesOn (output : Output) : Type 0 where
  pub none : output.part [] ≡ []
  pub part : (seen more : List Record) → Starts (output.part seen) (output.part (seen ++ more))
  pub whole : (seen more : List Record) → Starts (output.part seen) (output.whole (seen ++ more))

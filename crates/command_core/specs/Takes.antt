-- What a command does with a record, and at the end.
use Rattle.std.specs.Prelude.{◌≡◌, ℕ, List, [], ◌∷◌, ◌++◌, Option, Result, Ok, Err}
use Rattle.rtp_io.specs.Outside.{Adds, AddsFront}
use Rattle.pcap_file.specs.Capture.{Record}
use Rattle.timeline.specs.Times.{time_after}
use Rattle.command_core.specs.declared.stop.Stop.{Stop}
use Rattle.command_core.specs.Output.{Output}
use Rattle.command_core.specs.Steps.{Writes}

-- A command stands for these records, and all that goes out for them was written.
pub record Wrote (part : List Record → List ℕ) (Stands : List Record → Type 0)
    (seen : List Record) (old new : Option (List ℕ)) : Type 0 where
  pub stands : Stands seen
  pub written : Adds (part seen) old new

-- A record came at this time. Before is what stood for the records up to it, After what stands
-- then; what was written for it goes from one content of the output to the other.
abbrev pub Takes : Result (Unit {0}) Stop → (List Record → List ℕ) → ℕ → Record
    → (List Record → Type 0) → (List Record → Type 0)
    → Option (List ℕ) → Option (List ℕ) → Type 0
Takes (Ok x) part time r Before After old new =
    (seen : List Record) (start : Option (List ℕ))
    → time ≡ time_after (seen ++ r ∷ []) → Wrote part Before seen start old
    → Wrote part After (seen ++ r ∷ []) start new
Takes (Err why) part time r Before After old new =
    (seen : List Record) (start : Option (List ℕ))
    → time ≡ time_after (seen ++ r ∷ []) → Wrote part Before seen start old
    → AddsFront (part (seen ++ r ∷ [])) start new

-- the end came
abbrev pub Finishes : Result (Unit {0}) Stop → Output → (List Record → Type 0)
    → Option (List ℕ) → Option (List ℕ) → Type 0
Finishes result output Stands old new =
    (seen : List Record) (start : Option (List ℕ)) → Wrote output.part Stands seen start old
    → Writes result (output.whole seen) start new

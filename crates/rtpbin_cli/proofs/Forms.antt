-- Words of a form never end with Usage.
use Rattle.std.proofs.Common.{◌≡◌, ◌≢◌, ℕ, List, Result, Ok, Err, Option, Some, refl}
use Rattle.command_core.specs.declared.stop.Stop.{Stop}
use Rattle.command_core.specs.declared.stop.Stop.TheVariants as stop
use Rattle.rtpbin_cli.specs.Words.{Form}
use Rattle.command_core.specs.declared.status.Status.{Status}
use Rattle.command_core.specs.declared.status.Status.TheVariants as status
use Rattle.rtp_io.specs.Outside.{Disk}
use Rattle.command_core.specs.Output.{Output}
use Rattle.command_core.specs.Steps.{Covers, HasStopCause, Prints}
use Rattle.sdp_command.specs.declared.failure.Failure.{Failure}
use Rattle.sdp_command.specs.declared.failure.Failure.TheVariants.{Stopped, Description}
use Rattle.sdp_command.specs.Failures.{as_failure, HasFailureCause}
use Rattle.sdp_command.specs.Reading.{ReadsDescribed}
use Rattle.rtpbin_cli.specs.Words.{Described}
use Rattle.rtpbin_cli.specs.Steps.{IsOfForm, IsUsage, Reports}

pub no_usage : (r : Result (Unit {0}) Stop) (form : Option Form) (f : Form) → Some f ≡ form → IsOfForm r → IsUsage (as_failure r) form
no_usage (Ok x) form f e other = λ none. cc
no_usage (Err stop.Usage) form f e other = absurd other
no_usage (Err (stop.Script line why)) form f e other = λ none. cc
no_usage (Err stop.Read) form f e other = λ none. cc
no_usage (Err (stop.Capture fault)) form f e other = λ none. cc
no_usage (Err stop.Write) form f e other = λ none. cc
no_usage (Err stop.Memory) form f e other = λ none. cc

-- nor do descriptions that were refused
pub described_no_usage : (why : Failure) (capture sdp times : List ℕ) (before after : Disk) → ReadsDescribed (Err why) sdp times before after → IsUsage (Err why) (Some (Described capture sdp times))
described_no_usage (Description line cause) capture sdp times before after reads = tt
described_no_usage (Stopped stop.Usage) capture sdp times before after reads = absurd reads
described_no_usage (Stopped (stop.Script line why)) capture sdp times before after reads = λ none. cc
described_no_usage (Stopped stop.Read) capture sdp times before after reads = λ none. cc
described_no_usage (Stopped (stop.Capture fault)) capture sdp times before after reads = absurd reads
described_no_usage (Stopped stop.Write) capture sdp times before after reads = absurd reads
described_no_usage (Stopped stop.Memory) capture sdp times before after reads = λ none. cc

pub covers_of_form : (output : Output) (r : Result (Unit {0}) Stop) (before after : Disk) (old new : Option (List ℕ)) → Covers output r before after old new → IsOfForm r
covers_of_form output (Ok x) before after old new h = tt
covers_of_form output (Err stop.Usage) before after old new h = absurd h
covers_of_form output (Err (stop.Script line why)) before after old new h = tt
covers_of_form output (Err stop.Read) before after old new h = tt
covers_of_form output (Err (stop.Capture fault)) before after old new h = tt
covers_of_form output (Err stop.Write) before after old new h = tt
covers_of_form output (Err stop.Memory) before after old new h = tt

-- a run that reads no description, as any
pub cause_any : (r : Result (Unit {0}) Stop) (f f' o o' : ℕ) → HasStopCause r f f' o o' → HasFailureCause (as_failure r) f f' o o'
cause_any (Ok x) f f' o o' cause = cause
cause_any (Err why) f f' o o' cause = cause

-- where a run stopped and its status isn't Write, no write of the output failed
pub taken : (s : Failure) (r : Status) (old new : Option (List ℕ)) (e e' f f' o o' : ℕ) → HasFailureCause {A = Unit {0}} (Err s) f f' o o' → Reports r s old new e e' → r ≢ status.Write → o' ≡ o
taken (Description line why) r old new e e' f f' o o' cause told other = cause.1
taken (Stopped stop.Usage) r old new e e' f f' o o' cause told other = cause.1
taken (Stopped (stop.Script line why)) r old new e e' f f' o o' cause told other = cause.1
taken (Stopped stop.Read) r old new e e' f f' o o' cause told other = cause.1
taken (Stopped (stop.Capture fault)) r old new e e' f f' o o' cause told other = cause.1
taken (Stopped stop.Write) r old new e e' f f' o o' cause told other = absurd (other told.0)
taken (Stopped stop.Memory) r old new e e' f f' o o' cause told other = cause.1

-- ---- one piece

pub prints_of_form : (bytes : List ℕ) (result : Result (Unit {0}) Stop) (old new : Option (List ℕ)) (o o' : ℕ) → Prints bytes result old new o o' → IsOfForm result
prints_of_form bytes (Ok x) old new o o' h = tt
prints_of_form bytes (Err stop.Write) old new o o' h = tt
prints_of_form bytes (Err stop.Memory) old new o o' h = tt
prints_of_form bytes (Err stop.Usage) old new o o' h = absurd h
prints_of_form bytes (Err (stop.Script line cause)) old new o o' h = absurd h
prints_of_form bytes (Err stop.Read) old new o o' h = absurd h
prints_of_form bytes (Err (stop.Capture fault)) old new o o' h = absurd h

pub prints_stop : (bytes : List ℕ) (result : Result (Unit {0}) Stop) (old new : Option (List ℕ)) (f o o' : ℕ) → Prints bytes result old new o o' → HasStopCause result f f o o'
prints_stop bytes (Ok x) old new f o o' h = (refl, h.1)
prints_stop bytes (Err stop.Write) old new f o o' h = (refl, h.1)
prints_stop bytes (Err stop.Memory) old new f o o' h = (refl, h.1)
prints_stop bytes (Err stop.Usage) old new f o o' h = absurd h
prints_stop bytes (Err (stop.Script line cause)) old new f o o' h = absurd h
prints_stop bytes (Err stop.Read) old new f o o' h = absurd h
prints_stop bytes (Err (stop.Capture fault)) old new f o o' h = absurd h

-- A run up to the text of its end.
use Rattle.std.proofs.Common.{◌≡◌, ◌≢◌, ℕ, Bool, List, [], Option, Some, None, Result, Ok, Err}
use Rattle.std.proofs.Common.{IsTrue, refl, sym, ap, subst, ◌∙◌}
use Rattle.rtp_io.specs.Outside.{Disk, SameDisk, IsOpened, Adds, AddsFront}
use Rattle.rtp_io.specs.Laws.{told_then, adds_none}
use Rattle.capture_file.specs.Capture.{Capture, capture_of}
use Rattle.command_core.specs.declared.stop.Stop.{Stop}
use Rattle.command_core.specs.declared.stop.Stop.TheVariants as stop
use Rattle.command_core.specs.declared.status.Status.{Status}
use Rattle.command_core.specs.declared.status.Status.TheVariants as status
use Rattle.command_core.specs.Output.{Output, output_of}
use Rattle.command_core.specs.Steps.{Covers, HasStopCause}
use Rattle.rtpscan_cli.specs.Words.{Form}
use Rattle.rtpscan_cli.specs.Scanned.{scan_output}
use Rattle.rtpscan_cli.specs.Outcome.{Wanted, Written, wanted, out_of, stop_of, stop_from}
use Rattle.rtpscan_cli.specs.Steps.{IsUsage, Runs, ReportsStop}

pub covers_no_usage : (output : Output) (r : Result (Unit {0}) Stop) (form : Option Form) (f : Form)
    (before after : Disk) (old new : Option (List ℕ)) → Some f ≡ form
    → Covers output r before after old new → IsUsage r form
covers_no_usage output (Ok x) form f before after old new e h = λ none. cc
covers_no_usage output (Err stop.Usage) form f before after old new e h = absurd h
covers_no_usage output (Err (stop.Script line why)) form f before after old new e h = λ none. cc
covers_no_usage output (Err stop.Read) form f before after old new e h = λ none. cc
covers_no_usage output (Err (stop.Capture fault)) form f before after old new e h = λ none. cc
covers_no_usage output (Err stop.Write) form f before after old new e h = λ none. cc
covers_no_usage output (Err stop.Memory) form f before after old new e h = λ none. cc

pub read_no_usage : (form : Option Form) (f : Form) → Some f ≡ form → IsUsage (Err stop.Read) form
read_no_usage form f e = λ none. cc

-- what goes out for the capture that was opened
runs_at : (output : Output) (capture : Capture) (result : Result (Unit {0}) Stop)
    (start after : Disk) (old new : Option (List ℕ)) → ((c : Capture) → output.part c.records ≡ [])
    → IsTrue start.told → capture ≡ capture_of start.left
    → Covers output result start after old new → Runs result (Written output capture) old new
runs_at output capture (Ok x) start after old new none told is h =
    subst (λ (c : Capture). (stop_of (Written output c) ≡ None) × Adds (output_of output c) old new)
    (sym is) (ap stop_from (h told).0, (h told).1)
runs_at output capture (Err (stop.Capture fault)) start after old new none told is h =
    subst (λ (c : Capture). (stop_of (Written output c) ≡ Some (stop.Capture fault)) × Adds
    (output_of output c) old new) (sym is) (ap stop_from (h told).0, (h told).1)
runs_at output capture (Err stop.Read) start after old new none told is h =
    let g = h told in subst (λ (l : List ℕ). Adds l old new) (none (capture_of g.given)) g.written
runs_at output capture (Err stop.Write) start after old new none told is h =
    subst (λ (c : Capture). AddsFront (output_of output c) old new) (sym is) (h told).0
runs_at output capture (Err stop.Memory) start after old new none told is h =
    subst (λ (c : Capture). AddsFront (output_of output c) old new) (sym is) (h told)
runs_at output capture (Err stop.Usage) start after old new none told is h = absurd h
runs_at output capture (Err (stop.Script line cause)) start after old new none told is h = absurd h

pub capture_runs : (f : Form) (form : Option Form) (result : Result (Unit {0}) Stop)
    (before start after : Disk) (old new : Option (List ℕ)) → Some f ≡ form → IsTrue before.told
    → SameDisk before start → IsOpened f.capture start
    → Covers (scan_output f.script_only) result start after old new
    → Runs result (wanted before.contents form) old new
capture_runs f form result before start after old new e told same opened covers =
    let left : capture_of (before.contents f.capture) ≡ capture_of start.left =
    ap capture_of (sym (opened.all ∙ ap (λ (g : List ℕ → List ℕ). g f.capture) same.contents))
    in
    subst (λ (o : Option Form). Runs result (wanted before.contents o) old new) e
    (runs_at (scan_output f.script_only) (capture_of (before.contents f.capture)) result start after
    old new (λ c. refl) (told_then before start same told) left covers)

-- where a run stopped and its status isn't Write, no write of the output failed
pub taken : (s : Stop) (r : Status) (old new : Option (List ℕ)) (e e' f f' o o' : ℕ)
    → HasStopCause {A = Unit {0}} (Err s) f f' o o' → ReportsStop r s old new e e' → r ≢ status.Write
    → o' ≡ o
taken stop.Usage r old new e e' f f' o o' cause told other = cause.1
taken (stop.Script line why) r old new e e' f f' o o' cause told other = cause.1
taken stop.Read r old new e e' f f' o o' cause told other = cause.1
taken (stop.Capture fault) r old new e e' f f' o o' cause told other = cause.1
taken stop.Write r old new e e' f f' o o' cause told other = absurd (other told.0)
taken stop.Memory r old new e e' f f' o o' cause told other = cause.1

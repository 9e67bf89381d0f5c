-- A run by its parts: the script, the capture, the lanes, the text.
use Rattle.std.proofs.Common.{◌≡◌, ◌≢◌, ◌<◌, ℕ, Bool, List, [], Option, Some, None, Result, Ok, Err}
use Rattle.std.proofs.Common.{IsTrue, refl, sym, ap, subst, ◌∙◌, arith, inl, inr}
use Rattle.rtp_io.specs.Outside.{Disk, SameDisk, Adds, AddsFront}
use Rattle.rtp_io.specs.Laws.{adds_none}
use Rattle.pcap_file.specs.Capture.{Record}
use Rattle.capture_file.specs.Capture.{Capture, capture_of}
use Rattle.script_lang.specs.Contents.{Contents}
use Rattle.script_lang.specs.declared.fault.ScriptFault.{ScriptFault}
use Rattle.script_lang.specs.Grammar.{read_script}
use Rattle.command_core.specs.declared.stop.Stop.{Stop}
use Rattle.command_core.specs.declared.stop.Stop.TheVariants as stop
use Rattle.command_core.specs.Steps.{HasStopCause, Prints, ReadsScript}
use Rattle.live_bin.specs.declared.course.Course.{Course}
use Rattle.live_bin.specs.declared.history.LaneHistory.{LaneHistory}
use Rattle.live_bin.specs.declared.plan.Plan.{Plan}
use Rattle.live_plan.specs.Planned.{IsPlanOf}
use Rattle.live_run.specs.Histories.{AreWhole}
use Rattle.live_output.specs.Text.{live_text}
use Rattle.live_command.specs.declared.stop.LiveStop.{LiveStop}
use Rattle.live_command.specs.declared.stop.LiveStop.TheVariants.{Common, TooMany, MixedLinks}
use Rattle.live_cli.specs.Histories.{IsLiveText}
use Rattle.live_command.specs.Loaded.{ReadsPlan}
use Rattle.live_command.specs.Refusals.{capture_stop}
use Rattle.live_command.specs.Stops.{HasLiveCause}
use Rattle.live_cli.specs.Words.{Form}
use Rattle.live_cli.specs.Outcome.{Wanted, Histories, WroteText, WroteSome, IsText}
use Rattle.live_cli.specs.Outcome.{want_from, want_by, wanted_of, stop_of}
use Rattle.live_cli.specs.Steps.{Runs, RunsSilently, IsOfForm, IsUsage}

-- ---- words of a form

pub no_usage : (r : Result (Unit {0}) LiveStop) (form : Option Form) → form ≢ None → IsOfForm r
    → IsUsage r form
no_usage (Ok x) form some other = some
no_usage (Err (Common stop.Usage)) form some other = absurd other
no_usage (Err (Common (stop.Script line cause))) form some other = some
no_usage (Err (Common stop.Read)) form some other = some
no_usage (Err (Common (stop.Capture fault))) form some other = some
no_usage (Err (Common stop.Write)) form some other = some
no_usage (Err (Common stop.Memory)) form some other = some
no_usage (Err (TooMany offset)) form some other = some
no_usage (Err (MixedLinks offset)) form some other = some

-- ---- the script

pub script_stops : (form : Form) (why : Stop) (before after : Disk) (a : Option (List ℕ))
    → ReadsScript (Err why) form.script before after → IsTrue before.told
    → Runs (Err (Common why)) (wanted_of before.contents form) a a
script_stops form (stop.Script line cause) before after a is told =
    let c : Capture = capture_of (before.contents form.capture) in (
      ap (λ (r : Result Contents ScriptFault). stop_of (want_by form.hex r c)) (is told),
      adds_none a,
    )
script_stops form stop.Read before after a is told = adds_none a
script_stops form stop.Memory before after a is told = inl (adds_none a)
script_stops form stop.Usage before after a is told = absurd is
script_stops form stop.Write before after a is told = absurd is
script_stops form (stop.Capture fault) before after a is told = absurd is

pub script_silent : (why : Stop) (name : List ℕ) (before after : Disk) (a : Option (List ℕ))
    → ReadsScript (Err why) name before after → RunsSilently (Err (Common why)) a a
script_silent (stop.Script line cause) name before after a is = adds_none a
script_silent stop.Read name before after a is = adds_none a
script_silent stop.Memory name before after a is = tt
script_silent stop.Usage name before after a is = absurd is
script_silent stop.Write name before after a is = tt
script_silent (stop.Capture fault) name before after a is = adds_none a

pub script_of_form : (why : Stop) (name : List ℕ) (before after : Disk)
    → ReadsScript (Err why) name before after → IsOfForm (Err (Common why))
script_of_form (stop.Script line cause) name before after is = tt
script_of_form stop.Read name before after is = tt
script_of_form stop.Memory name before after is = tt
script_of_form stop.Usage name before after is = absurd is
script_of_form stop.Write name before after is = tt
script_of_form (stop.Capture fault) name before after is = tt

-- the output is not touched
pub quiet_cause : (why : Stop) (f f' o : ℕ) → HasStopCause {A = Unit {0}} (Err why) f f' 0 0
    → HasStopCause {A = Unit {0}} (Err why) f f' o o
quiet_cause stop.Usage f f' o h = (h.0, refl)
quiet_cause (stop.Script line cause) f f' o h = (h.0, refl)
quiet_cause (stop.Capture fault) f f' o h = (h.0, refl)
quiet_cause stop.Read f f' o h = (h.0, refl)
quiet_cause stop.Write f f' o h = absurd (omega (arith, h.1))
quiet_cause stop.Memory f f' o h = (h.0, refl)

-- ---- the capture

pub plan_stops : (hex : Bool) (c : Contents) (why : LiveStop) (start : Disk)
    (a : Option (List ℕ)) → ReadsPlan (Err why) c start → IsTrue start.told
    → Runs (Err why) (want_by hex (Ok c) (capture_of start.left)) a a
plan_stops hex c why start a is told = at why is
  where
    capture : Capture
    capture = capture_of start.left

    called : (why : LiveStop) → capture_stop capture ≡ Some why
        → stop_of (want_by hex (Ok c) capture) ≡ Some why
    called why e = ap (λ (s : Option LiveStop). stop_of (want_from hex c capture.records s)) e

    at : (why : LiveStop) → ReadsPlan (Err why) c start
        → Runs (Err why) (want_by hex (Ok c) capture) a a
    at (Common stop.Read) h = adds_none a
    at (Common stop.Memory) h = inl (adds_none a)
    at (Common stop.Usage) h = absurd h
    at (Common (stop.Script line cause)) h = absurd h
    at (Common stop.Write) h = absurd h
    at (Common (stop.Capture fault)) h =
        (called (Common (stop.Capture fault)) (h told), adds_none a)
    at (TooMany offset) h = (called (TooMany offset) (h told), adds_none a)
    at (MixedLinks offset) h = (called (MixedLinks offset) (h told), adds_none a)

pub plan_silent : (why : LiveStop) (a : Option (List ℕ)) → RunsSilently (Err why) a a
plan_silent (Common stop.Read) a = adds_none a
plan_silent (Common stop.Memory) a = tt
plan_silent (Common stop.Usage) a = adds_none a
plan_silent (Common (stop.Script line cause)) a = adds_none a
plan_silent (Common stop.Write) a = tt
plan_silent (Common (stop.Capture fault)) a = adds_none a
plan_silent (TooMany offset) a = adds_none a
plan_silent (MixedLinks offset) a = adds_none a

pub plan_of_form : (c : Contents) (why : LiveStop) (start : Disk) → ReadsPlan (Err why) c start
    → IsOfForm (Err why)
plan_of_form c (Common stop.Usage) start h = absurd h
plan_of_form c (Common stop.Read) start h = tt
plan_of_form c (Common stop.Memory) start h = tt
plan_of_form c (Common (stop.Script line cause)) start h = tt
plan_of_form c (Common stop.Write) start h = tt
plan_of_form c (Common (stop.Capture fault)) start h = tt
plan_of_form c (TooMany offset) start h = tt
plan_of_form c (MixedLinks offset) start h = tt

pub plan_cause : (why : LiveStop) (f f' o : ℕ)
    → HasLiveCause {A = Plan × Course} (Err why) f f' 0 0
    → HasLiveCause {A = Unit {0}} (Err why) f f' o o
plan_cause (Common why) f f' o h = quiet_cause why f f' o h
plan_cause (TooMany offset) f f' o h = (h.0, refl)
plan_cause (MixedLinks offset) f f' o h = (h.0, refl)

-- ---- the text

text_is : (hex : Bool) (c : Contents) (capture : Capture) (p : Plan) (hs : List LaneHistory)
    → capture_stop capture ≡ None → IsPlanOf c capture.records p → AreWhole p hs
    → IsText (want_by hex (Ok c) capture) (live_text hex p hs)
text_is hex c capture p hs none planned whole =
    subst (λ (s : Option LiveStop). IsText (want_from hex c capture.records s) (live_text hex p hs))
    (sym none)
    (record {
      plan = p;
      histories = hs;
      planned = planned;
      whole = whole;
      bytes_are = refl;
    })

pub text_written : (hex : Bool) (c : Contents) (capture : Capture) (p : Plan)
    (hs : List LaneHistory) (a b : Option (List ℕ)) → capture_stop capture ≡ None
    → IsPlanOf c capture.records p → AreWhole p hs → Adds (live_text hex p hs) a b
    → Runs (Ok tt) (want_by hex (Ok c) capture) a b
text_written hex c capture p hs a b none planned whole written = (
  ap (λ (s : Option LiveStop). stop_of (want_from hex c capture.records s)) none,
  record {
    bytes = live_text hex p hs;
    is_text = text_is hex c capture p hs none planned whole;
    written = written;
  },
)

pub text_cut : (hex : Bool) (c : Contents) (capture : Capture) (p : Plan) (hs : List LaneHistory)
    (why : Stop) (a b : Option (List ℕ)) (o o' : ℕ) → capture_stop capture ≡ None
    → IsPlanOf c capture.records p → AreWhole p hs
    → Prints (live_text hex p hs) (Err why) a b o o'
    → Runs (Err (Common why)) (want_by hex (Ok c) capture) a b
text_cut hex c capture p hs why a b o o' none planned whole h = at why h
  where
    some : AddsFront (live_text hex p hs) a b → WroteSome (want_by hex (Ok c) capture) a b
    some front = inr
        (record {
          bytes = live_text hex p hs;
          is_text = text_is hex c capture p hs none planned whole;
          written = front;
        })

    at : (why : Stop) → Prints (live_text hex p hs) (Err why) a b o o'
        → Runs (Err (Common why)) (want_by hex (Ok c) capture) a b
    at stop.Write h = some h.0
    at stop.Memory h = some h.0
    at stop.Usage h = absurd h
    at (stop.Script line cause) h = absurd h
    at stop.Read h = absurd h
    at (stop.Capture fault) h = absurd h

pub cut_silent : (bytes : List ℕ) (why : Stop) (a b : Option (List ℕ)) (o o' : ℕ)
    → Prints bytes (Err why) a b o o' → RunsSilently (Err (Common why)) a b
cut_silent bytes stop.Write a b o o' h = tt
cut_silent bytes stop.Memory a b o o' h = tt
cut_silent bytes stop.Usage a b o o' h = absurd h
cut_silent bytes (stop.Script line cause) a b o o' h = absurd h
cut_silent bytes stop.Read a b o o' h = absurd h
cut_silent bytes (stop.Capture fault) a b o o' h = absurd h

pub cut_of_form : (bytes : List ℕ) (why : Stop) (a b : Option (List ℕ)) (o o' : ℕ)
    → Prints bytes (Err why) a b o o' → IsOfForm (Err (Common why))
cut_of_form bytes stop.Write a b o o' h = tt
cut_of_form bytes stop.Memory a b o o' h = tt
cut_of_form bytes stop.Usage a b o o' h = absurd h
cut_of_form bytes (stop.Script line cause) a b o o' h = absurd h
cut_of_form bytes stop.Read a b o o' h = absurd h
cut_of_form bytes (stop.Capture fault) a b o o' h = absurd h

pub cut_cause : (bytes : List ℕ) (why : Stop) (a b : Option (List ℕ)) (f f' o o' : ℕ) → f' ≡ f
    → Prints bytes (Err why) a b o o' → HasStopCause {A = Unit {0}} (Err why) f f' o o'
cut_cause bytes stop.Write a b f f' o o' same h = (same, h.1)
cut_cause bytes stop.Memory a b f f' o o' same h = (same, h.1)
cut_cause bytes stop.Usage a b f f' o o' same h = absurd h
cut_cause bytes (stop.Script line cause) a b f f' o o' same h = absurd h
cut_cause bytes stop.Read a b f f' o o' same h = absurd h
cut_cause bytes (stop.Capture fault) a b f f' o o' same h = absurd h

-- ---- the whole

-- what the files call for, where the script was read and the capture is open
pub wanted_is : (form : Form) (c : Contents) (before start : Disk)
    → read_script (before.contents form.script) ≡ Ok c
    → start.left ≡ before.contents form.capture
    → want_by form.hex (Ok c) (capture_of start.left) ≡ wanted_of before.contents form
wanted_is form c before start script left =
    ap (λ (r : Result Contents ScriptFault). want_by form.hex r (capture_of start.left)) (sym script)
    ∙ ap (λ (bytes : List ℕ).
    want_by form.hex (read_script (before.contents form.script)) (capture_of bytes)) left

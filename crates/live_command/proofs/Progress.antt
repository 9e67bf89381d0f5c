-- How far a capture was read into a plan.
use Rattle.std.proofs.Common.{◌≡◌, ◌≢◌, ◌<◌, ℕ, List, [], ◌∷◌, ◌++◌, Option, Some, None, Result, Ok, Err}
use Rattle.std.proofs.Common.{IsTrue, refl, sym, ap, subst, ◌∙◌, append_assoc}
use Rattle.rtp_io.specs.Outside.{Disk, SameDisk}
use Rattle.rtp_io.specs.Laws.{same_then, told_then}
use Rattle.pcap_file.specs.Capture.{Record}
use Rattle.capture_file.specs.declared.fault.FileFault.{FileFault}
use Rattle.capture_file.specs.declared.fault.FileFault.TheVariants as faults
use Rattle.capture_file.specs.declared.file.CaptureFile.{CaptureFile}
use Rattle.capture_file.specs.Capture.{Capture, capture_of, with_front, empty}
use Rattle.capture_file.specs.Faults.{OnFault}
use Rattle.capture_file.specs.Place.{kept_fault, rest_of}
use Rattle.capture_file.specs.Reading.{StandsFor, TakesRecord, Finds, FindsEnd, TakesHeader}
use Rattle.capture_file.specs.Reading.{AfterOpen, AfterNext}
use Rattle.script_lang.specs.Contents.{Contents}
use Rattle.command_core.specs.declared.stop.Stop.TheVariants as stop
use Rattle.command_core.specs.Stops.{stop_of_fault}
use Rattle.live_bin.specs.declared.course.Course.{Course}
use Rattle.live_bin.specs.declared.plan.Plan.{Plan}
use Rattle.live_plan.specs.Planned.{IsPlanOf}
use Rattle.live_command.specs.declared.load.Load.{Load}
use Rattle.live_command.specs.declared.stop.LiveStop.{LiveStop}
use Rattle.live_command.specs.declared.stop.LiveStop.TheVariants.{Common, TooMany, MixedLinks}
use Rattle.live_command.specs.Loaded.{HasLoaded, Loads, Finishes, ReadsPlan}
use Rattle.live_command.specs.Refusals.{refusal, capture_stop}
use Rattle.live_command.specs.Stops.{HasLiveCause}
use Rattle.live_command.proofs.Refusing.{stopped_at, stopped_by_fault}

-- what is none of the values is none
pub none_of : {A : Type 0} (found : Option A) → ((x : A) → found ≢ Some x) → found ≡ None
none_of None other = refl
none_of (Some x) other = absurd (other x refl)

pub record Progress (c : Contents) (start : Disk) (place : CaptureFile) (held : List ℕ)
    (now : Disk) (load : Load) : Type 0 where
  pub passed : List ℕ
  pub seen : List Record
  pub stands : StandsFor place passed seen
  pub loaded : HasLoaded c seen load
  pub same : SameDisk start now
  pub rest : IsTrue start.told → start.left ≡ passed ++ (held ++ now.left)
  pub none : kept_fault place ≡ None

pub begins : (c : Contents) (start now : Disk) (place : CaptureFile) (held rest : List ℕ)
    (load : Load) → held ≡ [] → TakesHeader place held rest start now → HasLoaded c [] load
    → Progress c start place rest now load
begins c start now place held rest load none header loaded = record {
  passed = header.taken;
  seen = [];
  stands = header.stands;
  loaded = loaded;
  same = header.takes.same;
  rest = λ t. ap (λ (l : List ℕ). l ++ start.left) (sym none) ∙ header.takes.coming t;
  none = header.fault;
}

-- the bytes of the file, where a record was taken
left_after : (c : Contents) (start now next : Disk) (place place' : CaptureFile)
    (held held' : List ℕ) (r : Record) (load : Load) (p : Progress c start place held now load)
    (t : TakesRecord place place' r held held' now next) → IsTrue start.told
    → start.left ≡ (p.passed ++ t.taken) ++ (held' ++ next.left)
left_after c start now next place place' held held' r load p t told =
    p.rest told
    ∙ ap (λ (l : List ℕ). p.passed ++ l) (t.takes.coming (told_then start now p.same told))
    ∙ sym (append_assoc p.passed t.taken (held' ++ next.left))

pub goes_on : (c : Contents) (start now next : Disk) (place place' : CaptureFile)
    (held held' : List ℕ) (r : Record) (load load' : Load)
    → Progress c start place held now load → TakesRecord place place' r held held' now next
    → kept_fault place' ≡ None
    → ((seen : List Record) → HasLoaded c seen load → HasLoaded c (seen ++ r ∷ []) load')
    → Progress c start place' held' next load'
goes_on c start now next place place' held held' r load load' p t none loads = record {
  passed = p.passed ++ t.taken;
  seen = p.seen ++ r ∷ [];
  stands = t.onward p.passed p.seen p.stands;
  loaded = loads p.seen p.loaded;
  same = same_then start now next p.same t.takes.same;
  rest = left_after c start now next place place' held held' r load p t;
  none = none;
}

-- ---- what stops it

-- there is something against a record
pub refused : (c : Contents) (why : LiveStop) (start now next : Disk) (place place' : CaptureFile)
    (held held' : List ℕ) (r : Record) (load load' : Load)
    → Progress c start place held now load → TakesRecord place place' r held held' now next
    → ((seen : List Record) → HasLoaded c seen load → Loads (Err why) c seen r load')
    → ReadsPlan (Err why) c start
refused c why start now next place place' held held' r load load' p t loads =
    at why (loads p.seen p.loaded)
  where
    stops : (why : LiveStop) → refusal p.seen r ≡ Some why → IsTrue start.told
        → capture_stop (capture_of start.left) ≡ Some why
    stops why here told =
        let rest : Capture = rest_of place' (held' ++ next.left) in
        let all : capture_of start.left ≡ with_front (p.seen ++ r ∷ []) rest =
        ap capture_of (left_after c start now next place place' held held' r load p t told)
        ∙ (t.onward p.passed p.seen p.stands).whole (held' ++ next.left) in
        stopped_at (capture_of start.left) p.seen r rest.records why
        (ap (λ (k : Capture). k.records) all) p.loaded.clean here

    at : (why : LiveStop) → Loads (Err why) c p.seen r load' → ReadsPlan (Err why) c start
    at (TooMany offset) here = stops (TooMany offset) here
    at (MixedLinks offset) here = stops (MixedLinks offset) here
    at (Common stop.Memory) here = tt
    at (Common stop.Usage) here = absurd here
    at (Common (stop.Script line cause)) here = absurd here
    at (Common stop.Read) here = absurd here
    at (Common (stop.Capture fault)) here = absurd here
    at (Common stop.Write) here = absurd here

pub refused_cause : (c : Contents) (why : LiveStop) (seen : List Record) (r : Record) (load : Load)
    (f f' : ℕ) → f' ≡ f → Loads (Err why) c seen r load
    → HasLiveCause {A = Plan × Course} (Err why) f f' 0 0
refused_cause c (TooMany offset) seen r load f f' same here = (same, refl)
refused_cause c (MixedLinks offset) seen r load f f' same here = (same, refl)
refused_cause c (Common stop.Memory) seen r load f f' same here = (same, refl)
refused_cause c (Common stop.Usage) seen r load f f' same here = absurd here
refused_cause c (Common (stop.Script line cause)) seen r load f f' same here = absurd here
refused_cause c (Common stop.Read) seen r load f f' same here = absurd here
refused_cause c (Common (stop.Capture fault)) seen r load f f' same here = absurd here
refused_cause c (Common stop.Write) seen r load f f' same here = absurd here

-- a fault behind the records
faulty : (c : Contents) (fault : FileFault) (start now : Disk) (place : CaptureFile)
    (held : List ℕ) (load : Load) → Progress c start place held now load
    → Finds place (Some fault) held now → IsTrue start.told
    → capture_stop (capture_of start.left) ≡ Some (Common (stop.Capture fault))
faulty c fault start now place held load p finds told =
    let all : capture_of start.left ≡ record { records = p.seen; fault = Some fault } =
    ap capture_of (p.rest told) ∙ finds p.passed p.seen p.stands (told_then start now p.same told) in
    stopped_by_fault (capture_of start.left) p.seen (Some fault) all p.loaded.clean

pub next_stops : (c : Contents) (fault : FileFault) (start now next : Disk)
    (place place' : CaptureFile) (held rest : List ℕ) (load : Load)
    → Progress c start place held now load
    → AfterNext (Err fault) place place' held rest now next
    → ReadsPlan (Err (Common (stop_of_fault fault))) c start
next_stops c (faults.Pcap fault) start now next place place' held rest load p finds =
    faulty c (faults.Pcap fault) start now place held load p finds
next_stops c (faults.Ng fault) start now next place place' held rest load p finds =
    faulty c (faults.Ng fault) start now place held load p finds
next_stops c faults.ReadFault start now next place place' held rest load p finds = tt
next_stops c faults.OutOfMemory start now next place place' held rest load p finds = tt

pub open_stops : (c : Contents) (fault : FileFault) (start now : Disk) (held rest : List ℕ)
    → held ≡ [] → AfterOpen (Err fault) held rest start now
    → ReadsPlan (Err (Common (stop_of_fault fault))) c start
open_stops c fault start now held rest none opens = at fault opens
  where
    faulty_from : (fault : FileFault)
        → (IsTrue start.told → capture_of (held ++ start.left) ≡ empty (Some fault))
        → IsTrue start.told
        → capture_stop (capture_of start.left) ≡ Some (Common (stop.Capture fault))
    faulty_from fault is told =
        stopped_by_fault (capture_of start.left) [] (Some fault)
        (ap (λ (l : List ℕ). capture_of (l ++ start.left)) (sym none) ∙ is told) refl

    at : (fault : FileFault) → AfterOpen (Err fault) held rest start now
        → ReadsPlan (Err (Common (stop_of_fault fault))) c start
    at (faults.Pcap fault) is = faulty_from (faults.Pcap fault) is
    at (faults.Ng fault) is = faulty_from (faults.Ng fault) is
    at faults.ReadFault is = tt
    at faults.OutOfMemory is = tt

pub fault_cause : (fault : FileFault) (f g f' : ℕ) → g ≡ f
    → OnFault fault (f' ≡ g) (g < f') (f' ≡ g)
    → HasLiveCause {A = Plan × Course} (Err (Common (stop_of_fault fault))) f f' 0 0
fault_cause (faults.Pcap fault) f g f' same cause = (cause ∙ same, refl)
fault_cause (faults.Ng fault) f g f' same cause = (cause ∙ same, refl)
fault_cause faults.ReadFault f g f' same cause =
    (subst (λ (n : ℕ). n < f') same cause, refl)
fault_cause faults.OutOfMemory f g f' same cause = (cause ∙ same, refl)

-- ---- the end

pub ends : (c : Contents) (result : Result (Plan × Course) LiveStop) (start now next : Disk)
    (place : CaptureFile) (held rest : List ℕ) (load : Load)
    → Progress c start place held now load → FindsEnd place held rest now next
    → ((seen : List Record) → HasLoaded c seen load → Finishes result c seen)
    → ReadsPlan result c start
ends c result start now next place held rest load p end finish = at result (finish p.seen p.loaded)
  where
    all : IsTrue start.told → capture_of start.left ≡ record { records = p.seen; fault = None }
    all told =
        ap capture_of (p.rest told)
        ∙ end.finds p.passed p.seen p.stands (told_then start now p.same told)

    at : (result : Result (Plan × Course) LiveStop) → Finishes result c p.seen
        → ReadsPlan result c start
    at (Ok made) planned = λ told. (
      stopped_by_fault (capture_of start.left) p.seen None (all told) p.loaded.clean,
      subst (λ (rs : List Record). IsPlanOf c rs made.0)
          (sym (ap (λ (k : Capture). k.records) (all told))) planned,
    )
    at (Err (Common stop.Memory)) planned = tt
    at (Err (Common stop.Usage)) planned = absurd planned
    at (Err (Common (stop.Script line cause))) planned = absurd planned
    at (Err (Common stop.Read)) planned = absurd planned
    at (Err (Common (stop.Capture fault))) planned = absurd planned
    at (Err (Common stop.Write)) planned = absurd planned
    at (Err (TooMany offset)) planned = absurd planned
    at (Err (MixedLinks offset)) planned = absurd planned

pub ends_cause : (c : Contents) (result : Result (Plan × Course) LiveStop) (seen : List Record)
    (f f' : ℕ) → f' ≡ f → Finishes result c seen → HasLiveCause result f f' 0 0
ends_cause c (Ok made) seen f f' same planned = (same, refl)
ends_cause c (Err (Common stop.Memory)) seen f f' same planned = (same, refl)
ends_cause c (Err (Common stop.Usage)) seen f f' same planned = absurd planned
ends_cause c (Err (Common (stop.Script line cause))) seen f f' same planned = absurd planned
ends_cause c (Err (Common stop.Read)) seen f f' same planned = absurd planned
ends_cause c (Err (Common (stop.Capture fault))) seen f f' same planned = absurd planned
ends_cause c (Err (Common stop.Write)) seen f f' same planned = absurd planned
ends_cause c (Err (TooMany offset)) seen f f' same planned = absurd planned
ends_cause c (Err (MixedLinks offset)) seen f f' same planned = absurd planned

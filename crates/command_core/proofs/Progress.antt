-- How far the lines of a capture have come.
use Rattle.std.proofs.Common.{◌≡◌, ◌≢◌, ℕ, ◌<◌, ◌≤◌, List, [], ◌∷◌, ◌++◌, Option, Some, None, Result, Ok, Err, IsTrue, length, take, drop, refl, sym, ap, subst, ◌∙◌, append_assoc, arith, inl, inr}
use Rattle.std.proofs.lemmas.Bool.{cases_lt}
use Rattle.std.proofs.lemmas.List.{append-nil, length-append, length_push, take_all, take-append-le, take-append-drop}
use Rattle.rtp_io.specs.Outside.{Disk, SameDisk, Adds, AddsFront}
use Rattle.rtp_io.specs.Laws.{same_then, told_then, adds_none, adds_then, adds_same, front_of}
use Rattle.rtp_io.specs.declared.pull.TheConstants.{PULL_BYTES}
use Rattle.pcap_file.specs.Capture.{Record}
use Rattle.capture_file.specs.declared.fault.FileFault.{FileFault}
use Rattle.capture_file.specs.declared.fault.FileFault.TheVariants as faults
use Rattle.capture_file.specs.declared.file.CaptureFile.{CaptureFile}
use Rattle.capture_file.specs.Faults.{OnFault}
use Rattle.capture_file.specs.Capture.{Capture, capture_of, with_front, empty, end_of}
use Rattle.capture_file.specs.Place.{kept_fault, rest_of}
use Rattle.capture_file.specs.Reading.{StandsFor, TakesRecord, Finds, FindsEnd, TakesHeader, AfterOpen, AfterNext}
use Rattle.command_core.specs.declared.stop.Stop.{Stop}
use Rattle.command_core.specs.declared.stop.Stop.TheVariants as stop
use Rattle.command_core.specs.declared.clock.RecordClock.{RecordClock}
use Rattle.command_core.specs.Clock.{HasPassed}
use Rattle.command_core.specs.Output.{Output, GoesOn, Starts, output_of, output_from}
use Rattle.command_core.specs.Taken.{AddsMore, TakesFew}
use Rattle.command_core.specs.Steps.{Writes, HasWriteCause, HasStopCause, Covers, TookFew}
use Rattle.command_core.specs.Stops.{stop_of_fault}
use Rattle.command_core.specs.Takes.{Takes, Finishes}
use Rattle.command_core.specs.Laws.{front_more}

-- what is none of the values is none
pub none_of : {A : Type 0} (found : Option A) → ((x : A) → found ≢ Some x) → found ≡ None
none_of None other = refl
none_of (Some x) other = absurd (other x refl)

-- Took is what else stands for the records that were seen.
pub record Progress (output : Output) (Took : List Record → Type 0) (start : Disk) (place : CaptureFile) (held : List ℕ) (now : Disk) (old new : Option (List ℕ)) : Type 0 where
  pub passed : List ℕ
  pub seen : List Record
  pub stands : StandsFor place passed seen
  pub took : Took seen
  pub same : SameDisk start now
  pub opened : IsTrue start.told → now.opened ≡ start.opened
  pub rest : IsTrue start.told → start.left ≡ passed ++ (held ++ now.left)
  pub written : Adds (output.part seen) old new
  pub none : kept_fault place ≡ None
  pub few : length held ≤ PULL_BYTES

-- ---- what goes out, for more records

-- a record more: all that is due up to it was written, and what else stands
pub record Step (output : Output) (Took : List Record → Type 0) (seen : List Record) (r : Record) (old new : Option (List ℕ)) : Type 0 where
  pub written : Adds (output.part (seen ++ r ∷ [])) old new
  pub took : Took (seen ++ r ∷ [])

onto_at : (output : Output) → GoesOn output → (seen rs : List Record) (fault : Option FileFault) → Starts (output.part seen) (output_from output (seen ++ rs) fault)
onto_at output law seen rs None = law.whole seen rs
onto_at output law seen rs (Some fault) = law.part seen rs

-- ---- the steps

-- the whole file, where it is told
whole : (output : Output) (Took : List Record → Type 0) (start now : Disk) (place : CaptureFile) (held : List ℕ) (old new : Option (List ℕ)) (p : Progress output Took start place held now old new) → IsTrue start.told
    → capture_of start.left ≡ with_front p.seen (rest_of place (held ++ now.left))
whole output Took start now place held old new p t = ap capture_of (p.rest t) ∙ p.stands.whole (held ++ now.left)

-- out of the lines so far, whatever comes
pub stops_here : (output : Output) (Took : List Record → Type 0) (start now : Disk) (place : CaptureFile) (held : List ℕ) (old new : Option (List ℕ)) → GoesOn output → Progress output Took start place held now old new → IsTrue start.told
    → AddsFront (output_of output (capture_of start.left)) old new
stops_here output Took start now place held old new law p t =
    let rest = rest_of place (held ++ now.left) in
    let onto = onto_at output law p.seen rest.records rest.fault in
    let is : output_of output (capture_of start.left) ≡ output.part p.seen ++ onto.more = ap (output_of output) (whole output Took start now place held old new p t) ∙ onto.is in
    subst (λ (l : List ℕ). AddsFront l old new) (sym is) (front_of (output.part p.seen) onto.more old new p.written)

pub begins : (output : Output) (Took : List Record → Type 0) (start now : Disk) (place : CaptureFile) (held rest : List ℕ) (old : Option (List ℕ)) → GoesOn output → held ≡ [] → TakesHeader place held rest start now
    → length rest ≤ PULL_BYTES → (IsTrue start.told → now.opened ≡ start.opened) → Took [] → Progress output Took start place rest now old old
begins output Took start now place held rest old law none header few opened took = record {
  passed = header.taken;
  seen = [];
  stands = header.stands;
  took = took;
  same = header.takes.same;
  opened = opened;
  rest = λ t. ap (λ (l : List ℕ). l ++ start.left) (sym none) ∙ header.takes.coming t;
  written = adds_same [] (output.part []) old old (sym law.none) (adds_none old);
  none = header.fault;
  few = few;
}

pub goes_on : (output : Output) (Took Took' : List Record → Type 0) (start now next : Disk) (place place' : CaptureFile) (held held' : List ℕ) (r : Record) (old new new' : Option (List ℕ))
    → Progress output Took start place held now old new → TakesRecord place place' r held held' now next → kept_fault place' ≡ None → length held' ≤ PULL_BYTES → (IsTrue now.told → next.opened ≡ now.opened)
    → ((seen : List Record) → Took seen → Adds (output.part seen) old new → Step output Took' seen r old new')
    → Progress output Took' start place' held' next old new'
goes_on output Took Took' start now next place place' held held' r old new new' p t none few opened step =
    let here = step p.seen p.took p.written in
    record {
      passed = p.passed ++ t.taken;
      seen = p.seen ++ r ∷ [];
      stands = t.onward p.passed p.seen p.stands;
      took = here.took;
      same = same_then start now next p.same t.takes.same;
      opened = λ told. opened (told_then start now p.same told) ∙ p.opened told;
      rest = λ told. p.rest told ∙ ap (λ (l : List ℕ). p.passed ++ l) (t.takes.coming (told_then start now p.same told)) ∙ sym (append_assoc p.passed t.taken (held' ++ next.left));
      written = here.written;
      none = none;
      few = few;
    }

-- after a record was taken, whatever was written of what is due up to it
line_stops : (output : Output) (Took : List Record → Type 0) (start now next : Disk) (place place' : CaptureFile) (held held' : List ℕ) (r : Record) (old new new' : Option (List ℕ)) → GoesOn output
    → Progress output Took start place held now old new → TakesRecord place place' r held held' now next
    → ((seen : List Record) → Took seen → Adds (output.part seen) old new → AddsFront (output.part (seen ++ r ∷ [])) old new')
    → IsTrue start.told → AddsFront (output_of output (capture_of start.left)) old new'
line_stops output Took start now next place place' held held' r old new new' law p t front told =
    let rest = rest_of place' (held' ++ next.left) in
    let seen = p.seen ++ r ∷ [] in
    let is : capture_of start.left ≡ with_front seen rest =
    ap capture_of (p.rest told ∙ ap (λ (l : List ℕ). p.passed ++ l) (t.takes.coming (told_then start now p.same told)) ∙ sym (append_assoc p.passed t.taken (held' ++ next.left))) ∙ (t.onward p.passed p.seen p.stands).whole (held' ++ next.left) in
    let onto = onto_at output law seen rest.records rest.fault in
    let out : output_of output (capture_of start.left) ≡ output.part seen ++ onto.more = ap (output_of output) is ∙ onto.is in
    subst (λ (l : List ℕ). AddsFront l old new') (sym out) (front_more (output.part seen) onto.more old new' (front p.seen p.took p.written))

-- ---- what was taken where not all could be written

-- what goes out for fewer records than those whose lines were written is there
written_before : (output : Output) → GoesOn output → (seen more : List Record) (n : ℕ) (old new new' : Option (List ℕ)) → n ≤ length seen → Adds (output.part seen) old new → AddsMore [] new new'
    → AddsMore (output.part (take n (seen ++ more))) old new'
written_before output law seen more n old new new' le written on =
    let cut : take n seen ≡ take n (seen ++ more) = sym (take-append-le n seen more le) in
    let starts = law.part (take n seen) (drop n seen) in
    let whole : output.part seen ≡ output.part (take n (seen ++ more)) ++ starts.more =
    ap output.part (sym (take-append-drop n seen)) ∙ starts.is ∙ ap (λ (rs : List Record). output.part rs ++ starts.more) cut in (
      starts.more ++ on.0,
      adds_same (output.part seen ++ on.0) (output.part (take n (seen ++ more)) ++ (starts.more ++ on.0)) old new'
          (ap (λ (l : List ℕ). l ++ on.0) whole ∙ append_assoc (output.part (take n (seen ++ more))) starts.more on.0) (adds_then (output.part seen) on.0 old new new' written on.1),
    )

-- the lines of some records were written, and those of the next one begun
takes_few : (output : Output) → GoesOn output → (bytes : List ℕ) (seen : List Record) (r : Record) (more : List Record) (passed taken held : List ℕ) (old new new' : Option (List ℕ)) → (capture_of bytes).records ≡ (seen ++ r ∷ []) ++ more
    → Adds (output.part seen) old new → AddsMore [] new new' → ((n : ℕ) → length seen < n → length (passed ++ taken) ≤ end_of bytes n) → length held ≤ PULL_BYTES → TakesFew output bytes (passed ++ (taken ++ held)) old new'
takes_few output law bytes seen r more passed taken held old new new' is written on ends bound = λ n cut.
    elim (cases_lt n (length (seen ++ r ∷ []))) [
      | inl less ↦
          absurd (cut (subst (λ (rs : List Record). AddsMore (output.part (take n rs)) old new') (sym (is ∙ append_assoc seen (r ∷ []) more))
          (written_before output law seen (r ∷ more) n old new new' (omega (arith, less, length_push seen r)) written on)))
      | inr le ↦
          let end = ends n (omega (arith, le, length_push seen r)) in
          omega (arith, end, length-append passed taken, length-append passed (taken ++ held), length-append taken held, bound)
    ]

-- the lines of all records were written
takes_last : (output : Output) → GoesOn output → (bytes : List ℕ) (seen : List Record) (taken : List ℕ) (old new new' : Option (List ℕ)) → (capture_of bytes).records ≡ seen → Adds (output.part seen) old new → AddsMore [] new new'
    → TakesFew output bytes taken old new'
takes_last output law bytes seen taken old new new' is written on = λ n cut.
    absurd (cut (subst (λ (rs : List Record). AddsMore (output.part (take n rs)) old new') (sym is) (elim (cases_lt n (length seen)) [
      | inl less ↦ subst (λ (rs : List Record). AddsMore (output.part (take n rs)) old new') (append-nil seen) (written_before output law seen [] n old new new' (omega (arith, less)) written on)
      | inr le ↦ subst (λ (rs : List Record). AddsMore (output.part rs) old new') (sym (take_all n seen le)) (on.0, adds_then (output.part seen) on.0 old new new' written on.1)
    ])))

-- ---- the ends

opens_as : (output : Output) (start : Disk) (held : List ℕ) (fault : FileFault) (old : Option (List ℕ)) → GoesOn output → held ≡ [] → capture_of (held ++ start.left) ≡ empty (Some fault)
    → ((capture_of start.left).fault ≡ Some fault) × Adds (output_of output (capture_of start.left)) old old
opens_as output start held fault old law none is =
    let all : capture_of start.left ≡ empty (Some fault) = ap (λ (l : List ℕ). capture_of (l ++ start.left)) (sym none) ∙ is in
    (ap (λ (c : Capture). c.fault) all, adds_same [] (output_of output (capture_of start.left)) old old (sym (ap (output_of output) all ∙ law.none)) (adds_none old))

finds_fault : (output : Output) (Took : List Record → Type 0) (start now : Disk) (place : CaptureFile) (held : List ℕ) (old new : Option (List ℕ)) (fault : FileFault) → Progress output Took start place held now old new
    → Finds place (Some fault) held now → IsTrue start.told → ((capture_of start.left).fault ≡ Some fault) × Adds (output_of output (capture_of start.left)) old new
finds_fault output Took start now place held old new fault p is told =
    let all : capture_of start.left ≡ record { records = p.seen; fault = Some fault } = ap capture_of (p.rest told) ∙ is p.passed p.seen p.stands (told_then start now p.same told) in
    (ap (λ (c : Capture). c.fault) all, adds_same (output.part p.seen) (output_of output (capture_of start.left)) old new (sym (ap (output_of output) all)) p.written)

pub open_stops : (output : Output) (fault : FileFault) (start now : Disk) (held rest : List ℕ) (old : Option (List ℕ)) → GoesOn output → held ≡ [] → AfterOpen (Err fault) held rest start now → Covers output (Err (stop_of_fault fault)) start now old old
open_stops output (faults.Pcap fault) start now held rest old law none is = λ told. opens_as output start held (faults.Pcap fault) old law none (is told)
open_stops output (faults.Ng fault) start now held rest old law none is = λ told. opens_as output start held (faults.Ng fault) old law none (is told)
open_stops output faults.OutOfMemory start now held rest old law none is = λ told. front_of [] (output_of output (capture_of start.left)) old old (adds_none old)
open_stops output faults.ReadFault start now held rest old law none is = λ told. record {
  given = rest;
  all = ap (λ (l : List ℕ). l ++ start.left) (sym none) ∙ sym (is.keeps.coming told);
  written = adds_same [] (output.part (capture_of rest).records) old old (sym (ap output.part is.none ∙ law.none)) (adds_none old);
}

pub next_stops : (output : Output) (Took : List Record → Type 0) (fault : FileFault) (start now next : Disk) (place place' : CaptureFile) (held rest : List ℕ) (old new : Option (List ℕ)) → GoesOn output
    → Progress output Took start place held now old new → AfterNext (Err fault) place place' held rest now next → Covers output (Err (stop_of_fault fault)) start next old new
next_stops output Took (faults.Pcap fault) start now next place place' held rest old new law p is = λ told. finds_fault output Took start now place held old new (faults.Pcap fault) p is told
next_stops output Took (faults.Ng fault) start now next place place' held rest old new law p is = λ told. finds_fault output Took start now place held old new (faults.Ng fault) p is told
next_stops output Took faults.OutOfMemory start now next place place' held rest old new law p is = λ told. stops_here output Took start now place held old new law p told
next_stops output Took faults.ReadFault start now next place place' held rest old new law p is = λ told. record {
  given = p.passed ++ (is.taken ++ rest);
  all = p.rest told ∙ ap (λ (l : List ℕ). p.passed ++ l) (is.takes.coming (told_then start now p.same told) ∙ sym (append_assoc is.taken rest next.left)) ∙ sym (append_assoc p.passed (is.taken ++ rest) next.left);
  written = adds_same (output.part p.seen) (output.part (capture_of (p.passed ++ (is.taken ++ rest))).records) old new (ap output.part (sym (is.none p.passed p.seen p.stands))) p.written;
}

-- what was taken up to a record
line_took : (output : Output) (Took : List Record → Type 0) (start now next : Disk) (place place' : CaptureFile) (held held' : List ℕ) (r : Record) (old new new' : Option (List ℕ)) → GoesOn output
    → Progress output Took start place held now old new → TakesRecord place place' r held held' now next → length held' ≤ PULL_BYTES → AddsMore [] new new' → IsTrue start.told → TookFew output start next old new'
line_took output Took start now next place place' held held' r old new new' law p t bound on told =
    let rest = rest_of place' (held' ++ next.left) in
    let left : start.left ≡ p.passed ++ (t.taken ++ (held' ++ next.left)) = p.rest told ∙ ap (λ (l : List ℕ). p.passed ++ l) (t.takes.coming (told_then start now p.same told)) in
    let is : capture_of start.left ≡ with_front (p.seen ++ r ∷ []) rest =
    ap capture_of (left ∙ sym (append_assoc p.passed t.taken (held' ++ next.left))) ∙ (t.onward p.passed p.seen p.stands).whole (held' ++ next.left) in
    record {
      taken = p.passed ++ (t.taken ++ held');
      all = left ∙ ap (λ (l : List ℕ). p.passed ++ l) (sym (append_assoc t.taken held' next.left)) ∙ sym (append_assoc p.passed (t.taken ++ held') next.left);
      few = takes_few output law start.left p.seen r rest.records p.passed t.taken held' old new new' (ap (λ (c : Capture). c.records) is) p.written on
          (λ n above. subst (λ (l : List ℕ). length (p.passed ++ t.taken) ≤ end_of l n) (sym (left ∙ sym (append_assoc p.passed t.taken (held' ++ next.left)))) (t.ends p.passed p.seen p.stands (held' ++ next.left) n above))
          bound;
    }

-- the capture has ended, and what was due at the end was written, or a front of it
pub done_ends : (output : Output) (Took : List Record → Type 0) (result : Result (Unit {0}) Stop) (start now next : Disk) (place : CaptureFile) (held rest : List ℕ) (old new new' : Option (List ℕ)) (o o' : ℕ) → GoesOn output
    → Progress output Took start place held now old new → FindsEnd place held rest now next → AddsMore [] new new'
    → ((seen : List Record) → Took seen → Adds (output.part seen) old new → Writes result (output.whole seen) old new')
    → HasWriteCause result o o' → Covers output result start next old new'
done_ends output Took result start now next place held rest old new new' o o' law p e on last cause = at result (last p.seen p.took p.written) cause
  where
    all : IsTrue start.told → capture_of start.left ≡ record { records = p.seen; fault = None }
    all told = ap capture_of (p.rest told) ∙ e.finds p.passed p.seen p.stands (told_then start now p.same told)

    out : IsTrue start.told → output.whole p.seen ≡ output_of output (capture_of start.left)
    out told = sym (ap (output_of output) (all told))

    front : AddsFront (output.whole p.seen) old new' → IsTrue start.told → AddsFront (output_of output (capture_of start.left)) old new'
    front f told = subst (λ (l : List ℕ). AddsFront l old new') (out told) f

    took : IsTrue start.told → TookFew output start next old new'
    took told = record {
      taken = p.passed ++ (e.taken ++ rest);
      all = p.rest told ∙ ap (λ (l : List ℕ). p.passed ++ l) (e.takes.coming (told_then start now p.same told) ∙ sym (append_assoc e.taken rest next.left)) ∙ sym (append_assoc p.passed (e.taken ++ rest) next.left);
      few = takes_last output law start.left p.seen (p.passed ++ (e.taken ++ rest)) old new new' (ap (λ (c : Capture). c.records) (all told)) p.written on;
    }

    at : (result : Result (Unit {0}) Stop) → Writes result (output.whole p.seen) old new' → HasWriteCause result o o' → Covers output result start next old new'
    at (Ok x) w h = λ told. (ap (λ (c : Capture). c.fault) (all told), adds_same (output.whole p.seen) (output_of output (capture_of start.left)) old new' (out told) w)
    at (Err stop.Write) w h = λ told. (front w told, took told)
    at (Err stop.Memory) w h = front w
    at (Err stop.Usage) w h = absurd h
    at (Err (stop.Script line cause)) w h = absurd h
    at (Err stop.Read) w h = absurd h
    at (Err (stop.Capture fault)) w h = absurd h

-- writing what is due up to a record failed
pub line_ends : (output : Output) (Took : List Record → Type 0) (why : Stop) (start now next : Disk) (place place' : CaptureFile) (held held' : List ℕ) (r : Record) (old new new' : Option (List ℕ)) (o o' : ℕ) → GoesOn output
    → Progress output Took start place held now old new → TakesRecord place place' r held held' now next → length held' ≤ PULL_BYTES → AddsMore [] new new'
    → ((seen : List Record) → Took seen → Adds (output.part seen) old new → AddsFront (output.part (seen ++ r ∷ [])) old new')
    → HasWriteCause (Err why) o o' → Covers output (Err why) start next old new'
line_ends output Took stop.Write start now next place place' held held' r old new new' o o' law p t bound on front h = λ told. (line_stops output Took start now next place place' held held' r old new new' law p t front told, line_took output Took start now next place place' held held' r old new new' law p t bound on told)
line_ends output Took stop.Memory start now next place place' held held' r old new new' o o' law p t bound on front h = line_stops output Took start now next place place' held held' r old new new' law p t front
line_ends output Took stop.Usage start now next place place' held held' r old new new' o o' law p t bound on front h = absurd h
line_ends output Took (stop.Script line cause) start now next place place' held held' r old new new' o o' law p t bound on front h = absurd h
line_ends output Took stop.Read start now next place place' held held' r old new new' o o' law p t bound on front h = absurd h
line_ends output Took (stop.Capture fault) start now next place place' held held' r old new new' o o' law p t bound on front h = absurd h

-- ---- a fault of the capture

pub fault_cause : (fault : FileFault) (f g f' o o' : ℕ) → g ≡ f → o' ≡ o → OnFault fault (f' ≡ g) (g < f') (f' ≡ g) → HasStopCause {A = Unit {0}} (Err (stop_of_fault fault)) f f' o o'
fault_cause (faults.Pcap fault) f g f' o o' same out cause = (cause ∙ same, out)
fault_cause (faults.Ng fault) f g f' o o' same out cause = (cause ∙ same, out)
fault_cause faults.ReadFault f g f' o o' same out cause = (subst (λ (n : ℕ). n < f') same cause, out)
fault_cause faults.OutOfMemory f g f' o o' same out cause = (cause ∙ same, out)

-- ---- a command

-- The command stands for these records, and so does the clock.
pub record Took (Stands : List Record → Type 0) (clock : RecordClock) (seen : List Record) : Type 0 where
  pub stands : Stands seen
  pub passed : HasPassed clock seen

-- a record was taken
pub took_next : (output here : Output) (Stands Stands' : List Record → Type 0) (clock clock' : RecordClock) (r : Record) (old new new' : Option (List ℕ)) → here ≡ output → Takes (Ok tt) here.part clock'.time r Stands Stands' new new'
    → ((seen : List Record) (q : Record) → q.stamp ≡ r.stamp → HasPassed clock seen → HasPassed clock' (seen ++ q ∷ []))
    → (seen : List Record) → Took Stands clock seen → Adds (output.part seen) old new → Step output (Took Stands' clock') seen r old new'
took_next output here Stands Stands' clock clock' r old new new' same takes passes seen t written =
    let on = passes seen r refl t.passed in
    let wrote = takes seen old on.time (record { stands = t.stands; written = subst (λ (o : Output). Adds (o.part seen) old new) (sym same) written }) in
    record {
      written = subst (λ (o : Output). Adds (o.part (seen ++ r ∷ [])) old new') same wrote.written;
      took = record { stands = wrote.stands; passed = on };
    }

-- writing what it has failed
pub took_front : (output here : Output) (Stands Stands' : List Record → Type 0) (why : Stop) (clock clock' : RecordClock) (r : Record) (old new new' : Option (List ℕ)) → here ≡ output → Takes (Err why) here.part clock'.time r Stands Stands' new new'
    → ((seen : List Record) (q : Record) → q.stamp ≡ r.stamp → HasPassed clock seen → HasPassed clock' (seen ++ q ∷ []))
    → (seen : List Record) → Took Stands clock seen → Adds (output.part seen) old new → AddsFront (output.part (seen ++ r ∷ [])) old new'
took_front output here Stands Stands' why clock clock' r old new new' same takes passes seen t written =
    let on = passes seen r refl t.passed in
    subst (λ (o : Output). AddsFront (o.part (seen ++ r ∷ [])) old new') same
    (takes seen old on.time (record { stands = t.stands; written = subst (λ (o : Output). Adds (o.part seen) old new) (sym same) written }))

-- the end was taken
pub took_last : (output here : Output) (Stands : List Record → Type 0) (result : Result (Unit {0}) Stop) (clock : RecordClock) (old new new' : Option (List ℕ)) → here ≡ output → Finishes result here Stands new new'
    → (seen : List Record) → Took Stands clock seen → Adds (output.part seen) old new → Writes result (output.whole seen) old new'
took_last output here Stands result clock old new new' same finishes seen t written =
    subst (λ (o : Output). Writes result (o.whole seen) old new') same
    (finishes seen old (record { stands = t.stands; written = subst (λ (o : Output). Adds (o.part seen) old new) (sym same) written }))

-- A run by its parts: the script, and then the capture.
use Rattle.std.proofs.Common.{◌≡◌, ℕ, ◌-◌, Bool, true, false, List, [], ◌++◌, length, take, Option, Some, None, Result, Ok, Err, IsTrue, refl, sym, ap, subst, ◌∙◌, arith, zero-le, inl, inr}
use Rattle.std.specs.Prelude.{bytes_eq, if◌then◌else◌}
use Rattle.std.proofs.lemmas.List.{length-append, take_at}
use Rattle.std.proofs.lemmas.Slice.Eq.{bytes_eq-Decides}
use Rattle.rtp_io.specs.Outside.{AreBytes, Disk, SameDisk, IsOpened, IsClosed, Adds, AddsFront}
use Rattle.rtp_io.specs.Laws.{told_then, adds_none, adds_same}
use Rattle.capture_file.specs.Capture.{Capture, capture_of}
use Rattle.script_lang.specs.declared.fault.ScriptFault.{ScriptFault}
use Rattle.script_lang.specs.Contents.{Contents}
use Rattle.script_lang.specs.Grammar.{read_script}
use Rattle.command_core.specs.declared.stop.Stop.{Stop}
use Rattle.command_core.specs.declared.stop.Stop.TheVariants as stop
use Rattle.rtpbin_cli.specs.declared.words.Way.{Way}
use Rattle.rtpbin_cli.specs.declared.words.Way.TheVariants.{Play, Answer}
use Rattle.rtpbin_cli.specs.Words.{Form, Scripted, Described, Dump, Gen, capture_name}
use Rattle.replay_command.specs.declared.rendering.Style.TheVariants as style
use Rattle.sdp_profile.specs.declared.fault.SdpFault.{SdpFault}
use Rattle.sdp_profile.specs.declared.fault.SdpFault.TheVariants as sdp_fault
use Rattle.sdp_profile.specs.Scripts.{described_script}
use Rattle.sdp_command.specs.declared.failure.Failure.{Failure}
use Rattle.sdp_command.specs.declared.failure.Failure.TheVariants.{Stopped, Description}
use Rattle.sdp_command.specs.Failures.{as_failure}
use Rattle.command_core.specs.Inputs.{IsBeingRead}
use Rattle.sdp_command.specs.Reading.{ReadsDescribed}
use Rattle.command_core.specs.Output.{Output, output_of}
use Rattle.replay_command.specs.Replay.{nothing_played}
use Rattle.rtxsend_command.specs.Sent.{rtxsend_output, sent_part}
use Rattle.rtpbin_cli.specs.Commands.{output_by, scripted_by, scripted_output, described_by, described_output}
use Rattle.rtpbin_cli.specs.Commands.{generated_output, generated_text}
use Rattle.rtpbin_cli.specs.Outcome.{Wanted, Refused, Written, HasTaken, want_from, given_from, stop_from, capture_in, wanted_of, out_of, stop_of, given_of, part_from, read_out}
use Rattle.command_core.specs.Steps.{ReadsScript, Covers, TookFew, Prints}
use Rattle.command_core.specs.Laws.{prints_more}
use Rattle.rtpbin_cli.specs.Steps.{Runs, RunsAny}
use Rattle.command_core.specs.Taken.{TakesFew}
use Rattle.dump_command.specs.Dump.{dump_output, dump_part}
use Rattle.rtpbin_cli.proofs.Scripts.{BeginsNoCapture, IsScript, IsDescription, AreTimes}
use Rattle.rtpbin_cli.proofs.Scripts.{begins_no_capture, no_records}

front_none : (p : List ℕ) (a : Option (List ℕ)) → AddsFront p a a
front_none p a = (0, zero-le, adds_none a)

-- ---- a failed read before the capture

-- nothing goes out where what was given holds no record
part_none : (by : Result Output Failure) (given : List ℕ) → ((output : Output) → by ≡ Ok output → (output.part [] ≡ []) × ((capture_of given).records ≡ [])) → part_from by given ≡ []
part_none (Err fault) given none = refl
part_none (Ok output) given none = let here = none output refl in ap output.part here.1 ∙ here.0

-- what a closed file gave
given_closed : (name : List ℕ) (after : Disk) → after.opened ≡ None → given_of name after ≡ []
given_closed name after closed = ap (λ (o : Option (List ℕ)). given_from name after o) closed

-- without records nothing goes out
none_of_dump : dump_part [] ≡ []
unfolding dump_part
none_of_dump = refl

none_of_answers : (c : Contents) → (rtxsend_output c).part [] ≡ []
unfolding sent_part
none_of_answers c = refl

none_scripted : (way : Way) (c : Contents) → (scripted_output way c).part [] ≡ []
none_scripted (Play style) c = nothing_played style c
none_scripted Answer c = none_of_answers c

none_of_each : (contents : List ℕ → List ℕ) (form : Form) (output : Output) → output_by contents form ≡ Ok output → output.part [] ≡ []
none_of_each contents (Dump capture) output is = let e : dump_output ≡ output = cc in subst (λ (o : Output). o.part [] ≡ []) e none_of_dump
none_of_each contents (Gen first count) output is = let e : generated_output first count ≡ output = cc in subst (λ (o : Output). o.part [] ≡ []) e refl
none_of_each contents (Described capture sdp times) output is = at (described_script (contents sdp) (contents times)) is
  where
    at : (read : Result Contents SdpFault) → described_by read ≡ Ok output → output.part [] ≡ []
    at (Ok c) e = let same : described_output c ≡ output = cc in subst (λ (o : Output). o.part [] ≡ []) same (nothing_played (style.Log false) c)
    at (Err fault) e = absurd cc
none_of_each contents (Scripted way capture script) output is = at (read_script (contents script)) is
  where
    at : (read : Result Contents ScriptFault) → scripted_by way read ≡ Ok output → output.part [] ≡ []
    at (Ok c) e = let same : scripted_output way c ≡ output = cc in subst (λ (o : Output). o.part [] ≡ []) same (none_scripted way c)
    at (Err fault) e = absurd cc

read_closed : (form : Form) (after : Disk) → after.opened ≡ None → read_out (Some form) after ≡ []
read_closed form after closed =
    ap (part_from (output_by after.contents form)) (given_closed (capture_name form) after closed)
    ∙ part_none (output_by after.contents form) [] (λ output is. (none_of_each after.contents form output is, no_records [] (omega arith)))

-- a text is open, and perhaps it is the capture too
text_given : (Reads : List ℕ → Type 0) → BeginsNoCapture Reads → (capture text : List ℕ) (after : Disk) → IsBeingRead text after → Reads (after.contents text) → (capture_of (given_of capture after)).records ≡ []
text_given Reads law capture text after reads is =
    ap (λ (o : Option (List ℕ)). (capture_of (given_from capture after o)).records) reads.0 ∙ at (bytes_eq text capture) refl
  where
    at : (b : Bool) → bytes_eq text capture ≡ b → (capture_of (if b then take (length (after.contents capture) - length after.left) (after.contents capture) else [])).records ≡ []
    at true same =
        let name = (bytes_eq-Decides text capture).0 same in
        begins_no_capture Reads law (after.contents capture) (length (after.contents capture) - length after.left)
        (subst (λ (n : List ℕ). AreBytes (after.contents n)) name reads.1) (subst (λ (n : List ℕ). Reads (after.contents n)) name is)
    at false same = no_records [] (omega arith)

-- where something goes out for a script, its script has no fault
contents_by : (way : Way) (read : Result Contents ScriptFault) (output : Output) → scripted_by way read ≡ Ok output → (c : Contents) × (read ≡ Ok c)
contents_by way (Ok c) output is = (c, refl)
contents_by way (Err fault) output is = absurd cc

-- and where something goes out for a description, neither text has one
contents_described : (read : Result Contents SdpFault) (output : Output) → described_by read ≡ Ok output → (c : Contents) × (read ≡ Ok c)
contents_described (Ok c) output is = (c, refl)
contents_described (Err fault) output is = absurd cc

-- nothing goes out where a text could not be read
text_out : (Reads : List ℕ → Type 0) → BeginsNoCapture Reads → (form : Form) (text : List ℕ) (after : Disk) → IsBeingRead text after → ((output : Output) → output_by after.contents form ≡ Ok output → Reads (after.contents text)) → read_out (Some form) after ≡ []
text_out Reads law form text after reads by =
    part_none (output_by after.contents form) (given_of (capture_name form) after)
    (λ output is. (none_of_each after.contents form output is, text_given Reads law (capture_name form) text after reads (by output is)))

script_out : BeginsNoCapture IsScript → (way : Way) (capture script : List ℕ) (after : Disk) → IsBeingRead script after → read_out (Some (Scripted way capture script)) after ≡ []
script_out law way capture script after reads =
    text_out IsScript law (Scripted way capture script) script after reads
    (λ output is. contents_by way (read_script (after.contents script)) output is)

sdp_out : BeginsNoCapture IsDescription → (capture sdp times : List ℕ) (after : Disk) → IsBeingRead sdp after → read_out (Some (Described capture sdp times)) after ≡ []
sdp_out law capture sdp times after reads =
    text_out IsDescription law (Described capture sdp times) sdp after reads
    (λ output is. let s = contents_described (described_script (after.contents sdp) (after.contents times)) output is in (after.contents times, s.0, s.1))

times_out : BeginsNoCapture AreTimes → (capture sdp times : List ℕ) (after : Disk) → IsBeingRead times after → read_out (Some (Described capture sdp times)) after ≡ []
times_out law capture sdp times after reads =
    text_out AreTimes law (Described capture sdp times) times after reads
    (λ output is. let s = contents_described (described_script (after.contents sdp) (after.contents times)) output is in (after.contents sdp, s.0, s.1))

-- ---- the parts

-- nothing was written, and nothing goes out
adds_nothing : (bytes : List ℕ) (old : Option (List ℕ)) → bytes ≡ [] → Adds bytes old old
adds_nothing bytes old is = adds_same [] bytes old old (sym is) (adds_none old)

pub script_stops : BeginsNoCapture IsScript → (way : Way) (capture script : List ℕ) (why : Stop) (before after : Disk) (old : Option (List ℕ)) → SameDisk before after → ReadsScript (Err why) script before after → IsTrue before.told
    → Runs (Err why) (wanted_of before.contents (Scripted way capture script)) (Some (Scripted way capture script)) after old old
script_stops law way capture script (stop.Script line cause) before after old same is told =
    let c = capture_of (before.contents capture) in
    let w : want_from (scripted_by way (read_script (before.contents script))) c ≡ Refused (Stopped (stop.Script line cause)) = ap (λ (r : Result Contents ScriptFault). want_from (scripted_by way r) c) (is told) in
    (ap stop_of w, adds_nothing (out_of (wanted_of before.contents (Scripted way capture script))) old (ap out_of w))
script_stops law way capture script stop.Read before after old same is told = elim (is told) [
  | inl closed ↦ adds_nothing (read_out (Some (Scripted way capture script)) after) old (read_closed (Scripted way capture script) after closed)
  | inr opened ↦ adds_nothing (read_out (Some (Scripted way capture script)) after) old (script_out law way capture script after opened)
]
script_stops law way capture script stop.Memory before after old same is told = front_none (out_of (wanted_of before.contents (Scripted way capture script))) old
script_stops law way capture script stop.Usage before after old same is told = absurd is
script_stops law way capture script stop.Write before after old same is told = absurd is
script_stops law way capture script (stop.Capture fault) before after old same is told = absurd is

-- a description or its settings and timed lines were refused
described_refused : (capture sdp times : List ℕ) (fault : SdpFault) (why : Failure) (contents : List ℕ → List ℕ) (old : Option (List ℕ)) → described_script (contents sdp) (contents times) ≡ Err fault → described_by (Err fault) ≡ Err why
    → (stop_of (wanted_of contents (Described capture sdp times)) ≡ Some why) × Adds (out_of (wanted_of contents (Described capture sdp times))) old old
described_refused capture sdp times fault why contents old is so =
    let w : wanted_of contents (Described capture sdp times) ≡ Refused why = ap (λ (r : Result Output Failure). want_from r (capture_of (contents capture))) (ap described_by is ∙ so) in
    (ap stop_of w, adds_nothing (out_of (wanted_of contents (Described capture sdp times))) old (ap out_of w))

pub described_stops : BeginsNoCapture IsDescription → BeginsNoCapture AreTimes → (capture sdp times : List ℕ) (why : Failure) (before after : Disk) (old : Option (List ℕ)) → ReadsDescribed (Err why) sdp times before after → IsTrue before.told
    → RunsAny (Err why) (wanted_of before.contents (Described capture sdp times)) (Some (Described capture sdp times)) after old old
described_stops first second capture sdp times (Description line cause) before after old is told =
    described_refused capture sdp times (sdp_fault.Bad line cause) (Description line cause) before.contents old (is told) refl
described_stops first second capture sdp times (Stopped (stop.Script line cause)) before after old is told =
    described_refused capture sdp times (sdp_fault.Times line cause) (Stopped (stop.Script line cause)) before.contents old (is told) refl
described_stops first second capture sdp times (Stopped stop.Read) before after old is told = elim (is told) [
  | inl closed ↦ adds_nothing (read_out (Some (Described capture sdp times)) after) old (read_closed (Described capture sdp times) after closed)
  | inr (inl reads) ↦ adds_nothing (read_out (Some (Described capture sdp times)) after) old (sdp_out first capture sdp times after reads)
  | inr (inr reads) ↦ adds_nothing (read_out (Some (Described capture sdp times)) after) old (times_out second capture sdp times after reads)
]
described_stops first second capture sdp times (Stopped stop.Memory) before after old is told = front_none (out_of (wanted_of before.contents (Described capture sdp times))) old
described_stops first second capture sdp times (Stopped stop.Usage) before after old is told = absurd is
described_stops first second capture sdp times (Stopped stop.Write) before after old is told = absurd is
described_stops first second capture sdp times (Stopped (stop.Capture fault)) before after old is told = absurd is

-- a run that reads no description, as any
pub runs_any : (r : Result (Unit {0}) Stop) (want : Wanted) (form : Option Form) (after : Disk) (old new : Option (List ℕ)) → Runs r want form after old new → RunsAny (as_failure r) want form after old new
runs_any (Ok x) want form after old new runs = runs
runs_any (Err why) want form after old new runs = runs

pub open_fails : (form : Form) (after : Disk) (old : Option (List ℕ)) → IsClosed after → Adds (read_out (Some form) after) old old
open_fails form after old closed = adds_same [] (read_out (Some form) after) old old (sym (read_closed form after closed.opened)) (adds_none old)

-- what the open file gave
given_bytes : (name : List ℕ) (start after : Disk) (given : List ℕ) → start.left ≡ given ++ after.left → after.contents name ≡ start.left → after.opened ≡ Some name → given_of name after ≡ given
given_bytes name start after given all contents opened =
    let whole : after.contents name ≡ given ++ after.left = contents ∙ all in
    let len : length (given ++ after.left) - length after.left ≡ length given = omega (arith, length-append given after.left) in
    let cut : take (length (after.contents name) - length after.left) (after.contents name) ≡ given =
    ap (λ (l : List ℕ). take (length l - length after.left) l) whole ∙ ap (λ (n : ℕ). take n (given ++ after.left)) len ∙ take_at given after.left (length given) refl in
    ap (λ (o : Option (List ℕ)). given_from name after o) opened ∙ ap (λ (b : Bool). if b then take (length (after.contents name) - length after.left) (after.contents name) else []) ((bytes_eq-Decides name name).1 refl) ∙ cut

-- what was given of the capture
given_is : (form : Form) (output : Output) (start after : Disk) (given : List ℕ) → start.left ≡ given ++ after.left → after.contents (capture_name form) ≡ start.left → after.opened ≡ Some (capture_name form)
    → output_by after.contents form ≡ Ok output → read_out (Some form) after ≡ output.part (capture_of given).records
given_is form output start after given all contents opened by =
    let name = capture_name form in
    let part : given_of name after ≡ given = given_bytes name start after given all contents opened in
    ap (λ (r : Result Output Failure). part_from r (given_of name after)) by ∙ ap (λ (l : List ℕ). output.part (capture_of l).records) part

-- the capture was opened, and its lines went out
pub capture_runs : (form : Form) → ((contents : List ℕ → List ℕ) → capture_in contents form ≡ capture_of (contents (capture_name form))) → (output : Output) (result : Result (Unit {0}) Stop) (before start after : Disk) (old new : Option (List ℕ)) → IsTrue before.told → SameDisk before start → SameDisk start after
    → output_by before.contents form ≡ Ok output → IsOpened (capture_name form) start → (IsTrue start.told → after.opened ≡ start.opened)
    → Covers output result start after old new → Runs result (wanted_of before.contents form) (Some form) after old new
capture_runs form captured output result before start after old new told same same' by opened kept covers = at result covers
  where
    here : IsTrue start.told
    here = told_then before start same told

    left : start.left ≡ before.contents (capture_name form)
    left = opened.all ∙ ap (λ (f : List ℕ → List ℕ). f (capture_name form)) same.contents

    contents : after.contents ≡ before.contents
    contents = same'.contents ∙ same.contents

    w : wanted_of before.contents form ≡ Written output (capture_of start.left)
    w = ap (λ (r : Result Output Failure). want_from r (capture_in before.contents form)) by ∙ ap (λ (c : Capture). Written output c) (captured before.contents ∙ ap capture_of (sym left))

    front : AddsFront (output_of output (capture_of start.left)) old new → AddsFront (out_of (wanted_of before.contents form)) old new
    front f = subst (λ (l : List ℕ). AddsFront l old new) (sym (ap out_of w)) f

    took : TookFew output start after old new → HasTaken (wanted_of before.contents form) (Some form) after old new
    took t =
        let given : given_of (capture_name form) after ≡ t.taken =
        given_bytes (capture_name form) start after t.taken t.all (ap (λ (f : List ℕ → List ℕ). f (capture_name form)) contents ∙ sym left) (kept here ∙ opened.opened) in
        let all : after.contents (capture_name form) ≡ start.left = ap (λ (f : List ℕ → List ℕ). f (capture_name form)) contents ∙ sym left in
        subst (λ (want : Wanted). HasTaken want (Some form) after old new) (sym w)
        (subst (λ (l : List ℕ). TakesFew output (after.contents (capture_name form)) l old new) (sym given) (subst (λ (l : List ℕ). TakesFew output l t.taken old new) (sym all) t.few))

    at : (result : Result (Unit {0}) Stop) → Covers output result start after old new → Runs result (wanted_of before.contents form) (Some form) after old new
    at (Ok x) h = (ap stop_of w ∙ ap stop_from (h here).0, adds_same (output_of output (capture_of start.left)) _ old new (sym (ap out_of w)) (h here).1)
    at (Err (stop.Capture fault)) h = (ap stop_of w ∙ ap stop_from (h here).0, adds_same (output_of output (capture_of start.left)) _ old new (sym (ap out_of w)) (h here).1)
    at (Err stop.Read) h =
        let g = h here in
        adds_same (output.part (capture_of g.given).records) (read_out (Some form) after) old new
        (sym (given_is form output start after g.given g.all (ap (λ (f : List ℕ → List ℕ). f (capture_name form)) contents ∙ sym left) (kept here ∙ opened.opened) (ap (λ (f : List ℕ → List ℕ). output_by f form) contents ∙ by))) g.written
    at (Err stop.Write) h = (front (h here).0, took (h here).1)
    at (Err stop.Memory) h = front (h here)
    at (Err stop.Usage) h = absurd h
    at (Err (stop.Script line cause)) h = absurd h

-- ---- generated packets

pub generated_runs : (first count : ℕ) (result : Result (Unit {0}) Stop) (before after : Disk) (old new : Option (List ℕ)) (o o' : ℕ) → Prints (generated_text first count) result old new o o'
    → Runs result (wanted_of before.contents (Gen first count)) (Some (Gen first count)) after old new
generated_runs first count (Ok x) before after old new o o' h = (refl, h.0)
generated_runs first count (Err stop.Write) before after old new o o' h = (h.0, λ n cut. absurd (cut (prints_more (generated_text first count) (Err stop.Write) old new o o' h)))
generated_runs first count (Err stop.Memory) before after old new o o' h = h.0
generated_runs first count (Err stop.Usage) before after old new o o' h = absurd h
generated_runs first count (Err (stop.Script line cause)) before after old new o o' h = absurd h
generated_runs first count (Err stop.Read) before after old new o o' h = absurd h
generated_runs first count (Err (stop.Capture fault)) before after old new o o' h = absurd h

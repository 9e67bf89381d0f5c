-- How a run ends with its report.
use Rattle.std.proofs.Common.{◌≡◌, ℕ, ◌<◌, List, [], Option, Some, None, Err, sym, ap, subst, inl, inr, ◌⊎◌, arith}
use Rattle.std.proofs.lemmas.List.{append-nil}
use Rattle.rtp_io.specs.Outside.{Disk, Adds, AddsFront}
use Rattle.rtp_io.specs.Laws.{front_of, adds_same}
use Rattle.command_core.specs.declared.status.Status.{Status}
use Rattle.command_core.specs.declared.status.Status.TheVariants as status
use Rattle.command_core.specs.declared.stop.Stop.TheVariants as stop
use Rattle.rtpbin_cli.specs.Words.{Form, Scripted, Described, Dump, Gen}
use Rattle.sdp_profile.specs.declared.fault.SdpCause.{SdpCause}
use Rattle.command_core.specs.Stops.{memory_text}
use Rattle.sdp_command.specs.declared.failure.Failure.{Failure}
use Rattle.sdp_command.specs.declared.failure.Failure.TheVariants.{Stopped, Description}
use Rattle.sdp_command.specs.Failures.{text_of_failure, HasFailureCause}
use Rattle.rtpbin_cli.specs.Outcome.{Wanted, IsDescribed, HasLineErr, HasScriptErr, out_of, stop_of, err_from, err_of, read_out, IsFront, HasOut, HasTaken, MayStop, MustStop, HasCutErr, HasErr, HasSomeErr}
use Rattle.rtpbin_cli.specs.Steps.{IsUsage, RunsAny, Told, Reports}

all_front : (p : List ℕ) (a b : Option (List ℕ)) → Adds p a b → AddsFront p a b
all_front p a b adds = subst (λ (l : List ℕ). AddsFront l a b) (append-nil p) (front_of p [] a b adds)

-- P holds of the result, if it holds at the wish, and at Write where the text failed
told_is : (P : Status → Type 0) (result wish : Status) (text : List ℕ) (w w' : Option (List ℕ)) (e e' : ℕ) → Told result wish text w w' e e'
    → (Adds text w w' → e' ≡ e → P wish) → (AddsFront text w w' → e < e' → P status.Write) → P result
told_is P result wish text w w' e e' (inl h) at_wish at_write = subst P (sym h.0) (at_wish h.1 h.2)
told_is P result wish text w w' e e' (inr h) at_wish at_write = subst P (sym h.0) (at_write h.1 h.2)

-- the same of a report that is no failed write
report_is : (P : Status → Type 0) (result wish : Status) (text : List ℕ) (w w' : Option (List ℕ)) (e e' : ℕ) → Told result wish text w w' e e' ⊎ Told result status.Memory memory_text w w' e e'
    → (Adds text w w' → e' ≡ e → P wish) → (AddsFront text w w' → e < e' → P status.Write) → (Adds memory_text w w' → e' ≡ e → P status.Memory) → (AddsFront memory_text w w' → e < e' → P status.Write) → P result
report_is P result wish text w w' e e' (inl h) a b c d = told_is P result wish text w w' e e' h a b
report_is P result wish text w w' e e' (inr h) a b c d = told_is P result status.Memory memory_text w w' e e' h c d

pub out_ends : (why : Failure) (result : Status) (want : Wanted) (form : Option Form) (after : Disk) (x x' w w' : Option (List ℕ)) (e e' : ℕ) → RunsAny (Err why) want form after x x' → Reports result why w w' e e' → HasOut result want form after x x'
out_ends (Stopped stop.Write) result want form after x x' w w' e e' h r = subst (λ (s : Status). HasOut s want form after x x') (sym r.0) (inl h.0)
out_ends (Stopped stop.Usage) result want form after x x' w w' e e' h r = let f : IsFront want form after x x' = inl (all_front (out_of want) x x' h.1) in report_is (λ s. HasOut s want form after x x') result status.Usage (text_of_failure (Stopped stop.Usage)) w w' e e' r (λ a b. h.1) (λ a b. f) (λ a b. f) (λ a b. f)
out_ends (Stopped (stop.Script line why)) result want form after x x' w w' e e' h r = let f : IsFront want form after x x' = inl (all_front (out_of want) x x' h.1) in report_is (λ s. HasOut s want form after x x') result status.Script (text_of_failure (Stopped (stop.Script line why))) w w' e e' r (λ a b. h.1) (λ a b. f) (λ a b. f) (λ a b. f)
out_ends (Description line why) result want form after x x' w w' e e' h r = let f : IsFront want form after x x' = inl (all_front (out_of want) x x' h.1) in report_is (λ s. HasOut s want form after x x') result status.Script (text_of_failure (Description line why)) w w' e e' r (λ a b. h.1) (λ a b. f) (λ a b. f) (λ a b. f)
out_ends (Stopped (stop.Capture fault)) result want form after x x' w w' e e' h r = let f : IsFront want form after x x' = inl (all_front (out_of want) x x' h.1) in report_is (λ s. HasOut s want form after x x') result status.Capture (text_of_failure (Stopped (stop.Capture fault))) w w' e e' r (λ a b. h.1) (λ a b. f) (λ a b. f) (λ a b. f)
out_ends (Stopped stop.Read) result want form after x x' w w' e e' h r = let f : IsFront want form after x x' = inr (all_front (read_out form after) x x' h) in report_is (λ s. HasOut s want form after x x') result status.Read (text_of_failure (Stopped stop.Read)) w w' e e' r (λ a b. h) (λ a b. f) (λ a b. f) (λ a b. f)
out_ends (Stopped stop.Memory) result want form after x x' w w' e e' h r = let f : IsFront want form after x x' = inl h in report_is (λ s. HasOut s want form after x x') result status.Memory memory_text w w' e e' r (λ a b. f) (λ a b. f) (λ a b. f) (λ a b. f)

-- what was taken, where a write to the output failed
pub few_ends : (why : Failure) (want : Wanted) (form : Option Form) (after : Disk) (f f' o o' : ℕ) (x x' : Option (List ℕ)) → RunsAny (Err why) want form after x x' → HasFailureCause {A = Unit {0}} (Err why) f f' o o' → o < o' → HasTaken want form after x x'
few_ends (Stopped stop.Write) want form after f f' o o' x x' h cause lt = h.1
few_ends (Stopped stop.Usage) want form after f f' o o' x x' h cause lt = absurd (omega (arith, lt, cause.1))
few_ends (Stopped (stop.Script line why)) want form after f f' o o' x x' h cause lt = absurd (omega (arith, lt, cause.1))
few_ends (Description line why) want form after f f' o o' x x' h cause lt = absurd (omega (arith, lt, cause.1))
few_ends (Stopped stop.Read) want form after f f' o o' x x' h cause lt = absurd (omega (arith, lt, cause.1))
few_ends (Stopped (stop.Capture fault)) want form after f f' o o' x x' h cause lt = absurd (omega (arith, lt, cause.1))
few_ends (Stopped stop.Memory) want form after f f' o o' x x' h cause lt = absurd (omega (arith, lt, cause.1))

-- ---- what was added to the errors

cut_err : (Stops : Failure → Type 0) (why : Failure) (o o' : ℕ) (w w' : Option (List ℕ)) → o' ≡ o → Stops why → AddsFront (text_of_failure why) w w' → HasCutErr Stops o o' w w'
cut_err Stops why o o' w w' same stops front = inr (same, record { why = why; stops = stops; front = front })

-- the text of a stop that the input calls for
called_text : (want : Wanted) (why : Failure) (w w' : Option (List ℕ)) → stop_of want ≡ Some why → Adds (text_of_failure why) w w' → Adds (err_of want) w w'
called_text want why w w' is adds = adds_same (text_of_failure why) (err_of want) w w' (sym (ap err_from is)) adds

pub err_ends : (why : Failure) (result : Status) (want : Wanted) (form : Option Form) (after : Disk) (f f' o o' e e' : ℕ) (x x' w w' : Option (List ℕ))
    → RunsAny (Err why) want form after x x' → HasFailureCause {A = Unit {0}} (Err why) f f' o o' → Reports result why w w' e e' → HasErr result want f f' o o' w w'
err_ends (Stopped stop.Write) result want form after f f' o o' e e' x x' w w' h cause r = subst (λ (s : Status). HasErr s want f f' o o' w w') (sym r.0) (inl (cause.1, r.1))
err_ends (Stopped stop.Usage) result want form after f f' o o' e e' x x' w w' h cause r =
    report_is (λ s. HasErr s want f f' o o' w w') result status.Usage (text_of_failure (Stopped stop.Usage)) w w' e e' r
    (λ a b. called_text want (Stopped stop.Usage) w w' h.0 a) (λ a b. cut_err (MustStop want f f') (Stopped stop.Usage) o o' w w' cause.1 (h.0, cause.0) a)
    (λ a b. a) (λ a b. cut_err (MustStop want f f') (Stopped stop.Memory) o o' w w' cause.1 tt a)
err_ends (Stopped (stop.Script line why)) result want form after f f' o o' e e' x x' w w' h cause r =
    report_is (λ s. HasErr s want f f' o o' w w') result status.Script (text_of_failure (Stopped (stop.Script line why))) w w' e e' r
    (λ a b. called_text want (Stopped (stop.Script line why)) w w' h.0 a) (λ a b. cut_err (MustStop want f f') (Stopped (stop.Script line why)) o o' w w' cause.1 (h.0, cause.0) a)
    (λ a b. a) (λ a b. cut_err (MustStop want f f') (Stopped stop.Memory) o o' w w' cause.1 tt a)
err_ends (Description line why) result want form after f f' o o' e e' x x' w w' h cause r =
    report_is (λ s. HasErr s want f f' o o' w w') result status.Script (text_of_failure (Description line why)) w w' e e' r
    (λ a b. called_text want (Description line why) w w' h.0 a) (λ a b. cut_err (MustStop want f f') (Description line why) o o' w w' cause.1 (h.0, cause.0) a)
    (λ a b. a) (λ a b. cut_err (MustStop want f f') (Stopped stop.Memory) o o' w w' cause.1 tt a)
err_ends (Stopped (stop.Capture fault)) result want form after f f' o o' e e' x x' w w' h cause r =
    report_is (λ s. HasErr s want f f' o o' w w') result status.Capture (text_of_failure (Stopped (stop.Capture fault))) w w' e e' r
    (λ a b. called_text want (Stopped (stop.Capture fault)) w w' h.0 a) (λ a b. cut_err (MustStop want f f') (Stopped (stop.Capture fault)) o o' w w' cause.1 (h.0, cause.0) a)
    (λ a b. a) (λ a b. cut_err (MustStop want f f') (Stopped stop.Memory) o o' w w' cause.1 tt a)
err_ends (Stopped stop.Read) result want form after f f' o o' e e' x x' w w' h cause r =
    report_is (λ s. HasErr s want f f' o o' w w') result status.Read (text_of_failure (Stopped stop.Read)) w w' e e' r
    (λ a b. a) (λ a b. cut_err (MustStop want f f') (Stopped stop.Read) o o' w w' cause.1 cause.0 a)
    (λ a b. a) (λ a b. cut_err (MustStop want f f') (Stopped stop.Memory) o o' w w' cause.1 tt a)
err_ends (Stopped stop.Memory) result want form after f f' o o' e e' x x' w w' h cause r =
    report_is (λ s. HasErr s want f f' o o' w w') result status.Memory memory_text w w' e e' r
    (λ a b. a) (λ a b. cut_err (MustStop want f f') (Stopped stop.Memory) o o' w w' cause.1 tt a)
    (λ a b. a) (λ a b. cut_err (MustStop want f f') (Stopped stop.Memory) o o' w w' cause.1 tt a)

-- the text of a bad line
script_err : (form : Option Form) (old new : Option (List ℕ)) → HasScriptErr old new → HasLineErr form old new
script_err None old new text = text
script_err (Some (Scripted way capture script)) old new text = text
script_err (Some (Described capture sdp times)) old new text = inl text
script_err (Some (Dump capture)) old new text = text
script_err (Some (Gen first count)) old new text = text

description_err : (form : Option Form) (line : ℕ) (why : SdpCause) (old new : Option (List ℕ)) → IsDescribed form → Adds (text_of_failure (Description line why)) old new → HasLineErr form old new
description_err None line why old new is text = absurd is
description_err (Some (Scripted way capture script)) line why old new is text = absurd is
description_err (Some (Described capture sdp times)) line why old new is text = inr (line, why, text)
description_err (Some (Dump capture)) line why old new is text = absurd is
description_err (Some (Gen first count)) line why old new is text = absurd is

-- and where the input is not known
pub text_ends : (why : Failure) (result : Status) (form : Option Form) (f f' o o' e e' : ℕ) (w w' : Option (List ℕ))
    → IsUsage (Err why) form → HasFailureCause {A = Unit {0}} (Err why) f f' o o' → Reports result why w w' e e' → HasSomeErr result form f f' o o' w w'
text_ends (Stopped stop.Write) result form f f' o o' e e' w w' usage cause r = subst (λ (s : Status). HasSomeErr s form f f' o o' w w') (sym r.0) (inl (cause.1, r.1))
text_ends (Stopped stop.Usage) result form f f' o o' e e' w w' usage cause r =
    report_is (λ s. HasSomeErr s form f f' o o' w w') result status.Usage (text_of_failure (Stopped stop.Usage)) w w' e e' r
    (λ a b. a) (λ a b. cut_err (MayStop form f f') (Stopped stop.Usage) o o' w w' cause.1 (usage, cause.0) a)
    (λ a b. a) (λ a b. cut_err (MayStop form f f') (Stopped stop.Memory) o o' w w' cause.1 tt a)
text_ends (Stopped (stop.Script line why)) result form f f' o o' e e' w w' usage cause r =
    report_is (λ s. HasSomeErr s form f f' o o' w w') result status.Script (text_of_failure (Stopped (stop.Script line why))) w w' e e' r
    (λ a b. script_err form w w' (line, why, a)) (λ a b. cut_err (MayStop form f f') (Stopped (stop.Script line why)) o o' w w' cause.1 (usage, cause.0) a)
    (λ a b. a) (λ a b. cut_err (MayStop form f f') (Stopped stop.Memory) o o' w w' cause.1 tt a)
text_ends (Description line why) result form f f' o o' e e' w w' usage cause r =
    report_is (λ s. HasSomeErr s form f f' o o' w w') result status.Script (text_of_failure (Description line why)) w w' e e' r
    (λ a b. description_err form line why w w' usage a) (λ a b. cut_err (MayStop form f f') (Description line why) o o' w w' cause.1 (usage, cause.0) a)
    (λ a b. a) (λ a b. cut_err (MayStop form f f') (Stopped stop.Memory) o o' w w' cause.1 tt a)
text_ends (Stopped (stop.Capture fault)) result form f f' o o' e e' w w' usage cause r =
    report_is (λ s. HasSomeErr s form f f' o o' w w') result status.Capture (text_of_failure (Stopped (stop.Capture fault))) w w' e e' r
    (λ a b. (fault, a)) (λ a b. cut_err (MayStop form f f') (Stopped (stop.Capture fault)) o o' w w' cause.1 (usage, cause.0) a)
    (λ a b. a) (λ a b. cut_err (MayStop form f f') (Stopped stop.Memory) o o' w w' cause.1 tt a)
text_ends (Stopped stop.Read) result form f f' o o' e e' w w' usage cause r =
    report_is (λ s. HasSomeErr s form f f' o o' w w') result status.Read (text_of_failure (Stopped stop.Read)) w w' e e' r
    (λ a b. a) (λ a b. cut_err (MayStop form f f') (Stopped stop.Read) o o' w w' cause.1 cause.0 a)
    (λ a b. a) (λ a b. cut_err (MayStop form f f') (Stopped stop.Memory) o o' w w' cause.1 tt a)
text_ends (Stopped stop.Memory) result form f f' o o' e e' w w' usage cause r =
    report_is (λ s. HasSomeErr s form f f' o o' w w') result status.Memory memory_text w w' e e' r
    (λ a b. a) (λ a b. cut_err (MayStop form f f') (Stopped stop.Memory) o o' w w' cause.1 tt a)
    (λ a b. a) (λ a b. cut_err (MayStop form f f') (Stopped stop.Memory) o o' w w' cause.1 tt a)

-- How a run ends with its report.
use Rattle.std.proofs.Common.{◌≡◌, ℕ, ◌<◌, List, [], Option, Some, Err, sym, ap, subst, inl, inr}
use Rattle.std.proofs.Common.{◌⊎◌, ◌≢◌, refl, arith}
use Rattle.std.proofs.lemmas.List.{append-nil}
use Rattle.rtp_io.specs.Outside.{Adds, AddsFront}
use Rattle.rtp_io.specs.Laws.{front_of, adds_same}
use Rattle.command_core.specs.declared.status.Status.{Status}
use Rattle.command_core.specs.declared.status.Status.TheVariants as status
use Rattle.command_core.specs.declared.stop.Stop.{Stop}
use Rattle.command_core.specs.declared.stop.Stop.TheVariants as stop
use Rattle.command_core.specs.Stops.{memory_text, text_of}
use Rattle.command_core.specs.Steps.{HasStopCause}
use Rattle.rtpscan_cli.specs.Words.{Form}
use Rattle.rtpscan_cli.specs.Outcome.{Wanted, out_of, stop_of, told_text, err_from, err_of, HasOut}
use Rattle.rtpscan_cli.specs.Outcome.{MayStop, MustStop, HasCutErr, HasErr, HasSomeErr}
use Rattle.command_core.specs.Reports.{Told}
use Rattle.rtpscan_cli.specs.Steps.{IsUsage, Runs, ReportsStop}

-- but for the usage text those are the texts of the commands
pub commands_text : (why : Stop) → why ≢ stop.Usage → told_text why ≡ text_of why
commands_text stop.Usage other = absurd (other refl)
commands_text (stop.Script line cause) other = refl
commands_text stop.Read other = refl
commands_text (stop.Capture fault) other = refl
commands_text stop.Write other = refl
commands_text stop.Memory other = refl

all_front : (p : List ℕ) (a b : Option (List ℕ)) → Adds p a b → AddsFront p a b
all_front p a b adds =
    subst (λ (l : List ℕ). AddsFront l a b) (append-nil p) (front_of p [] a b adds)

-- P holds of the result, if it holds at the wish, and at Write where the text failed
told_is : (P : Status → Type 0) (result wish : Status) (text : List ℕ) (w w' : Option (List ℕ))
    (e e' : ℕ) → Told result wish text w w' e e'
    → (Adds text w w' → e' ≡ e → P wish) → (AddsFront text w w' → e < e' → P status.Write)
    → P result
told_is P result wish text w w' e e' (inl h) at_wish at_write = subst P (sym h.0) (at_wish h.1 h.2)
told_is P result wish text w w' e e' (inr h) at_wish at_write = subst P (sym h.0) (at_write h.1 h.2)

-- the same of a report that is no failed write
report_is : (P : Status → Type 0) (result wish : Status) (text : List ℕ) (w w' : Option (List ℕ))
    (e e' : ℕ) → Told result wish text w w' e e' ⊎ Told result status.Memory memory_text w w' e e'
    → (Adds text w w' → e' ≡ e → P wish) → (AddsFront text w w' → e < e' → P status.Write)
    → (Adds memory_text w w' → e' ≡ e → P status.Memory)
    → (AddsFront memory_text w w' → e < e' → P status.Write) → P result
report_is P result wish text w w' e e' (inl h) a b c d = told_is P result wish text w w' e e' h a b
report_is P result wish text w w' e e' (inr h) a b c d =
    told_is P result status.Memory memory_text w w' e e' h c d

pub out_ends : (why : Stop) (result : Status) (want : Wanted) (x x' w w' : Option (List ℕ))
    (e e' : ℕ) → Runs (Err why) want x x' → ReportsStop result why w w' e e' → HasOut result want x x'
out_ends stop.Write result want x x' w w' e e' h r =
    subst (λ (s : Status). HasOut s want x x') (sym r.0) h
out_ends stop.Usage result want x x' w w' e e' h r = let f : AddsFront (out_of want) x x' =
    all_front (out_of want) x x' h.1 in
    report_is (λ s. HasOut s want x x') result status.Usage (told_text stop.Usage) w w' e e' r
    (λ a b. h.1) (λ a b. f) (λ a b. f) (λ a b. f)
out_ends (stop.Script line why) result want x x' w w' e e' h r =
    let f : AddsFront (out_of want) x x' = all_front (out_of want) x x' h.1 in
    report_is (λ s. HasOut s want x x') result status.Script (told_text (stop.Script line why)) w w'
    e e' r (λ a b. h.1) (λ a b. f) (λ a b. f) (λ a b. f)
out_ends (stop.Capture fault) result want x x' w w' e e' h r =
    let f : AddsFront (out_of want) x x' = all_front (out_of want) x x' h.1 in
    report_is (λ s. HasOut s want x x') result status.Capture (told_text (stop.Capture fault)) w w'
    e e' r (λ a b. h.1) (λ a b. f) (λ a b. f) (λ a b. f)
out_ends stop.Read result want x x' w w' e e' h r = let f : AddsFront (out_of want) x x' =
    front_of [] (out_of want) x x' h in
    report_is (λ s. HasOut s want x x') result status.Read (told_text stop.Read) w w' e e' r
    (λ a b. h) (λ a b. f) (λ a b. f) (λ a b. f)
out_ends stop.Memory result want x x' w w' e e' h r =
    report_is (λ s. HasOut s want x x') result status.Memory memory_text w w' e e' r (λ a b. h)
    (λ a b. h) (λ a b. h) (λ a b. h)

-- ---- what was added to the errors

cut_err : (Stops : Stop → Type 0) (why : Stop) (o o' : ℕ) (w w' : Option (List ℕ)) → o' ≡ o
    → Stops why → AddsFront (told_text why) w w' → HasCutErr Stops o o' w w'
cut_err Stops why o o' w w' same stops front =
    inr (same, record { why = why; stops = stops; front = front })

-- the text of a stop that the input calls for
called_text : (want : Wanted) (why : Stop) (w w' : Option (List ℕ)) → stop_of want ≡ Some why
    → Adds (told_text why) w w' → Adds (err_of want) w w'
called_text want why w w' is adds =
    adds_same (told_text why) (err_of want) w w' (sym (ap err_from is)) adds

pub err_ends : (why : Stop) (result : Status) (want : Wanted) (f f' o o' e e' : ℕ)
    (x x' w w' : Option (List ℕ))
    → Runs (Err why) want x x' → HasStopCause {A = Unit {0}} (Err why) f f' o o'
    → ReportsStop result why w w' e e' → HasErr result want f f' o o' w w'
err_ends stop.Write result want f f' o o' e e' x x' w w' h cause r =
    subst (λ (s : Status). HasErr s want f f' o o' w w') (sym r.0) (inl (cause.1, r.1))
err_ends stop.Usage result want f f' o o' e e' x x' w w' h cause r =
    report_is (λ s. HasErr s want f f' o o' w w') result status.Usage (told_text stop.Usage) w w' e
    e' r
    (λ a b. called_text want stop.Usage w w' h.0 a)
    (λ a b. cut_err (MustStop want f f') stop.Usage o o' w w' cause.1 (h.0, cause.0) a)
    (λ a b. a) (λ a b. cut_err (MustStop want f f') stop.Memory o o' w w' cause.1 tt a)
err_ends (stop.Script line why) result want f f' o o' e e' x x' w w' h cause r =
    report_is (λ s. HasErr s want f f' o o' w w') result status.Script
    (told_text (stop.Script line why)) w w' e e' r
    (λ a b. called_text want (stop.Script line why) w w' h.0 a)
    (λ a b. cut_err (MustStop want f f') (stop.Script line why) o o' w w' cause.1 (h.0, cause.0) a)
    (λ a b. a) (λ a b. cut_err (MustStop want f f') stop.Memory o o' w w' cause.1 tt a)
err_ends (stop.Capture fault) result want f f' o o' e e' x x' w w' h cause r =
    report_is (λ s. HasErr s want f f' o o' w w') result status.Capture
    (told_text (stop.Capture fault)) w w' e e' r
    (λ a b. called_text want (stop.Capture fault) w w' h.0 a)
    (λ a b. cut_err (MustStop want f f') (stop.Capture fault) o o' w w' cause.1 (h.0, cause.0) a)
    (λ a b. a) (λ a b. cut_err (MustStop want f f') stop.Memory o o' w w' cause.1 tt a)
err_ends stop.Read result want f f' o o' e e' x x' w w' h cause r =
    report_is (λ s. HasErr s want f f' o o' w w') result status.Read (told_text stop.Read) w w' e e'
    r
    (λ a b. a) (λ a b. cut_err (MustStop want f f') stop.Read o o' w w' cause.1 cause.0 a)
    (λ a b. a) (λ a b. cut_err (MustStop want f f') stop.Memory o o' w w' cause.1 tt a)
err_ends stop.Memory result want f f' o o' e e' x x' w w' h cause r =
    report_is (λ s. HasErr s want f f' o o' w w') result status.Memory memory_text w w' e e' r
    (λ a b. a) (λ a b. cut_err (MustStop want f f') stop.Memory o o' w w' cause.1 tt a)
    (λ a b. a) (λ a b. cut_err (MustStop want f f') stop.Memory o o' w w' cause.1 tt a)

-- and where the input is not known
pub text_ends : (why : Stop) (result : Status) (form : Option Form) (f f' o o' e e' : ℕ)
    (w w' : Option (List ℕ))
    → IsUsage (Err why) form → HasStopCause {A = Unit {0}} (Err why) f f' o o'
    → ReportsStop result why w w' e e' → HasSomeErr result form f f' o o' w w'
text_ends stop.Write result form f f' o o' e e' w w' usage cause r =
    subst (λ (s : Status). HasSomeErr s form f f' o o' w w') (sym r.0) (inl (cause.1, r.1))
text_ends stop.Usage result form f f' o o' e e' w w' usage cause r =
    report_is (λ s. HasSomeErr s form f f' o o' w w') result status.Usage (told_text stop.Usage) w
    w' e e' r
    (λ a b. a) (λ a b. cut_err (MayStop form f f') stop.Usage o o' w w' cause.1 (usage, cause.0) a)
    (λ a b. a) (λ a b. cut_err (MayStop form f f') stop.Memory o o' w w' cause.1 tt a)
text_ends (stop.Script line why) result form f f' o o' e e' w w' usage cause r =
    report_is (λ s. HasSomeErr s form f f' o o' w w') result status.Script
    (told_text (stop.Script line why)) w w' e e' r
    (λ a b. (line, why, a))
    (λ a b. cut_err (MayStop form f f') (stop.Script line why) o o' w w' cause.1 (usage, cause.0) a)
    (λ a b. a) (λ a b. cut_err (MayStop form f f') stop.Memory o o' w w' cause.1 tt a)
text_ends (stop.Capture fault) result form f f' o o' e e' w w' usage cause r =
    report_is (λ s. HasSomeErr s form f f' o o' w w') result status.Capture
    (told_text (stop.Capture fault)) w w' e e' r
    (λ a b. (fault, a)) (λ a b. cut_err (MayStop form f f') (stop.Capture fault) o o' w w' cause.1
    (usage, cause.0) a)
    (λ a b. a) (λ a b. cut_err (MayStop form f f') stop.Memory o o' w w' cause.1 tt a)
text_ends stop.Read result form f f' o o' e e' w w' usage cause r =
    report_is (λ s. HasSomeErr s form f f' o o' w w') result status.Read (told_text stop.Read) w w'
    e e' r
    (λ a b. a) (λ a b. cut_err (MayStop form f f') stop.Read o o' w w' cause.1 cause.0 a)
    (λ a b. a) (λ a b. cut_err (MayStop form f f') stop.Memory o o' w w' cause.1 tt a)
text_ends stop.Memory result form f f' o o' e e' w w' usage cause r =
    report_is (λ s. HasSomeErr s form f f' o o' w w') result status.Memory memory_text w w' e e' r
    (λ a b. a) (λ a b. cut_err (MayStop form f f') stop.Memory o o' w w' cause.1 tt a)
    (λ a b. a) (λ a b. cut_err (MayStop form f f') stop.Memory o o' w w' cause.1 tt a)

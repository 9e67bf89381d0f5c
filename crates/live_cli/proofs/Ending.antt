-- How a run ends with its report.
use Rattle.std.proofs.Common.{◌≡◌, ◌≢◌, ◌<◌, ◌⊎◌, ℕ, List, [], Option, Some, None, Result, Err}
use Rattle.std.proofs.Common.{sym, ap, subst, ◌∙◌, arith, inl, inr, refl}
use Rattle.rtp_io.specs.Outside.{Adds, AddsFront}
use Rattle.rtp_io.specs.Laws.{adds_same}
use Rattle.command_core.specs.declared.status.Status.{Status}
use Rattle.command_core.specs.declared.status.Status.TheVariants as status
use Rattle.command_core.specs.declared.stop.Stop.TheVariants as stop
use Rattle.command_core.specs.Stops.{memory_text}
use Rattle.live_command.specs.declared.stop.LiveStop.{LiveStop}
use Rattle.live_command.specs.declared.stop.LiveStop.TheVariants.{Common, TooMany, MixedLinks}
use Rattle.live_command.specs.Stops.{HasLiveCause, status_of_stop, text_of}
use Rattle.live_cli.specs.Words.{Form}
use Rattle.live_cli.specs.Outcome.{Wanted, WroteSome, HasOut, IsSilent, MayStop, MustStop}
use Rattle.live_cli.specs.Outcome.{HasCutErr, HasErr, HasSomeErr, err_from, err_of, stop_of}
use Rattle.live_cli.specs.Steps.{IsUsage, Runs, RunsSilently, Told, Reports}

-- P holds of the result, if it holds at the wish, and at Write where the text failed
told_is : (P : Status → Type 0) (result wish : Status) (text : List ℕ) (w w' : Option (List ℕ))
    (e e' : ℕ) → Told result wish text w w' e e' → (Adds text w w' → P wish)
    → (AddsFront text w w' → P status.Write) → P result
told_is P result wish text w w' e e' (inl h) at_wish at_write = subst P (sym h.0) (at_wish h.1)
told_is P result wish text w w' e e' (inr h) at_wish at_write = subst P (sym h.0) (at_write h.1)

-- the same of a report of a stop that is no failed write
report_is : (P : Status → Type 0) (result wish : Status) (text : List ℕ) (w w' : Option (List ℕ))
    (e e' : ℕ) → Told result wish text w w' e e' ⊎ Told result status.Memory memory_text w w' e e'
    → (Adds text w w' → P wish) → (AddsFront text w w' → P status.Write)
    → (Adds memory_text w w' → P status.Memory) → (AddsFront memory_text w w' → P status.Write)
    → P result
report_is P result wish text w w' e e' (inl h) a b c d =
    told_is P result wish text w w' e e' h a b
report_is P result wish text w w' e e' (inr h) a b c d =
    told_is P result status.Memory memory_text w w' e e' h c d

-- ---- what was added to the output

some_of : (why : LiveStop) (want : Wanted) (x x' : Option (List ℕ)) → Runs (Err why) want x x'
    → WroteSome want x x'
some_of (Common stop.Read) want x x' h = inl h
some_of (Common stop.Write) want x x' h = h
some_of (Common stop.Memory) want x x' h = h
some_of (Common stop.Usage) want x x' h = inl h.1
some_of (Common (stop.Script line cause)) want x x' h = inl h.1
some_of (Common (stop.Capture fault)) want x x' h = inl h.1
some_of (TooMany offset) want x x' h = inl h.1
some_of (MixedLinks offset) want x x' h = inl h.1

pub out_ends : (why : LiveStop) (result : Status) (want : Wanted) (x x' w w' : Option (List ℕ))
    (e e' : ℕ) → Runs (Err why) want x x' → Reports result why w w' e e' → HasOut result want x x'
out_ends why result want x x' w w' e e' h r = at why h r
  where
    P : Status → Type 0
    P s = HasOut s want x x'

    ends : (why : LiveStop) (wish : Status) → P wish → WroteSome want x x'
        → Told result wish (text_of why) w w' e e' ⊎ Told result status.Memory memory_text w w' e e'
        → P result
    ends why wish here some r =
        report_is P result wish (text_of why) w w' e e' r (λ a. here) (λ a. some) (λ a. some)
        (λ a. some)

    at : (why : LiveStop) → Runs (Err why) want x x' → Reports result why w w' e e' → P result
    at (Common stop.Write) h r = subst P (sym r.0) h
    at (Common stop.Read) h r = ends (Common stop.Read) status.Read h (inl h) r
    at (Common stop.Memory) h r = ends (Common stop.Memory) status.Memory h h r
    at (Common stop.Usage) h r = ends (Common stop.Usage) status.Usage h.1 (inl h.1) r
    at (Common (stop.Script line cause)) h r =
        ends (Common (stop.Script line cause)) status.Script h.1 (inl h.1) r
    at (Common (stop.Capture fault)) h r =
        ends (Common (stop.Capture fault)) status.Capture h.1 (inl h.1) r
    at (TooMany offset) h r = ends (TooMany offset) status.Capture h.1 (inl h.1) r
    at (MixedLinks offset) h r = ends (MixedLinks offset) status.Capture h.1 (inl h.1) r

pub silent_ends : (why : LiveStop) (result : Status) (x x' w w' : Option (List ℕ)) (e e' : ℕ)
    → RunsSilently (Err why) x x' → Reports result why w w' e e' → IsSilent result x x'
silent_ends why result x x' w w' e e' h r = at why h r
  where
    P : Status → Type 0
    P s = IsSilent s x x'

    ends : (why : LiveStop) (wish : Status) → P wish
        → Told result wish (text_of why) w w' e e' ⊎ Told result status.Memory memory_text w w' e e'
        → P result
    ends why wish here r =
        report_is P result wish (text_of why) w w' e e' r (λ a. here) (λ a. tt) (λ a. tt) (λ a. tt)

    at : (why : LiveStop) → RunsSilently (Err why) x x' → Reports result why w w' e e' → P result
    at (Common stop.Write) h r = subst P (sym r.0) tt
    at (Common stop.Read) h r = ends (Common stop.Read) status.Read h r
    at (Common stop.Memory) h r = ends (Common stop.Memory) status.Memory tt r
    at (Common stop.Usage) h r = ends (Common stop.Usage) status.Usage h r
    at (Common (stop.Script line cause)) h r =
        ends (Common (stop.Script line cause)) status.Script h r
    at (Common (stop.Capture fault)) h r =
        ends (Common (stop.Capture fault)) status.Capture h r
    at (TooMany offset) h r = ends (TooMany offset) status.Capture h r
    at (MixedLinks offset) h r = ends (MixedLinks offset) status.Capture h r

-- Where the status isn't Write, no write of the output failed.
pub taken : (why : LiveStop) (result : Status) (w w' : Option (List ℕ)) (e e' f f' o o' : ℕ)
    → HasLiveCause {A = Unit {0}} (Err why) f f' o o' → Reports result why w w' e e'
    → result ≢ status.Write → o' ≡ o
taken (Common stop.Usage) result w w' e e' f f' o o' cause r other = cause.1
taken (Common (stop.Script line why)) result w w' e e' f f' o o' cause r other = cause.1
taken (Common stop.Read) result w w' e e' f f' o o' cause r other = cause.1
taken (Common (stop.Capture fault)) result w w' e e' f f' o o' cause r other = cause.1
taken (Common stop.Write) result w w' e e' f f' o o' cause r other = absurd (other r.0)
taken (Common stop.Memory) result w w' e e' f f' o o' cause r other = cause.1
taken (TooMany offset) result w w' e e' f f' o o' cause r other = cause.1
taken (MixedLinks offset) result w w' e e' f f' o o' cause r other = cause.1

-- ---- what was added to the errors

cut_err : (Stops : LiveStop → Type 0) (why : LiveStop) (o o' : ℕ) (w w' : Option (List ℕ))
    → o' ≡ o → Stops why → AddsFront (text_of why) w w' → HasCutErr Stops o o' w w'
cut_err Stops why o o' w w' same stops front =
    inr (same, record { why = why; stops = stops; front = front })

-- the text of a stop that the input calls for
called_text : (want : Wanted) (why : LiveStop) (w w' : Option (List ℕ))
    → stop_of want ≡ Some why → Adds (text_of why) w w' → Adds (err_of want) w w'
called_text want why w w' is adds =
    adds_same (text_of why) (err_of want) w w' (sym (ap err_from is)) adds

pub err_ends : (why : LiveStop) (result : Status) (want : Wanted) (f f' o o' e e' : ℕ)
    (x x' w w' : Option (List ℕ)) → Runs (Err why) want x x'
    → HasLiveCause {A = Unit {0}} (Err why) f f' o o' → Reports result why w w' e e'
    → HasErr result want f f' o o' w w'
err_ends why result want f f' o o' e e' x x' w w' h cause r = at why h cause r
  where
    P : Status → Type 0
    P s = HasErr s want f f' o o' w w'

    ends : (why : LiveStop) (wish : Status) → (Adds (text_of why) w w' → P wish) → o' ≡ o
        → MustStop want f f' why
        → Told result wish (text_of why) w w' e e' ⊎ Told result status.Memory memory_text w w' e e'
        → P result
    ends why wish here same must r =
        report_is P result wish (text_of why) w w' e e' r here
        (cut_err (MustStop want f f') why o o' w w' same must) (λ a. a)
        (cut_err (MustStop want f f') (Common stop.Memory) o o' w w' same tt)

    at : (why : LiveStop) → Runs (Err why) want x x'
        → HasLiveCause {A = Unit {0}} (Err why) f f' o o' → Reports result why w w' e e' → P result
    at (Common stop.Write) h cause r = subst P (sym r.0) (inl (cause.1, r.1))
    at (Common stop.Read) h cause r =
        ends (Common stop.Read) status.Read (λ a. a) cause.1 cause.0 r
    at (Common stop.Memory) h cause r =
        ends (Common stop.Memory) status.Memory (λ a. a) cause.1 tt r
    at (Common stop.Usage) h cause r =
        ends (Common stop.Usage) status.Usage (called_text want (Common stop.Usage) w w' h.0)
        cause.1 (h.0, cause.0) r
    at (Common (stop.Script line why)) h cause r =
        ends (Common (stop.Script line why)) status.Script
        (called_text want (Common (stop.Script line why)) w w' h.0) cause.1 (h.0, cause.0) r
    at (Common (stop.Capture fault)) h cause r =
        ends (Common (stop.Capture fault)) status.Capture
        (called_text want (Common (stop.Capture fault)) w w' h.0) cause.1 (h.0, cause.0) r
    at (TooMany offset) h cause r =
        ends (TooMany offset) status.Capture (called_text want (TooMany offset) w w' h.0)
        cause.1 (h.0, cause.0) r
    at (MixedLinks offset) h cause r =
        ends (MixedLinks offset) status.Capture (called_text want (MixedLinks offset) w w' h.0)
        cause.1 (h.0, cause.0) r

-- and where the input is not known
pub text_ends : (why : LiveStop) (result : Status) (form : Option Form) (f f' o o' e e' : ℕ)
    (w w' : Option (List ℕ)) → IsUsage (Err why) form
    → HasLiveCause {A = Unit {0}} (Err why) f f' o o' → Reports result why w w' e e'
    → HasSomeErr result form f f' o o' w w'
text_ends why result form f f' o o' e e' w w' usage cause r = at why usage cause r
  where
    P : Status → Type 0
    P s = HasSomeErr s form f f' o o' w w'

    ends : (why : LiveStop) (wish : Status) → (Adds (text_of why) w w' → P wish) → o' ≡ o
        → MayStop form f f' why
        → Told result wish (text_of why) w w' e e' ⊎ Told result status.Memory memory_text w w' e e'
        → P result
    ends why wish here same may r =
        report_is P result wish (text_of why) w w' e e' r here
        (cut_err (MayStop form f f') why o o' w w' same may)
        (λ a. record { why = Common stop.Memory; same = refl; written = a })
        (cut_err (MayStop form f f') (Common stop.Memory) o o' w w' same tt)

    at : (why : LiveStop) → IsUsage (Err why) form
        → HasLiveCause {A = Unit {0}} (Err why) f f' o o' → Reports result why w w' e e' → P result
    at (Common stop.Write) usage cause r = subst P (sym r.0) (inl (cause.1, r.1))
    at (Common stop.Read) usage cause r =
        ends (Common stop.Read) status.Read
        (λ a. record { why = Common stop.Read; same = refl; written = a }) cause.1 cause.0 r
    at (Common stop.Memory) usage cause r =
        ends (Common stop.Memory) status.Memory
        (λ a. record { why = Common stop.Memory; same = refl; written = a }) cause.1 tt r
    at (Common stop.Usage) usage cause r =
        ends (Common stop.Usage) status.Usage
        (λ a. record { why = Common stop.Usage; same = refl; written = a })
        cause.1 (usage, cause.0) r
    at (Common (stop.Script line why)) usage cause r =
        ends (Common (stop.Script line why)) status.Script
        (λ a. record { why = Common (stop.Script line why); same = refl; written = a })
        cause.1 (usage, cause.0) r
    at (Common (stop.Capture fault)) usage cause r =
        ends (Common (stop.Capture fault)) status.Capture
        (λ a. record { why = Common (stop.Capture fault); same = refl; written = a })
        cause.1 (usage, cause.0) r
    at (TooMany offset) usage cause r =
        ends (TooMany offset) status.Capture
        (λ a. record { why = TooMany offset; same = refl; written = a })
        cause.1 (usage, cause.0) r
    at (MixedLinks offset) usage cause r =
        ends (MixedLinks offset) status.Capture
        (λ a. record { why = MixedLinks offset; same = refl; written = a })
        cause.1 (usage, cause.0) r

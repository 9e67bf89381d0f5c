-- What there is against the records of a capture, record by record.
use Rattle.std.proofs.Common.{◌≡◌, ℕ, List, [], ◌∷◌, ◌++◌, Option, Some, None, refl, sym, ap, subst, ◌∙◌}
use Rattle.std.proofs.Common.{append_assoc}
use Rattle.std.proofs.lemmas.List.{append-nil}
use Rattle.std.specs.Option.{option_or}
use Rattle.std.specs.Prelude.{option_map}
use Rattle.pcap_file.specs.Capture.{Record}
use Rattle.capture_file.specs.declared.fault.FileFault.{FileFault}
use Rattle.capture_file.specs.Capture.{Capture}
use Rattle.live_command.specs.declared.stop.LiveStop.{LiveStop}
use Rattle.live_command.specs.Refusals.{refusal, first_refusal, capture_stop, fault_stop}

-- there is nothing against the first records
none_then : (a b : Option LiveStop) → a ≡ None → option_or a b ≡ b
none_then None b e = refl
none_then (Some x) b e = absurd cc

none_left : (a b : Option LiveStop) → option_or a b ≡ None → a ≡ None
none_left None b e = refl
none_left (Some x) b e = absurd cc

some_then : (a b : Option LiveStop) (why : LiveStop) → a ≡ Some why → option_or a b ≡ Some why
some_then (Some x) b why e = e
some_then None b why e = absurd cc

-- more records behind ones against which there is nothing
pub refusal_behind : (before seen more : List Record) → first_refusal before seen ≡ None
    → first_refusal before (seen ++ more) ≡ first_refusal (before ++ seen) more
refusal_behind before [] more clean =
    ap (λ (l : List Record). first_refusal l more) (sym (append-nil before))
refusal_behind before (r ∷ rs) more clean =
    let here : refusal before r ≡ None =
    none_left (refusal before r) (first_refusal (before ++ r ∷ []) rs) clean in
    let on : first_refusal (before ++ r ∷ []) rs ≡ None =
    sym (none_then (refusal before r) (first_refusal (before ++ r ∷ []) rs) here) ∙ clean in
    none_then (refusal before r) (first_refusal (before ++ r ∷ []) (rs ++ more)) here
    ∙ refusal_behind (before ++ r ∷ []) rs more on
    ∙ ap (λ (l : List Record). first_refusal l more) (append_assoc before (r ∷ []) rs)

-- one record more, against which there is nothing
pub clean_next : (seen : List Record) (r : Record) → first_refusal [] seen ≡ None
    → refusal seen r ≡ None → first_refusal [] (seen ++ r ∷ []) ≡ None
clean_next seen r clean here =
    refusal_behind [] seen (r ∷ []) clean ∙ none_then (refusal seen r) None here

-- the first record against which there is something
pub refused_at : (seen : List Record) (r : Record) (more : List Record) (why : LiveStop)
    → first_refusal [] seen ≡ None → refusal seen r ≡ Some why
    → first_refusal [] ((seen ++ r ∷ []) ++ more) ≡ Some why
refused_at seen r more why clean here =
    ap (first_refusal []) (append_assoc seen (r ∷ []) more)
    ∙ refusal_behind [] seen (r ∷ more) clean
    ∙ some_then (refusal seen r) (first_refusal (seen ++ r ∷ []) more) why here

-- a capture with such a record
pub stopped_at : (capture : Capture) (seen : List Record) (r : Record) (more : List Record)
    (why : LiveStop) → capture.records ≡ (seen ++ r ∷ []) ++ more
    → first_refusal [] seen ≡ None → refusal seen r ≡ Some why
    → capture_stop capture ≡ Some why
stopped_at capture seen r more why is clean here =
    some_then (first_refusal [] capture.records) (option_map fault_stop capture.fault) why
    (ap (first_refusal []) is ∙ refused_at seen r more why clean here)

-- a capture without one
pub stopped_by_fault : (capture : Capture) (seen : List Record) (fault : Option FileFault)
    → capture ≡ record { records = seen; fault = fault } → first_refusal [] seen ≡ None
    → capture_stop capture ≡ option_map fault_stop fault
stopped_by_fault capture seen fault is clean =
    ap capture_stop is ∙ none_then (first_refusal [] seen) (option_map fault_stop fault) clean

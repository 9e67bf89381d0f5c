-- The time of records, one record more.
use Rattle.std.proofs.Common.{◌≡◌, ℕ, ◌-◌, List, [], ◌∷◌, ◌++◌, Option, Some, sym, ap, ◌∙◌, arith}
use Rattle.std.specs.Prelude.{max, unwrap_or}
use Rattle.pcap_file.specs.Capture.{Record}
use Rattle.timeline.specs.Times.{greatest_since, time_after}
use Rattle.command_core.specs.declared.clock.RecordClock.{RecordClock}
use Rattle.command_core.specs.Clock.{HasPassed}

greatest_next : (first : ℕ) (seen : List Record) (r : Record) → greatest_since first (seen ++ r ∷ []) ≡ max (greatest_since first seen) (r.stamp - first)
greatest_next first [] r = omega arith
greatest_next first (x ∷ seen) r = ap (λ (n : ℕ). max (x.stamp - first) n) (greatest_next first seen r) ∙ omega arith

pub passes : (clock : RecordClock) (stamp first time : ℕ) (seen : List Record) (r : Record) → first ≡ unwrap_or clock.first stamp → time ≡ max clock.time (stamp - first) → r.stamp ≡ stamp → HasPassed clock seen
    → HasPassed (record { first = Some first; time = time }) (seen ++ r ∷ [])
passes clock stamp first time [] r f t is p =
    let at : first ≡ stamp = f ∙ ap (λ (o : Option ℕ). unwrap_or o stamp) p.first in
    record { first = ap (λ (n : ℕ). Some n) (at ∙ sym is); time = omega (arith, t, at, is, p.time) }
passes clock stamp first time (x ∷ seen) r f t is p =
    let at : first ≡ x.stamp = f ∙ ap (λ (o : Option ℕ). unwrap_or o stamp) p.first in
    record {
      first = ap (λ (n : ℕ). Some n) at;
      time = t ∙ ap (λ (n : ℕ). max n (stamp - first)) p.time ∙ ap (λ (n : ℕ). max (time_after (x ∷ seen)) (stamp - n)) at ∙ ap (λ (n : ℕ). max (time_after (x ∷ seen)) (n - x.stamp)) (sym is)
          ∙ sym (greatest_next x.stamp (x ∷ seen) r);
    }

use Rattle.std.proofs.Common.{ℕ, ◌≡◌, Bool, true, false, refl, sym, ap, ◌∙◌, None}
use Rattle.std.specs.Prelude.{◌==◌, if◌then◌else◌}
use Rattle.std.proofs.lemmas.Bool.{eqb-true}
use Rattle.std.specs.FinMap as map
use Rattle.std.specs.Cmp.{nat_cmp_total, unsigned_tied}
use Rattle.std.specs.Ordering.{nat_cmp}
use Rattle.jitter_model.specs.declared.Held.{Held}
use Rattle.jitter_core.proofs.turning.give.Goals as goal

gone : (m : map.FinMap nat_cmp Held) (n q : ℕ) → map.get m n ≡ None → (if q == n then None else map.get m q) ≡ map.get m q
gone m n q e =
    elim (q == n) as (λ b. (q == n) ≡ b → (if b then None else map.get m q) ≡ map.get m q) [
      | true ↦ λ same. sym (ap (λ (k : ℕ). map.get m k) (eqb-true q n same) ∙ e)
      | false ↦ λ _. refl
    ] refl

-- to remove a number that is not held changes nothing
removed_none : (m : map.FinMap nat_cmp Held) (n : ℕ) → map.get m n ≡ None → map.remove m n ≡ m
removed_none m n e =
    map.same_map nat_cmp_total map.nat_cmp-IsAntisymmetric (map.remove m n) m (λ q.
    map.get-remove nat_cmp_total m n q ∙ ap (λ (b : Bool). if b then None else map.get m q) (unsigned_tied q n) ∙ gone m n q e)

pub returns-in-None-clause-does : goal.returns-in-None-clause-does
returns-in-None-clause-does c =
    record {
      settings = refl;
      progress = refl;
      aside = refl;
      segment = record { span = refl; held = c.take.ensures.after ∙ removed_none c.args.state.now.held c.args.number (sym c.in-None.ensures.value); skew = refl; heights = refl; peaks = refl; served = refl };
    }

use Rattle.std.proofs.Common.{◌∙◌, ap, ℕ, ◌≡◌, ◌+◌, ◌≤◌, ◌<◌, true, false, refl, Option, None, Some, arith}
use Rattle.std.specs.Prelude.{is_some, unwrap_or}
use Rattle.std.proofs.lemmas.Grind.{common_steps}
use Rattle.jitter_model.specs.Verdicts.{is_late, is_full}
use Rattle.jitter_model.specs.declared.Mark.{Mark}
use Rattle.jitter_core.specs.Marks.{with_mark}
use Rattle.jitter_core.specs.Steps.{lowest}
use Rattle.jitter_core.proofs.segment.accept.Goals as goal

below : (t l o : Option ℕ) (n : ℕ) → is_some l ≡ is_some t → (is_some o ≡ true → is_some t ≡ true) → is_full t l o n ≡ false → n < lowest o l n + 8192
below None None None n e k f = omega arith
below None None (Some x) n e k f = absurd (let bad : false ≡ true = k refl in cc)
below None (Some l) o n e k f = cc
below (Some t) None o n e k f = cc
below (Some t) (Some l) None n e k f = grind (arith, common_steps)
below (Some t) (Some l) (Some x) n e k f = grind (arith, common_steps)

inside : (t l o : Option ℕ) (n q : ℕ) → is_some l ≡ is_some t → is_full t l o n ≡ false → (o ≡ None → unwrap_or t 0 < unwrap_or l 0 + 8192) → ((x : ℕ) → o ≡ Some x → unwrap_or t 0 < x + 8192)
    → is_late o q ≡ false → unwrap_or l 0 ≤ q → is_some t ≡ true → q ≤ unwrap_or t 0 → (lowest o l n ≤ q) × (q < lowest o l n + 8192)
inside None l o n q e f a b late from s to = cc
inside (Some t) None o n q e f a b late from s to = cc
inside (Some t) (Some l) None n q e f a b late from s to = let w : t < l + 8192 = a refl in (grind (arith, common_steps), grind (arith, common_steps))
inside (Some t) (Some l) (Some x) n q e f a b late from s to = let w : t < x + 8192 = b x refl in (grind (arith, common_steps), grind (arith, common_steps))

pub hold-requires-clause-to : goal.hold-requires-clause-to
hold-requires-clause-to c =
    rw c.lowest_with-low.ensures (below c.args.state.now.span.top c.args.state.now.span.least c.args.state.now.span.next c.args.number c.requires.bounded.least_known c.requires.bounded.next_known c.requires.may.full)

pub hold-requires-clause-window : goal.hold-requires-clause-window
hold-requires-clause-window c = λ q e.
    rw c.lowest_with-low.ensures (inside c.args.state.now.span.top c.args.state.now.span.least c.args.state.now.span.next c.args.number q c.requires.bounded.least_known c.requires.may.full c.requires.bounded.first_window c.requires.bounded.window
    (c.requires.bounded.held_from q e).0 (c.requires.bounded.held_from q e).1 (c.requires.bounded.held_to q e).0 (c.requires.bounded.held_to q e).1)

pub returns-clause-segment : goal.returns-clause-segment
returns-clause-segment c =
    record {
      pts = c.place-place.result.pts;
      span = c.span_with-state.ensures;
      held = c.hold.ensures;
      heights = c.add_mark.ensures ∙ ap (λ (m : Option Mark). with_mark c.args.state.now.span.next m c.args.state.now.heights) c.place-place.ensures.mark;
      timed = c.place-place.ensures.timed;
      peaks = c.add_peak.ensures;
      served = refl;
    }

use Rattle.std.proofs.Common.{refl, ◌∙◌}
use Rattle.std.specs.FinMap as map
use Rattle.std.specs.Ordering.{nat_cmp}
use Rattle.jitter_core.proofs.segment.clear_segment.Goals as goal

pub returns-clause-segment : goal.returns-clause-segment
returns-clause-segment c =
    record {
      placed = record { next_is = refl; top_is = refl; least_is = refl; held_are = λ n. rw c.discard_all.ensures.after (map.get-empty nat_cmp n); count_is = refl };
      clocked = record { rate_is = c.reset.ensures.rate ∙ c.requires.rate; mode_is = c.reset.ensures.mode ∙ c.requires.mode; stands = c.reset.ensures.stands };
      requested = record { peaks_are = c.clear-2.ensures; places = c.clear-3.ensures.long; served_are = λ q e. c.clear-3.ensures.none q };
      marked = record { first_is = refl; marks_are = c.clear.ensures };
    }

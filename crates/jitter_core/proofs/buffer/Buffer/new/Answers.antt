use Rattle.std.proofs.Common.{refl, ap, []}
use Rattle.jitter_timers.specs.Timers.{Timers}
use Rattle.jitter_core.proofs.Retiming.{stale_timed}
use Rattle.jitter_core.proofs.Reached.{new_stands, none_ended}
use Rattle.jitter_core.proofs.buffer.Buffer.new.Goals as goal

pub returns-clause-stands : goal.returns-clause-stands
returns-clause-stands c =
    new_stands _ c.requires
    (record { pushes = refl; time = refl; latency = refl; flushing = refl; ended_long = refl; ended = none_ended; end_told = refl; next = refl; top = refl; least = refl; first_pts = refl; count = refl; held = c.in_ok-held.ensures; aside = c.new-7.ensures; skew_rate = c.in_ok-skew.ensures.rate; skew_mode = c.in_ok-skew.ensures.mode; skew = c.in_ok-skew.ensures.stands; heights = c.in_ok-heights.ensures; peaks = c.in_ok-peaks.ensures; places = c.in_ok-served.ensures.long; served = c.in_ok-served.ensures.none })

pub invariant_of-result : goal.invariant_of-result
invariant_of-result c =
    record {
      reached = ∣ (
        [],
        new_stands _ c.requires
            (record { pushes = refl; time = refl; latency = refl; flushing = refl; ended_long = refl; ended = none_ended; end_told = refl; next = refl; top = refl; least = refl; first_pts = refl; count = refl; held = c.in_ok-held.ensures; aside = c.new-7.ensures; skew_rate = c.in_ok-skew.ensures.rate; skew_mode = c.in_ok-skew.ensures.mode; skew = c.in_ok-skew.ensures.stands; heights = c.in_ok-heights.ensures; peaks = c.in_ok-peaks.ensures; places = c.in_ok-served.ensures.long; served = c.in_ok-served.ensures.none }),
      ) ∣₁;
      timed = stale_timed _ _ (ap (λ (x : Timers). x.room) c.in_ok-schedule.ensures.timers) c.in_ok-schedule.ensures.stale;
    }

use Rattle.std.proofs.Common.{◌∷◌}
use Rattle.jitter_model.specs.Turns.{left}
use Rattle.replay_model.specs.Events.{Fronted, front, lane}
use Rattle.front_model.specs.Steps.{steps}
use Rattle.replay_model.specs.Taking.{all_stepped}
use Rattle.replay_model.proofs.Extending.{all_stepped_extend, taken_adds, acted_extend}
use Rattle.replay_model.proofs.Keeping.{settled_openings, where_openings, where_last, all_acted_openings, acted_front, all_stepped_front, all_stepped_grown, grown_count, one_openings, serve_openings}
use Rattle.replay_model.proofs.Reporting.{reported_front}
use Rattle.replay_model.proofs.Serving.{turns_front, ticked_reports}
use Rattle.replay_model.proofs.Turning.{settled_lane, settled_items, ticked_latest}
use Rattle.replay_model.proofs.laws.timelines_keep.Goals as goal

pub returns : goal.returns
returns c = record {
  series = record {
    front_is = λ o t l tl. turns_front (left (o l).settings (lane l tl)) o t l tl;
    lanes_are = settled_lane;
    items_are = settled_items;
    openings_are = settled_openings;
  };
  ticks = record {
    latest_is = ticked_latest;
    report_is = ticked_reports;
    openings_are = where_openings;
    last_is = where_last;
  };
  actions = record { openings_are = all_acted_openings; front_is = acted_front };
  steps = record {
    front_is = all_stepped_front;
    lanes_stay = λ c t xs tl. grown_count tl (all_stepped c t xs tl) (all_stepped_grown c t xs tl);
    reports_are = reported_front;
  };
  serving = record {
    one = one_openings;
    all = λ c o reports count limit tl. serve_openings _ c o reports count limit tl;
  };
  adding = record {
    fronts = λ c t e tl. all_stepped_extend c t (steps c (front tl) e) (Fronted t e ∷ tl);
    records = taken_adds;
    items = acted_extend;
  };
}

-- The plan of a script and the records of a capture.
use Rattle.std.specs.Prelude.{◌≡◌, ℕ, List, map, filter_map, length}
use Rattle.pcap_file.specs.Capture.{Record}
use Rattle.script_lang.specs.Contents.{Contents}
use Rattle.front_model.specs.declared.Opening.{Opening}
use Rattle.front_model.specs.Events.{FrontEvent}
use Rattle.front_model.specs.Laws.{opened_by}
use Rattle.front_model.specs.Plan.{captured}
use Rattle.front_model.specs.Sessions.{cname}
use Rattle.front_model.specs.Steps.{all_steps}
use Rattle.live_bin.specs.declared.plan.PlanLane.{PlanLane}
use Rattle.live_bin.specs.declared.plan.Plan.{Plan}
use Rattle.live_plan.specs.Controls.{controls}
use Rattle.live_plan.specs.Deliveries.{queues}

-- A lane that began so, after all that came to the front: its source's CNAME is the one at the end.
abbrev pub lane : Contents → List FrontEvent → Opening → PlanLane
lane c events o = record {
  session = o.session;
  ssrc = o.ssrc;
  settings = o.settings;
  cname = cname c events o.session o.ssrc;
  queues = queues (all_steps c events) o.lane;
  events = controls c o.session;
}

-- the lanes in the order in which they began
abbrev pub lanes_after : Contents → List FrontEvent → List PlanLane
lanes_after c events = map (lane c events) (filter_map opened_by (all_steps c events))

-- the lanes of a capture, from which alone nothing comes to the front but its records
abbrev pub lanes : Contents → List Record → List PlanLane
lanes c records = lanes_after c (captured records)

-- the plan of a script and all records of a capture
pub record IsPlanOf (c : Contents) (records : List Record) (p : Plan) : Type 0 where
  pub records_are : p.records ≡ length records
  pub lanes_are : p.lanes ≡ lanes c records

-- What a plan under way stands for: the records that it took.
use Rattle.std.specs.Prelude.{◌≡◌, ℕ, Bool, false, List, length}
use Rattle.pcap_file.specs.Capture.{Record}
use Rattle.script_lang.specs.Contents.{Contents}
use Rattle.front_model.specs.Events.{FrontEvent}
use Rattle.front_model.specs.Plan.{captured, plan}
use Rattle.front_model.specs.Sessions.{cname}
use Rattle.rtp_front.specs.Standing.{StandsFor}
use Rattle.live_bin.specs.declared.plan.PlanLane.{PlanLane}
use Rattle.live_plan.specs.declared.builder.PlanBuilder.{PlanBuilder}
use Rattle.live_plan.specs.Controls.{controls}
use Rattle.live_plan.specs.Courses.{routes}
use Rattle.live_plan.specs.Drafts.{Drafted, AreDrafts}
use Rattle.live_plan.specs.Passed.{HasPassed}

-- how many records it took
abbrev pub records_of : PlanBuilder → ℕ
records_of b = b.front.taken

-- Memory was refused.
abbrev pub has_failed : PlanBuilder → Bool
has_failed b = b.failed

-- A plan under way of this script took these records, the first of which is the first, and memory
-- served.
pub record HasTaken (c : Contents) (records : List Record) (b : PlanBuilder) : Type 0 where
  pub front : StandsFor b.front c (captured records)
  pub counted : b.front.taken ≡ length records
  pub clock : HasPassed b.clock records
  pub drafts : AreDrafts (plan c records) b.drafts.items
  pub routes : b.routes.items ≡ routes (plan c records)
  pub works : b.failed ≡ false

-- the lane of a plan that a draft comes to, after all that came to the front
abbrev pub finished : Contents → List FrontEvent → Drafted → PlanLane
finished c events x = record {
  session = x.opening.session;
  ssrc = x.opening.ssrc;
  settings = x.opening.settings;
  cname = cname c events x.opening.session x.opening.ssrc;
  queues = x.queues;
  events = controls c x.opening.session;
}

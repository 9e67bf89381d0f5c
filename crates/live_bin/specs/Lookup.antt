-- The lanes of a plan by their numbers.
use Rattle.std.specs.Prelude.{ℕ, false, [], None, unwrap_or, slice_get}
use Rattle.rtp_units.specs.declared.Mode.TheVariants.{Plain}
use Rattle.jitter_model.specs.declared.Settings.{Settings}
use Rattle.live_bin.specs.declared.plan.PlanLane.{PlanLane}
use Rattle.live_bin.specs.declared.plan.Plan.{Plan}

abbrev pub no_settings : Settings
no_settings =
    record { rate = 1; mode = Plain; latency = 0; rtx = false; rtx_delay = 0; rtx_retry = 1000000; rtx_max = 0; reorder = 0; dropout = 1; misorder = 0; faststart = 0; pushers = 0 }

-- a lane to which nothing comes
abbrev pub no_lane : PlanLane
no_lane = record { session = 0; ssrc = 0; settings = no_settings; cname = None; queues = []; events = [] }

-- the lane of this number
abbrev pub lane_of : Plan → ℕ → PlanLane
lane_of p n = unwrap_or (slice_get p.lanes n) no_lane

-- a plan without lanes
abbrev pub no_plan : Plan
no_plan = record { records = 0; lanes = []; right = ∣ tt ∣₁ }

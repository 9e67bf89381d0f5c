-- Words for the tests of a plan.
use Rattle.std.specs.Prelude.{ℕ}
use Rattle.live_bin.specs.declared.plan.Delivery.{Delivery}
use Rattle.live_bin.specs.declared.plan.Delivery.TheVariants.{Packet, Report}

-- how many packets a delivery is
abbrev pub weight : Delivery → ℕ
weight (Packet a) = 1
weight (Report q k ntp_ns rtp) = 0

-- Payload types: each with its clock rate, and whether it was routed before.
use Rattle.std.specs.Prelude.{◌≡◌, ℕ, nat_eq, Bool, true, false, List, Option, Some, None, option_map}
use Rattle.std.specs.List.{list_any}
use Rattle.std.specs.Map.{lookup}
use Rattle.rtp_demux.specs.declared.types.Route.{Route}
use Rattle.rtp_demux.specs.declared.types.PtRoute.{PtRoute}
use Rattle.rtp_demux.specs.declared.types.PtRoute.TheVariants.{First, Known, Unmapped}

-- the rate of a payload type; where it stands twice the first one counts
abbrev pub rate_of : List (ℕ × ℕ) → ℕ → Option ℕ
rate_of rates pt = lookup (nat_eq pt) rates

-- The type is one of those that were routed.
abbrev pub was_routed : List ℕ → ℕ → Bool
was_routed calls pt = list_any (nat_eq pt) calls

abbrev pub route_by : Option ℕ → Bool → PtRoute
route_by None routed = Unmapped
route_by (Some rate) true = Known rate
route_by (Some rate) false = First rate

-- the route of a type after these calls, by these rates
abbrev pub route_of : List (ℕ × ℕ) → List ℕ → ℕ → PtRoute
route_of rates calls pt = route_by (rate_of rates pt) (was_routed calls pt)

abbrev pub route : ℕ → Bool → Route
route rate routed = record { rate = rate; routed = routed }

-- The demultiplexer was made with these rates and routed these types: it has the types with a rate, and of each whether it was routed.
abbrev pub StandsFor : List (ℕ × Route) → List (ℕ × ℕ) → List ℕ → Type 0
StandsFor routes rates calls = (pt : ℕ) → lookup (nat_eq pt) routes ≡ option_map (λ rate. route rate (was_routed calls pt)) (rate_of rates pt)

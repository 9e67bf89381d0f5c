-- Times of a run are bounded.
use Rattle.std.proofs.Common.{ℕ, zero, suc, ◌≡◌, ◌+◌, ◌-◌, ◌≤◌, ◌<◌, true, ◌&&◌, not, refl, ap, List, [], ◌∷◌, Option, None, Some, arith}
use Rattle.std.specs.Prelude.{⊤, ℤ, pos, negsuc, nat_lt, nat_le, ◌==◌}
use Rattle.std.proofs.lemmas.Grind.{common_steps}
use Rattle.rtp_units.specs.Numbers.{hold}
use Rattle.skew_model.specs.Skew.{Estimate}
use Rattle.jitter_model.specs.declared.Settings.{Settings}
use Rattle.jitter_model.specs.declared.Held.{Held}
use Rattle.jitter_model.specs.declared.Mark.{Mark}
use Rattle.jitter_model.specs.declared.Turn.{Turn}
use Rattle.jitter_model.specs.History.{History, latency}
use Rattle.jitter_model.specs.Accepted.{Taken, top, accepted}
use Rattle.jitter_model.specs.Covered.{next}
use Rattle.jitter_model.specs.Times.{is_height, time_of, pts_after, marks, first_pts, expected_below, expected}
use Rattle.jitter_model.specs.Requests.{lesser, later, Wanted, Asked, wanted_missing, spacing, is_spacing, wanted_next, due}
use Rattle.jitter_model.specs.Turns.{Sight, low, deadline, wanted, first_undue, asked, output_wake, wake_of_wanted, request_wake, request_wake_from, packet_turn, request_turn, turn_by, sight, turn, wake_of}
use Rattle.jitter_model.specs.Runs.{Run}
use Rattle.jitter_model.specs.Laws.{IsBelow}
use Rattle.jitter_model.proofs.Chain.{split, by_turn}
use Rattle.jitter_model.proofs.Judged.{and-right}
use Rattle.jitter_model.proofs.Numbered.{latency_most}

-- ---- presentation times are below 2^63

pub hold_below : (z : ℤ) → hold z < 9223372036854775808
hold_below (pos n) = omega arith
hold_below (negsuc n) = omega arith

time_below : (rate : ℕ) (o : Option Estimate) (rtp : ℕ) → time_of rate o rtp < 9223372036854775808
time_below rate None rtp = omega arith
time_below rate (Some e) rtp = hold_below _

pub pts_below : (s : Settings) (ps : List Taken) (p : Taken) → pts_after s ps p < 9223372036854775808
pts_below s ps p = split (λ t. t < 9223372036854775808) (is_height ps p) _ _ (λ _. hold_below _) (λ _. time_below s.rate _ p.arrival.packet.rtp)

pub first_below : (s : Settings) (ps : List Taken) → IsBelow 9223372036854775808 (first_pts s ps)
first_below s [] = tt
first_below s (p ∷ []) = pts_below s [] p
first_below s (p ∷ q ∷ ps) = first_below s (q ∷ ps)

-- each height's time is
abbrev pub AreBelow : List Mark → Type 0
AreBelow [] = ⊤
AreBelow (m ∷ ms) = (m.pts < 9223372036854775808) × AreBelow ms

pub record MarksBelow (ms : List Mark) : Type 0 where
  pub fact : AreBelow ms

pub marks_below : (s : Settings) (ps : List Taken) → MarksBelow (marks s ps)
marks_below s [] = record { fact = tt }
marks_below s (p ∷ ps) = split MarksBelow (is_height ps p) _ _ (λ _. record { fact = (pts_below s ps p, (marks_below s ps).fact) }) (λ _. marks_below s ps)

expected_under : (b : Mark) (ms : List Mark) (n : ℕ) → b.pts < 9223372036854775808 → AreBelow ms → expected_below b ms n < 9223372036854775808
expected_under b [] n lt below = lt
expected_under b (a ∷ ms) n lt below = split (λ t. t < 9223372036854775808) (nat_le a.number n) _ _ (λ _. hold_below _) (λ _. expected_under a ms n below.0 below.1)

pub expected_bound : (ms : List Mark) (n : ℕ) → AreBelow ms → expected ms n < 9223372036854775808
expected_bound [] n below = omega arith
expected_bound (b ∷ ms) n below = split (λ t. t < 9223372036854775808) (nat_le b.number n) _ _ (λ _. below.0) (λ _. expected_under b ms n below.0 below.1)

-- ---- so wakes are below 2^63 and 610 seconds

pub record Below (o : Option ℕ) : Type 0 where
  pub fact : IsBelow 9223372646854775808 o

pub record WantedBelow (o : Option Wanted) : Type 0 where
  pub fact : (w : Wanted) → o ≡ Some w → w.limit ≤ 9223372646854775808

lesser_below : (x y : Option ℕ) → Below x → Below y → Below (lesser x y)
lesser_below None y a b = b
lesser_below (Some x) None a b = a
lesser_below (Some x) (Some y) a b = let l : x < 9223372646854775808 = a.fact in record { fact = omega arith }

limit_of : (w : Wanted) (first limit : ℕ) → Some (record { first = first; limit = limit }) ≡ Some w → limit ≡ w.limit
limit_of w first limit e = let is : record { first = first; limit = limit } ≡ w = cc in ap (λ (x : Wanted). x.limit) is

missing_below : (o : Option ℕ) (d : ℕ) → d ≤ 9223372646854775808 → WantedBelow (wanted_missing o d)
missing_below None d le = record { fact = λ w e. cc }
missing_below (Some first) d le = record { fact = λ w e. omega (arith, limit_of w first d e) }

next_below : (s : Settings) (latency top : ℕ) (ms : List Mark) → latency ≤ 600000000000 → AreBelow ms → WantedBelow (wanted_next s latency top ms)
next_below s latency top [] le below = record { fact = λ w e. cc }
next_below s latency top (b ∷ []) le below = record { fact = λ w e. cc }
next_below s latency top (b ∷ a ∷ ms) le below =
    split WantedBelow (b.number == top && is_spacing (spacing a b)) _ _
    (λ f. let small : spacing a b ≤ 10000000000 = spacing_most (spacing a b) (and-right (b.number == top) (is_spacing (spacing a b)) f) in
    record { fact = λ w e. omega (arith, below.0, limit_of w (b.pts + spacing a b + s.rtx_delay) (b.pts + spacing a b + latency) e) })
    (λ _. record { fact = λ w e. cc })
  where
    spacing_most : (t : ℕ) → is_spacing t ≡ true → t ≤ 10000000000
    spacing_most t f = grind (arith, common_steps)

wanted_below : (s : Settings) (v : Sight) (n : ℕ) → v.latency ≤ 600000000000 → AreBelow v.marks → WantedBelow (wanted s v n)
wanted_below s v n le below =
    split WantedBelow (not s.rtx) _ _ (λ _. record { fact = λ w e. cc })
    (λ _. split WantedBelow (nat_lt n v.top && not (v.among n)) _ _ (λ _. missing_below (v.first_due n) (deadline v n) (omega (arith, expected_bound v.marks n below)))
    (λ _. split WantedBelow (n == v.top + 1 && not v.ended) _ _ (λ _. next_below s v.latency v.top v.marks le below) (λ _. record { fact = λ w e. cc })))

wake_below : (s : Settings) (v : Sight) (served : ℕ) (o : Option Wanted) → WantedBelow o → Below (wake_of_wanted s v served o)
wake_below s v served None h = record { fact = tt }
wake_below s v served (Some w) h =
    split Below (nat_le (first_undue s v w.first served) s.rtx_max && nat_lt (due s w.first (first_undue s v w.first served)) w.limit) _ _
    (λ f. let early : nat_lt (due s w.first (first_undue s v w.first served)) w.limit ≡ true = and-right (nat_le (first_undue s v w.first served) s.rtx_max) (nat_lt (due s w.first (first_undue s v w.first served)) w.limit) f in
    let before : due s w.first (first_undue s v w.first served) < w.limit = grind (arith, common_steps) in
    let most : w.limit ≤ 9223372646854775808 = h.fact w refl in
    record { fact = omega arith })
    (λ _. record { fact = tt })

requests_below : (s : Settings) (v : Sight) (n count : ℕ) → v.latency ≤ 600000000000 → AreBelow v.marks → Below (request_wake_from s v n count)
requests_below s v n zero le below = record { fact = tt }
requests_below s v n (suc count) le below = lesser_below (request_wake s v n) (request_wake_from s v (n + 1) count) (wake_below s v (v.served n) (wanted s v n) (wanted_below s v n le below)) (requests_below s v (n + 1) count le below)

start_below : (latency : ℕ) (o : Option ℕ) → latency ≤ 600000000000 → IsBelow 9223372036854775808 o → Below (later latency o)
start_below latency None le below = record { fact = tt }
start_below latency (Some t) le below = let small : t < 9223372036854775808 = below in record { fact = omega arith }

output_below : (v : Sight) (o : Option ℕ) → v.latency ≤ 600000000000 → AreBelow v.marks → Below v.start → Below (output_wake v o)
output_below v None le below start = start
output_below v (Some n) le below start = split Below (nat_lt n v.top) _ _ (λ _. record { fact = omega (arith, expected_bound v.marks n below) }) (λ _. record { fact = tt })

pub record WakesBelow (r : Turn) : Type 0 where
  pub fact : IsBelow 9223372646854775808 (wake_of r)

packet_under : (n : ℕ) (o : Option Held) → WakesBelow (packet_turn n o)
packet_under n None = record { fact = tt }
packet_under n (Some p) = record { fact = tt }

request_under : (o : Option Asked) → WakesBelow (request_turn o)
request_under None = record { fact = tt }
request_under (Some r) = record { fact = tt }

turn_under : (s : Settings) (v : Sight) (o : Option ℕ) → v.latency ≤ 600000000000 → AreBelow v.marks → Below v.start → WakesBelow (turn_by s v o)
turn_under s v o le below start =
    by_turn WakesBelow s v o
    (λ _. record { fact = tt })
    (λ _ _. request_under (asked s v o))
    (λ _ _ _. packet_under (low v o) (v.held (low v o)))
    (λ _ _ _ _. record { fact = tt })
    (λ _ _ _ _ _. record { fact = tt })
    (λ _ _ _ _ _. record { fact = (lesser_below (output_wake v o) (request_wake_from s v (low v o) (v.top + 2 - low v o)) (output_below v o le below start) (requests_below s v (low v o) (v.top + 2 - low v o) le below)).fact })

pub wakes_below : (s : Settings) (h : History) → Run s h → IsBelow 9223372646854775808 (wake_of (turn s h))
wakes_below s h r =
    (turn_under s (sight s h) (next h) (latency_most s h r) (marks_below s (accepted h)).fact (start_below (latency s h) (first_pts s (accepted h)) (latency_most s h r) (first_below s (accepted h)))).fact

-- The definitions on examples that were worked out by hand.
use Rattle.std.specs.Prelude.{ℕ, zero, suc, ℤ, pos, negsuc, ◌+◌, ◌*◌, ◌≡◌, Bool, true, false, List, [], ◌∷◌, Option, Some, None, refl}
use Rattle.rtp_units.specs.declared.Mode.TheVariants.{Plain, Slave}
use Rattle.skew_model.specs.Skew.{Height, Estimate, estimate, height_time}

abbrev height : ℕ → ℕ → Bool → Height
height rtp stamp is_next = record { rtp = rtp; stamp = stamp; is_next = is_next }

-- the presentation time of the latest height
abbrev time_of : ℕ → Option Estimate → Option ℕ
time_of rate None = None
time_of rate (Some e) = Some (height_time rate e)

abbrev skew_of : Option Estimate → Option ℤ
skew_of None = None
skew_of (Some e) = Some e.skew

-- three packets, 20 ms of the sender apart, that come at 0, 21 and 39 ms: the last one's difference of -1 ms has the weight 4 of 10000
abbrev three : List Height
three = height 3600 39000000 true ∷ height 1800 21000000 true ∷ height 0 0 false ∷ []

three-time : time_of 90000 (estimate 90000 Slave three) ≡ Some 39999600
three-time = refl

three-skew : skew_of (estimate 90000 Slave three) ≡ Some (negsuc 399)
three-skew = refl

-- in mode plain there is no skew
three-plain : time_of 90000 (estimate 90000 Plain three) ≡ Some 40000000
three-plain = refl

-- packets at each millisecond, all but the first of which come 125 microseconds late
abbrev late_by_125 : ℕ → List Height
late_by_125 zero = height 0 0 false ∷ []
late_by_125 (suc n) = height (90 * (n + 1)) (1000000 * (n + 1) + 125000) true ∷ late_by_125 n

-- the window fills with 512 differences, and the least is still the first one, 0
filled-skew : skew_of (estimate 90000 Slave (late_by_125 511)) ≡ Some (pos 0)
filled-skew = refl

-- then the first difference leaves the window
next-time : time_of 90000 (estimate 90000 Slave (late_by_125 512)) ≡ Some 512001000
next-time = refl

after-time : time_of 90000 (estimate 90000 Slave (late_by_125 513)) ≡ Some 513001992
after-time = refl

-- a difference of more than a second from the skew starts the estimator anew, one of a second does not
anew-time : time_of 90000 (estimate 90000 Slave (height 90 1001000001 true ∷ height 0 0 false ∷ [])) ≡ Some 1001000001
anew-time = refl

a_second-time : time_of 90000 (estimate 90000 Slave (height 90 1001000000 true ∷ height 0 0 false ∷ [])) ≡ Some 1000000
a_second-time = refl

-- a height that is not one above the one before it has no difference
jump-time : time_of 90000 (estimate 90000 Slave (height 90000 500000000 false ∷ height 0 0 false ∷ [])) ≡ Some 1000000000
jump-time = refl

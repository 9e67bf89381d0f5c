-- What a contract sees of a `Skew`, and the heights that it stands for.
use Rattle.std.specs.Prelude.{◌≡◌, ℕ, ◌-◌, Bool, ℤ, List, take, length, Option, Some, None, IsSome, option_map, if◌then◌else◌, refl}
use Rattle.std.specs.Coded.{Coded, code_by, coded×, coded_ℕ, coded_ℤ, coded_bool, coded_list, coded_option}
use Rattle.rtp_units.specs.declared.Mode.{Mode}
use Rattle.rtp_units.specs.declared.Mode.TheVariants.{Plain, Slave}
use Rattle.skew_model.specs.Skew.{Height, Estimate, estimate, height_time, other_time, is_slave}

-- of the differences those that still count: the last ones, once the window is filled
abbrev pub counted : Option ℕ → List ℤ → List ℤ
counted None ds = ds
counted (Some n) ds = take n ds

-- an estimate without the differences that no longer count
abbrev pub cut : Estimate → Estimate
cut e = record e { differences = counted e.size e.differences }

-- the clock's rate, the mode, how many heights came after the first, and the estimate so far
pub record Estimator : Type 0 where
  pub rate : ℕ
  pub mode : Mode
  pub heights : ℕ
  pub estimated : Option Estimate

abbrev pub estimator : ℕ → Mode → ℕ → Option Estimate → Estimator
estimator rate mode heights e = record { rate = rate; mode = mode; heights = heights; estimated = e }

pub mode_back : (m : Mode) → (if is_slave m then Slave else Plain) ≡ m
mode_back Plain = refl
mode_back Slave = refl

abbrev pub estimate_code : Coded Estimate
estimate_code =
    code_by (ℕ × (ℤ × (ℤ × (ℤ × (List ℤ × Option ℕ))))) (coded× coded_ℕ (coded× coded_ℤ (coded× coded_ℤ (coded× coded_ℤ (coded× (coded_list coded_ℤ) (coded_option coded_ℕ))))))
    (λ e. (e.base, (e.start, (e.latest, (e.skew, (e.differences, e.size))))))
    (λ p. record { base = p.0; start = p.1.0; latest = p.1.1.0; skew = p.1.1.1.0; differences = p.1.1.1.1.0; size = p.1.1.1.1.1 }) (λ _. refl)

abbrev pub estimator_code : Coded Estimator
estimator_code =
    code_by (ℕ × (Bool × (ℕ × Option Estimate))) (coded× coded_ℕ (coded× coded_bool (coded× coded_ℕ (coded_option estimate_code))))
    (λ s. (s.rate, (is_slave s.mode, (s.heights, s.estimated)))) (λ p. estimator p.0 (if p.1.0 then Slave else Plain) p.1.1.0 p.1.1.1)
    (λ s k. estimator s.rate (mode_back s.mode k) s.heights s.estimated)

-- the estimator went through these heights, the newest first, and nothing else since it was last started
pub record StandsFor (s : Estimator) (heights : List Height) : Type 0 where
  pub estimated : s.estimated ≡ option_map cut (estimate s.rate s.mode heights)
  pub counts : s.heights ≡ length heights - 1

-- a segment was started
abbrev pub IsStarted : Estimator → Type 0
IsStarted s = IsSome s.estimated

-- the presentation time of the latest of these heights
abbrev pub IsHeightTime : Estimator → List Height → ℕ → Type 0
IsHeightTime s heights time = option_map (height_time s.rate) (estimate s.rate s.mode heights) ≡ Some time

-- the presentation time of another timestamp after these heights
abbrev pub IsOtherTime : Estimator → List Height → ℕ → ℕ → Type 0
IsOtherTime s heights rtp time = option_map (λ e. other_time s.rate e rtp) (estimate s.rate s.mode heights) ≡ Some time

abbrev pub height : ℕ → ℕ → Bool → Height
height rtp stamp is_next = record { rtp = rtp; stamp = stamp; is_next = is_next }

-- What a front reads of a script.
use Rattle.std.specs.Prelude.{◌≡◌, ◌<◌, ℕ, ◌&&◌, nat_eq, slice_index, Bool, List, find}
use Rattle.std.specs.List.{list_any}
use Rattle.std.specs.Map.{lookup}
use Rattle.jitter_model.specs.declared.Settings.{Settings}
use Rattle.script_lang.specs.Contents.{Contents}
use Rattle.script_lang.specs.declared.script.SessionLine.{SessionLine}
use Rattle.front_model.specs.Records.{is_to}
use Rattle.front_model.specs.Steps.{opening_settings}
use Rattle.front_model.specs.Types.{rate, is_rtx}

-- sessions by their ports, clock rates by session and type, the types of retransmissions, the
-- settings of all lanes, and of each session who pushes into its lanes
pub record Chosen : Type 0 where
  pub ports : List (ℕ × SessionLine)
  pub rates : List ((ℕ × ℕ) × ℕ)
  pub retransmissions : List (ℕ × ℕ)
  pub settings : Settings
  pub pushers : List ℕ

-- a session and a payload type
abbrev pub is_type : ℕ × ℕ → ℕ × ℕ → Bool
is_type a b = nat_eq a.0 b.0 && nat_eq a.1 b.1

-- the settings of a lane of this session that begins with this rate
abbrev pub settings_in : Chosen → ℕ → ℕ → Settings
settings_in x session rate =
    record x.settings { rate = rate; pushers = slice_index x.pushers session }

-- What was read is what the script says.
pub record IsReadOf (c : Contents) (x : Chosen) : Type 0 where
  pub session_at : (port : ℕ) → lookup (nat_eq port) x.ports ≡ find (is_to port) c.sessions
  pub rate : (session pt : ℕ) → lookup (is_type (session, pt)) x.rates ≡ rate c session pt
  pub retransmissions : (session pt : ℕ)
      → list_any (is_type (session, pt)) x.retransmissions ≡ is_rtx c session pt
  pub settings : (session rate : ℕ) → session < 8
      → settings_in x session rate ≡ opening_settings c session rate

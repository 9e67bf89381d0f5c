-- The settings: their names, ranges and defaults. Times are milliseconds in a script and nanoseconds as values.
use Rattle.std.specs.Prelude.{ℕ, ◌*◌, ◌/◌, ◌%◌, List, [], ◌∷◌, codes, Bool, true, false, bytes_eq, ◌==◌, ◌&&◌, nat_le, nat_lt, ◌^◌, fold, Result, Ok, Err, if◌then◌else◌}
use Rattle.rtp_units.specs.declared.shared.Mode.{Mode}
use Rattle.rtp_units.specs.declared.shared.Mode.TheVariants.{Plain, Slave}
use Rattle.script_lang.specs.declared.fault.ScriptCause.{ScriptCause}
use Rattle.script_lang.specs.declared.fault.ScriptCause.TheVariants.{Word}
use Rattle.script_lang.specs.declared.setting.ScriptSettings.{ScriptSettings}
use Rattle.script_lang.specs.declared.setting.Setting.{Setting}
use Rattle.script_lang.specs.declared.setting.Setting.TheVariants.{Latency, Mode as ModeOf, Rtx, RtxDelay, RtxRetry, RtxMax, Reorder, Dropout, Misorder, Probation, Faststart, Report, Timeout, History, Ssrc}
use Rattle.script_lang.specs.Numbers.{number_in, time_in, ssrc_in, millisecond}

-- ---- values by their words

unfoldable pub mode_of : List ℕ → Result Mode ScriptCause
mode_of word = if bytes_eq word (codes "none") then Ok Plain else if bytes_eq word (codes "slave") then Ok Slave else Err Word

unfoldable pub switch_of : List ℕ → Result Bool ScriptCause
switch_of word = if bytes_eq word (codes "on") then Ok true else if bytes_eq word (codes "off") then Ok false else Err Word

-- the setting of this value
abbrev pub gives : {A : Type 0} → (A → Setting) → Result A ScriptCause → Result Setting ScriptCause
gives make (Ok value) = Ok (make value)
gives make (Err cause) = Err cause

-- the setting that a name and a value make; an unknown name comes before anything that the value has against it
unfoldable pub setting_of : List ℕ → List ℕ → Result Setting ScriptCause
setting_of name value =
    if bytes_eq name (codes "latency") then gives Latency (time_in 0 600000 value)
    else if bytes_eq name (codes "mode") then gives ModeOf (mode_of value)
    else if bytes_eq name (codes "rtx") then gives Rtx (switch_of value)
    else if bytes_eq name (codes "rtx-delay") then gives RtxDelay (time_in 0 60000 value)
    else if bytes_eq name (codes "rtx-retry") then gives RtxRetry (time_in 1 60000 value)
    else if bytes_eq name (codes "rtx-max") then gives RtxMax (number_in 0 255 value)
    else if bytes_eq name (codes "reorder") then gives Reorder (number_in 0 100 value)
    else if bytes_eq name (codes "dropout") then gives Dropout (number_in 1 30000 value)
    else if bytes_eq name (codes "misorder") then gives Misorder (number_in 0 1000 value)
    else if bytes_eq name (codes "probation") then gives Probation (number_in 0 16 value)
    else if bytes_eq name (codes "faststart") then gives Faststart (number_in 0 1000 value)
    else if bytes_eq name (codes "report") then gives Report (time_in 0 600000 value)
    else if bytes_eq name (codes "timeout") then gives Timeout (time_in 1 600000 value)
    else if bytes_eq name (codes "history") then gives History (number_in 1 4096 value)
    else if bytes_eq name (codes "ssrc") then gives Ssrc (ssrc_in value)
    else Err Word

-- the place of a setting's name in the list of all
abbrev pub place_of : Setting → ℕ
place_of (Latency ns) = 0
place_of (ModeOf mode) = 1
place_of (Rtx on) = 2
place_of (RtxDelay ns) = 3
place_of (RtxRetry ns) = 4
place_of (RtxMax count) = 5
place_of (Reorder count) = 6
place_of (Dropout count) = 7
place_of (Misorder count) = 8
place_of (Probation count) = 9
place_of (Faststart count) = 10
place_of (Report ns) = 11
place_of (Timeout ns) = 12
place_of (History count) = 13
place_of (Ssrc ssrc) = 14

-- ---- all settings

-- what holds where nothing is set
abbrev pub defaults : ScriptSettings
defaults = record {
  latency = 200 * millisecond;
  mode = Slave;
  rtx = false;
  rtx_delay = 20 * millisecond;
  rtx_retry = 40 * millisecond;
  rtx_max = 3;
  reorder = 3;
  dropout = 3000;
  misorder = 100;
  probation = 2;
  faststart = 0;
  report = 0;
  timeout = 25000 * millisecond;
  history = 256;
  ssrc = 1;
}

abbrev pub with_setting : ScriptSettings → Setting → ScriptSettings
with_setting s (Latency ns) = record s { latency = ns }
with_setting s (ModeOf mode) = record s { mode = mode }
with_setting s (Rtx on) = record s { rtx = on }
with_setting s (RtxDelay ns) = record s { rtx_delay = ns }
with_setting s (RtxRetry ns) = record s { rtx_retry = ns }
with_setting s (RtxMax count) = record s { rtx_max = count }
with_setting s (Reorder count) = record s { reorder = count }
with_setting s (Dropout count) = record s { dropout = count }
with_setting s (Misorder count) = record s { misorder = count }
with_setting s (Probation count) = record s { probation = count }
with_setting s (Faststart count) = record s { faststart = count }
with_setting s (Report ns) = record s { report = ns }
with_setting s (Timeout ns) = record s { timeout = ns }
with_setting s (History count) = record s { history = count }
with_setting s (Ssrc ssrc) = record s { ssrc = ssrc }

-- what holds where these are set, in any order, since no name is set twice
abbrev pub settings_of : List Setting → ScriptSettings
settings_of settings = fold with_setting defaults settings

-- every setting, in the order of the list of names
abbrev pub settings_list : ScriptSettings → List Setting
settings_list s =
    Latency s.latency ∷ ModeOf s.mode ∷ Rtx s.rtx ∷ RtxDelay s.rtx_delay ∷ RtxRetry s.rtx_retry ∷ RtxMax s.rtx_max
    ∷ Reorder s.reorder ∷ Dropout s.dropout ∷ Misorder s.misorder ∷ Probation s.probation ∷ Faststart s.faststart
    ∷ Report s.report ∷ Timeout s.timeout ∷ History s.history ∷ Ssrc s.ssrc ∷ []

-- ---- ranges

abbrev pub is_within : ℕ → ℕ → ℕ → Bool
is_within least most n = nat_le least n && nat_le n most

-- whole milliseconds within a range of milliseconds
abbrev pub is_time_within : ℕ → ℕ → ℕ → Bool
is_time_within least most ns = ns % millisecond == 0 && is_within least most (ns / millisecond)

abbrev pub setting_fits : Setting → Bool
setting_fits (Latency ns) = is_time_within 0 600000 ns
setting_fits (ModeOf mode) = true
setting_fits (Rtx on) = true
setting_fits (RtxDelay ns) = is_time_within 0 60000 ns
setting_fits (RtxRetry ns) = is_time_within 1 60000 ns
setting_fits (RtxMax count) = is_within 0 255 count
setting_fits (Reorder count) = is_within 0 100 count
setting_fits (Dropout count) = is_within 1 30000 count
setting_fits (Misorder count) = is_within 0 1000 count
setting_fits (Probation count) = is_within 0 16 count
setting_fits (Faststart count) = is_within 0 1000 count
setting_fits (Report ns) = is_time_within 0 600000 ns
setting_fits (Timeout ns) = is_time_within 1 600000 ns
setting_fits (History count) = is_within 1 4096 count
setting_fits (Ssrc ssrc) = nat_lt ssrc (2 ^ 32)

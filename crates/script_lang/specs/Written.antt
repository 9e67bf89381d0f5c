-- A script as a text: one line for each element of its lists and each setting, words separated by one space.
use Rattle.std.specs.Prelude.{ℕ, ◌-◌, ◌/◌, ◌^◌, List, [], ◌++◌, map, codes, Bool, true, false}
use Rattle.std.specs.List.{flat_map}
use Rattle.std.specs.Fmt.{decimal, digits, format_spec, padded_integral}
use Rattle.rtp_units.specs.declared.shared.Mode.{Mode}
use Rattle.rtp_units.specs.declared.shared.Mode.TheVariants.{Plain, Slave}
use Rattle.script_lang.specs.declared.script.Action.{Action}
use Rattle.script_lang.specs.declared.script.Action.TheVariants as action
use Rattle.script_lang.specs.declared.setting.Setting.{Setting}
use Rattle.script_lang.specs.declared.setting.Setting.TheVariants as setting
use Rattle.script_lang.specs.declared.entry.Entry.{Entry}
use Rattle.script_lang.specs.declared.entry.Entry.TheVariants as entry
use Rattle.script_lang.specs.Numbers.{millisecond}
use Rattle.script_lang.specs.Settings.{settings_list}
use Rattle.script_lang.specs.Contents.{Contents}

-- eight lower-case hexadecimal digits
abbrev pub ssrc_text : ℕ → List ℕ
ssrc_text n = padded_integral (format_spec 32 0 4 8 (2 ^ 64 - 1)) false [] (digits 16 false n)

-- nanoseconds in milliseconds
abbrev pub time_text : ℕ → List ℕ
time_text ns = decimal (ns / millisecond)

abbrev pub mode_text : Mode → List ℕ
mode_text Plain = codes "none"
mode_text Slave = codes "slave"

abbrev pub switch_text : Bool → List ℕ
switch_text true = codes "on"
switch_text false = codes "off"

abbrev pub setting_text : Setting → List ℕ
setting_text (setting.Latency ns) = codes "latency " ++ time_text ns
setting_text (setting.Mode mode) = codes "mode " ++ mode_text mode
setting_text (setting.Rtx on) = codes "rtx " ++ switch_text on
setting_text (setting.RtxDelay ns) = codes "rtx-delay " ++ time_text ns
setting_text (setting.RtxRetry ns) = codes "rtx-retry " ++ time_text ns
setting_text (setting.RtxMax count) = codes "rtx-max " ++ decimal count
setting_text (setting.Reorder count) = codes "reorder " ++ decimal count
setting_text (setting.Dropout count) = codes "dropout " ++ decimal count
setting_text (setting.Misorder count) = codes "misorder " ++ decimal count
setting_text (setting.Probation count) = codes "probation " ++ decimal count
setting_text (setting.Faststart count) = codes "faststart " ++ decimal count
setting_text (setting.Report ns) = codes "report " ++ time_text ns
setting_text (setting.Timeout ns) = codes "timeout " ++ time_text ns
setting_text (setting.History count) = codes "history " ++ decimal count
setting_text (setting.Ssrc ssrc) = codes "ssrc " ++ ssrc_text ssrc

abbrev pub action_text : Action → List ℕ
action_text action.Clock = codes "clock"
action_text (action.FlushStart session) = codes "flush-start " ++ decimal session
action_text (action.FlushStop session) = codes "flush-stop " ++ decimal session
action_text (action.Latency session ns) = codes "latency " ++ decimal session ++ codes " " ++ time_text ns

-- a line without its newline
abbrev pub entry_text : Entry → List ℕ
entry_text (entry.Session l) = codes "session " ++ decimal l.session ++ codes " " ++ decimal l.rtp ++ codes " " ++ decimal l.rtcp
entry_text (entry.Pt l) = codes "pt " ++ decimal l.session ++ codes " " ++ decimal l.pt ++ codes " " ++ decimal l.rate
entry_text (entry.Rtx l) = codes "rtx " ++ decimal l.session ++ codes " " ++ decimal l.pt ++ codes " " ++ decimal l.osession ++ codes " " ++ decimal l.apt
entry_text (entry.Fid f) = codes "fid " ++ decimal f.session ++ codes " " ++ ssrc_text f.ssrc ++ codes " " ++ ssrc_text f.rtx_ssrc
entry_text (entry.Setting s) = codes "set " ++ setting_text s
entry_text (entry.Timed i) = codes "at " ++ time_text i.time ++ codes " " ++ action_text i.action

-- the lines in order
abbrev pub entries_of : Contents → List Entry
entries_of c = map entry.Session c.sessions ++ map entry.Pt c.pts ++ map entry.Rtx c.rtx ++ map entry.Fid c.fids
    ++ map entry.Setting (settings_list c.settings) ++ map entry.Timed c.items

abbrev pub lines_text : List Entry → List ℕ
lines_text entries = flat_map (λ e. entry_text e ++ codes "\n") entries

unfoldable pub script_text : Contents → List ℕ
script_text c = lines_text (entries_of c)

use Rattle.std.proofs.Common.{◌≡◌, drop, fold}
use Rattle.script_lang.specs.Settings.{settings_of, with_setting}
use Rattle.script_lang.proofs.setting.ScriptSettings.of.Given as goal

-- the settings that are left lead on to all
abbrev pub invariant-loop-setting : goal.invariant-loop-setting
invariant-loop-setting l = fold with_setting l.all (drop l.setting-index l.settings) ≡ settings_of l.settings

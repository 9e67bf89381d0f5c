use Rattle.std.proofs.Common.{◌≡◌, ◌++◌, drop, map, string_bytes}
use Rattle.script_lang.specs.Written.{lines_text}
use Rattle.script_lang.specs.declared.entry.Entry.TheVariants as entry
use Rattle.script_lang.proofs.writing.push_settings.Given as goal

-- the lines that are left complete the text
abbrev pub invariant-loop-setting : goal.invariant-loop-setting
invariant-loop-setting l = string_bytes l.text ++ lines_text (map entry.Setting (drop l.setting-index l.settings)) ≡ string_bytes l.initial.text ++ lines_text (map entry.Setting l.settings)

use Rattle.std.proofs.Common.{◌≡◌, ◌++◌, drop, map, string_bytes}
use Rattle.script_lang.specs.Written.{lines_text}
use Rattle.script_lang.specs.declared.entry.Entry.TheVariants as entry
use Rattle.script_lang.proofs.writing.push_fids.Given as goal

-- the lines that are left complete the text
abbrev pub invariant-loop-fid : goal.invariant-loop-fid
invariant-loop-fid l = string_bytes l.text ++ lines_text (map entry.Fid (drop l.fid-index l.fids)) ≡ string_bytes l.initial.text ++ lines_text (map entry.Fid l.fids)

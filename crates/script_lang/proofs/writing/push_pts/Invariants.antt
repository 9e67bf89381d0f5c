use Rattle.std.proofs.Common.{◌≡◌, ◌++◌, drop, map, string_bytes}
use Rattle.script_lang.specs.Written.{lines_text}
use Rattle.script_lang.specs.declared.entry.Entry.TheVariants as entry
use Rattle.script_lang.proofs.writing.push_pts.Given as goal

-- the lines that are left complete the text
abbrev pub invariant-loop-line : goal.invariant-loop-line
invariant-loop-line l = string_bytes l.text ++ lines_text (map entry.Pt (drop l.line-index l.pts)) ≡ string_bytes l.initial.text ++ lines_text (map entry.Pt l.pts)

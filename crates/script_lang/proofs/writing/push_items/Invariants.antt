use Rattle.std.proofs.Common.{◌≡◌, ◌++◌, drop, map, string_bytes}
use Rattle.script_lang.specs.Written.{lines_text}
use Rattle.script_lang.specs.declared.entry.Entry.TheVariants as entry
use Rattle.script_lang.proofs.writing.push_items.Given as goal

-- the lines that are left complete the text
abbrev pub invariant-loop-item : goal.invariant-loop-item
invariant-loop-item l = string_bytes l.text ++ lines_text (map entry.Timed (drop l.item-index l.items)) ≡ string_bytes l.initial.text ++ lines_text (map entry.Timed l.items)

use Rattle.std.proofs.Common.{◌≡◌, drop}
use Rattle.script_lang.specs.Grammar.{last_open}
use Rattle.script_lang.proofs.LookupLemmas.{last_after}
use Rattle.script_lang.proofs.lookups.greatest.Given as goal

-- the greatest so far and the rest give the answer
abbrev pub invariant-loop-line : goal.invariant-loop-line
invariant-loop-line l = last_after l.greatest (drop l.line-index l.lines) ≡ last_open l.lines

use Rattle.std.proofs.Common.{◌≡◌, map, filter, take}
use Rattle.source_table.specs.Sources.{is_gone}
use Rattle.source_table.proofs.maps.gone_of.Given as goal

abbrev pub invariant-loop-i : goal.invariant-loop-i
invariant-loop-i l = l.ssrcs.items ≡ map (λ e. e.0) (filter (λ e. is_gone e.1 l.now l.timeout) (take l.i l.sources.entries))

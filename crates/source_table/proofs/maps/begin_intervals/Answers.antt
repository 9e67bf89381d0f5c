use Rattle.std.proofs.Common.{rules, ◌^◌, sym, subst}
use Rattle.std.proofs.lemmas.Map.Made.{map_same_pairs}
use Rattle.source_table.specs.Sources.{reported}
use Rattle.source_table.specs.Ranges.{IsSourceOf, AreSourcesOf}
use Rattle.source_table.proofs.Ranging.{among}
use Rattle.source_table.proofs.maps.begin_intervals.Goals as goal

pub retain-requires : goal.retain-requires
retain-requires c = record { at = λ before after f k v is _. λ p q key value _ _ _ _ _ _ _. subst (IsSourceOf (2 ^ 40)) (sym value) (among (2 ^ 40) before after k v (subst (AreSourcesOf (2 ^ 40)) is c.requires)) }

pub returns : goal.returns
returns c = map_same_pairs _ reported _ (λ k v b w g call. search rules) _ _ c.retain.ensures.filtered

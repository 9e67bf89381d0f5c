use Rattle.std.proofs.Common.{take}
use Rattle.std.specs.List.{flat_map}
use Rattle.front_model.specs.Given.{chunk_asks}
use Rattle.rtp_session.specs.Compounds.{Tells}
use Rattle.rtp_session.proofs.compound.name_sources.Given as goal

abbrev pub invariant-loop-chunk : goal.invariant-loop-chunk
invariant-loop-chunk l = Tells l.initial.sources l.sources l.initial.notes.items l.notes.items (flat_map chunk_asks (take l.chunk-index l.chunks))

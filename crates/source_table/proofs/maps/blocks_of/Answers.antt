use Rattle.std.proofs.Common.{◌∙◌, ◌^◌, ◌++◌, ◌∷◌, [], List, sym, ap}
use Rattle.rtcp_wire.specs.declared.block.ReportBlock.{ReportBlock}
use Rattle.source_table.proofs.Blocks.{blocks_then, blocks_still}
use Rattle.source_table.proofs.Ranging.{at_place}
use Rattle.source_table.proofs.maps.blocks_of.Goals as goal
use Rattle.source_table.proofs.maps.blocks_of.Goals.{in-Some+in_ok-push, in_default}

pub block-requires : goal.block-requires
block-requires c = at_place (2 ^ 40) c.args.sources.now.entries c.loop-i.i c.entry_at-ssrc.result c.requires c.entry_at-ssrc.ensures

pub loop-i-preserved : goal.loop-i-preserved
loop-i-preserved c =
    elim c.match-block.branch [
      | in-Some+in_ok-push w ↦
          ap (λ v. v.items) w.blocks-is ∙ w.in_ok-push.ensures.items ∙ ap (λ (xs : List ReportBlock). xs ++ w.in-Some.block ∷ []) c.loop-i.invariant
          ∙ sym (blocks_then c.args.now c.args.sources.now.entries c.loop-i.i c.entry_at-ssrc.result w.in-Some.block c.entry_at-ssrc.ensures w.in-Some.ensures)
      | in_default w ↦
          ap (λ v. v.items) w.blocks-is ∙ c.loop-i.invariant
          ∙ sym (blocks_still c.args.now c.args.sources.now.entries c.loop-i.i c.entry_at-ssrc.result c.entry_at-ssrc.ensures w.in_default.ensures)
    ]

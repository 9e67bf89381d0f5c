use Rattle.std.proofs.Common.{ap}
use Rattle.script_lang.proofs.PassLemmas.{pt_is_new, rtx_is_new, item_passes}
use Rattle.script_lang.proofs.draft.Draft.add.Goals as goal

pub add_type-requires : goal.add_type-requires
add_type-requires c =
    pt_is_new c.args.self.now c.self-in-Pt.inside.pts.entries c.in-Pt.pt (ap (λ f. f.pts) c.self-in-Pt.view_is) (rw c.in-Pt.is at c.requires.passes)

pub add_type-requires-in-Rtx : goal.add_type-requires-in-Rtx
add_type-requires-in-Rtx c =
    rtx_is_new c.args.self.now c.self-in-Rtx.inside.rtx.entries c.in-Rtx.rtx (ap (λ f. f.rtx) c.self-in-Rtx.view_is) (rw c.in-Rtx.is at c.requires.passes)

pub add_item-requires-clause-order : goal.add_item-requires-clause-order
add_item-requires-clause-order c = (item_passes c.args.self.now c.in-Timed.item (rw c.in-Timed.is at c.requires.passes)).1

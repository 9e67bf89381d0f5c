use Rattle.std.proofs.Common.{◌-◌, ◌%◌, bit_and, sym, ap, ◌∙◌}
use Rattle.std.proofs.lemmas.Nat.{and_mask}
use Rattle.slot_ring.proofs.ring.slot_of.Goals as goal

pub returns : goal.returns
returns c =
    let q = c.args.number in let power = c.requires in
    ap (λ n. bit_and q (n - 1)) (c.len.ensures ∙ c.args.filled.now.ok.0 ∙ power.1) ∙ and_mask q power.0
    ∙ ap (λ n. q % n) (sym power.1)

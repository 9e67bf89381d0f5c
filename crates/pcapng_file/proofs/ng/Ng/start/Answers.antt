use Rattle.std.proofs.Common.{[], ◌++◌, refl, sym, ap}
use Rattle.pcapng_file.specs.Blocks.{Mark, blocks_from, ng_capture}
use Rattle.pcapng_file.proofs.ng.Ng.start.Goals as goal

pub returns-clause-stands : goal.returns-clause-stands
unfolding ng_capture
returns-clause-stands c = record {
  blocks = [];
  parts = refl;
  placed = sym (ap (λ (m : Mark). m.offset) c.in_ok-start.ensures);
  whole = λ more. ap (λ (m : Mark). blocks_from m (c.args.head ++ more)) (sym c.in_ok-start.ensures);
}

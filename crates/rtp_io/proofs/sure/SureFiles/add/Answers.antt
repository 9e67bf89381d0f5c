use Rattle.std.proofs.Common.{◌∙◌, ap, List, ℕ, Bool}
use Rattle.rtp_io.specs.Memory.{disk_of, known}
use Rattle.rtp_io.proofs.Shelves.{on_ok, on_err-2, adds_under}
use Rattle.rtp_io.proofs.sure.SureFiles.add.Goals as goal

pub returns-clause-ok : goal.returns-clause-ok
returns-clause-ok c = on_ok c.add.result _ _ (λ all. adds_under (known c.args.self.now.shelf) _ _ _ _ c.args.self.now.shelf c.add.new.self (all (known c.args.self.now.shelf))) c.add.ensures.ok

pub returns-clause-err : goal.returns-clause-err
returns-clause-err c =
    let shelf = c.args.self.now.shelf in
    on_err-2 c.add.result _ _ _ (λ all same. all (known c.add.new.self) ∙ ap (λ (p : List ℕ → Bool). disk_of p shelf) same) c.add.ensures.err c.add.ensures.same

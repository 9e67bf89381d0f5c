use Rattle.std.proofs.Common.{◌∙◌, ap, List, ℕ, Some}
use Rattle.source_table.specs.Table.{Table, name_of}
use Rattle.source_table.proofs.Isolation.{name_is}
use Rattle.source_table.proofs.table.SourceTable.cname.Goals as goal

pub returns-in-None-clause-told : goal.returns-in-None-clause-told
returns-in-None-clause-told c = λ own probation calls h.
    c.in-None.ensures.value ∙ ap (λ (t : Table). name_of t c.args.ssrc) c.self.view_is ∙ name_is c.args.self.now own probation calls h c.args.ssrc

pub returns-in-Some-clause-told : goal.returns-in-Some-clause-told
returns-in-Some-clause-told c = λ own probation calls h.
    ap (λ (xs : List ℕ). Some xs) c.bytes.ensures ∙ c.in-Some.ensures.value ∙ ap (λ (t : Table). name_of t c.args.ssrc) c.self.view_is ∙ name_is c.args.self.now own probation calls h c.args.ssrc

use Rattle.std.proofs.Common.{rules}
use Rattle.source_table.specs.declared.answers.Named.TheVariants.{Unknown, Same, Changed}
use Rattle.source_table.proofs.Standing.{named_extends}
use Rattle.source_table.proofs.table.SourceTable.set_cname.Goals as goal

pub returns-then-not-contains_key-clause-stands : goal.returns-then-not-contains_key-clause-stands
returns-then-not-contains_key-clause-stands c = named_extends _ _ c.args.ssrc c.args.text.now Unknown (search rules)

pub returns-then-has_name-clause-stands : goal.returns-then-has_name-clause-stands
returns-then-has_name-clause-stands c = named_extends _ _ c.args.ssrc c.args.text.now Same (search rules)

pub returns-clause-stands : goal.returns-clause-stands
returns-clause-stands c = named_extends _ _ c.args.ssrc c.args.text.now Changed (search rules)

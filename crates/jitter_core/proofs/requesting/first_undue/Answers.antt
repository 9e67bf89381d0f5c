use Rattle.std.proofs.Common.{◌+◌, sym, arith}
use Rattle.jitter_core.proofs.Undue.{undue_is}
use Rattle.jitter_core.proofs.requesting.first_undue.Goals as goal

pub returns-then-from-last_due-clause-value : goal.returns-then-from-last_due-clause-value
returns-then-from-last_due-clause-value c =
    sym (undue_is c.searches_find_the_least.ensures c.args.settings.now.rtx_retry c.args.first c.args.time c.args.served (c.args.settings.now.rtx_max + 1) c.max.result c.requires c.if-time-first.false (omega (arith, c.max.ensures, c.from.ensures, c.from-end.ensures, c.if-from-last_due.true)))

pub returns-else-from-last_due-clause-value : goal.returns-else-from-last_due-clause-value
returns-else-from-last_due-clause-value c =
    sym (undue_is c.searches_find_the_least.ensures c.args.settings.now.rtx_retry c.args.first c.args.time c.args.served (c.args.settings.now.rtx_max + 1) c.max-else-from-last_due.result c.requires c.if-time-first.false (omega (arith, c.max-else-from-last_due.ensures, c.from.ensures, c.from-end.ensures, c.if-from-last_due.false)))

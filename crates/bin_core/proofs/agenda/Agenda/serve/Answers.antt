use Rattle.std.proofs.Common.{refl, rules}
use Rattle.bin_core.proofs.Serving.{one_more, none_more}
use Rattle.bin_core.proofs.agenda.Agenda.serve.Goals as goal

pub due-init : goal.due-init
due-init c = ((λ k base tl h. record { now = tl; holds = h; same = refl }), λ n k. k)

pub returns-then-not-branch-clause-goes : goal.returns-then-not-branch-clause-goes
returns-then-not-branch-clause-goes c =
    none_more c.args.reports c.args.limit c.args.self.now c.due.self c.serve_one.new.self c.args.lines.now c.due.lines c.serve_one.new.lines
    c.serves_all.ensures.stop (c.in_ok-serve_one.ensures.none (search rules)) c.due.invariant.0

pub due-smaller : goal.due-smaller
due-smaller c = c.in_ok-serve_one.ensures.fewer (search rules)

pub due-preserved : goal.due-preserved
due-preserved c = (
  one_more c.timelines_keep.ensures c.args.reports c.args.limit c.args.self.now c.due.self c.serve_one.new.self c.args.lines.now c.due.lines c.serve_one.new.lines
      c.serves_all.ensures.step (c.in_ok-serve_one.ensures.first (search rules)) c.due.invariant.0,
  λ n k. c.in_ok-serve_one.ensures.rests n (c.due.invariant.1 n k),
)

pub returns-then-not-branch-clause-rests : goal.returns-then-not-branch-clause-rests
returns-then-not-branch-clause-rests c = λ n k. c.in_ok-serve_one.ensures.rests n (c.due.invariant.1 n k)

pub serve_one-requires-clause-rests : goal.serve_one-requires-clause-rests
serve_one-requires-clause-rests c = (c.requires.rests.0, c.due.invariant.1 c.requires.rests.0 c.requires.rests.1)

use Rattle.std.proofs.Common.{arith, ◌∙◌}
use Rattle.rtp_io.proofs.Pulling.{keeps_read}
use Rattle.rtp_io.proofs.pull.top_up.Goals as goal

pub loop-end-preserved : goal.loop-end-preserved
loop-end-preserved g c = record {
  order = omega (arith, c.loop-end.invariant.order);
  bound = omega (arith, c.in_ok-got.ensures.bound);
  kept = keeps_read c.args.start c.loop-end.end c.in_ok-got.got _ c.loop-end.buf c.read_behind.new.buf _ (g.F.Files.disk c.loop-end.files) (g.F.Files.disk c.read_behind.new.files) (omega (arith, c.requires.order, c.loop-end.invariant.order)) c.read_behind.ensures.front c.loop-end.invariant.kept c.read_behind.ensures.same c.in_ok-got.ensures.given;
  lazy = λ enough. absurd (omega (arith, c.loop-end.invariant.order, c.loop-end-test.true));
  faults = c.in_ok-got.ensures.cause ∙ c.loop-end.invariant.faults;
}

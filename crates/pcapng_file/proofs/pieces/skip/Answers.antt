use Rattle.std.proofs.Common.{arith, refl, ◌-◌, ◌∙◌}
use Rattle.pcapng_file.proofs.Parts.{part_none, part_then, stop_then, stop_exit}
use Rattle.pcapng_file.proofs.pieces.skip.Goals as goal

pub loop-left-init : goal.loop-left-init
loop-left-init g c = record {
  bound = λ h. h;
  few = omega arith;
  part = part_none (λ _. Unit {0}) (c.args.size - c.args.size) c.args.pull.now (g.F.Files.disk c.args.files.now) (omega arith) tt;
  faults = refl;
}

pub loop-left-preserved : goal.loop-left-preserved
loop-left-preserved g c =
    let kept = c.loop-left.invariant in
    record {
      bound = λ h. c.in_ok-skip_piece.ensures.bound (kept.bound h);
      few = omega (arith, kept.few);
      part = part_then (λ _. Unit {0}) (λ _. Unit {0}) (λ _. Unit {0}) (c.args.size - c.loop-left.left) c.min-piece.result (c.args.size - (c.loop-left.left - c.min-piece.result))
          c.args.pull.now c.loop-left.pull c.skip_piece.new.pull (g.F.Files.disk c.args.files.now) (g.F.Files.disk c.loop-left.files) (g.F.Files.disk c.skip_piece.new.files)
          kept.part c.in_ok-skip_piece.ensures.after (omega (arith, kept.few)) (λ p q lp lq p-is q-is. tt);
      faults = c.in_ok-skip_piece.ensures.cause ∙ kept.faults;
    }

pub returns-in_err-skip_piece-clause-after : goal.returns-in_err-skip_piece-clause-after
returns-in_err-skip_piece-clause-after g c =
    let kept = c.loop-left.invariant in
    stop_exit (λ _ _. Unit {0}) c.from_residual.result c.in_err-skip_piece.field-0.0 c.args.size c.args.pull.now c.skip_piece.new.pull (g.F.Files.disk c.args.files.now) (g.F.Files.disk c.skip_piece.new.files)
    c.from_residual.ensures.1
    (stop_then (λ _. Unit {0}) c.in_err-skip_piece.field-0.0 (c.args.size - c.loop-left.left) c.min-piece.result c.args.size
    c.args.pull.now c.loop-left.pull c.skip_piece.new.pull (g.F.Files.disk c.args.files.now) (g.F.Files.disk c.loop-left.files) (g.F.Files.disk c.skip_piece.new.files)
    kept.part c.in_err-skip_piece.ensures.after (omega (arith, kept.few)))

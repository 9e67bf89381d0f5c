use Rattle.std.proofs.Common.{◌≡◌, ◌-◌, ◌≤◌, ℕ, List, Option, None, arith, refl, sym, ◌∙◌}
use Rattle.pcapng_file.specs.declared.options.Said.{Said}
use Rattle.pcapng_file.specs.Options.{filled, options_say}
use Rattle.pcapng_file.proofs.Parts.{part_none, part_long, stop_then, stop_exit}
use Rattle.pcapng_file.proofs.OptionParts.{SaysSo, says_none, end_part, few_part, wrong_part, value_part, fits_part}
use Rattle.pcapng_file.proofs.options.read_options.Goals as goal

pub loop-left-init : goal.loop-left-init
loop-left-init g c = record {
  bound = λ h. h;
  few = omega arith;
  part = part_none (SaysSo c.args.order c.args.size (record { resolution = None; seconds = None })) (c.args.size - c.args.size) c.args.pull.now (g.F.Files.disk c.args.files.now) (omega arith) (says_none c.args.order c.args.size);
  faults = refl;
}

pub loop-left-preserved : goal.loop-left-preserved
loop-left-preserved g c =
    let kept = c.loop-left.invariant in
    let right = sym c.is_wrong.ensures ∙ c.if-is_wrong.false in
    let room : filled c.number16-count.result ≤ c.loop-left.left - 4 = (fits_part c.number16-code.result c.number16-count.result (c.loop-left.left - 4) right).1 in
    record {
      bound = λ h. c.in_ok-value.ensures.bound (c.in_ok-head.ensures.bound (kept.bound h));
      few = omega (arith, kept.few);
      part = rw (c.or-said.ensures, c.filled-left.ensures, c.from.ensures, c.number16-count.ensures)
          (value_part c.args.order c.loop-left.said c.in_ok-value.value c.in_ok-head.head c.loop-left.left c.args.size c.args.pull.now c.loop-left.pull c.take.new.pull c.read_value.new.pull (g.F.Files.disk c.args.files.now) (g.F.Files.disk c.loop-left.files) (g.F.Files.disk c.take.new.files) (g.F.Files.disk c.read_value.new.files)
          kept.few (omega arith) (part_long c.in_ok-head.head 4 c.loop-left.pull c.take.new.pull (g.F.Files.disk c.loop-left.files) (g.F.Files.disk c.take.new.files) c.in_ok-head.ensures.after) (λ e. c.if-code-eq0.false (c.number16-code.ensures ∙ e))
          (rw (c.number16-code.ensures, c.number16-count.ensures) at right)
          kept.part c.in_ok-head.ensures.after (rw (c.number16-code.ensures, c.number16-count.ensures) at c.in_ok-value.ensures.after));
      faults = c.in_ok-value.ensures.cause ∙ c.in_ok-head.ensures.cause ∙ kept.faults;
    }

pub returns-in_err-head-clause-after : goal.returns-in_err-head-clause-after
returns-in_err-head-clause-after g c =
    stop_exit (λ (said : Option Said) (taken : List ℕ). said ≡ options_say c.args.order taken) c.from_residual.result c.in_err-head.field-0.0 c.args.size c.args.pull.now c.take.new.pull (g.F.Files.disk c.args.files.now) (g.F.Files.disk c.take.new.files)
    c.from_residual.ensures.1
    (stop_then (SaysSo c.args.order c.loop-left.left c.loop-left.said) c.in_err-head.field-0.0 (c.args.size - c.loop-left.left) 4 c.args.size c.args.pull.now c.loop-left.pull c.take.new.pull (g.F.Files.disk c.args.files.now) (g.F.Files.disk c.loop-left.files) (g.F.Files.disk c.take.new.files) c.loop-left.invariant.part
    c.in_err-head.ensures.after (omega (arith, c.loop-left.invariant.few)))

pub returns-in_err-skip-clause-after : goal.returns-in_err-skip-clause-after
returns-in_err-skip-clause-after g c =
    stop_exit (λ (said : Option Said) (taken : List ℕ). said ≡ options_say c.args.order taken) c.from_residual-in_err-skip.result c.in_err-skip.field-0.0 c.args.size c.args.pull.now c.skip.new.pull (g.F.Files.disk c.args.files.now) (g.F.Files.disk c.skip.new.files)
    c.from_residual-in_err-skip.ensures.1
    (stop_then (SaysSo c.args.order c.loop-left.left c.loop-left.said) c.in_err-skip.field-0.0 (c.args.size - c.loop-left.left) c.loop-left.left c.args.size c.args.pull.now c.loop-left.pull c.skip.new.pull (g.F.Files.disk c.args.files.now) (g.F.Files.disk c.loop-left.files) (g.F.Files.disk c.skip.new.files) c.loop-left.invariant.part
    (stop_then (λ taken. taken ≡ c.in_ok-head.head) c.in_err-skip.field-0.0 4 (c.loop-left.left - 4) c.loop-left.left c.loop-left.pull c.take.new.pull c.skip.new.pull (g.F.Files.disk c.loop-left.files) (g.F.Files.disk c.take.new.files) (g.F.Files.disk c.skip.new.files) c.in_ok-head.ensures.after c.in_err-skip.ensures.after (omega (arith, c.loop-left.invariant.few))) (omega (arith, c.loop-left.invariant.few)))

pub returns-then-code-eq0-clause-after : goal.returns-then-code-eq0-clause-after
returns-then-code-eq0-clause-after g c =
    end_part c.args.order c.loop-left.said c.in_ok-head.head c.loop-left.left c.args.size c.args.pull.now c.loop-left.pull c.take.new.pull c.skip.new.pull (g.F.Files.disk c.args.files.now) (g.F.Files.disk c.loop-left.files) (g.F.Files.disk c.take.new.files) (g.F.Files.disk c.skip.new.files)
    c.loop-left.invariant.few (omega arith) (part_long c.in_ok-head.head 4 c.loop-left.pull c.take.new.pull (g.F.Files.disk c.loop-left.files) (g.F.Files.disk c.take.new.files) c.in_ok-head.ensures.after) (sym c.number16-code.ensures ∙ c.if-code-eq0.true)
    c.loop-left.invariant.part c.in_ok-head.ensures.after c.in_ok-skip.ensures.after

pub returns-in_err-skip-2-clause-after : goal.returns-in_err-skip-2-clause-after
returns-in_err-skip-2-clause-after g c =
    stop_exit (λ (said : Option Said) (taken : List ℕ). said ≡ options_say c.args.order taken) c.from_residual-in_err-skip-2.result c.in_err-skip-2.field-0.0 c.args.size c.args.pull.now c.skip-then-is_wrong.new.pull (g.F.Files.disk c.args.files.now) (g.F.Files.disk c.skip-then-is_wrong.new.files)
    c.from_residual-in_err-skip-2.ensures.1
    (stop_then (SaysSo c.args.order c.loop-left.left c.loop-left.said) c.in_err-skip-2.field-0.0 (c.args.size - c.loop-left.left) c.loop-left.left c.args.size c.args.pull.now c.loop-left.pull c.skip-then-is_wrong.new.pull (g.F.Files.disk c.args.files.now) (g.F.Files.disk c.loop-left.files) (g.F.Files.disk c.skip-then-is_wrong.new.files) c.loop-left.invariant.part
    (stop_then (λ taken. taken ≡ c.in_ok-head.head) c.in_err-skip-2.field-0.0 4 (c.loop-left.left - 4) c.loop-left.left c.loop-left.pull c.take.new.pull c.skip-then-is_wrong.new.pull (g.F.Files.disk c.loop-left.files) (g.F.Files.disk c.take.new.files) (g.F.Files.disk c.skip-then-is_wrong.new.files) c.in_ok-head.ensures.after c.in_err-skip-2.ensures.after (omega (arith, c.loop-left.invariant.few))) (omega (arith, c.loop-left.invariant.few)))

pub returns-then-is_wrong-clause-after : goal.returns-then-is_wrong-clause-after
returns-then-is_wrong-clause-after g c =
    let wrong = sym c.is_wrong.ensures ∙ c.if-is_wrong.true in
    wrong_part c.args.order c.loop-left.said c.in_ok-head.head c.loop-left.left c.args.size c.args.pull.now c.loop-left.pull c.take.new.pull c.skip-then-is_wrong.new.pull (g.F.Files.disk c.args.files.now) (g.F.Files.disk c.loop-left.files) (g.F.Files.disk c.take.new.files) (g.F.Files.disk c.skip-then-is_wrong.new.files)
    c.loop-left.invariant.few (omega arith) (part_long c.in_ok-head.head 4 c.loop-left.pull c.take.new.pull (g.F.Files.disk c.loop-left.files) (g.F.Files.disk c.take.new.files) c.in_ok-head.ensures.after) (λ e. c.if-code-eq0.false (c.number16-code.ensures ∙ e)) (rw (c.number16-code.ensures, c.number16-count.ensures) at wrong)
    c.loop-left.invariant.part c.in_ok-head.ensures.after c.in_ok-skip-2.ensures.after

pub returns-in_err-value-clause-after : goal.returns-in_err-value-clause-after
returns-in_err-value-clause-after g c =
    let right = sym c.is_wrong.ensures ∙ c.if-is_wrong.false in
    let room : filled c.number16-count.result ≤ c.loop-left.left - 4 = (fits_part c.number16-code.result c.number16-count.result (c.loop-left.left - 4) right).1 in
    stop_exit (λ (said : Option Said) (taken : List ℕ). said ≡ options_say c.args.order taken) c.from_residual-in_err-value.result c.in_err-value.field-0.0 c.args.size c.args.pull.now c.read_value.new.pull (g.F.Files.disk c.args.files.now) (g.F.Files.disk c.read_value.new.files)
    c.from_residual-in_err-value.ensures.1
    (stop_then (SaysSo c.args.order c.loop-left.left c.loop-left.said) c.in_err-value.field-0.0 (c.args.size - c.loop-left.left) c.loop-left.left c.args.size c.args.pull.now c.loop-left.pull c.read_value.new.pull (g.F.Files.disk c.args.files.now) (g.F.Files.disk c.loop-left.files) (g.F.Files.disk c.read_value.new.files) c.loop-left.invariant.part
    (stop_then (λ taken. taken ≡ c.in_ok-head.head) c.in_err-value.field-0.0 4 (filled c.number16-count.result) c.loop-left.left c.loop-left.pull c.take.new.pull c.read_value.new.pull (g.F.Files.disk c.loop-left.files) (g.F.Files.disk c.take.new.files) (g.F.Files.disk c.read_value.new.files) c.in_ok-head.ensures.after c.in_err-value.ensures.after (omega (arith, room))) (omega (arith, c.loop-left.invariant.few)))

pub returns-in_err-skip-3-clause-after : goal.returns-in_err-skip-3-clause-after
returns-in_err-skip-3-clause-after g c =
    stop_exit (λ (said : Option Said) (taken : List ℕ). said ≡ options_say c.args.order taken) c.from_residual-in_err-skip-3.result c.in_err-skip-3.field-0.0 c.args.size c.args.pull.now c.skip-2.new.pull (g.F.Files.disk c.args.files.now) (g.F.Files.disk c.skip-2.new.files)
    c.from_residual-in_err-skip-3.ensures.1
    (stop_then (SaysSo c.args.order c.loop-left.left c.loop-left.said) c.in_err-skip-3.field-0.0 (c.args.size - c.loop-left.left) c.loop-left.left c.args.size c.args.pull.now c.loop-left.pull c.skip-2.new.pull (g.F.Files.disk c.args.files.now) (g.F.Files.disk c.loop-left.files) (g.F.Files.disk c.skip-2.new.files) c.loop-left.invariant.part
    c.in_err-skip-3.ensures.after (omega (arith, c.loop-left.invariant.few)))

pub returns-clause-after : goal.returns-clause-after
returns-clause-after g c =
    few_part c.args.order c.loop-left.said c.loop-left.left c.args.size c.args.pull.now c.loop-left.pull c.skip-2.new.pull (g.F.Files.disk c.args.files.now) (g.F.Files.disk c.loop-left.files) (g.F.Files.disk c.skip-2.new.files)
    c.loop-left.invariant.few (omega arith) c.loop-left.invariant.part c.in_ok-skip-3.ensures.after

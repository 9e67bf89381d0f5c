use Rattle.std.proofs.Common.{List, ℕ, Err, ap, subst, ◌∙◌}
use Rattle.std.proofs.lemmas.List.{take_all}
use Rattle.rtp_io.specs.Laws.{adds_same}
use Rattle.std.proofs.lemmas.Result.{err_from_is_err_and}
use Rattle.command_core.specs.Steps.{Prints}
use Rattle.live_output.specs.Numbered.{flat_map_from}
use Rattle.live_output.specs.Text.{offset_text, offsets_text}
use Rattle.live_output.proofs.Numbering.{from_none}
use Rattle.live_output.proofs.Printing.{texts_on, texts_stop}
use Rattle.live_output.proofs.text.print_offsets.Goals as goal

pub returns-in_err-print_offset : goal.returns-in_err-print_offset
returns-in_err-print_offset g c =
    let i = c.loop-clock.invariant in
    let xs = c.args.clocks.now in
    let e = err_from_is_err_and c.from_residual.result c.from_residual.ensures.1 in
    rw (e.1, e.2)
    (subst (λ (l : List ℕ). Prints l (Err c.in_err-print_offset.field-0.0)
    (g.O.Sink.written c.args.out.now) (g.O.Sink.written c.print_offset.new.out)
    (g.O.Sink.faults c.args.out.now) (g.O.Sink.faults c.print_offset.new.out))
    (from_none (offset_text xs) 0 xs)
    (texts_stop (λ n. offset_text xs) xs c.loop-clock.clock-index c.clock-item.result
    c.in_err-print_offset.field-0.0 _ _ _ _ _ _ c.loop-clock-test.true c.clock-item.is i.written i.faults
    c.in_err-print_offset.ensures))

pub loop-clock-preserved : goal.loop-clock-preserved
loop-clock-preserved g c =
    let i = c.loop-clock.invariant in
    let xs = c.args.clocks.now in
    record {
      written = texts_on (λ n. offset_text xs) xs c.loop-clock.clock-index c.clock-item.result
          _ _ _ c.loop-clock-test.true c.clock-item.is i.written c.in_ok-print_offset.ensures.0;
      faults = c.in_ok-print_offset.ensures.1 ∙ i.faults;
    }

pub returns : goal.returns
returns g c =
    let i = c.loop-clock.invariant in
    let xs = c.args.clocks.now in
    let all = take_all c.loop-clock.clock-index xs c.loop-clock-test.false in (
      adds_same _ (offsets_text xs) _ _
          (ap (flat_map_from (λ n. offset_text xs) 0) all ∙ from_none (offset_text xs) 0 xs)
          i.written,
      i.faults,
    )

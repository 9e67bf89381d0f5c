use Rattle.std.proofs.Common.{List, ℕ, Err, refl, sym, ap, subst, ◌++◌}
use Rattle.std.proofs.lemmas.Result.{err_from_is_err_and}
use Rattle.command_core.specs.Steps.{Prints}
use Rattle.live_bin.specs.Lookup.{lane_of}
use Rattle.live_bin.specs.declared.plan.PlanLane.{PlanLane}
use Rattle.live_text.specs.Text.{entry_text}
use Rattle.live_output.specs.Numbered.{flat_map_from}
use Rattle.live_output.specs.Text.{header_text, history_text}
use Rattle.live_output.proofs.Printing.{prints_cut, prints_then}
use Rattle.live_output.proofs.text.print_history.Goals as goal

pub returns-in_err-print_header : goal.returns-in_err-print_header
returns-in_err-print_header g c =
    let lane = c.args.lane in
    let p = c.args.plan.now in
    let rest : List ℕ = flat_map_from (entry_text c.args.hex) 0 c.args.history.now.entries.items in
    let e = err_from_is_err_and c.from_residual.result c.from_residual.ensures.1 in
    rw (e.1, e.2)
    (prints_cut (header_text lane (lane_of p lane)) rest
    (history_text c.args.hex p lane c.args.history.now) c.in_err-print_header.field-0.0
    (g.O.Sink.written c.args.out.now) (g.O.Sink.written c.print_header.new.out)
    (g.O.Sink.faults c.args.out.now) (g.O.Sink.faults c.print_header.new.out) refl
    (subst (λ (l : PlanLane). Prints (header_text lane l) (Err c.in_err-print_header.field-0.0)
    (g.O.Sink.written c.args.out.now) (g.O.Sink.written c.print_header.new.out)
    (g.O.Sink.faults c.args.out.now) (g.O.Sink.faults c.print_header.new.out))
    (sym c.lane.ensures.is) c.in_err-print_header.ensures))

pub returns : goal.returns
returns g c =
    let lane = c.args.lane in
    let p = c.args.plan.now in
    let rest : List ℕ = flat_map_from (entry_text c.args.hex) 0 c.args.history.now.entries.items in
    subst (λ (l : PlanLane). Prints (header_text lane l ++ rest) c.print_entries.result
    (g.O.Sink.written c.args.out.now) (g.O.Sink.written c.print_entries.new.out)
    (g.O.Sink.faults c.args.out.now) (g.O.Sink.faults c.print_entries.new.out))
    (sym c.lane.ensures.is)
    (prints_then (header_text lane c.lane.result.now) rest c.print_entries.result
    (g.O.Sink.written c.args.out.now) (g.O.Sink.written c.print_header.new.out)
    (g.O.Sink.written c.print_entries.new.out)
    (g.O.Sink.faults c.args.out.now) (g.O.Sink.faults c.print_header.new.out)
    (g.O.Sink.faults c.print_entries.new.out) c.in_ok-print_header.ensures.0 c.in_ok-print_header.ensures.1
    (subst (λ (l : List ℕ). Prints l c.print_entries.result
    (g.O.Sink.written c.print_header.new.out) (g.O.Sink.written c.print_entries.new.out)
    (g.O.Sink.faults c.print_header.new.out) (g.O.Sink.faults c.print_entries.new.out))
    (ap (flat_map_from (entry_text c.args.hex) 0) c.entries.ensures) c.print_entries.ensures))

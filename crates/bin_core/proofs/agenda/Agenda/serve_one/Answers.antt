use Rattle.std.proofs.Common.{ℕ, ◌≡◌, ◌∙◌, Option, Some, List, refl, sym, ap, length, arith}
use Rattle.replay_model.specs.declared.Due.{Due}
use Rattle.replay_model.specs.declared.Due.TheVariants as due
use Rattle.replay_model.specs.Serving.{first_wake, earlier, up_to}
use Rattle.lane_core.specs.declared.lane.Lane.{Lane}
use Rattle.lane_core.specs.AllLanes.{wakes_in}
use Rattle.bin_core.specs.declared.agenda.Agenda.{Agenda}
use Rattle.bin_core.proofs.Dues.{report_by, due_by, IsTurn, turn_is, IsReport, report_is, turn_falls, report_falls}
use Rattle.bin_core.proofs.Serving.{turns_at}
use Rattle.bin_core.proofs.agenda.Agenda.serve_one.Goals as goal
use Rattle.bin_core.proofs.agenda.Agenda.serve_one.Goals.{then-reports, else-reports}

pub tick-requires-clause-lane : goal.tick-requires-clause-lane
tick-requires-clause-lane c =
    let next : Option ℕ = c.args.self.now.next_report in
    let ls : List Lane = c.args.self.now.stage.lanes.items in
    let report : c.if-reports.report ≡ report_by c.args.reports next =
    elim c.if-reports.branch [
      | then-reports w ↦ w.report-is ∙ sym (ap (λ b. report_by b next) w.if-reports.true)
      | else-reports w ↦ w.report-is ∙ sym (ap (λ b. report_by b next) w.if-reports.false)
    ] in
    let found : c.up_to.result ≡ up_to c.args.limit (earlier (report_by c.args.reports next) (first_wake (wakes_in ls) (length ls))) =
    c.up_to.ensures ∙ ap (up_to c.args.limit) (c.earlier.ensures ∙ ap (λ (r : Option ℕ). earlier r c.next_turn.result) report
    ∙ ap (earlier (report_by c.args.reports next)) c.next_turn.ensures) in
    let at : c.up_to.result ≡ Some (due.Turns c.in-Some-Turns.wake) = c.in-Some-Turns.is ∙ ap (λ (d : Due). Some d) c.in-Some-Turns.field-0-is in
    let is : IsTurn ls c.args.limit c.in-Some-Turns.wake = turn_is (report_by c.args.reports next) ls c.args.limit c.in-Some-Turns.wake (sym found ∙ at) in
    is.below

pub report-requires-clause-time : goal.report-requires-clause-time
report-requires-clause-time c =
    let next : Option ℕ = c.args.self.now.next_report in
    let ls : List Lane = c.args.self.now.stage.lanes.items in
    let report : c.if-reports.report ≡ report_by c.args.reports next =
    elim c.if-reports.branch [
      | then-reports w ↦ w.report-is ∙ sym (ap (λ b. report_by b next) w.if-reports.true)
      | else-reports w ↦ w.report-is ∙ sym (ap (λ b. report_by b next) w.if-reports.false)
    ] in
    let found : c.up_to.result ≡ up_to c.args.limit (earlier (report_by c.args.reports next) (first_wake (wakes_in ls) (length ls))) =
    c.up_to.ensures ∙ ap (up_to c.args.limit) (c.earlier.ensures ∙ ap (λ (r : Option ℕ). earlier r c.next_turn.result) report
    ∙ ap (earlier (report_by c.args.reports next)) c.next_turn.ensures) in
    let at : c.up_to.result ≡ Some (due.Reports c.in-Some-Reports.time) = c.in-Some-Reports.is ∙ ap (λ (d : Due). Some d) c.in-Some-Reports.field-0-is in
    let is : IsReport c.args.reports next c.args.limit c.in-Some-Reports.time = report_is c.args.reports next (first_wake (wakes_in ls) (length ls)) c.args.limit c.in-Some-Reports.time (sym found ∙ at) in
    omega (arith, is.le, c.requires.limit)

pub returns-in-None-clause-none : goal.returns-in-None-clause-none
returns-in-None-clause-none c =
    let next : Option ℕ = c.args.self.now.next_report in
    let ls : List Lane = c.args.self.now.stage.lanes.items in
    let report : c.if-reports.report ≡ report_by c.args.reports next =
    elim c.if-reports.branch [
      | then-reports w ↦ w.report-is ∙ sym (ap (λ b. report_by b next) w.if-reports.true)
      | else-reports w ↦ w.report-is ∙ sym (ap (λ b. report_by b next) w.if-reports.false)
    ] in
    let found : c.up_to.result ≡ up_to c.args.limit (earlier (report_by c.args.reports next) (first_wake (wakes_in ls) (length ls))) =
    c.up_to.ensures ∙ ap (up_to c.args.limit) (c.earlier.ensures ∙ ap (λ (r : Option ℕ). earlier r c.next_turn.result) report
    ∙ ap (earlier (report_by c.args.reports next)) c.next_turn.ensures) in
    λ e k base tl h. (due_by k base c.args.self.now c.args.lines.now tl c.args.reports c.args.limit h ∙ sym found ∙ c.in-None.is, h)

pub returns-in_ok-report-in-Some-Reports-clause-fewer : goal.returns-in_ok-report-in-Some-Reports-clause-fewer
returns-in_ok-report-in-Some-Reports-clause-fewer c =
    let next : Option ℕ = c.args.self.now.next_report in
    let ls : List Lane = c.args.self.now.stage.lanes.items in
    let report : c.if-reports.report ≡ report_by c.args.reports next =
    elim c.if-reports.branch [
      | then-reports w ↦ w.report-is ∙ sym (ap (λ b. report_by b next) w.if-reports.true)
      | else-reports w ↦ w.report-is ∙ sym (ap (λ b. report_by b next) w.if-reports.false)
    ] in
    let found : c.up_to.result ≡ up_to c.args.limit (earlier (report_by c.args.reports next) (first_wake (wakes_in ls) (length ls))) =
    c.up_to.ensures ∙ ap (up_to c.args.limit) (c.earlier.ensures ∙ ap (λ (r : Option ℕ). earlier r c.next_turn.result) report
    ∙ ap (earlier (report_by c.args.reports next)) c.next_turn.ensures) in
    let at : c.up_to.result ≡ Some (due.Reports c.in-Some-Reports.time) = c.in-Some-Reports.is ∙ ap (λ (d : Due). Some d) c.in-Some-Reports.field-0-is in
    let is : IsReport c.args.reports next c.args.limit c.in-Some-Reports.time = report_is c.args.reports next (first_wake (wakes_in ls) (length ls)) c.args.limit c.in-Some-Reports.time (sym found ∙ at) in
    λ e. report_falls c.args.limit c.in-Some-Reports.time c.args.self.now c.report.new.self is.le is.is c.in_ok-report-in-Some-Reports.ensures.next c.in_ok-report-in-Some-Reports.ensures.wakes

pub returns-in_ok-report-in-Some-Reports-clause-first : goal.returns-in_ok-report-in-Some-Reports-clause-first
returns-in_ok-report-in-Some-Reports-clause-first c =
    let next : Option ℕ = c.args.self.now.next_report in
    let ls : List Lane = c.args.self.now.stage.lanes.items in
    let report : c.if-reports.report ≡ report_by c.args.reports next =
    elim c.if-reports.branch [
      | then-reports w ↦ w.report-is ∙ sym (ap (λ b. report_by b next) w.if-reports.true)
      | else-reports w ↦ w.report-is ∙ sym (ap (λ b. report_by b next) w.if-reports.false)
    ] in
    let found : c.up_to.result ≡ up_to c.args.limit (earlier (report_by c.args.reports next) (first_wake (wakes_in ls) (length ls))) =
    c.up_to.ensures ∙ ap (up_to c.args.limit) (c.earlier.ensures ∙ ap (λ (r : Option ℕ). earlier r c.next_turn.result) report
    ∙ ap (earlier (report_by c.args.reports next)) c.next_turn.ensures) in
    let at : c.up_to.result ≡ Some (due.Reports c.in-Some-Reports.time) = c.in-Some-Reports.is ∙ ap (λ (d : Due). Some d) c.in-Some-Reports.field-0-is in
    λ e k base tl h. (due.Reports c.in-Some-Reports.time, due_by k base c.args.self.now c.args.lines.now tl c.args.reports c.args.limit h ∙ sym found ∙ at, c.in_ok-report-in-Some-Reports.ensures.stands k base tl h)

pub returns-in_ok-tick-in-Some-Turns-clause-fewer : goal.returns-in_ok-tick-in-Some-Turns-clause-fewer
returns-in_ok-tick-in-Some-Turns-clause-fewer c =
    let next : Option ℕ = c.args.self.now.next_report in
    let ls : List Lane = c.args.self.now.stage.lanes.items in
    let report : c.if-reports.report ≡ report_by c.args.reports next =
    elim c.if-reports.branch [
      | then-reports w ↦ w.report-is ∙ sym (ap (λ b. report_by b next) w.if-reports.true)
      | else-reports w ↦ w.report-is ∙ sym (ap (λ b. report_by b next) w.if-reports.false)
    ] in
    let found : c.up_to.result ≡ up_to c.args.limit (earlier (report_by c.args.reports next) (first_wake (wakes_in ls) (length ls))) =
    c.up_to.ensures ∙ ap (up_to c.args.limit) (c.earlier.ensures ∙ ap (λ (r : Option ℕ). earlier r c.next_turn.result) report
    ∙ ap (earlier (report_by c.args.reports next)) c.next_turn.ensures) in
    let at : c.up_to.result ≡ Some (due.Turns c.in-Some-Turns.wake) = c.in-Some-Turns.is ∙ ap (λ (d : Due). Some d) c.in-Some-Turns.field-0-is in
    let is : IsTurn ls c.args.limit c.in-Some-Turns.wake = turn_is (report_by c.args.reports next) ls c.args.limit c.in-Some-Turns.wake (sym found ∙ at) in
    let new : Agenda = record { stage = c.tick.new.self; interval = c.args.self.now.interval; next_report = c.args.self.now.next_report; latest = c.max-self.result; room = c.args.self.now.room; small = c.args.self.now.small } in
    λ e. turn_falls c.args.limit c.in-Some-Turns.wake.time c.in-Some-Turns.wake.lane c.args.self.now new is.below is.le is.is c.in_ok-tick-in-Some-Turns.ensures.later c.tick.ensures.same refl

pub returns-in_ok-tick-in-Some-Turns-clause-first : goal.returns-in_ok-tick-in-Some-Turns-clause-first
returns-in_ok-tick-in-Some-Turns-clause-first c =
    let next : Option ℕ = c.args.self.now.next_report in
    let ls : List Lane = c.args.self.now.stage.lanes.items in
    let report : c.if-reports.report ≡ report_by c.args.reports next =
    elim c.if-reports.branch [
      | then-reports w ↦ w.report-is ∙ sym (ap (λ b. report_by b next) w.if-reports.true)
      | else-reports w ↦ w.report-is ∙ sym (ap (λ b. report_by b next) w.if-reports.false)
    ] in
    let found : c.up_to.result ≡ up_to c.args.limit (earlier (report_by c.args.reports next) (first_wake (wakes_in ls) (length ls))) =
    c.up_to.ensures ∙ ap (up_to c.args.limit) (c.earlier.ensures ∙ ap (λ (r : Option ℕ). earlier r c.next_turn.result) report
    ∙ ap (earlier (report_by c.args.reports next)) c.next_turn.ensures) in
    let at : c.up_to.result ≡ Some (due.Turns c.in-Some-Turns.wake) = c.in-Some-Turns.is ∙ ap (λ (d : Due). Some d) c.in-Some-Turns.field-0-is in
    λ e k base tl h. (
      due.Turns c.in-Some-Turns.wake,
      due_by k base c.args.self.now c.args.lines.now tl c.args.reports c.args.limit h ∙ sym found ∙ at,
      turns_at c.timelines_keep.ensures c.lanes_stand_beside.ensures k base c.in-Some-Turns.wake.time c.in-Some-Turns.wake.lane c.args.self.now _ c.args.lines.now c.tick.new.lines tl refl refl c.max-self.ensures c.in_ok-tick-in-Some-Turns.ensures.stands h,
    )

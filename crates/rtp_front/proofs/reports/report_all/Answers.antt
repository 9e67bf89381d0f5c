use Rattle.std.proofs.Common.{◌≡◌, ◌∙◌, ◌++◌, ◌<◌, ℕ, List, sym, ap, refl, arith}
use Rattle.std.specs.Prelude.{IsSome}
use Rattle.std.specs.List.{filter, flat_map}
use Rattle.std.proofs.lemmas.List.{append-nil}
use Rattle.script_lang.specs.Tests.{is_declared}
use Rattle.front_model.specs.Given.{Given, Report}
use Rattle.front_model.specs.Sessions.{given}
use Rattle.front_model.specs.Steps.{report_time_steps}
use Rattle.rtp_front.specs.Sessions.{session_at}
use Rattle.rtp_front.proofs.Reporting.{numbers_to, one_reported, next_given, next_kept, none_yet, all_given}
use Rattle.rtp_front.proofs.reports.report_all.Goals as goal

pub loop-number-init : goal.loop-number-init
loop-number-init c = record {
  steps = λ k older kept same. sym (append-nil c.args.steps.now.items);
  stands = λ k older kept.
      none_yet k (Report c.args.time c.args.timeout) (λ (p : ℕ). given k p older)
      c.args.sessions.now.entries kept;
  numbers = λ q. refl;
  heard = λ n h. h;
}

pub loop-number-preserved : goal.loop-number-preserved
loop-number-preserved c = record {
  steps = λ k older kept same.
      one_reported (is_declared k.sessions) (report_time_steps k c.args.time older)
      c.loop-number.number c.args.steps.now.items _ _
      (c.loop-number.invariant.steps k older kept same)
      (c.in_ok-report_at.ensures.steps k older
      (next_kept k c.loop-number.number (Report c.args.time c.args.timeout)
      (λ (p : ℕ). given k p older) c.loop-number.sessions.entries
      (c.loop-number.invariant.stands k older kept))
      same);
  stands = λ k older kept.
      next_given k c.loop-number.number (Report c.args.time c.args.timeout)
      (λ (p : ℕ). given k p older) c.loop-number.sessions.entries
      c.report_at.new.sessions.entries (c.loop-number.invariant.stands k older kept)
      (c.in_ok-report_at.ensures.stands k older
      (next_kept k c.loop-number.number (Report c.args.time c.args.timeout)
      (λ (p : ℕ). given k p older) c.loop-number.sessions.entries
      (c.loop-number.invariant.stands k older kept)))
      c.in_ok-report_at.ensures.rest;
  numbers = λ q. c.in_ok-report_at.ensures.numbers q ∙ c.loop-number.invariant.numbers q;
  heard = λ n h. c.in_ok-report_at.ensures.heard n (c.loop-number.invariant.heard n h);
}

pub returns-clause-steps : goal.returns-clause-steps
returns-clause-steps c = λ k older kept same.
    let all : c.loop-number.number ≡ 8 = omega arith in
    c.loop-number.invariant.steps k older kept same
    ∙ ap
    (λ (n : ℕ). c.args.steps.now.items
    ++ flat_map (report_time_steps k c.args.time older)
    (filter (is_declared k.sessions) (numbers_to n)))
    all

pub returns-clause-stands : goal.returns-clause-stands
returns-clause-stands c = λ k older kept.
    all_given k c.loop-number.number (Report c.args.time c.args.timeout)
    (λ (p : ℕ). given k p older) c.loop-number.sessions.entries
    (λ (q : ℕ) (some : IsSome (session_at c.loop-number.sessions.entries q)).
    let small : q < 8 = c.requires q (sym (c.loop-number.invariant.numbers q) ∙ some) in
    omega arith)
    (c.loop-number.invariant.stands k older kept)

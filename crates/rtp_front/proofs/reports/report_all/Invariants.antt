use Rattle.std.proofs.Common.{◌≡◌, ◌++◌, ℕ, List}
use Rattle.std.specs.List.{filter, flat_map}
use Rattle.script_lang.specs.Contents.{Contents}
use Rattle.script_lang.specs.Tests.{is_declared}
use Rattle.front_model.specs.Events.{FrontEvent}
use Rattle.front_model.specs.Given.{Report}
use Rattle.front_model.specs.Sessions.{given}
use Rattle.front_model.specs.Steps.{report_time_steps}
use Rattle.rtp_front.specs.Sessions.{session_at, IsKept, KeepsNumbers, HeardAtMost}
use Rattle.rtp_front.proofs.Reporting.{numbers_to, given_to}
use Rattle.rtp_front.proofs.reports.report_all.Given as goal

abbrev pub invariant-loop-number : goal.invariant-loop-number
invariant-loop-number l = record {
  steps : (c : Contents) (older : List FrontEvent)
      → ((q : ℕ) → IsKept c q (given c q older) (session_at l.initial.sessions.entries q))
      → l.timeout ≡ c.settings.timeout
      → l.steps.items ≡ l.initial.steps.items
      ++ flat_map (report_time_steps c l.time older)
      (filter (is_declared c.sessions) (numbers_to l.number));
  stands : (c : Contents) (older : List FrontEvent)
      → ((q : ℕ) → IsKept c q (given c q older) (session_at l.initial.sessions.entries q))
      → (q : ℕ) → IsKept c q
      (given_to l.number (Report l.time l.timeout) (λ p. given c p older) q)
      (session_at l.sessions.entries q);
  numbers : KeepsNumbers l.initial.sessions.entries l.sessions.entries;
  heard : (n : ℕ) → HeardAtMost n l.initial.sessions.entries
      → HeardAtMost n l.sessions.entries;
}

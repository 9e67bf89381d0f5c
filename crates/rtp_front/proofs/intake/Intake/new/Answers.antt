use Rattle.std.proofs.Common.{◌≡◌, true, [], ap, subst}
use Rattle.std.specs.List.{list_all}
use Rattle.script_lang.specs.Contents.{Contents}
use Rattle.script_lang.specs.Entries.{session_fits}
use Rattle.rtp_front.specs.Sessions.{session_at}
use Rattle.rtp_front.proofs.Keeping.{ports_kept, declared_small, here}
use Rattle.rtp_front.proofs.intake.Intake.new.Goals as goal

pub invariant_of-result : goal.invariant_of-result
invariant_of-result c = record {
  script = c.args.script.now;
  read = c.in_ok-choices.ensures;
  kept =
      ports_kept c.args.script.now c.in_ok-sessions.sessions.entries
      c.in_ok-sessions.ensures.kept;
  small = λ q some.
      declared_small c.args.script.now.sessions q
      (subst (λ (s : Contents). list_all session_fits s.sessions ≡ true) c.script.view_is
      c.script.invariant.sessions_fit)
      (here c.args.script.now q [] (session_at c.in_ok-sessions.sessions.entries q)
      (c.in_ok-sessions.ensures.kept q) some);
}

pub returns-clause-stands : goal.returns-clause-stands
returns-clause-stands c = record {
  chosen = c.in_ok-choices.ensures;
  own = ap (λ (s : Contents). s.settings.ssrc) c.script.view_is;
  timeout = ap (λ (s : Contents). s.settings.timeout) c.script.view_is;
  sessions = c.in_ok-sessions.ensures.kept;
  streams = c.in_ok-streams.ensures;
}

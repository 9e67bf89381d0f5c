use Rattle.std.proofs.Common.{sym, ap, refl, rules, ◌∙◌, ◌≡◌, ◌++◌, false, ℕ}
use Rattle.jitter_model.specs.Turns.{is_quiet, wake_of}
use Rattle.replay_model.specs.Lines.{turn_lines}
use Rattle.lane_core.proofs.Asking.{begins_asking, goes_on_asking, few_asked}
use Rattle.lane_core.proofs.Settling.{same_lane, same_lane_then, begins, goes_on, ends}
use Rattle.lane_core.proofs.lane.Lane.settle.Goals as goal

pub returns-in-Idle-clause-few : goal.returns-in-Idle-clause-few
returns-in-Idle-clause-few c = few_asked c.turns.self.buffer c.turns.numbers.items c.turns.invariant.few

pub returns-in-Flushing-clause-few : goal.returns-in-Flushing-clause-few
returns-in-Flushing-clause-few c = few_asked c.turns.self.buffer c.turns.numbers.items c.turns.invariant.few

pub returns-in-Idle-clause-stands : goal.returns-in-Idle-clause-stands
returns-in-Idle-clause-stands c =
    λ o a n tl none h. ends o a c.args.time n c.turns.self c.turn.new.self _ c.turns.numbers.items c.turns.lines c.turn.result tl (c.turns_come_to_rest.ensures.stop o c.args.time n) (c.turns.invariant.run o a n tl none h)
    (record { same = c.turn.ensures.stays; counts = c.turn.ensures.counts; value = c.turn.ensures.value; stands = c.turn.ensures.stands; quiet = c.turn.ensures.quiet })
    (ap is_quiet c.in-Idle.is)
    (record { number = refl; session = refl; ssrc = refl; counts = refl; buffer = refl; wake = sym (ap wake_of c.in-Idle.is) })

pub returns-in-Flushing-clause-stands : goal.returns-in-Flushing-clause-stands
returns-in-Flushing-clause-stands c =
    λ o a n tl none h. ends o a c.args.time n c.turns.self c.turn.new.self _ c.turns.numbers.items c.turns.lines c.turn.result tl (c.turns_come_to_rest.ensures.stop o c.args.time n) (c.turns.invariant.run o a n tl none h)
    (record { same = c.turn.ensures.stays; counts = c.turn.ensures.counts; value = c.turn.ensures.value; stands = c.turn.ensures.stands; quiet = c.turn.ensures.quiet })
    (ap is_quiet c.in-Flushing.is)
    (record { number = refl; session = refl; ssrc = refl; counts = refl; buffer = refl; wake = sym (ap wake_of c.in-Flushing.is) })

pub turns-preserved : goal.turns-preserved
turns-preserved c =
    let loud : is_quiet c.turn.result ≡ false = search rules in
    record {
      now = search rules;
      stays = same_lane_then _ c.turns.self _ c.turns.invariant.stays c.turn.ensures.stays;
      few = goes_on_asking c.turns.self.buffer c.turn.new.self.buffer c.turn.result c.turns.numbers.items _ c.turn.ensures.stays.settings c.turn.ensures.value c.turn.ensures.stands c.in_ok-note_request-in_default.ensures c.turns.invariant.few;
      run = λ o a n tl none h. goes_on o a c.args.time n c.turns.self c.turn.new.self c.turns.numbers.items _ c.turns.lines c.push.new.self c.turn.result tl (c.turns_come_to_rest.ensures.step o c.args.time n) (c.turns.invariant.run o a n tl none h)
          (record { same = c.turn.ensures.stays; counts = c.turn.ensures.counts; value = c.turn.ensures.value; stands = c.turn.ensures.stands; quiet = c.turn.ensures.quiet })
          loud
          c.in_ok-note_request-in_default.ensures
          (λ e. c.in_ok-push-in_default.ensures.ok ∙ ap (λ xs. c.turns.lines ++ xs) (sym c.reply_line.ensures ∙ ap (λ (m : ℕ). turn_lines c.args.time m c.turn.result) (c.turn.ensures.stays.number ∙ e)));
      time = refl;
    }

pub turns-init : goal.turns-init
turns-init c =
    record {
      now = refl;
      stays = same_lane c.args.self.now;
      few = begins_asking c.accepted_in_window.ensures.window c.args.self.now.buffer c.args.self.now.counts c.new-numbers.result.items c.new-numbers.ensures.items c.args.self.now.counted;
      run = λ o a n tl none h. begins o a c.args.time n c.args.self.now c.new-numbers.result.items c.args.lines.now tl c.new-numbers.ensures.items none h;
      time = refl;
    }

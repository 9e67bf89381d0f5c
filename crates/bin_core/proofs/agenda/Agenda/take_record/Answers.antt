use Rattle.std.proofs.Common.{ℕ, ◌≡◌, ◌∙◌, ◌+◌, ◌<◌, ap, refl, List, [], Bool, ◌++◌, length, arith, rules}
use Rattle.front_model.specs.declared.Step.{Step}
use Rattle.front_model.specs.Events.{FrontEvent, Came}
use Rattle.front_model.specs.Steps.{steps}
use Rattle.pcap_file.specs.Reading.{record_view}
use Rattle.replay_model.specs.Events.{front}
use Rattle.replay_model.specs.Fitting.{IsCaptured}
use Rattle.replay_model.specs.Log.{served}
use Rattle.std.specs.Prelude.{◌||◌, nat_le}
use Rattle.std.specs.List.{list_any}
use Rattle.replay_model.specs.Taking.{touches, is_touched}
use Rattle.bin_core.specs.Touching.{is_listed}
use Rattle.bin_core.specs.Underway.{Owes}
use Rattle.bin_core.specs.declared.stage.Stage.{Stage}
use Rattle.bin_core.proofs.Outcomes.{ok_of}
use Rattle.bin_core.proofs.Owing.{Comes, takes_owed, rest_taken}
use Rattle.bin_core.proofs.Serving.{takes_at}
use Rattle.bin_core.proofs.Ticking.{takes}
use Rattle.bin_core.proofs.agenda.Agenda.take_record.Goals as goal

pub take-requires : goal.take-requires
take-requires c =
    let n : ℕ = c.requires.rests.0 in
    omega (
      arith,
      c.requires.few,
      rest_taken n [] c.args.self.now.stage c.requires.rests.1,
      rest_taken n [] c.serve.new.self.stage (c.in_ok-serve.ensures.rests n c.requires.rests.1),
    )

pub walk-requires : goal.walk-requires
walk-requires c =
    let n : ℕ = c.requires.rests.0 in
    let e : FrontEvent = Came c.args.time (record_view c.args.link c.args.rec.now) in
    let was : Stage = c.serve.new.self.stage in
    let one : Stage = record { front = c.take.new.self; lanes = was.lanes; wakes = was.wakes; sync = was.sync; standings = was.standings } in
    let comes : Comes e was.front one.front c.take.new.steps.items =
    record {
      stands = λ k older h. ok_of c.take.result c.in_ok-take.field-0 _ c.in_ok-take.was (c.take.ensures.stands k older h);
      steps_are = λ k older h.
          ok_of c.take.result c.in_ok-take.field-0 _ c.in_ok-take.was (c.take.ensures.steps k older h)
          ∙ ap (λ (ys : List Step). ys ++ steps k older e) c.clear.ensures.items;
    } in
    let captured : IsCaptured c.args.time (record_view c.args.link c.args.rec.now) = record { early = c.requires.small; bytes = search rules } in
    let lt : n < 100000000 = omega (arith, c.requires.few, rest_taken n [] c.args.self.now.stage c.requires.rests.1) in (
      n + 1,
      takes_owed n c.args.time (record_view c.args.link c.args.rec.now) c.take.new.steps.items was one c.steps_suit_a_bin.ensures c.scripts_are_sound.ensures captured lt refl refl refl comes
          (c.in_ok-serve.ensures.rests n c.requires.rests.1),
    )

pub returns-clause-goes : goal.returns-clause-goes
returns-clause-goes c = λ k base tl h.
    let e : FrontEvent = Came c.args.time (record_view c.args.link c.args.rec.now) in
    let was : Stage = c.serve.new.self.stage in
    let one : Stage = record { front = c.take.new.self; lanes = was.lanes; wakes = was.wakes; sync = was.sync; standings = was.standings } in
    let xs : List Step = c.take.new.steps.items in
    let len_is : c.len-began.result ≡ length was.lanes.items = search rules in
    let end_is : c.len.result ≡ length c.walk.new.self.lanes.items = search rules in
    takes_at c.timelines_keep.ensures k base c.args.time e c.serve.new.self _ c.serve.new.lines c.tick_listed.new.lines (served k c.args.time tl) refl refl refl c.max-self.ensures
    (λ k base tl h. takes c.lanes_stand_beside.ensures k base was one c.walk.new.self c.tick_listed.new.self c.args.time e xs c.as_slice-2.result.now c.serve.new.lines c.walk.new.lines c.tick_listed.new.lines tl refl refl refl
    (ok_of c.take.result c.in_ok-take.field-0 _ c.in_ok-take.was (c.take.ensures.stands k (front tl) h.front))
    (ok_of c.take.result c.in_ok-take.field-0 _ c.in_ok-take.was (c.take.ensures.steps k (front tl) h.front)
    ∙ ap (λ (ys : List Step). ys ++ steps k (front tl) e) c.clear.ensures.items)
    (λ n lt. ap (λ (bs : List ℕ). is_listed bs n) c.as_slice-2.ensures.value ∙ c.in_ok-list_begun.ensures n (omega (arith, lt, end_is))
    ∙ ap (λ (b : Bool). nat_le c.len-began.result n || b) (c.in_ok-list_given.ensures n ∙ ap (λ (ys : List Step). list_any (touches n) ys) c.as_slice.ensures.value)
    ∙ ap (λ (m : ℕ). is_touched m xs n) len_is)
    c.in_ok-walk.ensures.does c.in_ok-tick_listed.ensures.ticks h)
    (c.in_ok-serve.ensures.goes k base tl h)

pub returns-clause-rests : goal.returns-clause-rests
returns-clause-rests c = λ n rests.
    let e : FrontEvent = Came c.args.time (record_view c.args.link c.args.rec.now) in
    let was : Stage = c.serve.new.self.stage in
    let one : Stage = record { front = c.take.new.self; lanes = was.lanes; wakes = was.wakes; sync = was.sync; standings = was.standings } in
    let comes : Comes e was.front one.front c.take.new.steps.items =
    record {
      stands = λ k older h. ok_of c.take.result c.in_ok-take.field-0 _ c.in_ok-take.was (c.take.ensures.stands k older h);
      steps_are = λ k older h.
          ok_of c.take.result c.in_ok-take.field-0 _ c.in_ok-take.was (c.take.ensures.steps k older h)
          ∙ ap (λ (ys : List Step). ys ++ steps k older e) c.clear.ensures.items;
    } in
    let captured : IsCaptured c.args.time (record_view c.args.link c.args.rec.now) = record { early = c.requires.small; bytes = search rules } in
    let lt : n < 100000000 = omega (arith, c.requires.few, rest_taken n [] c.args.self.now.stage rests) in
    let owed : Owes (n + 1) c.take.new.steps.items one =
    takes_owed n c.args.time (record_view c.args.link c.args.rec.now) c.take.new.steps.items was one c.steps_suit_a_bin.ensures c.scripts_are_sound.ensures captured lt refl refl refl comes
    (c.in_ok-serve.ensures.rests n rests) in
    c.in_ok-tick_listed.ensures.rests (n + 1) (c.in_ok-walk.ensures.rests (n + 1) owed)

pub tick_listed-requires-clause-rests : goal.tick_listed-requires-clause-rests
tick_listed-requires-clause-rests c =
    let n : ℕ = c.requires.rests.0 in
    let e : FrontEvent = Came c.args.time (record_view c.args.link c.args.rec.now) in
    let was : Stage = c.serve.new.self.stage in
    let one : Stage = record { front = c.take.new.self; lanes = was.lanes; wakes = was.wakes; sync = was.sync; standings = was.standings } in
    let comes : Comes e was.front one.front c.take.new.steps.items =
    record {
      stands = λ k older h. ok_of c.take.result c.in_ok-take.field-0 _ c.in_ok-take.was (c.take.ensures.stands k older h);
      steps_are = λ k older h.
          ok_of c.take.result c.in_ok-take.field-0 _ c.in_ok-take.was (c.take.ensures.steps k older h)
          ∙ ap (λ (ys : List Step). ys ++ steps k older e) c.clear.ensures.items;
    } in
    let captured : IsCaptured c.args.time (record_view c.args.link c.args.rec.now) = record { early = c.requires.small; bytes = search rules } in
    let lt : n < 100000000 = omega (arith, c.requires.few, rest_taken n [] c.args.self.now.stage c.requires.rests.1) in
    let owed : Owes (n + 1) c.take.new.steps.items one =
    takes_owed n c.args.time (record_view c.args.link c.args.rec.now) c.take.new.steps.items was one c.steps_suit_a_bin.ensures c.scripts_are_sound.ensures captured lt refl refl refl comes
    (c.in_ok-serve.ensures.rests n c.requires.rests.1) in (
      n + 1,
      c.in_ok-walk.ensures.rests (n + 1) owed,
    )

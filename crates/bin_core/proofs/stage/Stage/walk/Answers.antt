use Rattle.std.proofs.Common.{ℕ, ◌≡◌, ◌<◌, ◌∙◌, refl, sym, ap, subst, List, ◌∷◌, length, arith, rules}
use Rattle.std.specs.Prelude.{get_or}
use Rattle.std.specs.Vec.{vec_len, with_item}
use Rattle.std.specs.Vec.Iter.{drain_items}
use Rattle.front_model.specs.declared.Step.{Step}
use Rattle.front_model.specs.declared.Step.TheVariants as step
use Rattle.bin_core.specs.declared.stage.Stage.{Stage}
use Rattle.bin_core.specs.Stages.{Does, DoesAll}
use Rattle.bin_core.specs.Underway.{Owes}
use Rattle.bin_core.proofs.Owing.{told_done, pushed_done, tell_counts, push_there, push_pusher, push_stamp, push_few, left_next, left_none, all_taken}
use Rattle.bin_core.proofs.Staging.{told_tells, pushes}
use Rattle.bin_core.proofs.Ticking.{does_none, does_more}
use Rattle.bin_core.proofs.stage.Stage.walk.Goals as goal

pub loop-step-init : goal.loop-step-init
loop-step-init c = (does_none c.args.time c.args.self.now c.args.lines.now, refl, λ n k. k)

pub loop-step-preserved-in-Continue-1 : goal.loop-step-preserved-in-Continue-1
loop-step-preserved-in-Continue-1 c =
    let first : drain_items c.into_iter-step-iterator.result ≡ c.args.steps.now.items =
    ap drain_items c.into_iter-step-iterator.ensures.into_iter_gives ∙ c.drain-step-items.ensures.rest ∙ all_taken c.args.steps.now.items (vec_len c.args.steps.now) (search rules) in
    let left : drain_items c.loop-step.step-iterator ≡ step.Tell c.in-Tell.line ∷ drain_items c.next.new.self = c.in-Some.ensures.steps.0 ∙ ap (λ (x : Step). x ∷ drain_items c.next.new.self) c.in-Tell.is in
    let owed : Owes c.requires.0 (step.Tell c.in-Tell.line ∷ drain_items c.next.new.self) c.loop-step.self =
    subst (λ (xs : List Step). Owes c.requires.0 xs c.loop-step.self) left
    (c.loop-step.invariant.2 c.requires.0 (subst (λ (xs : List Step). Owes c.requires.0 xs c.args.self.now) (sym first) c.requires.1)) in
    let none = tell_counts c.requires.0 c.in-Tell.line (drain_items c.next.new.self) c.loop-step.self owed in
    let does : Does c.args.time c.in-Some.step c.loop-step.self c.loop-step.self c.loop-step.lines c.push.new.self =
    subst (λ (x : Step). Does c.args.time x c.loop-step.self c.loop-step.self c.loop-step.lines c.push.new.self) (sym c.in-Tell.is)
    (λ k base resting tl apart h. told_tells c.lanes_stand_beside.ensures k base resting c.loop-step.self c.args.time c.in-Tell.line c.loop-step.lines c.push.new.self tl none c.in_ok-push-in-Tell.ensures.ok h) in (
      does_more c.timelines_keep.ensures c.args.time c.loop-step.yielded _ c.in-Some.step c.args.self.now c.loop-step.self c.loop-step.self c.args.lines.now c.loop-step.lines c.push.new.self refl does c.loop-step.invariant.0,
      left_next c.loop-step.yielded (drain_items c.next.new.self) (drain_items c.into_iter-step-iterator.result) (drain_items c.loop-step.step-iterator) c.in-Some.step c.loop-step.invariant.1 c.in-Some.ensures.steps.0,
      λ n k. told_done n c.in-Tell.line (drain_items c.next.new.self) c.loop-step.self (subst (λ (xs : List Step). Owes n xs c.loop-step.self) left (c.loop-step.invariant.2 n k)),
    )

pub open_lane-requires : goal.open_lane-requires
open_lane-requires c =
    let first : drain_items c.into_iter-step-iterator.result ≡ c.args.steps.now.items =
    ap drain_items c.into_iter-step-iterator.ensures.into_iter_gives ∙ c.drain-step-items.ensures.rest ∙ all_taken c.args.steps.now.items (vec_len c.args.steps.now) (search rules) in
    let left : drain_items c.loop-step.step-iterator ≡ step.Open c.in-Open.opening ∷ drain_items c.next.new.self = c.in-Some.ensures.steps.0 ∙ ap (λ (x : Step). x ∷ drain_items c.next.new.self) c.in-Open.is in
    let owed : Owes c.requires.0 (step.Open c.in-Open.opening ∷ drain_items c.next.new.self) c.loop-step.self =
    subst (λ (xs : List Step). Owes c.requires.0 xs c.loop-step.self) left
    (c.loop-step.invariant.2 c.requires.0 (subst (λ (xs : List Step). Owes c.requires.0 xs c.args.self.now) (sym first) c.requires.1)) in
    (c.requires.0, drain_items c.next.new.self, owed)

pub loop-step-preserved-in-Continue-branch-2 : goal.loop-step-preserved-in-Continue-branch-2
loop-step-preserved-in-Continue-branch-2 c =
    let left : drain_items c.loop-step.step-iterator ≡ step.Open c.in-Open.opening ∷ drain_items c.next.new.self = c.in-Some.ensures.steps.0 ∙ ap (λ (x : Step). x ∷ drain_items c.next.new.self) c.in-Open.is in
    let does : Does c.args.time c.in-Some.step c.loop-step.self c.open_lane.new.self c.loop-step.lines c.open_lane.new.lines =
    subst (λ (x : Step). Does c.args.time x c.loop-step.self c.open_lane.new.self c.loop-step.lines c.open_lane.new.lines) (sym c.in-Open.is) c.in_ok-open_lane-in-Open.ensures.does in (
      does_more c.timelines_keep.ensures c.args.time c.loop-step.yielded _ c.in-Some.step c.args.self.now c.loop-step.self c.open_lane.new.self c.args.lines.now c.loop-step.lines c.open_lane.new.lines refl does c.loop-step.invariant.0,
      left_next c.loop-step.yielded (drain_items c.next.new.self) (drain_items c.into_iter-step-iterator.result) (drain_items c.loop-step.step-iterator) c.in-Some.step c.loop-step.invariant.1 c.in-Some.ensures.steps.0,
      λ n k. c.in_ok-open_lane-in-Open.ensures.owes n (drain_items c.next.new.self) (subst (λ (xs : List Step). Owes n xs c.loop-step.self) left (c.loop-step.invariant.2 n k)),
    )

pub index_mut-requires : goal.index_mut-requires
index_mut-requires c =
    let first : drain_items c.into_iter-step-iterator.result ≡ c.args.steps.now.items =
    ap drain_items c.into_iter-step-iterator.ensures.into_iter_gives ∙ c.drain-step-items.ensures.rest ∙ all_taken c.args.steps.now.items (vec_len c.args.steps.now) (search rules) in
    let left : drain_items c.loop-step.step-iterator ≡ step.Push c.in-Push.lane c.in-Push.arrival ∷ drain_items c.next.new.self = c.in-Some.ensures.steps.0 ∙ ap (λ (x : Step). x ∷ drain_items c.next.new.self) c.in-Push.is in
    let owed : Owes c.requires.0 (step.Push c.in-Push.lane c.in-Push.arrival ∷ drain_items c.next.new.self) c.loop-step.self =
    subst (λ (xs : List Step). Owes c.requires.0 xs c.loop-step.self) left
    (c.loop-step.invariant.2 c.requires.0 (subst (λ (xs : List Step). Owes c.requires.0 xs c.args.self.now) (sym first) c.requires.1)) in
    let same : vec_len c.loop-step.self.lanes ≡ length c.loop-step.self.lanes.items = search rules in
    omega (arith, c.from.ensures, same, push_there c.requires.0 c.in-Push.lane c.in-Push.arrival (drain_items c.next.new.self) c.loop-step.self owed)

pub push-requires-in-Push-clause-pusher : goal.push-requires-in-Push-clause-pusher
push-requires-in-Push-clause-pusher c =
    let first : drain_items c.into_iter-step-iterator.result ≡ c.args.steps.now.items =
    ap drain_items c.into_iter-step-iterator.ensures.into_iter_gives ∙ c.drain-step-items.ensures.rest ∙ all_taken c.args.steps.now.items (vec_len c.args.steps.now) (search rules) in
    let left : drain_items c.loop-step.step-iterator ≡ step.Push c.in-Push.lane c.in-Push.arrival ∷ drain_items c.next.new.self = c.in-Some.ensures.steps.0 ∙ ap (λ (x : Step). x ∷ drain_items c.next.new.self) c.in-Push.is in
    let owed : Owes c.requires.0 (step.Push c.in-Push.lane c.in-Push.arrival ∷ drain_items c.next.new.self) c.loop-step.self =
    subst (λ (xs : List Step). Owes c.requires.0 xs c.loop-step.self) left
    (c.loop-step.invariant.2 c.requires.0 (subst (λ (xs : List Step). Owes c.requires.0 xs c.args.self.now) (sym first) c.requires.1)) in
    push_pusher c.requires.0 c.in-Push.lane c.in-Push.arrival c.index_mut.result.now (drain_items c.next.new.self) c.loop-step.self
    (c.index_mut.ensures.value ∙ ap (λ (k : ℕ). get_or c.loop-step.self.lanes.items k c.index_mut.result.now) c.from.ensures) owed

pub push-requires-in-Push-clause-stamp : goal.push-requires-in-Push-clause-stamp
push-requires-in-Push-clause-stamp c =
    let first : drain_items c.into_iter-step-iterator.result ≡ c.args.steps.now.items =
    ap drain_items c.into_iter-step-iterator.ensures.into_iter_gives ∙ c.drain-step-items.ensures.rest ∙ all_taken c.args.steps.now.items (vec_len c.args.steps.now) (search rules) in
    let left : drain_items c.loop-step.step-iterator ≡ step.Push c.in-Push.lane c.in-Push.arrival ∷ drain_items c.next.new.self = c.in-Some.ensures.steps.0 ∙ ap (λ (x : Step). x ∷ drain_items c.next.new.self) c.in-Push.is in
    let owed : Owes c.requires.0 (step.Push c.in-Push.lane c.in-Push.arrival ∷ drain_items c.next.new.self) c.loop-step.self =
    subst (λ (xs : List Step). Owes c.requires.0 xs c.loop-step.self) left
    (c.loop-step.invariant.2 c.requires.0 (subst (λ (xs : List Step). Owes c.requires.0 xs c.args.self.now) (sym first) c.requires.1)) in
    push_stamp c.requires.0 c.in-Push.lane c.in-Push.arrival (drain_items c.next.new.self) c.loop-step.self owed

pub push-requires-in-Push-clause-few : goal.push-requires-in-Push-clause-few
push-requires-in-Push-clause-few c =
    let first : drain_items c.into_iter-step-iterator.result ≡ c.args.steps.now.items =
    ap drain_items c.into_iter-step-iterator.ensures.into_iter_gives ∙ c.drain-step-items.ensures.rest ∙ all_taken c.args.steps.now.items (vec_len c.args.steps.now) (search rules) in
    let left : drain_items c.loop-step.step-iterator ≡ step.Push c.in-Push.lane c.in-Push.arrival ∷ drain_items c.next.new.self = c.in-Some.ensures.steps.0 ∙ ap (λ (x : Step). x ∷ drain_items c.next.new.self) c.in-Push.is in
    let owed : Owes c.requires.0 (step.Push c.in-Push.lane c.in-Push.arrival ∷ drain_items c.next.new.self) c.loop-step.self =
    subst (λ (xs : List Step). Owes c.requires.0 xs c.loop-step.self) left
    (c.loop-step.invariant.2 c.requires.0 (subst (λ (xs : List Step). Owes c.requires.0 xs c.args.self.now) (sym first) c.requires.1)) in
    push_few c.requires.0 c.in-Push.lane c.in-Push.arrival c.index_mut.result.now (drain_items c.next.new.self) c.loop-step.self
    (c.index_mut.ensures.value ∙ ap (λ (k : ℕ). get_or c.loop-step.self.lanes.items k c.index_mut.result.now) c.from.ensures) owed

pub loop-step-preserved-in-Continue-branch-3 : goal.loop-step-preserved-in-Continue-branch-3
loop-step-preserved-in-Continue-branch-3 c =
    let first : drain_items c.into_iter-step-iterator.result ≡ c.args.steps.now.items =
    ap drain_items c.into_iter-step-iterator.ensures.into_iter_gives ∙ c.drain-step-items.ensures.rest ∙ all_taken c.args.steps.now.items (vec_len c.args.steps.now) (search rules) in
    let left : drain_items c.loop-step.step-iterator ≡ step.Push c.in-Push.lane c.in-Push.arrival ∷ drain_items c.next.new.self = c.in-Some.ensures.steps.0 ∙ ap (λ (x : Step). x ∷ drain_items c.next.new.self) c.in-Push.is in
    let owed : Owes c.requires.0 (step.Push c.in-Push.lane c.in-Push.arrival ∷ drain_items c.next.new.self) c.loop-step.self =
    subst (λ (xs : List Step). Owes c.requires.0 xs c.loop-step.self) left
    (c.loop-step.invariant.2 c.requires.0 (subst (λ (xs : List Step). Owes c.requires.0 xs c.args.self.now) (sym first) c.requires.1)) in
    let number : c.from.result ≡ c.in-Push.lane = c.from.ensures in
    let there : c.in-Push.lane < length c.loop-step.self.lanes.items = push_there c.requires.0 c.in-Push.lane c.in-Push.arrival (drain_items c.next.new.self) c.loop-step.self owed in
    let below : c.from.result < length c.loop-step.self.lanes.items = omega (arith, number, there) in
    let new : Stage = record { front = c.loop-step.self.front; lanes = with_item c.loop-step.self.lanes c.from.result c.push-in-Push.new.self; wakes = c.loop-step.self.wakes; sync = c.loop-step.self.sync; standings = c.loop-step.self.standings } in
    let does : Does c.args.time c.in-Some.step c.loop-step.self new c.loop-step.lines c.push-in-Push.new.lines =
    subst (λ (x : Step). Does c.args.time x c.loop-step.self new c.loop-step.lines c.push-in-Push.new.lines) (sym c.in-Push.is)
    (subst (λ (n : ℕ). Does c.args.time (step.Push n c.in-Push.arrival) c.loop-step.self new c.loop-step.lines c.push-in-Push.new.lines) number
    (pushes c.lanes_stand_beside.ensures c.loop-step.self new c.args.time c.from.result c.in-Push.arrival c.index_mut.result.now c.push-in-Push.new.self c.loop-step.lines c.push-in-Push.new.lines below c.index_mut.ensures.value refl refl refl refl c.in_ok-push-in-Push.ensures.stands)) in (
      does_more c.timelines_keep.ensures c.args.time c.loop-step.yielded _ c.in-Some.step c.args.self.now c.loop-step.self new c.args.lines.now c.loop-step.lines c.push-in-Push.new.lines refl does c.loop-step.invariant.0,
      left_next c.loop-step.yielded (drain_items c.next.new.self) (drain_items c.into_iter-step-iterator.result) (drain_items c.loop-step.step-iterator) c.in-Some.step c.loop-step.invariant.1 c.in-Some.ensures.steps.0,
      λ n k. pushed_done n c.from.result c.in-Push.arrival c.index_mut.result.now c.push-in-Push.new.self (drain_items c.next.new.self) c.loop-step.self new below c.index_mut.ensures.value refl refl refl refl c.in_ok-push-in-Push.ensures.stays c.in_ok-push-in-Push.ensures.wake
          (subst (λ (m : ℕ). Owes n (step.Push m c.in-Push.arrival ∷ drain_items c.next.new.self) c.loop-step.self) (sym number)
          (subst (λ (xs : List Step). Owes n xs c.loop-step.self) left (c.loop-step.invariant.2 n k))),
    )

pub synchronise-requires : goal.synchronise-requires
synchronise-requires c =
    let first : drain_items c.into_iter-step-iterator.result ≡ c.args.steps.now.items =
    ap drain_items c.into_iter-step-iterator.ensures.into_iter_gives ∙ c.drain-step-items.ensures.rest ∙ all_taken c.args.steps.now.items (vec_len c.args.steps.now) (search rules) in
    let left : drain_items c.loop-step.step-iterator ≡ step.Sync c.in-Sync.lane c.in-Sync.report ∷ drain_items c.next.new.self = c.in-Some.ensures.steps.0 ∙ ap (λ (x : Step). x ∷ drain_items c.next.new.self) c.in-Sync.is in
    let owed : Owes c.requires.0 (step.Sync c.in-Sync.lane c.in-Sync.report ∷ drain_items c.next.new.self) c.loop-step.self =
    subst (λ (xs : List Step). Owes c.requires.0 xs c.loop-step.self) left
    (c.loop-step.invariant.2 c.requires.0 (subst (λ (xs : List Step). Owes c.requires.0 xs c.args.self.now) (sym first) c.requires.1)) in
    (c.requires.0, drain_items c.next.new.self, owed)

pub loop-step-preserved : goal.loop-step-preserved
loop-step-preserved c =
    let left : drain_items c.loop-step.step-iterator ≡ step.Sync c.in-Sync.lane c.in-Sync.report ∷ drain_items c.next.new.self = c.in-Some.ensures.steps.0 ∙ ap (λ (x : Step). x ∷ drain_items c.next.new.self) c.in-Sync.is in
    let does : Does c.args.time c.in-Some.step c.loop-step.self c.synchronise.new.self c.loop-step.lines c.synchronise.new.lines =
    subst (λ (x : Step). Does c.args.time x c.loop-step.self c.synchronise.new.self c.loop-step.lines c.synchronise.new.lines) (sym c.in-Sync.is) c.in_ok-synchronise-in-Sync.ensures.does in (
      does_more c.timelines_keep.ensures c.args.time c.loop-step.yielded _ c.in-Some.step c.args.self.now c.loop-step.self c.synchronise.new.self c.args.lines.now c.loop-step.lines c.synchronise.new.lines refl does c.loop-step.invariant.0,
      left_next c.loop-step.yielded (drain_items c.next.new.self) (drain_items c.into_iter-step-iterator.result) (drain_items c.loop-step.step-iterator) c.in-Some.step c.loop-step.invariant.1 c.in-Some.ensures.steps.0,
      λ n k. c.in_ok-synchronise-in-Sync.ensures.owes n (drain_items c.next.new.self) (subst (λ (xs : List Step). Owes n xs c.loop-step.self) left (c.loop-step.invariant.2 n k)),
    )

pub returns-clause-does : goal.returns-clause-does
returns-clause-does c =
    let first : drain_items c.into_iter-step-iterator.result ≡ c.args.steps.now.items =
    ap drain_items c.into_iter-step-iterator.ensures.into_iter_gives ∙ c.drain-step-items.ensures.rest ∙ all_taken c.args.steps.now.items (vec_len c.args.steps.now) (search rules) in
    let all : c.loop-step.yielded ≡ c.args.steps.now.items =
    left_none c.loop-step.yielded (drain_items c.into_iter-step-iterator.result) (drain_items c.loop-step.step-iterator) c.loop-step.invariant.1 c.in-None.ensures.steps.0 ∙ first in
    subst (λ (xs : List Step). DoesAll c.args.time xs c.args.self.now c.loop-step.self c.args.lines.now c.loop-step.lines) all c.loop-step.invariant.0

pub returns-clause-rests : goal.returns-clause-rests
returns-clause-rests c =
    let first : drain_items c.into_iter-step-iterator.result ≡ c.args.steps.now.items =
    ap drain_items c.into_iter-step-iterator.ensures.into_iter_gives ∙ c.drain-step-items.ensures.rest ∙ all_taken c.args.steps.now.items (vec_len c.args.steps.now) (search rules) in
    λ n k. subst (λ (xs : List Step). Owes n xs c.loop-step.self) c.in-None.ensures.steps.0
    (c.loop-step.invariant.2 n (subst (λ (xs : List Step). Owes n xs c.args.self.now) (sym first) k))

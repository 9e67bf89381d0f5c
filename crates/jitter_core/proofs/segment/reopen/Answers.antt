use Rattle.std.proofs.Common.{ℕ, ◌≡◌, ◌≤◌, sym, ap, subst, ◌∙◌, List, ◌∷◌, ◌++◌, drop, length, Option, Some, arith}
use Rattle.jitter_model.specs.declared.Arrival.{Arrival}
use Rattle.jitter_model.specs.Accepted.{number_from}
use Rattle.jitter_model.specs.Known.{NumbersLieBetween}
use Rattle.jitter_model.specs.Laws.{IsRun}
use Rattle.jitter_core.specs.Asides.{newest_first}
use Rattle.jitter_core.specs.Steps.{IsBounded, CanAccept, run_of, state_number}
use Rattle.jitter_core.specs.Pushing.{IsOpenedBy, Opening}
use Rattle.jitter_core.specs.declared.state.State.{State}
use Rattle.jitter_core.proofs.Opening.{can_accept, opened_bounded, next_opened, first_of, one_step, none_left, end_short, run_left}
use Rattle.jitter_core.proofs.segment.reopen.Goals as goal
use Rattle.jitter_core.proofs.Cases.{run_rest}

-- while packets are taken out of the list
record Room (old s : State) (a : Arrival) : Type 0 where
  bounded : IsBounded s
  may : CanAccept s a (state_number s a)

bounded_at : NumbersLieBetween → (old s : State) (done : List Arrival) → IsBounded old → s.settings ≡ old.settings → s.progress ≡ old.progress → IsOpenedBy s done → IsRun done → length done ≤ 5 → IsBounded s
bounded_at numbers old s done b same going o r few = opened_bounded numbers s done (record { latency = rw going b.timely.latency; delay = rw same b.timely.delay; retry_from = rw same b.timely.retry_from; retry_to = rw same b.timely.retry_to }) o r few

room : NumbersLieBetween → (old s : State) (a : Arrival) (rest : List (ℕ × Arrival)) (all : List Arrival) → IsBounded old → s.settings ≡ old.settings → s.progress ≡ old.progress → (o : Opening s rest all) → Some a ≡ first_of rest → IsRun all → length all ≤ 4 → Room old s a
room numbers old s a rest all b same going o e r few =
    let left : newest_first (drop 1 rest) ++ a ∷ o.done ≡ all = one_step rest a o.done all e o.splits in
    let run : IsRun (a ∷ o.done) = run_left (newest_first (drop 1 rest)) (a ∷ o.done) all left r in
    let short : length (a ∷ o.done) ≤ length all = end_short (newest_first (drop 1 rest)) (a ∷ o.done) all left in
    record {
      bounded = bounded_at numbers old s o.done b same going o.by (run_rest a o.done run) (omega arith);
      may = can_accept numbers s o.done a o.by run (omega arith);
    }

last_room : NumbersLieBetween → (old s : State) (a : Arrival) (done all : List Arrival) → IsBounded old → s.settings ≡ old.settings → s.progress ≡ old.progress → IsOpenedBy s done → done ≡ all → IsRun (a ∷ all) → length all ≤ 4 → Room old s a
last_room numbers old s a done all b same going o is r few =
    let by : IsOpenedBy s all = subst (λ (run : List Arrival). IsOpenedBy s run) is o in
    record { bounded = bounded_at numbers old s all b same going by (run_rest a all r) (omega arith); may = can_accept numbers s all a by r few }

pub accept_next-requires-clause-bounded : goal.accept_next-requires-clause-bounded
accept_next-requires-clause-bounded c =
    (room c.numbers_lie_between.ensures c.args.state.now c.loop-earlier.state c.in-Some.earlier c.loop-earlier.aside (run_of c.args.state.now) c.requires.bounded c.loop-earlier.invariant.settings c.loop-earlier.invariant.progress c.loop-earlier.invariant.opening c.in-Some.ensures.value (run_rest c.args.a (run_of c.args.state.now) c.requires.run) c.requires.few).bounded

pub accept_next-requires-clause-may : goal.accept_next-requires-clause-may
accept_next-requires-clause-may c =
    (room c.numbers_lie_between.ensures c.args.state.now c.loop-earlier.state c.in-Some.earlier c.loop-earlier.aside (run_of c.args.state.now) c.requires.bounded c.loop-earlier.invariant.settings c.loop-earlier.invariant.progress c.loop-earlier.invariant.opening c.in-Some.ensures.value (run_rest c.args.a (run_of c.args.state.now) c.requires.run) c.requires.few).may

pub loop-earlier-preserved : goal.loop-earlier-preserved
loop-earlier-preserved c =
    let o = c.loop-earlier.invariant.opening in
    record {
      settings = c.accept_next.ensures.settings ∙ c.loop-earlier.invariant.settings;
      progress = c.accept_next.ensures.progress ∙ c.loop-earlier.invariant.progress;
      none = c.accept_next.ensures.aside ∙ c.loop-earlier.invariant.none;
      opening = record {
        done = c.in-Some.earlier ∷ o.done;
        by = next_opened c.loop-earlier.state c.accept_next.new.state o.done c.in-Some.earlier o.by c.accept_next.ensures.settings c.accept_next.ensures.segment;
        splits = ap (λ (xs : List (ℕ × Arrival)). newest_first xs ++ c.in-Some.earlier ∷ o.done) c.take_first.ensures.after ∙ one_step c.loop-earlier.aside c.in-Some.earlier o.done (run_of c.args.state.now) c.in-Some.ensures.value o.splits;
      };
    }

pub accept_next-requires-2-clause-bounded : goal.accept_next-requires-2-clause-bounded
accept_next-requires-2-clause-bounded c =
    let o = c.loop-earlier.invariant.opening in
    (last_room c.numbers_lie_between.ensures c.args.state.now c.loop-earlier.state c.args.a o.done (run_of c.args.state.now) c.requires.bounded c.loop-earlier.invariant.settings c.loop-earlier.invariant.progress o.by (none_left c.loop-earlier.aside o.done (run_of c.args.state.now) (sym c.in_default.is ∙ c.take_first.ensures.value) o.splits) c.requires.run c.requires.few).bounded

pub accept_next-requires-2-clause-may : goal.accept_next-requires-2-clause-may
accept_next-requires-2-clause-may c =
    let o = c.loop-earlier.invariant.opening in
    (last_room c.numbers_lie_between.ensures c.args.state.now c.loop-earlier.state c.args.a o.done (run_of c.args.state.now) c.requires.bounded c.loop-earlier.invariant.settings c.loop-earlier.invariant.progress o.by (none_left c.loop-earlier.aside o.done (run_of c.args.state.now) (sym c.in_default.is ∙ c.take_first.ensures.value) o.splits) c.requires.run c.requires.few).may

pub returns-clause-number : goal.returns-clause-number
returns-clause-number c =
    let o = c.loop-earlier.invariant.opening in
    let is : o.done ≡ run_of c.args.state.now = none_left c.loop-earlier.aside o.done (run_of c.args.state.now) (sym c.in_default.is ∙ c.take_first.ensures.value) o.splits in
    let by : IsOpenedBy c.loop-earlier.state (run_of c.args.state.now) = subst (λ (run : List Arrival). IsOpenedBy c.loop-earlier.state run) is o.by in
    c.accept_next-2.ensures.number ∙ ap (λ (t : Option ℕ). number_from t c.args.a.packet.seq) by.placed.top_is

pub returns-clause-segment : goal.returns-clause-segment
returns-clause-segment c =
    let o = c.loop-earlier.invariant.opening in
    let is : o.done ≡ run_of c.args.state.now = none_left c.loop-earlier.aside o.done (run_of c.args.state.now) (sym c.in_default.is ∙ c.take_first.ensures.value) o.splits in
    let by : IsOpenedBy c.loop-earlier.state (run_of c.args.state.now) = subst (λ (run : List Arrival). IsOpenedBy c.loop-earlier.state run) is o.by in
    next_opened c.loop-earlier.state c.accept_next-2.new.state (run_of c.args.state.now) c.args.a by c.accept_next-2.ensures.settings c.accept_next-2.ensures.segment

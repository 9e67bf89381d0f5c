-- What holds of a state that stands for some history.
use Rattle.std.proofs.Common.{ℕ, zero, suc, ◌≡◌, ◌<◌, refl, List, [], ◌∷◌, arith, length}
use Rattle.std.proofs.Props.{props}
use Rattle.std.proofs.Math.Logic.{∥∥₁_elim}
use Rattle.std.specs.FinMap as map
use Rattle.std.specs.Ordering.{nat_cmp}
use Rattle.std.specs.Prelude.{slice_index_or, None, false}
use Rattle.skew_estimator.specs.Estimator.{StandsFor as IsSkewOf}
use Rattle.jitter_model.specs.declared.Arrival.{Arrival}
use Rattle.jitter_model.specs.History.{History}
use Rattle.jitter_model.specs.Accepted.{aside}
use Rattle.jitter_model.specs.Runs.{IsValid}
use Rattle.jitter_model.specs.Laws.{IsRun, IsAsideRun}
use Rattle.jitter_core.specs.declared.state.State.{State}
use Rattle.jitter_core.specs.Asides.{in_order}
use Rattle.jitter_core.specs.Served.{served_in}
use Rattle.jitter_core.specs.Steps.{IsTimely, IsBounded, run_of}
use Rattle.jitter_core.specs.Stands.{live, live_next, live_out, live_served, live_aside, StandsFor, IsReached}
use Rattle.jitter_core.proofs.Asides.{run_is, in_order_is}
use Rattle.jitter_core.proofs.Bounds.{segment, segment_bounded}
use Rattle.jitter_core.proofs.Cases.{run_or_none}
use Rattle.jitter_model.specs.Known.{RunsAreBounded}
use Rattle.jitter_model.specs.Known.{RepliesTell}
use Rattle.jitter_model.specs.Known.{NumbersLieBetween}

timely : RunsAreBounded → (s : State) (h : History) → StandsFor s h → IsTimely s
timely runs s h st =
    let v : IsValid s.settings = runs.settings s.settings h st.run in
    record { latency = rw st.order.latency_is (runs.latency_is s.settings h st.run); delay = v.rtx_delay_to; retry_from = omega (arith, v.rtx_retry_from); retry_to = v.rtx_retry_to }

pub bounded : RunsAreBounded → RepliesTell → NumbersLieBetween → (s : State) (h : History) → StandsFor s h → IsBounded s
bounded runs replies numbers s h st = segment_bounded numbers s (live h) (live_next h) (live_out h) (live_served h) (timely runs s h st) st.order.placed st.skew.clocked st.times.marked st.requests.requested (segment runs replies numbers s.settings h st.run)

-- the packets put aside are a run, and stand in order
pub record HasRun (s : State) : Type 0 where
  pub list : s.aside ≡ in_order (run_of s)
  pub run : IsAsideRun (run_of s)

pub has_run : RunsAreBounded → (s : State) (h : History) → StandsFor s h → HasRun s
has_run runs s h st =
    record {
      list = in_order_is s.aside (live_aside h) st.order.aside_is;
      run = rw (run_is s.aside (live_aside h) st.order.aside_is) (run_or_none _ (aside h) (runs.aside_is s.settings h st.run));
    }

pub valid : RunsAreBounded → (s : State) (h : History) → StandsFor s h → s.settings.pushers < 512
valid runs s h st = (runs.settings s.settings h st.run).pushers_to

run_prop : (run : List Arrival) → IsProp (IsRun run)
run_prop [] = hlevel props
run_prop (a ∷ []) = hlevel props
run_prop (a ∷ b ∷ run) = hlevel (props, run_prop (b ∷ run))

-- each holds of a state that stands for some history
pub reached_bounded : RunsAreBounded → RepliesTell → NumbersLieBetween → (s : State) → IsReached s → IsBounded s
reached_bounded runs replies numbers s r = ∥∥₁_elim r (hlevel props) (λ x. bounded runs replies numbers s x.0 x.1)

pub reached_list : RunsAreBounded → (s : State) → IsReached s → s.aside ≡ in_order (run_of s)
reached_list runs s r = ∥∥₁_elim r (hlevel props) (λ x. (has_run runs s x.0 x.1).list)

pub reached_run : RunsAreBounded → (s : State) → IsReached s → IsAsideRun (run_of s)
reached_run runs s r = ∥∥₁_elim r (hlevel (props, run_prop)) (λ x. (has_run runs s x.0 x.1).run)

pub reached_pushers : RunsAreBounded → (s : State) → IsReached s → s.settings.pushers < 512
reached_pushers runs s r = ∥∥₁_elim r (hlevel props) (λ x. valid runs s x.0 x.1)

-- a call that keeps what a state stands for, with an entry added, keeps that it stands for some history
pub reached_after : (old new : State) (after : History → History) → ((h : History) → StandsFor old h → StandsFor new (after h)) → IsReached old → IsReached new
reached_after old new after keeps r = ∥∥₁_elim r (hlevel props) (λ x. ∣ (after x.0, keeps x.0 x.1) ∣₁)

-- ---- a new state

-- no pusher of nine ended
pub none_ended : (p : ℕ) → slice_index_or (false ∷ false ∷ false ∷ false ∷ false ∷ false ∷ false ∷ false ∷ false ∷ []) p false ≡ false
none_ended zero = refl
none_ended (suc zero) = refl
none_ended (suc (suc zero)) = refl
none_ended (suc (suc (suc zero))) = refl
none_ended (suc (suc (suc (suc zero)))) = refl
none_ended (suc (suc (suc (suc (suc zero))))) = refl
none_ended (suc (suc (suc (suc (suc (suc zero)))))) = refl
none_ended (suc (suc (suc (suc (suc (suc (suc zero))))))) = refl
none_ended (suc (suc (suc (suc (suc (suc (suc (suc zero)))))))) = refl
none_ended (suc (suc (suc (suc (suc (suc (suc (suc (suc p))))))))) = refl

-- nothing was called yet
pub record IsNew (s : State) : Type 0 where
  pub pushes : s.progress.pushes ≡ 0
  pub time : s.progress.time ≡ 0
  pub latency : s.progress.latency ≡ s.settings.latency
  pub flushing : s.progress.flushing ≡ false
  pub ended_long : length s.progress.ended ≡ 9
  pub ended : (p : ℕ) → slice_index_or s.progress.ended p false ≡ false
  pub end_told : s.progress.end_told ≡ false
  pub next : s.span.next ≡ None
  pub top : s.span.top ≡ None
  pub least : s.span.least ≡ None
  pub first_pts : s.span.first_pts ≡ None
  pub count : s.span.held ≡ 0
  pub held : s.held ≡ map.empty
  pub aside : s.aside ≡ []
  pub skew_rate : s.skew.rate ≡ s.settings.rate
  pub skew_mode : s.skew.mode ≡ s.settings.mode
  pub skew : IsSkewOf s.skew []
  pub heights : s.heights ≡ []
  pub peaks : s.peaks ≡ []
  pub places : length s.served ≡ 16384
  pub served : (q : ℕ) → served_in s.served q ≡ 0

pub new_stands : (s : State) → IsValid s.settings → IsNew s → StandsFor s []
new_stands s v e =
    record {
      run = v;
      order = record {
        pushes_are = e.pushes;
        time_is = e.time;
        latency_is = e.latency;
        flushing_is = e.flushing;
        ended_long = e.ended_long;
        ended_are = e.ended;
        told_is = e.end_told;
        placed = record { next_is = e.next; top_is = e.top; least_is = e.least; held_are = λ n. rw e.held (map.get-empty nat_cmp n); count_is = e.count };
        aside_is = e.aside;
      };
      skew = record { clocked = record { rate_is = e.skew_rate; mode_is = e.skew_mode; stands = e.skew } };
      times = record { marked = record { first_is = e.first_pts; marks_are = e.heights } };
      requests = record { requested = record { peaks_are = e.peaks; places = e.places; served_are = λ q _. e.served q } };
    }

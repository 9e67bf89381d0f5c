use Rattle.std.proofs.Common.{ℕ, ◌≡◌, false, sym, ap, subst, ◌∙◌, List, [], ◌∷◌, None, Some, arith}
use Rattle.std.specs.Prelude.{is_some, option_map}
use Rattle.std.proofs.lemmas.Grind.{common_steps}
use Rattle.rtp_units.specs.declared.Mode.{Mode}
use Rattle.skew_model.specs.Skew.{Height, estimate, estimate_after, height_time}
use Rattle.skew_estimator.specs.Estimator.{StandsFor}
use Rattle.jitter_core.specs.Marks.{is_next_mark}
use Rattle.jitter_core.specs.Steps.{height_by}
use Rattle.jitter_core.proofs.placing.time_of_height.Goals as goal

first_time : (r q : ℕ) (m k : Mode) (h : Height) (hs : List Height) (x : ℕ) → r ≡ q → m ≡ k → hs ≡ [] → option_map (height_time r) (estimate r m (h ∷ [])) ≡ Some x → x ≡ height_time q (estimate_after q k (estimate q k hs) h)
first_time r q m k h hs x rate mode none e =
    let is : height_time r (estimate_after r m None h) ≡ x = cc in
    sym is
    ∙ ap (λ (y : ℕ). height_time y (estimate_after y m None h)) rate
    ∙ ap (λ (y : Mode). height_time q (estimate_after q y None h)) mode
    ∙ ap (λ (ys : List Height). height_time q (estimate_after q k (estimate q k ys) h)) (sym none)

pub returns-then-is_none-clause-stands : goal.returns-then-is_none-clause-stands
returns-then-is_none-clause-stands c = λ hs none st.
    let unknown : is_some c.args.top ≡ false = grind (arith, common_steps, c.is_none.ensures, c.if-is_none.true) in
    subst (λ (xs : List Height). StandsFor c.first.new.self (height_by c.args.heights.now c.args.a.now c.args.number ∷ xs)) (sym (none unknown)) (c.first.ensures.stands (is_next_mark c.args.heights.now c.args.number))

pub returns-then-is_none-clause-time : goal.returns-then-is_none-clause-time
returns-then-is_none-clause-time c = λ hs none st.
    let unknown : is_some c.args.top ≡ false = grind (arith, common_steps, c.is_none.ensures, c.if-is_none.true) in
    first_time c.first.new.self.rate c.args.skew.now.rate c.first.new.self.mode c.args.skew.now.mode (height_by c.args.heights.now c.args.a.now c.args.number) hs c.first.result c.first.ensures.rate c.first.ensures.mode (none unknown) (c.first.ensures.time (is_next_mark c.args.heights.now c.args.number))

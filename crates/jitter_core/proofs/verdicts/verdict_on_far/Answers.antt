use Rattle.std.proofs.Common.{ℕ, suc, ◌≡◌, ◌≤◌, true, false, refl, sym, ◌∙◌, List, [], ◌∷◌, length, arith}
use Rattle.std.specs.Prelude.{nat_le, if◌then◌else◌}
use Rattle.std.proofs.lemmas.Grind.{common_steps}
use Rattle.jitter_model.specs.declared.Arrival.{Arrival}
use Rattle.jitter_model.specs.declared.Verdict.TheVariants.{Restart, Aside}
use Rattle.jitter_model.specs.Accepted.{follows}
use Rattle.jitter_model.specs.Verdicts.{far_verdict}
use Rattle.jitter_core.specs.Asides.{newest_first}
use Rattle.jitter_core.proofs.Asides.{follows_is, length_newest}
use Rattle.jitter_core.proofs.verdicts.verdict_on_far.Goals as goal
use Rattle.jitter_core.proofs.verdicts.verdict_on_far.Goals.{else-follows-via-then-follows+else-len-eq4, else-follows-via-else-follows}

restart_is : (run : List Arrival) (a : Arrival) (held : ℕ) → follows run a ≡ true → length run ≡ 4 → Restart held ≡ far_verdict run a held
restart_is run a held f l = let long : nat_le 5 (suc (length run)) ≡ true = grind (arith, common_steps) in rw (f, long) refl

aside_is : (run : List Arrival) (a : Arrival) (held : ℕ) → (follows run a ≡ true → length run ≤ 3) → Aside ≡ far_verdict run a held
aside_is run a held h =
    elim (follows run a) as (λ b. (b ≡ true → length run ≤ 3) → Aside ≡ (if nat_le 5 (length (if b then a ∷ run else a ∷ [])) then Restart held else Aside)) [
      | true ↦ λ f. let few : length run ≤ 3 = f refl in let short : nat_le 5 (suc (length run)) ≡ false = grind (arith, common_steps) in rw short refl
      | false ↦ λ _. refl
    ] h

pub returns-then-len-eq4 : goal.returns-then-len-eq4
returns-then-len-eq4 c =
    let f = follows_is c.args.aside.now c.args.a.now c.follows.result c.requires c.follows.ensures in
    restart_is (newest_first c.args.aside.now) c.args.a.now c.args.held (sym f ∙ c.if-follows.true) (omega (arith, length_newest c.args.aside.now, c.len.ensures.len, c.if-len-eq4.true))

pub returns-else-follows : goal.returns-else-follows
returns-else-follows c =
    let f = follows_is c.args.aside.now c.args.a.now c.follows.result c.requires c.follows.ensures in
    elim c.else-follows.branch [
      | else-follows-via-then-follows+else-len-eq4 w ↦ aside_is (newest_first c.args.aside.now) c.args.a.now c.args.held (λ _. omega (arith, length_newest c.args.aside.now, w.len.ensures.len, w.len.ensures.most, w.if-len-eq4.false))
      | else-follows-via-else-follows w ↦ aside_is (newest_first c.args.aside.now) c.args.a.now c.args.held (λ e. absurd (let bad : true ≡ false = sym e ∙ sym f ∙ w.if-follows.false in cc))
    ]

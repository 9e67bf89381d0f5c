use Rattle.std.proofs.Common.{ℕ, ◌≡◌, Bool, true, false, ◌||◌, not, refl, sym, subst, ◌∙◌, arith}
use Rattle.std.specs.Prelude.{slice_index_or}
use Rattle.jitter_model.specs.History.{is_pusher, all_below, pusher_count}
use Rattle.jitter_core.proofs.Losses.{all_below-fails}
use Rattle.jitter_core.proofs.turning.have_all_ended.Goals as goal

missing : (a b : Bool) → a ≡ true → b ≡ false → (not a || b) ≡ false
missing a b e f = rw (e, f) refl

pub returns-then-not-progress-pusher : goal.returns-then-not-progress-pusher
unfolding pusher_count
returns-then-not-progress-pusher c =
    sym (all_below-fails (λ p. not (is_pusher c.args.settings.now.pushers p) || slice_index_or c.args.progress.now.ended p false) c.loop-pusher.pusher 9 c.loop-pusher-test.true
    (missing (is_pusher c.args.settings.now.pushers c.loop-pusher.pusher) (slice_index_or c.args.progress.now.ended c.loop-pusher.pusher false) (sym c.is_in.ensures ∙ c.if-is_in.true) c.if-not-progress-pusher.true))

pub returns : goal.returns
unfolding pusher_count
returns c =
    let all : c.loop-pusher.pusher ≡ 9 = omega arith in
    sym (subst (λ (n : ℕ). all_below (λ p. not (is_pusher c.args.settings.now.pushers p) || slice_index_or c.args.progress.now.ended p false) n ≡ true) all c.loop-pusher.invariant)

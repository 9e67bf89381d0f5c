use Rattle.std.proofs.Common.{ℕ, ◌≡◌, subst, arith, ◌++◌, ◌∷◌, []}
use Rattle.std.proofs.lemmas.List.{length-append}
use Rattle.live_bin.specs.Lookup.{lane_of}
use Rattle.live_bin.specs.Whole.{IsWhole}
use Rattle.live_run.proofs.Joining.{from_snoc}
use Rattle.live_run.proofs.run.complete_all.Goals as goal

pub loop-cell-preserved : goal.loop-cell-preserved
loop-cell-preserved g c =
    let i = c.loop-cell.invariant in
    let h = c.in_ok-complete.field-0 in
    let hs = c.loop-cell.histories.items in
    let p = c.args.plan.now in
    let items : c.push.new.self.items ≡ hs ++ h ∷ [] = c.in_ok-push.ensures.items in
    let w : IsWhole (lane_of p c.loop-cell.number) h.entries.items =
    subst (λ (n : ℕ). IsWhole (lane_of p n) h.entries.items) c.in_ok-state.ensures
    c.in_ok-complete.ensures.whole in (
      (let a = i.0 in let b = c.in-Some.ensures.len in omega arith),
      rw items (let a = i.1 in omega (arith, length-append hs (h ∷ []))),
      rw items (from_snoc p 0 c.loop-cell.number hs h i.2 (let a = i.1 in omega arith) w),
    )

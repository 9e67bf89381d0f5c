use Rattle.std.proofs.Common.{ℕ, ◌≡◌, ◌≤◌, ◌<◌, true, false, refl, sym, ap, ◌∙◌, List, [], ◌∷◌, ◌++◌, length, arith}
use Rattle.std.specs.Prelude.{if◌then◌else◌}
use Rattle.jitter_model.specs.declared.Arrival.{Arrival}
use Rattle.jitter_model.specs.Accepted.{follows, joined}
use Rattle.jitter_core.specs.Asides.{in_order, newest_first}
use Rattle.jitter_core.proofs.Asides.{length_newest, follows_is, appended}
use Rattle.jitter_core.proofs.pushing.put_aside.Goals as goal
use Rattle.jitter_core.proofs.pushing.put_aside.Goals.{then-follows, else-follows}

room_then : (run : List Arrival) (a : Arrival) → follows run a ≡ true → length (joined run a) ≤ 4 → length run < 4
room_then run a f h = let long : length (a ∷ run) ≤ 4 = rw f at h in omega arith

joined_then : (run : List Arrival) (a : Arrival) → follows run a ≡ true → a ∷ run ≡ joined run a
joined_then run a f = rw f refl

joined_else : (run : List Arrival) (a : Arrival) → follows run a ≡ false → a ∷ [] ≡ joined run a
joined_else run a f = rw f refl

none_dropped : (run : List Arrival) (a : Arrival) (n : ℕ) → follows run a ≡ true → n ≡ 0 → n ≡ (if follows run a then 0 else length run)
none_dropped run a n f e = rw f e

all_dropped : (run : List Arrival) (a : Arrival) (n : ℕ) → follows run a ≡ false → n ≡ length run → n ≡ (if follows run a then 0 else length run)
all_dropped run a n f e = rw f e

pub push-requires : goal.push-requires
push-requires c =
    let f = follows_is c.args.aside.now c.args.a c.follows.result c.requires.list c.follows.ensures in
    elim c.if-follows.branch [
      | then-follows w ↦ rw w.aside-is (omega (arith, room_then (newest_first c.args.aside.now) c.args.a (sym f ∙ w.if-follows.true) c.requires.room, length_newest c.args.aside.now))
      | else-follows w ↦ rw (w.aside-is, w.drop_all-dropped.ensures.after) (omega arith)
    ]

pub returns-clause-after : goal.returns-clause-after
returns-clause-after c =
    let f = follows_is c.args.aside.now c.args.a c.follows.result c.requires.list c.follows.ensures in
    elim c.if-follows.branch [
      | then-follows w ↦ c.push.ensures ∙ ap (λ (ys : List (ℕ × Arrival)). ys ++ (c.args.a.packet.seq, c.args.a) ∷ []) w.aside-is ∙ appended c.args.aside.now c.args.a c.requires.list ∙ ap in_order (joined_then (newest_first c.args.aside.now) c.args.a (sym f ∙ w.if-follows.true))
      | else-follows w ↦ c.push.ensures ∙ ap (λ (ys : List (ℕ × Arrival)). ys ++ (c.args.a.packet.seq, c.args.a) ∷ []) (w.aside-is ∙ w.drop_all-dropped.ensures.after) ∙ ap in_order (joined_else (newest_first c.args.aside.now) c.args.a (sym f ∙ w.if-follows.false))
    ]

pub returns-clause-dropped : goal.returns-clause-dropped
returns-clause-dropped c =
    let f = follows_is c.args.aside.now c.args.a c.follows.result c.requires.list c.follows.ensures in
    elim c.if-follows.branch [
      | then-follows w ↦ none_dropped (newest_first c.args.aside.now) c.args.a c.if-follows.dropped (sym f ∙ w.if-follows.true) w.dropped-is
      | else-follows w ↦ all_dropped (newest_first c.args.aside.now) c.args.a c.if-follows.dropped (sym f ∙ w.if-follows.false) (w.dropped-is ∙ w.drop_all-dropped.ensures.count ∙ sym (length_newest c.args.aside.now))
    ]

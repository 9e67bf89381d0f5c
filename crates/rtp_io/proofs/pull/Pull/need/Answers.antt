use Rattle.std.proofs.Common.{rules, arith, ◌≡◌, ◌≤◌, ◌+◌, ◌-◌, ◌∙◌, sym, ap, subst, List, ℕ, take, drop, length, refl}
use Rattle.std.proofs.lemmas.List.{with_items_is}
use Rattle.std.specs.Vec.{with_items}
use Rattle.rtp_io.specs.Pulled.{Keeps, Takes}
use Rattle.rtp_io.proofs.Pulling.{held, takes_front, length-held}
use Rattle.rtp_io.proofs.pull.Pull.need.Goals as goal

pub returns : goal.returns
returns g c =
    let before = g.F.Files.disk c.args.files.now in
    let after = g.F.Files.disk c.top_up.new.files in
    let start = c.make_room.new.start in
    let end = c.top_up.new.end in
    let n = c.args.n in
    let roomy : c.deref_mut-2.result.now ≡ c.make_room.new.buf =
    c.deref_mut-2.ensures.value ∙ with_items_is c.self.inside.buf c.make_room.new.buf (omega (arith, c.make_room.auto.buf, c.deref_mut.ensures.len)) in
    let first : held start c.make_room.new.end c.deref_mut-2.result.now ≡ c.args.self.now = ap (held start c.make_room.new.end) roomy ∙ search rules in
    let is : c.deref.result.now ≡ c.top_up.new.buf =
    c.deref.ensures.value ∙ with_items_is (with_items c.self.inside.buf c.make_room.new.buf) c.top_up.new.buf (c.top_up.auto.buf ∙ c.deref_mut-2.ensures.len) in
    let kept : Keeps c.args.self.now (held start end c.deref.result.now) before after =
    subst (λ (xs : List ℕ). Keeps xs (held start end c.deref.result.now) before after) first
    (subst (λ (xs : List ℕ). Keeps (held start c.make_room.new.end c.deref_mut-2.result.now) (held start end xs) before after) (sym is) c.top_up.ensures.kept) in
    let bound : end ≤ length c.deref.result.now = omega (arith, ap length is, c.top_up.ensures.bound) in
    let full : n ≤ end - start = c.in_ok-top_up.ensures.full in
    let taken = takes_front start end n c.args.self.now c.deref.result.now before after full bound kept in
    let piece : take (start + n - start) (drop start c.deref.result.now) ≡ take n (drop start c.deref.result.now) = ap (λ (k : ℕ). take k (drop start c.deref.result.now)) (omega arith) in
    let bounded : length (held (start + n) end (with_items (with_items c.self.inside.buf c.make_room.new.buf) c.top_up.new.buf).items) ≤ 262160 =
    subst (λ (xs : List ℕ). length (held (start + n) end xs) ≤ 262160) c.deref.ensures.value (omega (arith, length-held (start + n) end c.deref.result.now bound, ap length is, c.top_up.auto.buf, c.deref_mut-2.ensures.len, ap length roomy, c.make_room.auto.buf, c.deref_mut.ensures.len)) in
    let view = subst (λ (xs : List ℕ). Takes (take n (drop start c.deref.result.now)) c.args.self.now (held (start + n) end xs) before after) c.deref.ensures.value taken in (
      (refl, λ _. tt, (subst (λ (xs : List ℕ). Takes xs c.args.self.now (held (start + n) end (with_items (with_items c.self.inside.buf c.make_room.new.buf) c.top_up.new.buf).items) before after) (sym piece) view, bounded)),
      record {
        length = length-held start (start + n) c.deref.result.now (omega arith) ∙ omega arith;
        after = tt;
        cause = c.in_ok-top_up.ensures.cause;
        lazy = λ enough. c.in_ok-top_up.ensures.lazy (omega (arith, enough, ap length first, length-held start c.make_room.new.end c.deref_mut-2.result.now (omega (arith, c.make_room.ensures.bound, ap length roomy))));
      },
    )

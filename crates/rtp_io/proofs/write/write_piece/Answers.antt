use Rattle.std.proofs.Common.{◌++◌, ◌∙◌, [], List, ℕ, take, drop, sym, ap, subst, Result, Ok, Err}
use Rattle.std.specs.Prelude.{OnErr}
use Rattle.std.proofs.lemmas.List.{append-nil, append_assoc, take-append-drop, take_rest}
use Rattle.rtp_io.specs.Outside.{Adds, AddsFront}
use Rattle.rtp_io.specs.Laws.{adds_then, adds_same, front_of}
use Rattle.rtp_io.proofs.write.write_piece.Goals as goal

on_err : {A E : Type 0} (r : Result A E) (P : Type 0) → P → OnErr r P
on_err (Ok x) P p = tt
on_err (Err e) P p = p

pub returns-in_err-taken-clause-err : goal.returns-in_err-taken-clause-err
returns-in_err-taken-clause-err g c =
    let done = c.loop-rest.invariant.done in
    let a = g.O.Sink.written c.args.out.now in
    let z = g.O.Sink.written c.write.new.self in
    let added : Adds done.0 a z = adds_same (done.0 ++ []) done.0 a z (append-nil done.0) (adds_then done.0 [] a (g.O.Sink.written c.loop-rest.out) z done.2 c.in_err-taken.ensures.none) in
    on_err c.from_residual.result _ (subst (λ (l : List ℕ). AddsFront l a z) (sym done.1) (front_of done.0 c.loop-rest.rest.now a z added))

pub loop-rest-preserved : goal.loop-rest-preserved
loop-rest-preserved g c =
    let done = c.loop-rest.invariant.done in
    let n = c.in_ok-taken.taken in
    let rest = c.loop-rest.rest.now in
    let a = g.O.Sink.written c.args.out.now in
    let z = g.O.Sink.written c.write.new.self in
    record {
      done = (
        done.0 ++ take n rest,
        done.1 ∙ ap (λ (l : List ℕ). done.0 ++ l) (sym (take-append-drop n rest)) ∙ sym (append_assoc done.0 (take n rest) (drop n rest)) ∙ ap (λ (l : List ℕ). (done.0 ++ take n rest) ++ l) (sym (take_rest rest n)),
        adds_then done.0 (take n rest) a (g.O.Sink.written c.loop-rest.out) z done.2 c.in_ok-taken.ensures.added,
      );
      faults = c.in_ok-taken.ensures.cause ∙ c.loop-rest.invariant.faults;
    }

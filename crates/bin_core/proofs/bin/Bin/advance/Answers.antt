use Rattle.std.proofs.Common.{◌≡◌, ◌∙◌, Bool, true, [], refl, sym, ap}
use Rattle.std.specs.Prelude.{◌||◌}
use Rattle.bin_core.specs.Words.{due_left}
use Rattle.bin_core.specs.Underway.{Owes}
use Rattle.bin_core.proofs.Knowing.{known_owes, owes_known, broken_known}
use Rattle.bin_core.proofs.Binding.{or_kept, advances, has_served}
use Rattle.bin_core.proofs.bin.Bin.advance.Goals as goal
use Rattle.bin_core.proofs.bin.Bin.advance.Goals.{then-self-2, else-self-2}

pub returns-after-self-2-clause-fewer : goal.returns-after-self-2-clause-fewer
unfolding due_left
returns-after-self-2-clause-fewer c = λ e. c.in-Ok.ensures.fewer e

pub returns-after-self-2-clause-serves : goal.returns-after-self-2-clause-serves
returns-after-self-2-clause-serves c =
    let ahead : c.if-self-2.self ≡ (c.args.self.now.ahead || c.in-Ok.more) =
    elim c.if-self-2.branch [
      | then-self-2 w ↦ w.self-is ∙ or_kept c.args.self.now.ahead c.in-Ok.more w.if-self-2.true
      | else-self-2 w ↦ w.self-is ∙ sym (ap (λ (x : Bool). x || c.in-Ok.more) w.if-self-2.false)
    ] in
    λ k seen told st. advances c.timelines_keep.ensures k seen told c.args.t c.args.self.now _ c.in-Ok.more c.args.lines.now c.serve_one-result.new.lines
    c.serves_all.ensures.step c.serves_in_parts.ensures c.requires.onward refl ahead (λ e. c.in-Ok.ensures.first e) (λ e. c.in-Ok.ensures.none e) st

pub returns-after-self-2-clause-all : goal.returns-after-self-2-clause-all
returns-after-self-2-clause-all c =
    λ e. has_served c.args.t c.args.self.now _ c.args.lines.now c.serve_one-result.new.lines c.serves_all.ensures.stop refl (c.in-Ok.ensures.stays e) (c.in-Ok.ensures.none e)

pub serve_one-result-requires-clause-rests : goal.serve_one-result-requires-clause-rests
serve_one-result-requires-clause-rests c = (
  c.args.self.now.records,
  known_owes c.args.self.now.broken c.args.self.now.finished c.args.self.now.records c.args.self.now.agenda c.args.self.now.known c.if-self.false c.requires.open,
)

pub invariant_of-self : goal.invariant_of-self
invariant_of-self c = record { known = broken_known c.args.self.now.broken c.args.self.now.finished c.args.self.now.records c.args.self.now.agenda c.if-self.true }

pub invariant_of-self-in-Ok : goal.invariant_of-self-in-Ok
invariant_of-self-in-Ok c =
    let was : Owes c.args.self.now.records [] c.args.self.now.agenda.stage =
    known_owes c.args.self.now.broken c.args.self.now.finished c.args.self.now.records c.args.self.now.agenda c.args.self.now.known c.if-self.false c.requires.open in
    record { known = owes_known c.args.self.now.broken c.args.self.now.finished c.args.self.now.records c.serve_one-result.new.self (c.in-Ok.ensures.rests c.args.self.now.records was) }

pub invariant_of-self-in-Err : goal.invariant_of-self-in-Err
invariant_of-self-in-Err c = record { known = broken_known true c.args.self.now.finished c.args.self.now.records c.serve_one-result.new.self refl }

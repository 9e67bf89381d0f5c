use Rattle.std.proofs.Common.{ℕ, ◌≡◌, ◌<◌, ◌≤◌, false, refl, ap, sym, subst, length, arith}
use Rattle.std.specs.Prelude.{slice_index_or}
use Rattle.bin_core.specs.declared.standings.Standing.{Standing}
use Rattle.bin_core.proofs.Outcomes.{on_ok, on_both}
use Rattle.bin_core.proofs.Owing.{open_number, open_room, open_session, open_valid, open_latency, begun_done}
use Rattle.bin_core.proofs.Staging.{opens}
use Rattle.bin_core.proofs.stage.Stage.open_lane.Goals as goal

pub bounds-self-from : goal.bounds-self-from
bounds-self-from c = omega (arith, c.from.ensures, open_session c.requires.0 c.args.opening.now c.requires.1 c.args.self.now c.requires.2)

pub bounds-self-from-2 : goal.bounds-self-from-2
bounds-self-from-2 c = omega (arith, c.from.ensures, open_session c.requires.0 c.args.opening.now c.requires.1 c.args.self.now c.requires.2)

pub open-requires-clause-number : goal.open-requires-clause-number
open-requires-clause-number c = open_number c.requires.0 c.args.opening.now c.requires.1 c.args.self.now c.requires.2

pub open-requires-clause-settings : goal.open-requires-clause-settings
open-requires-clause-settings c = open_valid c.requires.0 c.args.opening.now c.requires.1 c.args.self.now c.requires.2

pub open-requires-clause-latency : goal.open-requires-clause-latency
open-requires-clause-latency c =
    let none : Standing = record { latency = 0; flushing = false } in
    subst (λ (n : ℕ). (slice_index_or c.args.self.now.standings n none).latency ≤ 600000000000) (sym c.from.ensures)
    (open_latency c.requires.0 c.args.opening.now c.requires.1 c.args.self.now none c.requires.2)

pub returns-clause-does : goal.returns-clause-does
returns-clause-does c =
    let none : Standing = record { latency = 0; flushing = false } in
    let st : Standing = slice_index_or c.args.self.now.standings c.from.result none in
    let room : length c.args.self.now.lanes.items < 64 = open_room c.requires.0 c.args.opening.now c.requires.1 c.args.self.now c.requires.2 in
    let below : c.args.opening.now.session < 8 = open_session c.requires.0 c.args.opening.now c.requires.1 c.args.self.now c.requires.2 in
    let found : st ≡ slice_index_or c.args.self.now.standings c.args.opening.now.session none = ap (λ (n : ℕ). slice_index_or c.args.self.now.standings n none) c.from.ensures in
    on_both c.open.result _ _ _
    (λ adds goes. λ k base resting tl apart h. opens c.lanes_stand_beside.ensures k base resting c.args.self.now _ c.args.time c.args.opening.now st none c.args.lines.now c.open.new.lines tl adds goes refl refl refl room below found apart h)
    c.open.ensures.adds c.open.ensures.stands

pub returns-clause-owes : goal.returns-clause-owes
returns-clause-owes c =
    on_ok c.open.result _ _
    (λ adds. λ n more k. begun_done n c.args.opening.now more c.args.self.now _ refl refl refl adds k)
    c.open.ensures.adds

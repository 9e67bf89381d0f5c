use Rattle.std.proofs.Common.{refl, arith}
use Rattle.rtp_io.specs.declared.shelf.Entry.{Entry}
use Rattle.rtp_io.specs.declared.shelf.Shelf.{Shelf}
use Rattle.rtp_io.proofs.Shelves.{adds_file, known_added}
use Rattle.rtp_io.proofs.shelf.Shelf.add.Goals as goal

pub returns-clause-ok : goal.returns-clause-ok
returns-clause-ok c = λ p.
    let old : Shelf = c.args.self.now in
    let new : Shelf = record { entries = c.push.new.self; opened = old.opened; position = old.position; step = old.step; there = λ place is. omega (arith, old.there place is, c.in_ok-push.ensures.len) } in
    let entry : Entry = record { name = c.in_ok-name.name; bytes = c.in_ok-bytes.bytes; small = c.push-arg-2-1.given.0 } in
    adds_file p old new entry c.args.name.now c.args.bytes.now c.in_ok-push.ensures.items refl refl c.in_ok-name.ensures.ok c.in_ok-bytes.ensures.items c.requires

pub returns-clause-known : goal.returns-clause-known
returns-clause-known c = λ other.
    let old : Shelf = c.args.self.now in
    let new : Shelf = record { entries = c.push.new.self; opened = old.opened; position = old.position; step = old.step; there = λ place is. omega (arith, old.there place is, c.in_ok-push.ensures.len) } in
    let entry : Entry = record { name = c.in_ok-name.name; bytes = c.in_ok-bytes.bytes; small = c.push-arg-2-1.given.0 } in
    known_added old new entry c.args.name.now other c.in_ok-push.ensures.items c.in_ok-name.ensures.ok

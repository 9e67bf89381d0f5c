use Rattle.std.proofs.Common.{◌≡◌, [], Some, Ok, Err, refl, sym, ap}
use Rattle.pcapng_file.specs.Reading.{Place, head_bytes}
use Rattle.pcapng_file.proofs.Standing.{next_found}
use Rattle.pcapng_file.proofs.ng.Ng.next.Goals as goal

pub returns-in-Ok-clause-after : goal.returns-in-Ok-clause-after
returns-in-Ok-clause-after g c = λ none.
    let mark : c.args.self.now.mark ≡ c.self.inside.mark = ap (λ (p : Place). p.mark) (sym c.self.view_is) in
    let head : c.args.self.now.head ≡ head_bytes c.self.inside.head = ap (λ (p : Place). p.head) (sym c.self.view_is) in
    next_found (Ok c.in-Ok.found) c.args.self.now (record { mark = c.find_record.new.mark; head = []; fault = c.self.inside.fault }) c.args.pull.now c.find_record.new.pull (g.F.Files.disk c.args.files.now) (g.F.Files.disk c.find_record.new.files) refl c.in-Ok.ensures.short c.in-Ok.ensures.early
    (rw (mark, head) c.in-Ok.ensures.after)

pub returns-in-Err-clause-after : goal.returns-in-Err-clause-after
returns-in-Err-clause-after g c = λ none.
    let mark : c.args.self.now.mark ≡ c.self.inside.mark = ap (λ (p : Place). p.mark) (sym c.self.view_is) in
    let head : c.args.self.now.head ≡ head_bytes c.self.inside.head = ap (λ (p : Place). p.head) (sym c.self.view_is) in
    next_found (Err c.in-Err.fault) c.args.self.now (record { mark = c.find_record.new.mark; head = []; fault = Some c.in-Err.fault }) c.args.pull.now c.find_record.new.pull (g.F.Files.disk c.args.files.now) (g.F.Files.disk c.find_record.new.files) refl tt tt
    (rw (mark, head) c.in-Err.ensures.after)

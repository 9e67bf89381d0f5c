use Rattle.std.proofs.Common.{refl, sym, ap, ◌∙◌, ◌≡◌, Err, List, ℕ, length, ◌+◌}
use Rattle.rtp_io.specs.Outside.{Disk}
use Rattle.pcap_file.specs.Place.{Place}
use Rattle.pcap_file.specs.Reading.{record_view, AfterRecord, AfterNext}
use Rattle.pcap_file.specs.declared.fault.CaptureFault.{CaptureFault}
use Rattle.pcap_file.proofs.FaultLemmas.{on_each}
use Rattle.pcap_file.proofs.Standing.{takes_record, finds_end, finds_fault, gave_none}
use Rattle.pcap_file.proofs.pcap.Pcap.next.Goals as goal

-- the place is that of the fields
err_after : (fault : CaptureFault) (old new : Place) (held rest : List ℕ) (before after : Disk)
    → AfterRecord (Err fault) old.format old.count old.offset held rest before after → AfterNext (Err fault) old new held rest before after
err_after fault old new held rest before after is = on_each fault _ _ _ _ _ _ (finds_fault old fault held before) (gave_none old held rest before after) (λ u. u) is

pub returns-in-Ok-None-clause-after : goal.returns-in-Ok-None-clause-after
returns-in-Ok-None-clause-after g c = λ none.
    let is = rw (c.in-Ok-None.field-0-is) at c.in-Ok-None.ensures.after in
    finds_end c.args.self.now _ c.args.pull.now c.read_record.new.pull (g.F.Files.disk c.args.files.now) (g.F.Files.disk c.read_record.new.files) refl (rw (← c.self.view_is) is)

pub returns-in-Ok-Some-clause-after : goal.returns-in-Ok-Some-clause-after
returns-in-Ok-Some-clause-after g c = λ none.
    let is = rw (c.in-Ok-Some.field-0-is) at c.in-Ok-Some.ensures.after in
    let format : c.args.self.now.format ≡ c.self.inside.format = ap (λ (p : Place). p.format) (sym c.self.view_is) in
    let count : c.args.self.now.count ≡ c.self.inside.count = ap (λ (p : Place). p.count) (sym c.self.view_is) in
    let offset : c.args.self.now.offset ≡ c.self.inside.offset = ap (λ (p : Place). p.offset) (sym c.self.view_is) in
    takes_record c.args.self.now _ (record_view c.args.self.now.format.link c.in-Ok-Some.record) c.args.pull.now c.read_record.new.pull (g.F.Files.disk c.args.files.now) (g.F.Files.disk c.read_record.new.files)
    (sym format) (ap (λ (n : ℕ). n + 1) (sym count)) (ap (λ (n : ℕ). c.self.inside.offset + (16 + n)) (ap length c.bytes.ensures) ∙ ap (λ (n : ℕ). n + (16 + length c.in-Ok-Some.record.bytes)) (sym offset))
    (rw (format, count, offset) is)

pub returns-in-Err-clause-after : goal.returns-in-Err-clause-after
returns-in-Err-clause-after g c = λ none.
    err_after c.in-Err.fault c.args.self.now c.args.self.now c.args.pull.now c.read_record.new.pull (g.F.Files.disk c.args.files.now) (g.F.Files.disk c.read_record.new.files) (rw (← c.self.view_is) c.in-Err.ensures.after)

-- A place stands for the records that were taken.
use Rattle.std.proofs.Common.{◌≡◌, ℕ, ◌+◌, List, [], ◌∷◌, ◌++◌, length, Option, Some, None, IsTrue, sym, ap, ◌∙◌, append_assoc, arith}
use Rattle.std.proofs.lemmas.List.{append-nil}
use Rattle.rtp_io.specs.Outside.{Disk}
use Rattle.pcap_file.specs.declared.fault.CaptureFault.{CaptureFault}
use Rattle.pcap_file.specs.Capture.{Record, Capture, AtFault, head, with_front, empty, records_from, capture_of}
use Rattle.pcap_file.specs.declared.header.Format.{Format}
use Rattle.pcap_file.specs.Place.{Place}
use Rattle.pcap_file.specs.Reading.{StandsFor, TakesRecord, Finds, FindsEnd, GaveNoRecord, IsRecord, IsEnd, IsNoRecord}
use Rattle.pcap_file.proofs.Heads.{records_end, records_fault, records_behind}

fronts : (xs ys : List Record) (c : Capture) → with_front xs (with_front ys c) ≡ with_front (xs ++ ys) c
fronts xs ys c = ap (λ (rs : List Record). record { records = rs; fault = c.fault }) (sym (append_assoc xs ys c.records))

pub takes_record : (old new : Place) (r : Record) (held rest : List ℕ) (before after : Disk) → new.format ≡ old.format → new.count ≡ old.count + 1 → new.offset ≡ old.offset + (16 + length r.bytes)
    → IsRecord old.format old.count old.offset r held rest before after → TakesRecord old new r held rest before after
unfolding StandsFor
takes_record old new r held rest before after format count offset is = record {
  taken = is.taken;
  takes = is.takes;
  format = format;
  counted = count;
  placed = offset ∙ ap (λ (n : ℕ). old.offset + n) (sym is.long);
  long = is.long;
  bound = omega (arith, is.bound);
  short = is.short;
  early = is.early;
  onward = λ passed seen stands more.
      ap capture_of (append_assoc passed is.taken more) ∙ stands (is.taken ++ more)
      ∙ ap (λ (c : Capture). with_front seen c) (records_behind old.format old.count old.offset is.taken more r is.long (is.stands more)
      ∙ ap (λ (n : ℕ). with_front (r ∷ []) (records_from old.format n (old.offset + (16 + length r.bytes)) more)) (sym count)
      ∙ ap (λ (n : ℕ). with_front (r ∷ []) (records_from old.format new.count n more)) (sym offset)
      ∙ ap (λ (f : Format). with_front (r ∷ []) (records_from f new.count new.offset more)) (sym format))
      ∙ fronts seen (r ∷ []) (records_from new.format new.count new.offset more);
}

finds : (old : Place) (fault : Option CaptureFault) (held : List ℕ) (before : Disk) → (IsTrue before.told → records_from old.format old.count old.offset (held ++ before.left) ≡ empty fault) → Finds old fault held before
unfolding StandsFor
finds old fault held before is passed seen stands told =
    stands (held ++ before.left) ∙ ap (λ (c : Capture). with_front seen c) (is told) ∙ ap (λ (rs : List Record). record { records = rs; fault = fault }) (append-nil seen)

pub finds_end : (old new : Place) (held rest : List ℕ) (before after : Disk) → new ≡ old → IsEnd old.format old.count old.offset held rest before after → FindsEnd old new held rest before after
finds_end old new held rest before after same is = record {
  same = same;
  keeps = is.keeps;
  none = is.none;
  finds = finds old None held before (λ told. records_end old.format old.count old.offset (held ++ before.left) (is.at told));
}

pub finds_fault : (old : Place) (fault : CaptureFault) (held : List ℕ) (before : Disk) → (IsTrue before.told → head old.format old.count old.offset (held ++ before.left) ≡ AtFault fault) → Finds old (Some fault) held before
finds_fault old fault held before is = finds old (Some fault) held before (λ told. records_fault old.format old.count old.offset (held ++ before.left) fault (is told))

pub gave_none : (old : Place) (held rest : List ℕ) (before after : Disk) → IsNoRecord old.format old.count old.offset held rest before after → GaveNoRecord old held rest before after
unfolding StandsFor
gave_none old held rest before after is = record {
  taken = is.taken;
  takes = is.takes;
  none = λ passed seen stands. ap (λ (c : Capture). c.records) (stands (is.taken ++ rest)) ∙ ap (λ (rs : List Record). seen ++ rs) is.none ∙ append-nil seen;
}

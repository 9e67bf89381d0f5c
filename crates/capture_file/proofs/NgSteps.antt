-- What reading a pcapng file leaves, as of a capture file.
use Rattle.std.proofs.Common.{◌≡◌, ℕ, ◌≤◌, true, List, [], ◌∷◌, ◌++◌, length, Option, Some, None, Err, ap, ◌∙◌, refl, arith}
use Rattle.std.specs.Prelude.{option_map}
use Rattle.std.proofs.lemmas.List.{length-append}
use Rattle.rtp_io.specs.Outside.{Disk}
use Rattle.pcap_file.specs.Capture.{Record}
use Rattle.pcap_file.specs.Reading.{TakesHead}
use Rattle.pcapng_file.specs.declared.fault.NgFault.{NgFault}
use Rattle.pcapng_file.specs.Blocks.{NgCapture}
use Rattle.pcapng_file.specs.Ends.{record_end}
use Rattle.pcapng_file.specs.Reading.{Place, StandsFor, TakesRecord, Finds, FindsEnd, GaveNoRecord, AfterNext}
use Rattle.capture_file.specs.declared.file.CaptureFile.TheVariants.{Ng}
use Rattle.capture_file.specs.Faults.{fault_of_ng}
use Rattle.capture_file.specs.Capture.{Capture, is_ng, capture_of_ng, end_in}
use Rattle.capture_file.specs.Reading as file
use Rattle.capture_file.proofs.FaultLemmas.{ng_each}
use Rattle.capture_file.proofs.Forms.{ng_is, form_more, long_form}
use Rattle.capture_file.proofs.Furthest.{ends_within}

stands_in : (place : Place) (passed : List ℕ) (seen : List Record) → 24 ≤ length passed → is_ng passed ≡ true → StandsFor place passed seen → file.StandsFor (Ng place) passed seen
stands_in place passed seen long form stands = record {
  header = long;
  form = (form, stands);
  whole = λ more. ng_is (passed ++ more) (form_more passed more true long form) ∙ ap (λ (c : NgCapture). capture_of_ng c) (stands.whole more);
}

block_end : (bytes : List ℕ) (r : Record) → is_ng bytes ≡ true → end_in bytes r ≡ record_end bytes r
unfolding end_in
block_end bytes r form = rw form refl

pub takes_record : (old new : Place) (r : Record) (held rest : List ℕ) (before after : Disk) → TakesRecord old new r held rest before after → file.TakesRecord (Ng old) (Ng new) r held rest before after
takes_record old new r held rest before after is = record {
  taken = is.taken;
  takes = is.takes;
  counted = is.counted;
  bound = is.bound;
  short = is.short;
  early = is.early;
  onward = onward;
  ends = λ passed seen s more n lt.
      let bytes = (passed ++ is.taken) ++ more in
      let next = onward passed seen s in
      let here = ends_within bytes seen r _ n (next.whole more) lt in
      omega (arith, here, block_end bytes r (form_more (passed ++ is.taken) more true next.header next.form.0), is.ends passed seen s.form.1 more);
}
  where
    onward : (passed : List ℕ) (seen : List Record) → file.StandsFor (Ng old) passed seen → file.StandsFor (Ng new) (passed ++ is.taken) (seen ++ r ∷ [])
    onward passed seen s =
        stands_in new (passed ++ is.taken) (seen ++ r ∷ []) (omega (arith, length-append passed is.taken, s.header)) (form_more passed is.taken true s.header s.form.0)
        (is.onward passed seen s.form.1)

finds : (old : Place) (fault : Option NgFault) (held : List ℕ) (before : Disk) → Finds old fault held before → file.Finds (Ng old) (option_map fault_of_ng fault) held before
finds old fault held before is passed seen s told =
    ng_is (passed ++ (held ++ before.left)) (form_more passed (held ++ before.left) true s.header s.form.0) ∙ ap (λ (c : NgCapture). capture_of_ng c) (is passed seen s.form.1 told)

gave_none : (old : Place) (held rest : List ℕ) (before after : Disk) → GaveNoRecord old held rest before after → file.GaveNoRecord (Ng old) held rest before after
gave_none old held rest before after is = record {
  taken = is.taken;
  takes = is.takes;
  none = λ passed seen s.
      ap (λ (c : Capture). c.records) (ng_is (passed ++ (is.taken ++ rest)) (form_more passed (is.taken ++ rest) true s.header s.form.0)) ∙ is.none passed seen s.form.1;
}

pub next_none : (old : Place) (held rest : List ℕ) (before after : Disk) → FindsEnd old held rest before after → file.FindsEnd (Ng old) held rest before after
next_none old held rest before after is = record {
  taken = is.taken;
  takes = is.takes;
  none = is.none;
  finds = finds old None held before is.finds;
}

pub next_fault : (fault : NgFault) (old new : Place) (held rest : List ℕ) (before after : Disk) → AfterNext (Err fault) old new held rest before after → file.AfterNext (Err (fault_of_ng fault)) (Ng old) (Ng new) held rest before after
next_fault fault old new held rest before after is =
    ng_each fault _ _ _ _ _ _ (finds old (Some fault) held before) (gave_none old held rest before after) (λ u. u) is

pub opens_ng : (head : List ℕ) (new : Place) (held rest : List ℕ) (before after : Disk) → TakesHead head held rest before after → StandsFor new head [] → new.mark.records ≡ 0 → new.fault ≡ None
    → file.TakesHeader (Ng new) held rest before after
opens_ng head new held rest before after is stands none fault = record {
  taken = head;
  takes = is.takes;
  counted = none;
  fault = ap (λ (f : Option NgFault). option_map fault_of_ng f) fault;
  stands = stands_in new head [] (omega (arith, is.size)) (long_form head (omega (arith, is.size)) ∙ is.begins) stands;
}

-- What reading a pcap capture leaves, as of a capture file.
use Rattle.std.proofs.Common.{◌≡◌, ℕ, suc, ◌+◌, ◌≤◌, Bool, true, false, List, [], ◌∷◌, ◌++◌, length, Option, Some, None, Err, refl, sym, ap, subst, ◌∙◌, append_assoc, arith, inl, inr}
use Rattle.std.specs.Prelude.{if◌then◌else◌, option_map}
use Rattle.std.proofs.lemmas.Bool.{cases_Bool, false_from_ne_true}
use Rattle.std.proofs.lemmas.List.{append-nil, length-append}
use Rattle.rtp_io.specs.Outside.{Disk}
use Rattle.rtp_io.specs.Laws.{takes_none}
use Rattle.pcap_file.specs.declared.fault.CaptureFault.{CaptureFault}
use Rattle.pcap_file.specs.declared.fault.CaptureFault.TheVariants.{Pcapng, TooMany, CutRecord, Length, Fraction}
use Rattle.pcap_file.specs.declared.header.Format.{Format}
use Rattle.pcap_file.specs.declared.record.PcapRecord.{PcapRecord}
use Rattle.pcap_file.specs.Capture as pcap
use Rattle.pcap_file.specs.Capture.{Record, Head, AtEnd, AtFault, AtRecord, head, walk, records_from, record_of, fraction_limit, step_from}
use Rattle.pcap_file.specs.Place.{Place}
use Rattle.pcap_file.specs.Reading.{StandsFor, TakesRecord, Finds, FindsEnd, GaveNoRecord, TakesHeader, GaveNoHeader, AfterOpen, AfterNext, record_view}
use Rattle.capture_file.specs.declared.file.CaptureFile.TheVariants.{Pcap}
use Rattle.capture_file.specs.Faults.{fault_of_pcap}
use Rattle.capture_file.specs.Capture.{Capture, is_ng, empty, capture_of, capture_of_pcap, end_in}
use Rattle.capture_file.specs.Reading as file
use Rattle.capture_file.proofs.FaultLemmas.{pcap_each}
use Rattle.capture_file.proofs.Forms.{pcap_is, form_more, short_form, ng_refused}
use Rattle.capture_file.proofs.Furthest.{ends_within}

-- ---- where a record begins

made_first : (a b c d e f : Bool) (count offset : ℕ) (made r : Record)
    → (if a then AtEnd else if b then AtFault (TooMany offset) else if c then AtFault (CutRecord offset) else if d then AtFault (Length offset) else if e then AtFault (Fraction offset) else if f then AtFault (CutRecord offset) else AtRecord made) ≡ AtRecord r
    → made ≡ r
made_first true b c d e f count offset made r is = absurd cc
made_first false true c d e f count offset made r is = absurd cc
made_first false false true d e f count offset made r is = absurd cc
made_first false false false true e f count offset made r is = absurd cc
made_first false false false false true f count offset made r is = absurd cc
made_first false false false false false true count offset made r is = absurd cc
made_first false false false false false false count offset made r is = cc

head_offset : (format : Format) (count offset : ℕ) (bytes : List ℕ) (r : Record) → head format count offset bytes ≡ AtRecord r → r.offset ≡ offset
unfolding head
head_offset format count offset bytes r is =
    let made = made_first _ _ _ _ _ _ count offset (record_of format offset bytes) r is in
    ap (λ (r : Record). r.offset) (sym made)

step_offset : (format : Format) (count offset : ℕ) (bytes : List ℕ) (behind : ℕ → ℕ → List ℕ → pcap.Capture) (h : Head) (r : Record) (rs : List Record) → head format count offset bytes ≡ h
    → (step_from behind count offset bytes h).records ≡ r ∷ rs → r.offset ≡ offset
step_offset format count offset bytes behind AtEnd r rs at is = absurd cc
step_offset format count offset bytes behind (AtFault fault) r rs at is = absurd cc
step_offset format count offset bytes behind (AtRecord found) r rs at is =
    let same : found ≡ r = cc in
    head_offset format count offset bytes r (at ∙ ap (λ (x : Record). AtRecord x) same)

first_offset : (format : Format) (count offset : ℕ) (bytes : List ℕ) (r : Record) (rs : List Record) → (records_from format count offset bytes).records ≡ r ∷ rs → r.offset ≡ offset
unfolding records_from walk
first_offset format count offset bytes r rs is =
    let k : length bytes + 1 ≡ suc (length bytes) = omega arith in
    let one : (walk format (suc (length bytes)) count offset bytes).records ≡ r ∷ rs = subst (λ (n : ℕ). (walk format n count offset bytes).records ≡ r ∷ rs) k is in
    step_offset format count offset bytes (walk format (length bytes)) (head format count offset bytes) r rs refl one

cancels : (seen xs ys : List Record) → seen ++ xs ≡ seen ++ ys → xs ≡ ys
cancels [] xs ys e = e
cancels (s ∷ seen) xs ys e = cancels seen xs ys (cc)

record_offset : (old new : Place) (r : Record) (held rest : List ℕ) (before after : Disk) → TakesRecord old new r held rest before after → (passed : List ℕ) (seen : List Record) → StandsFor old passed seen → r.offset ≡ old.offset
unfolding StandsFor
record_offset old new r held rest before after is passed seen stands =
    let behind = records_from new.format new.count new.offset [] in
    let both : seen ++ (records_from old.format old.count old.offset is.taken).records ≡ seen ++ (r ∷ behind.records) =
    ap (λ (c : pcap.Capture). c.records) (sym (stands is.taken) ∙ ap (λ (xs : List ℕ). pcap.capture_of xs) (sym (append-nil (passed ++ is.taken))) ∙ is.onward passed seen stands [])
    ∙ append_assoc seen (r ∷ []) behind.records in
    first_offset old.format old.count old.offset is.taken r behind.records (cancels seen _ _ both)

-- ---- the steps

stands_in : (place : Place) (passed : List ℕ) (seen : List Record) → 24 ≤ length passed → is_ng passed ≡ false → length passed ≡ place.offset → StandsFor place passed seen → file.StandsFor (Pcap place) passed seen
unfolding StandsFor
stands_in place passed seen long form placed stands = record {
  header = long;
  form = (form, placed, stands);
  whole = λ more. pcap_is (passed ++ more) (form_more passed more false long form) ∙ ap (λ (c : pcap.Capture). capture_of_pcap c) (stands more);
}

record_end : (bytes : List ℕ) (r : Record) → is_ng bytes ≡ false → end_in bytes r ≡ r.offset + (16 + length r.bytes)
unfolding end_in
record_end bytes r form = rw form refl

takes_record : (old new : Place) (r : Record) (held rest : List ℕ) (before after : Disk) → TakesRecord old new r held rest before after → file.TakesRecord (Pcap old) (Pcap new) r held rest before after
takes_record old new r held rest before after is = record {
  taken = is.taken;
  takes = is.takes;
  counted = is.counted;
  bound = is.bound;
  short = is.short;
  early = is.early;
  onward = onward;
  ends = λ passed seen s more n lt.
      let bytes = (passed ++ is.taken) ++ more in
      let next = onward passed seen s in
      let here = ends_within bytes seen r _ n (next.whole more) lt in
      omega (arith, here, record_end bytes r (form_more (passed ++ is.taken) more false next.header next.form.0), length-append passed is.taken, s.form.1, is.long, record_offset old new r held rest before after is passed seen s.form.2);
}
  where
    onward : (passed : List ℕ) (seen : List Record) → file.StandsFor (Pcap old) passed seen → file.StandsFor (Pcap new) (passed ++ is.taken) (seen ++ r ∷ [])
    onward passed seen s =
        stands_in new (passed ++ is.taken) (seen ++ r ∷ []) (omega (arith, length-append passed is.taken, s.header)) (form_more passed is.taken false s.header s.form.0)
        (omega (arith, length-append passed is.taken, s.form.1, is.placed)) (is.onward passed seen s.form.2)

finds : (old : Place) (fault : Option CaptureFault) (held : List ℕ) (before : Disk) → Finds old fault held before → file.Finds (Pcap old) (option_map fault_of_pcap fault) held before
finds old fault held before is passed seen s told =
    pcap_is (passed ++ (held ++ before.left)) (form_more passed (held ++ before.left) false s.header s.form.0) ∙ ap (λ (c : pcap.Capture). capture_of_pcap c) (is passed seen s.form.2 told)

gave_none : (old : Place) (held rest : List ℕ) (before after : Disk) → GaveNoRecord old held rest before after → file.GaveNoRecord (Pcap old) held rest before after
gave_none old held rest before after is = record {
  taken = is.taken;
  takes = is.takes;
  none = λ passed seen s.
      ap (λ (c : Capture). c.records) (pcap_is (passed ++ (is.taken ++ rest)) (form_more passed (is.taken ++ rest) false s.header s.form.0)) ∙ is.none passed seen s.form.2;
}

pub next_taken : (r : PcapRecord) (link : ℕ) (old new : Place) (held rest : List ℕ) (before after : Disk) → link ≡ old.format.link → TakesRecord old new (record_view old.format.link r) held rest before after
    → file.TakesRecord (Pcap old) (Pcap new) (record_view link r) held rest before after
next_taken r link old new held rest before after same is =
    subst (λ (l : ℕ). file.TakesRecord (Pcap old) (Pcap new) (record_view l r) held rest before after) (sym same) (takes_record old new (record_view old.format.link r) held rest before after is)

pub next_none : (old new : Place) (held rest : List ℕ) (before after : Disk) → FindsEnd old new held rest before after → file.FindsEnd (Pcap old) held rest before after
next_none old new held rest before after is = record {
  taken = [];
  takes = takes_none held rest before after is.keeps;
  none = is.none;
  finds = finds old None held before is.finds;
}

pub next_fault : (fault : CaptureFault) (old new : Place) (held rest : List ℕ) (before after : Disk) → AfterNext (Err fault) old new held rest before after → file.AfterNext (Err (fault_of_pcap fault)) (Pcap old) (Pcap new) held rest before after
next_fault fault old new held rest before after is =
    pcap_each fault _ _ _ _ _ _ (finds old (Some fault) held before) (gave_none old held rest before after) (λ u. u) is

-- ---- the beginning

-- a file with a file header of pcap is no pcapng file
header_form : (new : Place) (held rest : List ℕ) (before after : Disk) (header : TakesHeader new held rest before after) → is_ng header.taken ≡ false
unfolding StandsFor records_from walk head
header_form new held rest before after header = false_from_ne_true (is_ng header.taken) (λ has.
    let bytes = header.taken ++ [] in
    let none : pcap.capture_of bytes ≡ pcap.empty None = header.stands [] in
    let other : pcap.capture_of bytes ≡ pcap.empty (Some Pcapng) = ng_refused bytes (form_more header.taken [] true (omega (arith, header.long)) has) in
    let clash : None ≡ Some Pcapng = ap (λ (c : pcap.Capture). c.fault) (sym none ∙ other) in
    cc)

pub opens_pcap : (new : Place) (held rest : List ℕ) (before after : Disk) → TakesHeader new held rest before after → file.TakesHeader (Pcap new) held rest before after
opens_pcap new held rest before after header = record {
  taken = header.taken;
  takes = header.takes;
  counted = header.counted;
  fault = ap (λ (f : Option CaptureFault). option_map fault_of_pcap f) header.fault;
  stands = stands_in new header.taken [] (omega (arith, header.long)) (header_form new held rest before after header) (sym header.placed) header.stands;
}

refused : (fault : CaptureFault) (bytes : List ℕ) → (fault ≡ Pcapng → ⊥) → pcap.capture_of bytes ≡ pcap.empty (Some fault) → capture_of bytes ≡ empty (Some (fault_of_pcap fault))
refused fault bytes other is =
    elim (cases_Bool (is_ng bytes)) [
      | inl has ↦
          let clash : Some fault ≡ Some Pcapng = ap (λ (c : pcap.Capture). c.fault) (sym is ∙ ng_refused bytes has) in
          absurd (other (cc))
      | inr other_form ↦ pcap_is bytes other_form ∙ ap (λ (c : pcap.Capture). capture_of_pcap c) is
    ]

gave_few : (held rest : List ℕ) (before after : Disk) → GaveNoHeader held rest before after → file.GaveNoHeader held rest before after
gave_few held rest before after is = record {
  keeps = is.keeps;
  short = is.short;
  none = ap (λ (c : Capture). c.records) (pcap_is rest (short_form rest is.short)) ∙ is.none;
}

pub open_fault : (fault : CaptureFault) (held rest : List ℕ) (before after : Disk) → AfterOpen (Err fault) held rest before after × (fault ≡ Pcapng → ⊥) → file.AfterOpen (Err (fault_of_pcap fault)) held rest before after
open_fault fault held rest before after is =
    pcap_each fault _ _ _ _ _ _ (λ found told. refused fault (held ++ before.left) is.1 (found told)) (gave_few held rest before after) (λ u. absurd u) is.0

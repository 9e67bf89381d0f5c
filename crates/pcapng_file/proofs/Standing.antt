-- A place stands for the records that were taken.
use Rattle.std.proofs.Common.{◌≡◌, ℕ, ◌*◌, ◌^◌, ◌≤◌, ◌<◌, List, [], ◌∷◌, ◌++◌, length, Option, Some, None, Result, Ok, Err, sym, ap, ◌∙◌, append_assoc, arith}
use Rattle.std.proofs.lemmas.List.{append-nil, length-append}
use Rattle.std.specs.Prelude.{IfOk, IfSome}
use Rattle.rtp_io.specs.Outside.{Disk}
use Rattle.pcap_file.specs.Capture.{Record}
use Rattle.pcapng_file.specs.declared.fault.NgFault.{NgFault}
use Rattle.pcapng_file.specs.declared.packet.NgRecord.{NgRecord}
use Rattle.pcapng_file.specs.Blocks.{NgCapture, with_front, blocks_from, ng_capture}
use Rattle.pcapng_file.specs.Ends.{record_end}
use Rattle.pcapng_file.specs.Reading.{ng_view, TakesPacket, GaveNoBlock, Ends, AfterSearch, Place, StandsFor, TakesRecord, Finds, GaveNoRecord, AfterNext}
use Rattle.pcapng_file.proofs.FaultLemmas.{on_each}

fronts : (xs ys : List Record) (c : NgCapture) → with_front xs (with_front ys c) ≡ with_front (xs ++ ys) c
fronts xs ys c = ap (λ (rs : List Record). record { records = rs; fault = c.fault }) (sym (append_assoc xs ys c.records))

takes_record : (old new : Place) (r : Record) (held rest : List ℕ) (before after : Disk) → new.head ≡ [] → length r.bytes ≤ 262144 → r.stamp < 2 ^ 32 * 1000000000
    → TakesPacket old.mark new.mark r old.head held rest before after → TakesRecord old new r held rest before after
takes_record old new r held rest before after none short early is = record {
  taken = is.taken;
  takes = is.takes;
  counted = is.counted;
  bound = is.few;
  short = short;
  early = early;
  onward = λ passed seen stands. record {
    blocks = passed ++ is.taken;
    parts = sym (ap (λ (xs : List ℕ). (passed ++ is.taken) ++ xs) none ∙ append-nil (passed ++ is.taken));
    placed = long passed seen stands;
    whole = λ more.
        ap ng_capture (append_assoc passed is.taken more) ∙ stands.whole (is.taken ++ more)
        ∙ ap (λ (c : NgCapture). with_front seen c) (is.stands more ∙ ap (λ (xs : List ℕ). with_front (r ∷ []) (blocks_from new.mark (xs ++ more))) (sym none))
        ∙ fronts seen (r ∷ []) (blocks_from new.mark (new.head ++ more));
  };
  ends = λ passed seen stands more.
      ap (λ (xs : List ℕ). record_end xs r) (parts passed seen stands more) ∙ is.ends stands.blocks more stands.placed ∙ sym (long passed seen stands);
}
  where
    long : (passed : List ℕ) (seen : List Record) (stands : StandsFor old passed seen) → length (passed ++ is.taken) ≡ new.mark.offset
    long passed seen stands = omega (arith, length-append passed is.taken, ap length stands.parts, length-append stands.blocks old.head, stands.placed, is.placed)

    parts : (passed : List ℕ) (seen : List Record) (stands : StandsFor old passed seen) (more : List ℕ) → (passed ++ is.taken) ++ more ≡ stands.blocks ++ (old.head ++ (is.taken ++ more))
    parts passed seen stands more =
        append_assoc passed is.taken more ∙ ap (λ (xs : List ℕ). xs ++ (is.taken ++ more)) stands.parts ∙ append_assoc stands.blocks old.head (is.taken ++ more)

finds : (old : Place) (fault : Option NgFault) (held : List ℕ) (before : Disk) → Ends old.mark fault old.head held before → Finds old fault held before
finds old fault held before is passed seen stands told =
    stands.whole (held ++ before.left) ∙ ap (λ (c : NgCapture). with_front seen c) (is told) ∙ ap (λ (rs : List Record). record { records = rs; fault = fault }) (append-nil seen)

gave_none : (old : Place) (held rest : List ℕ) (before after : Disk) → GaveNoBlock old.mark old.head held rest before after → GaveNoRecord old held rest before after
gave_none old held rest before after is = record {
  taken = is.taken;
  takes = is.takes;
  none = λ passed seen stands.
      ap (λ (c : NgCapture). c.records) (stands.whole (is.taken ++ rest)) ∙ ap (λ (rs : List Record). seen ++ rs) is.none ∙ append-nil seen;
}

pub next_found : (result : Result (Option NgRecord) NgFault) (old new : Place) (held rest : List ℕ) (before after : Disk) → new.head ≡ []
    → IfOk result (λ found. IfSome found (λ r. length r.rec.bytes ≤ 262144)) → IfOk result (λ found. IfSome found (λ r. r.rec.stamp < 2 ^ 32 * 1000000000))
    → AfterSearch result old.mark new.mark old.head held rest before after → AfterNext result old new held rest before after
next_found (Ok (Some r)) old new held rest before after none short early is = takes_record old new (ng_view r) held rest before after none short early is
next_found (Ok None) old new held rest before after none short early is = record { taken = is.taken; takes = is.takes; none = is.none; finds = finds old None held before is.ends }
next_found (Err fault) old new held rest before after none short early is =
    on_each fault _ _ _ _ _ _ (finds old (Some fault) held before) (gave_none old held rest before after) (λ u. u) is

-- Blocks up to the next record.
use Rattle.std.proofs.Common.{◌≡◌, ℕ, List, [], ◌∷◌, ◌++◌, Option, Some, None, Result, Ok, Err, IsTrue, refl, sym, ap, ◌∙◌, subst, append_assoc, arith}
use Rattle.std.proofs.lemmas.List.{length-append}
use Rattle.std.specs.Result.{IsErrAnd}
use Rattle.rtp_io.specs.Outside.{Disk}
use Rattle.rtp_io.specs.Laws.{told_then, takes_then, takes_keeps}
use Rattle.pcap_file.specs.Capture.{Record}
use Rattle.pcapng_file.specs.declared.fault.NgFault.{NgFault}
use Rattle.pcapng_file.specs.declared.packet.NgRecord.{NgRecord}
use Rattle.pcapng_file.specs.Blocks.{Mark, NgCapture, blocks_from}
use Rattle.pcapng_file.specs.Ends.{record_end}
use Rattle.pcapng_file.specs.Reading.{TakesBlock, AtItsEnd, AfterFault, PassesBlocks, TakesPacket, PassesAll, AfterSearch, ng_view}
use Rattle.pcapng_file.proofs.FaultLemmas.{on_each}
use Rattle.pcapng_file.proofs.Parts.{takes_here}
use Rattle.pcapng_file.proofs.Borders.{block_ends, block_behind}
use Rattle.pcapng_file.proofs.Heads.{blocks_end, blocks_fault, blocks_behind}

pub passes_none : (mark : Mark) (held : List ℕ) (a : Disk) → PassesBlocks mark mark [] held held a a
passes_none mark held a = record {
  taken = [];
  takes = takes_here held a;
  counted = refl;
  placed = omega arith;
  stands = λ more. refl;
}

-- one more block without a record
pub passes_more : (old mid new : Mark) (x y z : List ℕ) (a b c : Disk) → PassesBlocks old mid [] x y a b → TakesBlock mid new [] [] y z b c → PassesBlocks old new [] x z a c
passes_more old mid new x y z a b c passed block =
    let behind = block_behind mid new [] [] y z b c block in
    record {
      taken = passed.taken ++ block.taken;
      takes = takes_then passed.taken block.taken x y z a b c passed.takes block.takes;
      counted = omega (arith, behind.counted, passed.counted);
      placed = omega (arith, behind.placed, passed.placed, block.long, length-append passed.taken block.taken);
      stands = λ more.
          ap (λ (xs : List ℕ). blocks_from old xs) (append_assoc passed.taken block.taken more) ∙ passed.stands (block.taken ++ more)
          ∙ blocks_behind mid new [] block.taken more block.total [] block.long (block.stands more);
    }

pub passes_all : (old mid new : Mark) (x y z : List ℕ) (a b c : Disk) → PassesBlocks old mid [] x y a b → AtItsEnd mid new y z b c → PassesAll old [] x z a c
passes_all old mid new x y z a b c passed end = record {
  taken = passed.taken;
  takes = takes_keeps passed.taken x y z a b c passed.takes end.keeps;
  none = end.none;
  ends = λ t.
      ap (λ (xs : List ℕ). blocks_from old xs) (passed.takes.coming t) ∙ passed.stands (y ++ b.left)
      ∙ blocks_end mid (y ++ b.left) (end.at (told_then a b passed.takes.same t));
}

-- bytes in four pieces
regrouped : (blocks front p q more : List ℕ) → blocks ++ (front ++ ((p ++ q) ++ more)) ≡ (blocks ++ (front ++ p)) ++ (q ++ more)
regrouped blocks front p q more = simp append_assoc refl

pub passes_packet : (old mid new : Mark) (r : Record) (x y z : List ℕ) (a b c : Disk) → PassesBlocks old mid [] x y a b → TakesBlock mid new (r ∷ []) [] y z b c → TakesPacket old new r [] x z a c
passes_packet old mid new r x y z a b c passed block =
    let behind = block_behind mid new (r ∷ []) [] y z b c block in
    record {
      taken = passed.taken ++ block.taken;
      takes = takes_then passed.taken block.taken x y z a b c passed.takes block.takes;
      counted = omega (arith, behind.counted, passed.counted);
      few = behind.few;
      placed = omega (arith, behind.placed, passed.placed, block.long, length-append passed.taken block.taken);
      ends = λ blocks more here.
          ap (λ (xs : List ℕ). record_end xs r) (regrouped blocks [] passed.taken block.taken more)
          ∙ block_ends mid new r [] y z b c block (blocks ++ passed.taken) more (omega (arith, length-append blocks passed.taken, passed.placed, here));
      stands = λ more.
          ap (λ (xs : List ℕ). blocks_from old xs) (append_assoc passed.taken block.taken more) ∙ passed.stands (block.taken ++ more)
          ∙ blocks_behind mid new [] block.taken more block.total (r ∷ []) block.long (block.stands more);
    }

pub passes_fault : (old mid new : Mark) (fault : NgFault) (x y z : List ℕ) (a b c : Disk) → PassesBlocks old mid [] x y a b → AfterFault fault mid [] y z b c → AfterSearch (Err fault) old new [] x z a c
passes_fault old mid new fault x y z a b c passed after =
    on_each fault _ _ _ _ _ _
    (λ bad t.
    ap (λ (xs : List ℕ). blocks_from old xs) (passed.takes.coming t) ∙ passed.stands (y ++ b.left) ∙ blocks_fault mid (y ++ b.left) fault (bad (told_then a b passed.takes.same t)))
    (λ gave. record {
      taken = passed.taken ++ gave.taken;
      takes = takes_then passed.taken gave.taken x y z a b c passed.takes gave.takes;
      none = ap (λ (xs : List ℕ). (blocks_from old xs).records) (append_assoc passed.taken gave.taken z) ∙ ap (λ (c : NgCapture). c.records) (passed.stands (gave.taken ++ z)) ∙ gave.none;
    })
    (λ u. u) after

-- ---- the first block, of whose front these bytes were taken before

pub first_packet : (old new : Mark) (r : Record) (front x y : List ℕ) (a b : Disk) → TakesBlock old new (r ∷ []) front x y a b → TakesPacket old new r front x y a b
first_packet old new r front x y a b block =
    let behind = block_behind old new (r ∷ []) front x y a b block in
    record {
      taken = block.taken;
      takes = block.takes;
      counted = behind.counted;
      few = behind.few;
      placed = omega (arith, behind.placed, block.long);
      ends = block_ends old new r front x y a b block;
      stands = λ more. blocks_behind old new front block.taken more block.total (r ∷ []) block.long (block.stands more);
    }

pub first_fault : (old new : Mark) (fault : NgFault) (front x y : List ℕ) (a b : Disk) → AfterFault fault old front x y a b → AfterSearch (Err fault) old new front x y a b
first_fault old new fault front x y a b after =
    on_each fault _ _ _ _ _ _ (λ bad t. blocks_fault old (front ++ (x ++ a.left)) fault (bad t)) (λ gave. gave) (λ u. u) after

-- whatever comes behind the first block
front_stands : (old mid : Mark) (front x y : List ℕ) (a b : Disk) (block : TakesBlock old mid [] front x y a b) (more : List ℕ) → blocks_from old (front ++ (block.taken ++ more)) ≡ blocks_from mid more
front_stands old mid front x y a b block more = blocks_behind old mid front block.taken more block.total [] block.long (block.stands more)

front_coming : (old mid : Mark) (front x y : List ℕ) (a b : Disk) (block : TakesBlock old mid [] front x y a b) → IsTrue a.told → blocks_from old (front ++ (x ++ a.left)) ≡ blocks_from mid (y ++ b.left)
front_coming old mid front x y a b block t = ap (λ (xs : List ℕ). blocks_from old (front ++ xs)) (block.takes.coming t) ∙ front_stands old mid front x y a b block (y ++ b.left)

pub first_passed : (result : Result (Option NgRecord) NgFault) (old mid new : Mark) (front x y z : List ℕ) (a b c : Disk) → TakesBlock old mid [] front x y a b → AfterSearch result mid new [] y z b c → AfterSearch result old new front x z a c
first_passed (Ok (Some r)) old mid new front x y z a b c block after =
    let behind = block_behind old mid [] front x y a b block in
    record {
      taken = block.taken ++ after.taken;
      takes = takes_then block.taken after.taken x y z a b c block.takes after.takes;
      counted = omega (arith, behind.counted, after.counted);
      few = after.few;
      placed = omega (arith, behind.placed, after.placed, block.long, length-append block.taken after.taken);
      ends = λ blocks more here.
          ap (λ (xs : List ℕ). record_end xs (ng_view r)) (regrouped blocks front block.taken after.taken more)
          ∙ after.ends (blocks ++ (front ++ block.taken)) more (omega (arith, length-append blocks (front ++ block.taken), length-append front block.taken, behind.placed, block.long, here));
      stands = λ more.
          ap (λ (xs : List ℕ). blocks_from old (front ++ xs)) (append_assoc block.taken after.taken more) ∙ front_stands old mid front x y a b block (after.taken ++ more) ∙ after.stands more;
    }
first_passed (Ok None) old mid new front x y z a b c block after = record {
  taken = block.taken ++ after.taken;
  takes = takes_then block.taken after.taken x y z a b c block.takes after.takes;
  none = after.none;
  ends = λ t. front_coming old mid front x y a b block t ∙ after.ends (told_then a b block.takes.same t);
}
first_passed (Err fault) old mid new front x y z a b c block after =
    on_each fault _ _ _ _ _ _
    (λ bad t. front_coming old mid front x y a b block t ∙ bad (told_then a b block.takes.same t))
    (λ gave. record {
      taken = block.taken ++ gave.taken;
      takes = takes_then block.taken gave.taken x y z a b c block.takes gave.takes;
      none = ap (λ (xs : List ℕ). (blocks_from old (front ++ xs)).records) (append_assoc block.taken gave.taken z) ∙ ap (λ (c : NgCapture). c.records) (front_stands old mid front x y a b block (gave.taken ++ z)) ∙ gave.none;
    })
    (λ u. u) after

-- what the exit of a `?` returns
pub search_exit : (result : Result (Option NgRecord) NgFault) (fault : NgFault) (old new : Mark) (front held rest : List ℕ) (a b : Disk) → IsErrAnd result (λ e. e ≡ fault) → AfterSearch (Err fault) old new front held rest a b → AfterSearch result old new front held rest a b
search_exit (Ok found) fault old new front held rest a b is after = absurd is
search_exit (Err e) fault old new front held rest a b is after = subst (λ (f : NgFault). AfterSearch (Err f) old new front held rest a b) (sym is) after
